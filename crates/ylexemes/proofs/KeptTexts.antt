-- The byte by byte reading of a kept text finds the brace that closes it.
use Rattle.std.proofs.Common.{ℕ, zero, suc, ◌≡◌, ◌≢◌, ◌≤◌, ◌+◌, ◌-◌, Bool, true, false, cond, ◌&&◌}
use Rattle.std.proofs.Common.{◌||◌, ◌⊎◌, inl, inr, eqb, List, [], ◌∷◌, ◌++◌, length, Some, refl}
use Rattle.std.proofs.Common.{sym, ap, ◌∙◌, subst, arith, append_assoc, length-append}
use Rattle.std.proofs.lemmas.Bool.{eq-eqb, eqb-true, eqb-false, ne_eqb, and_parts, or_cases}
use Rattle.std.proofs.lemmas.Bool.{or_parts, or_from, and_from, cond-true, cond-false}
use Rattle.ylexemes.specs.declared.kept.Mode.{Mode}
use Rattle.ylexemes.specs.declared.kept.Mode.TheVariants.{Outside, Quoted, Escaped, Opening}
use Rattle.ylexemes.specs.declared.kept.Mode.TheVariants.{Commented, Closing, Lined}
use Rattle.ylexemes.specs.Bytes.{all_pass, begins, has_pair}
use Rattle.ylexemes.specs.Lexemes.{IsInside, IsQuoted, IsKept, IsBraced}
use Rattle.ylexemes.specs.Kept.{outside_mode, next_mode, close, closes}
use Rattle.ylexemes.proofs.Runs.{begins_append}

abbrev opens : ℕ → Bool
opens b = eqb b 42 || eqb b 47

abbrev no_newline : ℕ → Bool
no_newline b = cond (eqb b 10) false true

-- ---- a kept text is read to its end

-- a byte outside that is no brace
outside_goes : (d b : ℕ) (bs : List ℕ) → b ≢ 125 → b ≢ 123 → closes Outside d (b ∷ bs) ≡ closes
    (outside_mode b bs) d bs
outside_goes d b bs no_close no_open = rw (ne_eqb b 125 no_close, ne_eqb b 123 no_open) refl

plain_goes : (d b : ℕ) (bs : List ℕ) → b ≢ 123 → b ≢ 125 → b ≢ 34 → b ≢ 39 → b ≢ 47 →
    closes Outside d (b ∷ bs) ≡ closes Outside d bs
plain_goes d b bs n1 n2 n3 n4 n5 = outside_goes d b bs n2 n1 ∙ rw (
  ne_eqb b 34 n3,
  ne_eqb b 39 n4,
  ne_eqb b 47 n5,
) refl

slash_goes : (d : ℕ) (bs : List ℕ) → begins opens bs ≡ false → closes Outside d (47 ∷ bs) ≡ closes
    Outside d bs
slash_goes d [] h = refl
slash_goes d (b ∷ bs) h =
    let p = or_parts (eqb b 42) (eqb b 47) h in
    ap (λ m. closes m d (b ∷ bs)) (cond-false (eqb b 42) Opening (cond (eqb b 47) Lined Outside) p.0
    ∙ cond-false (eqb b 47) Lined Outside p.1)

close_goes : (d : ℕ) (bs : List ℕ) → closes Outside (suc d) (125 ∷ bs) ≡ closes Outside d bs
close_goes d bs = ap (λ n. closes Outside n bs) (let e : suc d - 1 ≡ d = omega arith in e)

quote_goes : (q d : ℕ) (bs : List ℕ) → (q ≡ 34) ⊎ (q ≡ 39) → closes Outside d (q ∷ bs) ≡ closes
    (Quoted q) d bs
quote_goes q d bs (inl e) = rw e refl
quote_goes q d bs (inr e) = rw e refl

inside_runs : (q d : ℕ) (s v : List ℕ) → q ≢ 92 → IsInside q s → closes (Quoted q) d (s ++ q ∷ v) ≡
    closes Outside d v
inside_runs q d _ v n IsInside.nothing = rw (eq-eqb q q refl) refl
inside_runs q d _ v n (IsInside.byte {b = b} {text = text} no_quote no_slash p) =
    rw (ne_eqb b q no_quote, ne_eqb b 92 no_slash) (inside_runs q d text v n p)
inside_runs q d _ v n (IsInside.taken {b = b} {text = text} p) = let m : 92 ≡ q → ⊥ =
    λ e. n (sym e) in rw (ne_eqb 92 q m) (inside_runs q d text v n p)

comment_runs : (d : ℕ) (s v : List ℕ) → has_pair 42 47 (s ++ 42 ∷ []) ≡ false → closes Commented d
    (s ++ 42 ∷ 47 ∷ v) ≡ closes Outside d v
comment_runs d [] v h = refl
comment_runs d (b ∷ s) v h =
    let p = or_parts (eqb b 42 && begins (λ y. eqb y 47) (s ++ 42 ∷ []))
    (has_pair 42 47 (s ++ 42 ∷ [])) h in
    let t : (eqb b 42 && begins (λ y. eqb y 47) (s ++ 42 ∷ 47 ∷ v)) ≡ false =
    ap (λ z. eqb b 42 && z) (sym (begins_append (λ y. eqb y 47) 42 s (47 ∷ v))) ∙ p.0 in
    ap (λ m. closes m d (s ++ 42 ∷ 47 ∷ v)) (cond-false _ Closing Commented t) ∙ comment_runs d s v
    p.1

line_runs : (d : ℕ) (s v : List ℕ) → all_pass no_newline s ≡ true → closes Lined d (s ++ 10 ∷ v) ≡
    closes Outside d v
line_runs d [] v h = refl
line_runs d (b ∷ s) v h =
    let p = and_parts (no_newline b) (all_pass no_newline s) h in
    ap (λ m. closes m d (s ++ 10 ∷ v)) (stays (eqb b 10) p.0) ∙ line_runs d s v p.1
  where
    stays : (t : Bool) → cond t false true ≡ true → cond t Outside Lined ≡ Lined
    stays true e = cc
    stays false e = refl

begins_text : (p : ℕ → Bool) (t u : List ℕ) → begins p t ≡ false → begins p u ≡ false →
    begins p (t ++ u) ≡ false
begins_text p [] u h k = k
begins_text p (b ∷ t) u h k = h

quoted_runs : (q d : ℕ) (quoted v : List ℕ) → (q ≡ 34) ⊎ (q ≡ 39) → IsQuoted q quoted →
    closes Outside d (quoted ++ v) ≡ closes Outside d v
quoted_runs q d quoted v which h =
    ap (λ z. closes Outside d (z ++ v)) h.whole ∙ quote_goes q d ((h.inside ++ q ∷ []) ++ v) which
    ∙ ap (closes (Quoted q) d) (append_assoc h.inside (q ∷ []) v) ∙ inside_runs q d h.inside v
    (apart which) h.kept
  where
    apart : (q ≡ 34) ⊎ (q ≡ 39) → q ≢ 92
    apart (inl e) = λ f. omega (arith, e, f)
    apart (inr e) = λ f. omega (arith, e, f)

kept_runs : (d : ℕ) (t u : List ℕ) → IsKept t → begins opens u ≡ false → closes Outside d
    (t ++ u) ≡ closes Outside d u
kept_runs d _ u IsKept.nothing h = refl
kept_runs d _ u (IsKept.byte {b = b} {text = text} n1 n2 n3 n4 n5 p) h = plain_goes d b
    (text ++ u) n1 n2 n3 n4 n5 ∙ kept_runs d text u p h
kept_runs d _ u (IsKept.slash {text = text} s p) h = slash_goes d (text ++ u)
    (begins_text opens text u s h) ∙ kept_runs d text u p h
kept_runs d _ u (IsKept.braces {inside = i} {text = text} p q) h =
    ap (closes Outside (suc d)) (append_assoc i (125 ∷ text) u) ∙ kept_runs (suc d) i
    (125 ∷ (text ++ u)) p refl ∙ close_goes d (text ++ u) ∙ kept_runs d text u q h
kept_runs d _ u (IsKept.string {quoted = z} {text = text} c p) h =
    ap (closes Outside d) (append_assoc z text u) ∙ quoted_runs 34 d z (text ++ u) (inl refl) c ∙
    kept_runs d text u p h
kept_runs d _ u (IsKept.character {quoted = z} {text = text} c p) h =
    ap (closes Outside d) (append_assoc z text u) ∙ quoted_runs 39 d z (text ++ u) (inr refl) c ∙
    kept_runs d text u p h
kept_runs d _ u (IsKept.comment {skipped = z} {text = text} c p) h =
    ap (closes Outside d) (append_assoc z text u ∙ ap (λ y. y ++ (text ++ u)) c.whole)
    ∙ ap (closes Commented d) (append_assoc c.inside (42 ∷ 47 ∷ []) (text ++ u)) ∙ comment_runs d
    c.inside (text ++ u) c.first ∙ kept_runs d text u p h
kept_runs d _ u (IsKept.line {skipped = z} {text = text} c p) h =
    ap (closes Outside d) (append_assoc z text u ∙ ap (λ y. y ++ (text ++ u)) c.whole)
    ∙ ap (closes Lined d) (append_assoc c.inside (10 ∷ []) (text ++ u)) ∙ line_runs d c.inside
    (text ++ u) c.each ∙ kept_runs d text u p h

-- ---- what is read is a kept text

-- depth more braces are open: a kept text up to each
abbrev Ends : ℕ → List ℕ → List ℕ → Type 0
Ends zero bytes rest = (t : List ℕ) × (bytes ≡ t ++ 125 ∷ rest) × IsKept t
Ends (suc d) bytes rest = (t : List ℕ) × (v : List ℕ) × (bytes ≡ t ++ 125 ∷ v) × IsKept t ×
    Ends d v rest

with_front : (p : List ℕ) → ((t : List ℕ) → IsKept t → IsKept (p ++ t)) →
    (d : ℕ) (bytes rest : List ℕ) → Ends d bytes rest → Ends d (p ++ bytes) rest
with_front p f zero bytes rest (t, e, k) =
    (p ++ t, ap (λ z. p ++ z) e ∙ sym (append_assoc p t (125 ∷ rest)), f t k)
with_front p f (suc d) bytes rest (t, v, e, k, m) =
    (p ++ t, v, ap (λ z. p ++ z) e ∙ sym (append_assoc p t (125 ∷ v)), f t k, m)

begins_of : (p : ℕ → Bool) (t : List ℕ) (b : ℕ) (u bytes : List ℕ) → bytes ≡ t ++ b ∷ u →
    begins p bytes ≡ false → begins p t ≡ false
begins_of p [] b u bytes e h = refl
begins_of p (a ∷ t) b u bytes e h = sym (ap (begins p) e) ∙ h

with_slash : (d : ℕ) (bytes rest : List ℕ) → begins opens bytes ≡ false → Ends d bytes rest →
    Ends d (47 ∷ bytes) rest
with_slash zero bytes rest h (t, e, k) =
    (47 ∷ t, ap (λ z. 47 ∷ z) e, IsKept.slash (begins_of opens t 125 rest bytes e h) k)
with_slash (suc d) bytes rest h (t, v, e, k, m) =
    (47 ∷ t, v, ap (λ z. 47 ∷ z) e, IsKept.slash (begins_of opens t 125 v bytes e h) k, m)

with_braces : (d : ℕ) (bytes rest : List ℕ) → Ends (suc d) bytes rest → Ends d (123 ∷ bytes) rest
with_braces zero bytes rest (t, v, e, k, (u, f, l)) = (
  123 ∷ t ++ 125 ∷ u,
  ap (λ z. 123 ∷ z) (e ∙ ap (λ z. t ++ 125 ∷ z) f ∙ sym
      (append_assoc t (125 ∷ u) (125 ∷ rest))),
  IsKept.braces k l,
)
with_braces (suc d) bytes rest (t, v, e, k, (u, w, f, l, m)) = (
  123 ∷ t ++ 125 ∷ u,
  w,
  ap (λ z. 123 ∷ z) (e ∙ ap (λ z. t ++ 125 ∷ z) f ∙ sym
      (append_assoc t (125 ∷ u) (125 ∷ w))),
  IsKept.braces k l,
  m,
)

-- what the rest of the piece is in each mode, and what follows it
abbrev Holds : Mode → ℕ → List ℕ → List ℕ → Type 0
Holds Outside d bytes rest = Ends d bytes rest
Holds (Quoted q) d bytes rest = (s : List ℕ) × (v : List ℕ) × (bytes ≡ s ++ q ∷ v) × IsInside q s ×
    Ends d v rest
Holds (Escaped q) d bytes rest = (b : ℕ) × (s : List ℕ) × (v : List ℕ) ×
    (bytes ≡ b ∷ (s ++ q ∷ v)) × IsInside q s × Ends d v rest
Holds Opening d bytes rest = (b : ℕ) × (s : List ℕ) × (v : List ℕ) ×
    (bytes ≡ b ∷ (s ++ 42 ∷ 47 ∷ v)) × (has_pair 42 47 (s ++ 42 ∷ []) ≡ false) × Ends d v rest
Holds Commented d bytes rest = (s : List ℕ) × (v : List ℕ) × (bytes ≡ s ++ 42 ∷ 47 ∷ v) ×
    (has_pair 42 47 (s ++ 42 ∷ []) ≡ false) × Ends d v rest
Holds Closing d bytes rest = (b : ℕ) × (v : List ℕ) × (bytes ≡ b ∷ v) × Ends d v rest
Holds Lined d bytes rest = (s : List ℕ) × (v : List ℕ) × (bytes ≡ s ++ 10 ∷ v) ×
    (all_pass no_newline s ≡ true) × Ends d v rest

by_cases : {P : Type 0} (t : Bool) → (t ≡ true → P) → (t ≡ false → P) → P
by_cases true f g = f refl
by_cases false f g = g refl

-- after a closing brace
closed : (d : ℕ) (bs rest : List ℕ) → close d bs (closes Outside (d - 1) bs) ≡ Some rest →
    ((e : ℕ) → d ≡ suc e → closes Outside e bs ≡ Some rest → Ends e bs rest) →
    Ends d (125 ∷ bs) rest
closed zero bs rest e f = let z : bs ≡ rest = cc in ([], ap (λ y. 125 ∷ y) z, IsKept.nothing)
closed (suc d) bs rest e f = (
  [],
  bs,
  refl,
  IsKept.nothing,
  f d refl (ap (λ n. closes Outside n bs) (let z : d ≡ suc d - 1 = omega arith in z) ∙ e),
)

quoted_ends : (b d : ℕ) (bs rest : List ℕ) → (b ≡ 34) ⊎ (b ≡ 39) → Holds (Quoted b) d bs rest →
    Ends d (b ∷ bs) rest
quoted_ends b d bs rest which (s, v, e, i, m) =
    subst (λ z. Ends d z rest) (ap (λ z. b ∷ z) (append_assoc s (b ∷ []) v ∙ sym e))
    (with_front (b ∷ s ++ b ∷ []) (made which) d v rest m)
  where
    made : (b ≡ 34) ⊎ (b ≡ 39) → (t : List ℕ) → IsKept t → IsKept ((b ∷ s ++ b ∷ []) ++ t)
    made (inl h) t k = IsKept.string (record {
      inside = s;
      whole = ap (λ q. q ∷ s ++ q ∷ []) h;
      kept = subst (λ q. IsInside q s) h i;
    }) k
    made (inr h) t k = IsKept.character (record {
      inside = s;
      whole = ap (λ q. q ∷ s ++ q ∷ []) h;
      kept = subst (λ q. IsInside q s) h i;
    }) k

comment_ends : (d : ℕ) (bs rest : List ℕ) → begins (λ y. eqb y 42) bs ≡ true →
    Holds Opening d bs rest → Ends d (47 ∷ bs) rest
comment_ends d bs rest h (c, s, v, e, f, m) =
    let k : c ≡ 42 = eqb-true c 42 (sym (ap (begins (λ y. eqb y 42)) e) ∙ h) in
    let whole : (47 ∷ 42 ∷ s ++ 42 ∷ 47 ∷ []) ++ v ≡ 47 ∷ bs = ap (λ z. 47 ∷ 42 ∷ z)
    (append_assoc s (42 ∷ 47 ∷ []) v) ∙ ap (λ z. 47 ∷ z ∷ (s ++ 42 ∷ 47 ∷ v)) (sym k) ∙ ap
    (λ z. 47 ∷ z) (sym e) in
    subst (λ z. Ends d z rest) whole (with_front (47 ∷ 42 ∷ s ++ 42 ∷ 47 ∷ [])
    (λ t p. IsKept.comment (record { inside = s; whole = refl; first = f }) p) d v rest m)

line_ends : (d : ℕ) (bs rest : List ℕ) → begins (λ y. eqb y 47) bs ≡ true → Holds Lined d bs rest →
    Ends d (47 ∷ bs) rest
line_ends d bs rest h ([], v, e, a, m) =
    absurd (eqb-false 10 47 refl (eqb-true 10 47 (sym (ap (begins (λ y. eqb y 47)) e) ∙ h)))
line_ends d bs rest h (c ∷ s, v, e, a, m) =
    let k : c ≡ 47 = eqb-true c 47 (sym (ap (begins (λ y. eqb y 47)) e) ∙ h) in
    let each : all_pass no_newline s ≡ true =
    (and_parts (no_newline c) (all_pass no_newline s) a).1 in
    let whole : (47 ∷ 47 ∷ s ++ 10 ∷ []) ++ v ≡ 47 ∷ bs = ap (λ z. 47 ∷ 47 ∷ z)
    (append_assoc s (10 ∷ []) v) ∙ ap (λ z. 47 ∷ z ∷ (s ++ 10 ∷ v)) (sym k) ∙ ap
    (λ z. 47 ∷ z) (sym e) in
    subst (λ z. Ends d z rest) whole (with_front (47 ∷ 47 ∷ s ++ 10 ∷ [])
    (λ t p. IsKept.line (record { inside = s; whole = refl; each = each }) p) d v rest m)

no_opens : (bs : List ℕ) → begins (λ y. eqb y 42) bs ≡ false → begins (λ y. eqb y 47) bs ≡ false →
    begins opens bs ≡ false
no_opens [] h k = refl
no_opens (b ∷ bs) h k = or_from (eqb b 42) (eqb b 47) h k

abbrev slashes : ℕ → List ℕ → Mode
slashes b bs = cond (eqb b 47 && begins (λ y. eqb y 47) bs) Lined Outside

abbrev others : ℕ → List ℕ → Mode
others b bs = cond (eqb b 47 && begins (λ y. eqb y 42) bs) Opening (slashes b bs)

-- a byte outside that is no brace
outside_ends : (b d : ℕ) (bs rest : List ℕ) → b ≢ 125 → b ≢ 123 → Holds (outside_mode b bs) d bs
    rest → Ends d (b ∷ bs) rest
outside_ends b d bs rest n1 n2 h =
    by_cases (eqb b 34 || eqb b 39)
    (λ t. quoted_ends b d bs rest (which (or_cases (eqb b 34) (eqb b 39) t))
    (subst (λ m. Holds m d bs rest) (cond-true _ (Quoted b) (others b bs) t) h))
    (λ t. let h1 = subst (λ m. Holds m d bs rest) (cond-false _ (Quoted b) (others b bs) t) h in
    by_cases (eqb b 47 && begins (λ y. eqb y 42) bs)
    (λ u. let p = and_parts (eqb b 47) (begins (λ y. eqb y 42) bs) u in
    subst (λ z. Ends d (z ∷ bs) rest) (sym (eqb-true b 47 p.0))
    (comment_ends d bs rest p.1
    (subst (λ m. Holds m d bs rest) (cond-true _ Opening (slashes b bs) u) h1)))
    (λ u. let h2 = subst (λ m. Holds m d bs rest) (cond-false _ Opening (slashes b bs) u) h1 in
    by_cases (eqb b 47 && begins (λ y. eqb y 47) bs)
    (λ w. let p = and_parts (eqb b 47) (begins (λ y. eqb y 47) bs) w in
    subst (λ z. Ends d (z ∷ bs) rest) (sym (eqb-true b 47 p.0))
    (line_ends d bs rest p.1 (subst (λ m. Holds m d bs rest) (cond-true _ Lined Outside w) h2)))
    (λ w. let p = or_parts (eqb b 34) (eqb b 39) t in
    last p.0 p.1 u w (subst (λ m. Holds m d bs rest) (cond-false _ Lined Outside w) h2))))
  where
    which : (eqb b 34 ≡ true) ⊎ (eqb b 39 ≡ true) → (b ≡ 34) ⊎ (b ≡ 39)
    which (inl t) = inl (eqb-true b 34 t)
    which (inr t) = inr (eqb-true b 39 t)

    last : eqb b 34 ≡ false → eqb b 39 ≡ false → (eqb b 47 && begins (λ y. eqb y 42) bs) ≡ false →
        (eqb b 47 && begins (λ y. eqb y 47) bs) ≡ false → Ends d bs rest → Ends d (b ∷ bs) rest
    last n3 n4 u w e =
        by_cases (eqb b 47)
        (λ s. subst (λ z. Ends d (z ∷ bs) rest) (sym (eqb-true b 47 s))
        (with_slash d bs rest (no_opens bs (sym (ap (λ z. z && begins (λ y. eqb y 42) bs) s) ∙
        u) (sym (ap (λ z. z && begins (λ y. eqb y 47) bs) s) ∙ w)) e))
        (λ s. with_front (b ∷ []) (λ t k. IsKept.byte n2 n1 (eqb-false b 34 n3) (eqb-false b 39 n4)
        (eqb-false b 47 s) k) d bs rest e)

quoted_more : (q b d : ℕ) (bs rest : List ℕ) → Holds (next_mode (Quoted q) b bs) d bs rest →
    Holds (Quoted q) d (b ∷ bs) rest
quoted_more q b d bs rest h =
    by_cases (eqb b q)
    (λ t. (
      [],
      bs,
      ap (λ z. z ∷ bs) (eqb-true b q t),
      IsInside.nothing,
      subst (λ m. Holds m d bs rest) (cond-true _ Outside _ t) h,
    ))
    (λ t. let h1 = subst (λ m. Holds m d bs rest)
    (cond-false _ Outside (cond (eqb b 92) (Escaped q) (Quoted q)) t) h in
    by_cases (eqb b 92)
    (λ u. let (c, s, v, e, i, m) = subst (λ m. Holds m d bs rest)
    (cond-true _ (Escaped q) (Quoted q) u) h1 in
    (92 ∷ c ∷ s, v, ap (λ z. z ∷ bs) (eqb-true b 92 u) ∙ ap (λ z. 92 ∷ z) e, IsInside.taken i, m))
    (λ u. let (s, v, e, i, m) = subst (λ m. Holds m d bs rest)
    (cond-false _ (Escaped q) (Quoted q) u) h1 in
    (b ∷ s, v, ap (λ z. b ∷ z) e, IsInside.byte (eqb-false b q t) (eqb-false b 92 u) i, m)))

commented_more : (b d : ℕ) (bs rest : List ℕ) → Holds (next_mode Commented b bs) d bs rest →
    Holds Commented d (b ∷ bs) rest
commented_more b d bs rest h =
    by_cases (eqb b 42 && begins (λ y. eqb y 47) bs)
    (λ t. let p = and_parts (eqb b 42) (begins (λ y. eqb y 47) bs) t in
    let (c, v, e, m) = subst (λ m. Holds m d bs rest) (cond-true _ Closing Commented t) h in
    let k : c ≡ 47 = eqb-true c 47 (sym (ap (begins (λ y. eqb y 47)) e) ∙ p.1) in (
      [],
      v,
      ap (λ z. z ∷ bs) (eqb-true b 42 p.0) ∙ ap (λ z. 42 ∷ z) e ∙ ap (λ z. 42 ∷ z ∷ v) k,
      refl,
      m,
    ))
    (λ t. let (s, v, e, f, m) = subst (λ m. Holds m d bs rest) (cond-false _ Closing Commented t)
    h in
    let w : (eqb b 42 && begins (λ y. eqb y 47) (s ++ 42 ∷ [])) ≡ false = ap (λ z. eqb b 42 && z)
    (begins_append (λ y. eqb y 47) 42 s (47 ∷ v) ∙ ap (begins (λ y. eqb y 47)) (sym e)) ∙
    t in (
      b ∷ s,
      v,
      ap (λ z. b ∷ z) e,
      or_from (eqb b 42 && begins (λ y. eqb y 47) (s ++ 42 ∷ []))
          (has_pair 42 47 (s ++ 42 ∷ [])) w f,
      m,
    ))

lined_more : (b d : ℕ) (bs rest : List ℕ) → Holds (next_mode Lined b bs) d bs rest →
    Holds Lined d (b ∷ bs) rest
lined_more b d bs rest h =
    by_cases (eqb b 10)
    (λ t. (
      [],
      bs,
      ap (λ z. z ∷ bs) (eqb-true b 10 t),
      refl,
      subst (λ m. Holds m d bs rest)
          (cond-true _ Outside Lined t) h,
    ))
    (λ t. let (s, v, e, a, m) = subst (λ m. Holds m d bs rest) (cond-false _ Outside Lined t) h in (
      b ∷ s,
      v,
      ap (λ z. b ∷ z) e,
      and_from (no_newline b) (all_pass no_newline s)
          (cond-false (eqb b 10) false true t) a,
      m,
    ))

ends : (m : Mode) (d : ℕ) (bytes rest : List ℕ) → closes m d bytes ≡ Some rest →
    Holds m d bytes rest
ends Outside d [] rest e = cc
ends (Quoted q) d [] rest e = cc
ends (Escaped q) d [] rest e = cc
ends Opening d [] rest e = cc
ends Commented d [] rest e = cc
ends Closing d [] rest e = cc
ends Lined d [] rest e = cc
ends Outside d (b ∷ bs) rest e =
    by_cases (eqb b 125)
    (λ t. subst (λ z. Ends d (z ∷ bs) rest) (sym (eqb-true b 125 t))
    (closed d bs rest (sym (cond-true _ (close d bs (closes Outside (d - 1) bs)) _ t) ∙ e)
    (λ n i f. ends Outside n bs rest f)))
    (λ t. let e1 = sym (cond-false _ (close d bs (closes Outside (d - 1) bs))
    (cond (eqb b 123) (closes Outside (suc d) bs) (closes (outside_mode b bs) d bs)) t) ∙ e in
    by_cases (eqb b 123)
    (λ u. subst (λ z. Ends d (z ∷ bs) rest) (sym (eqb-true b 123 u))
    (with_braces d bs rest (ends Outside (suc d) bs rest
    (sym (cond-true _ (closes Outside (suc d) bs) (closes (outside_mode b bs) d bs) u) ∙ e1))))
    (λ u. outside_ends b d bs rest (eqb-false b 125 t) (eqb-false b 123 u)
    (ends (outside_mode b bs) d bs rest
    (sym (cond-false _ (closes Outside (suc d) bs) (closes (outside_mode b bs) d bs) u) ∙ e1))))
ends (Quoted q) d (b ∷ bs) rest e = quoted_more q b d bs rest
    (ends (next_mode (Quoted q) b bs) d bs rest e)
ends (Escaped q) d (b ∷ bs) rest e = let (s, v, f, i, m) = ends (Quoted q) d bs rest e in
    (b, s, v, ap (λ z. b ∷ z) f, i, m)
ends Opening d (b ∷ bs) rest e = let (s, v, f, i, m) = ends Commented d bs rest e in
    (b, s, v, ap (λ z. b ∷ z) f, i, m)
ends Commented d (b ∷ bs) rest e = commented_more b d bs rest
    (ends (next_mode Commented b bs) d bs rest e)
ends Closing d (b ∷ bs) rest e = (b, bs, refl, ends Outside d bs rest e)
ends Lined d (b ∷ bs) rest e = lined_more b d bs rest (ends (next_mode Lined b bs) d bs rest e)

-- ---- what readers need

pub braced_found : (text tail rest : List ℕ) → IsBraced text → 123 ∷ tail ≡ text ++ rest →
    closes Outside 0 tail ≡ Some rest
braced_found text tail rest h e =
    let w : 123 ∷ tail ≡ 123 ∷ (h.inside ++ 125 ∷ rest) = e ∙ ap (λ t. t ++ rest) h.whole ∙ ap
    (λ t. 123 ∷ t) (append_assoc h.inside (125 ∷ []) rest) in
    let u : tail ≡ h.inside ++ 125 ∷ rest = cc in
    ap (closes Outside 0) u ∙ kept_runs 0 h.inside (125 ∷ rest) h.kept refl

pub braced_spelled : (tail rest : List ℕ) → closes Outside 0 tail ≡ Some rest → (text : List ℕ) ×
    (123 ∷ tail ≡ text ++ rest) × IsBraced text
braced_spelled tail rest e =
    let (t, w, k) = ends Outside 0 tail rest e in (
      123 ∷ t ++ 125 ∷ [],
      ap (λ z. 123 ∷ z) (w ∙ sym (append_assoc t (125 ∷ []) rest)),
      record { inside = t; whole = refl; kept = k },
    )

pub braced_shorter : (bytes tail rest : List ℕ) → bytes ≡ 123 ∷ tail → closes Outside 0 tail ≡ Some
    rest → length rest ≤ length bytes
braced_shorter bytes tail rest e h =
    let (t, w, k) = braced_spelled tail rest h in
    let l : length bytes ≡ length t + length rest = ap length (e ∙ w) ∙ length-append t rest in
    omega (arith, l)
