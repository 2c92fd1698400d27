-- The byte by byte reading of a literal meets what a literal is.
use Rattle.std.proofs.Common.{ℕ, ◌≡◌, ◌≢◌, ◌≤◌, ◌<◌, ◌+◌, ◌*◌, Bool, true, false, cond, not, ◌&&◌}
use Rattle.std.proofs.Common.{◌||◌, ◌⊎◌, inl, inr, eqb, leb, ltb, List, [], ◌∷◌, ◌++◌, length}
use Rattle.std.proofs.Common.{Option, Some, None, refl, sym, ap, ◌∙◌, subst, arith, append_assoc}
use Rattle.std.proofs.Common.{append-nil, length-append, drop, get_or}
use Rattle.std.proofs.lemmas.Bool.{eqb-true, eqb-false, ne_eqb, and_parts, and_from, or_cases}
use Rattle.std.proofs.lemmas.Bool.{or_left, or_right, cases_lt, cond-true, cond-false, leb-true}
use Rattle.std.proofs.lemmas.Bool.{ltb-true, le-leb, lt-ltb, not-true}
use Rattle.std.proofs.lemmas.Bool.Decides.{nat_tests}
use Rattle.std.specs.Char.{digit_value}
use Rattle.std.specs.Str.Parse.{AllDigits, digits_value, digits_value_after}
use Rattle.ylexemes.specs.declared.literal.Stage.{Stage}
use Rattle.ylexemes.specs.declared.literal.Stage.TheVariants.{Opened, Backslash, Shut, Octals}
use Rattle.ylexemes.specs.declared.literal.Stage.TheVariants.{HexMark, Hexed}
use Rattle.ylexemes.specs.Lexemes.{escape_value, IsCharacter, plain, escape, octal, hexadecimal}
use Rattle.ylexemes.specs.Lexemes.{IsLiteral, LiteralAt}
use Rattle.ylexemes.specs.Stages.{is_plain, digit_in, octal_fits, octal_with, more_octals, hex_with}
use Rattle.ylexemes.specs.Stages.{more_hex, after_backslash_with, next_stage, closed_stage, Answer}
use Rattle.ylexemes.specs.Stages.{found}
use Rattle.ylexemes.specs.Stages.{stuck, short, shut_with, shut_scan, scan}

-- ---- moves

-- a byte takes a stage to another
data Move : Stage → ℕ → Stage → Type 0 where
  plain_byte : {b : ℕ} → is_plain b ≡ true → Move Opened b (Shut b)
  backslash : {b : ℕ} → b ≡ 92 → Move Opened b Backslash
  escape_byte : {b v : ℕ} → escape_value b ≡ Some v → Move Backslash b (Shut v)
  hex_sign : {b : ℕ} → b ≡ 120 → Move Backslash b HexMark
  first_octal : {b : ℕ} → digit_value b < 8 → Move Backslash b
      (Octals (0 + 1) (0 * 8 + digit_value b))
  next_octal : {b n v : ℕ} → digit_value b < 8 → octal_fits n (v * 8 + digit_value b) ≡ true →
      Move (Octals n v) b (Octals (n + 1) (v * 8 + digit_value b))
  first_hex : {b : ℕ} → digit_value b < 16 → Move HexMark b (Hexed (0 * 16 + digit_value b))
  next_hex : {b v : ℕ} → digit_value b < 16 → v * 16 + digit_value b ≤ 255 → Move (Hexed v) b
      (Hexed (v * 16 + digit_value b))

choose : {A P : Type 0} (b : Bool) (x y z : A) → cond b x y ≡ z → (b ≡ true → x ≡ z → P) →
    (b ≡ false → y ≡ z → P) → P
choose true x y z e f g = f refl e
choose false x y z e f g = g refl e

some_is : {A : Type 0} (x y : A) → Some x ≡ Some y → x ≡ y
some_is x y e = cc

octal_moves : (n v b : ℕ) (r : Stage) (P : Type 0) → more_octals n v b ≡ Some r →
    (digit_value b < 8 → octal_fits n (v * 8 + digit_value b) ≡ true → Octals (n + 1)
    (v * 8 + digit_value b) ≡ r → P) → P
octal_moves n v b r P e f = go (ltb (digit_value b) 8) refl
  where
    go : (t : Bool) → ltb (digit_value b) 8 ≡ t → P
    go true h =
        let w : octal_with n v (Some (digit_value b)) ≡ Some r = ap (octal_with n v)
        (sym (cond-true (ltb (digit_value b) 8) (Some (digit_value b)) None h)) ∙ e in
        choose (octal_fits n (v * 8 + digit_value b))
        (Some (Octals (n + 1) (v * 8 + digit_value b))) None (Some r) w
        (λ t i. f (ltb-true (digit_value b) 8 h) t (some_is _ r i))
        (λ t i. absurd (let z : ⊥ = cc in z))
    go false h =
        let w : octal_with n v None ≡ Some r = ap (octal_with n v)
        (sym (cond-false (ltb (digit_value b) 8) (Some (digit_value b)) None h)) ∙ e in
        absurd (let z : ⊥ = cc in z)

hex_moves : (v b : ℕ) (r : Stage) (P : Type 0) → more_hex v b ≡ Some r →
    (digit_value b < 16 → v * 16 + digit_value b ≤ 255 → Hexed (v * 16 + digit_value b) ≡ r → P) → P
hex_moves v b r P e f = go (ltb (digit_value b) 16) refl
  where
    go : (t : Bool) → ltb (digit_value b) 16 ≡ t → P
    go true h =
        let w : hex_with v (Some (digit_value b)) ≡ Some r = ap (hex_with v)
        (sym (cond-true (ltb (digit_value b) 16) (Some (digit_value b)) None h)) ∙ e in
        choose (leb (v * 16 + digit_value b) 255) (Some (Hexed (v * 16 + digit_value b))) None
        (Some r) w
        (λ t i. f (ltb-true (digit_value b) 16 h) (leb-true _ 255 t) (some_is _ r i))
        (λ t i. absurd (let z : ⊥ = cc in z))
    go false h =
        let w : hex_with v None ≡ Some r = ap (hex_with v)
        (sym (cond-false (ltb (digit_value b) 16) (Some (digit_value b)) None h)) ∙ e in
        absurd (let z : ⊥ = cc in z)

moves : (q : Stage) (b : ℕ) (r : Stage) → next_stage q b ≡ Some r → Move q b r
moves Opened b r e =
    choose (is_plain b) (Some (Shut b)) (cond (eqb b 92) (Some Backslash) None) (Some r) e
    (λ t i. subst (Move Opened b) (some_is (Shut b) r i) (plain_byte t))
    (λ t i. choose (eqb b 92) (Some Backslash) None (Some r) i
    (λ u j. subst (Move Opened b) (some_is Backslash r j) (backslash (eqb-true b 92 u)))
    (λ u j. absurd (let z : ⊥ = cc in z)))
moves Backslash b r e = go (escape_value b) refl
  where
    go : (o : Option ℕ) → escape_value b ≡ o → Move Backslash b r
    go (Some v) h =
        let w : Some (Shut v) ≡ Some r = sym (ap (after_backslash_with b) h) ∙ e in
        subst (Move Backslash b) (some_is (Shut v) r w) (escape_byte h)
    go None h =
        let w : after_backslash_with b None ≡ Some r = sym (ap (after_backslash_with b) h) ∙ e in
        choose (eqb b 120) (Some HexMark) (more_octals 0 0 b) (Some r) w
        (λ u j. subst (Move Backslash b) (some_is HexMark r j) (hex_sign (eqb-true b 120 u)))
        (λ u j. octal_moves 0 0 b r (Move Backslash b r) j (λ d f i. subst (Move Backslash b) i
        (first_octal d)))
moves (Shut v) b r e = cc
moves (Octals n v) b r e = octal_moves n v b r (Move (Octals n v) b r) e
    (λ d f i. subst (Move (Octals n v) b) i (next_octal d f))
moves HexMark b r e = hex_moves 0 b r (Move HexMark b r) e (λ d f i. subst (Move HexMark b) i
    (first_hex d))
moves (Hexed v) b r e = hex_moves v b r (Move (Hexed v) b r) e (λ d f i. subst (Move (Hexed v) b) i
    (next_hex d f))

-- ---- stages that can be completed

abbrev Live : Stage → Type 0
Live (Octals n v) = (n ≤ 3) × (v ≤ 255) × (v ≡ 0 → n < 3)
Live (Hexed v) = v ≤ 255
Live _ = Unit {0}

fits_parts : (n m : ℕ) → octal_fits n m ≡ true → (n < 3) × (m ≤ 255) × (m ≡ 0 → n < 2)
fits_parts n m h =
    let a = and_parts (ltb n 3 && leb m 255) (ltb n 2 || leb 1 m) h in
    let b = and_parts (ltb n 3) (leb m 255) a.0 in
    (ltb-true n 3 b.0, leb-true m 255 b.1, λ z. last z (or_cases (ltb n 2) (leb 1 m) a.1))
  where
    last : m ≡ 0 → (ltb n 2 ≡ true) ⊎ (leb 1 m ≡ true) → n < 2
    last z (inl t) = ltb-true n 2 t
    last z (inr t) = let l = leb-true 1 m t in absurd (omega (arith, l, z))

live : (q : Stage) (b : ℕ) (r : Stage) → Live q → Move q b r → Live r
live _ b _ l (plain_byte t) = tt
live _ b _ l (backslash t) = tt
live _ b _ l (escape_byte t) = tt
live _ b _ l (hex_sign t) = tt
live _ b _ l (first_octal d) = (omega arith, omega (arith, d), λ z. omega arith)
live _ b _ l (next_octal {n = n} {v = v} d f) =
    let p = fits_parts n (v * 8 + digit_value b) f in
    let p0 = p.0 in let p1 = p.1 in let p2 = p.2 in
    (omega (arith, p0), p1, λ z. omega (arith, p2 z))
live _ b _ l (first_hex d) = omega (arith, d)
live _ b _ l (next_hex d f) = f

-- ---- what a stage still spells

abbrev Spells : Stage → List ℕ → ℕ → Type 0
Spells Opened text v = IsCharacter text v
Spells Backslash text v = IsCharacter (92 ∷ text) v
Spells (Shut w) text v = (text ≡ []) × (v ≡ w)
Spells (Octals n w) text v = AllDigits 8 text × (length text + n ≤ 3) ×
    (v ≡ digits_value_after 8 w text) × (1 ≤ v) × (v ≤ 255)
Spells HexMark text v = (1 ≤ length text) × AllDigits 16 text × (v ≡ digits_value 16 text) ×
    (1 ≤ v) × (v ≤ 255)
Spells (Hexed w) text v = AllDigits 16 text × (v ≡ digits_value_after 16 w text) × (1 ≤ v) ×
    (v ≤ 255)

plain_parts : (b : ℕ) → is_plain b ≡ true → (32 ≤ b) × (b ≤ 126) × (b ≢ 39) × (b ≢ 92)
plain_parts b h =
    let a = and_parts (leb 32 b && leb b 126 && not (eqb b 39)) (not (eqb b 92)) h in
    let c = and_parts (leb 32 b && leb b 126) (not (eqb b 39)) a.0 in
    let d = and_parts (leb 32 b) (leb b 126) c.0 in (
      leb-true 32 b d.0,
      leb-true b 126 d.1,
      eqb-false b 39 (not-true (eqb b 39) c.1),
      eqb-false b 92
          (not-true (eqb b 92) a.1),
    )

spells_more : (q : Stage) (b : ℕ) (r : Stage) (text : List ℕ) (v : ℕ) → Move q b r →
    Spells r text v → Spells q (b ∷ text) v
spells_more _ b _ text v (plain_byte t) s =
    let p = plain_parts b t in
    let s0 = s.0 in let s1 = s.1 in
    let e : v ≡ b = s1 in
    plain (let w : b ∷ text ≡ v ∷ [] = cc in w) (subst (λ z. 32 ≤ z) (sym e) p.0)
    (subst (λ z. z ≤ 126) (sym e) p.1) (subst (λ z. z ≢ 39) (sym e) p.2)
    (subst (λ z. z ≢ 92) (sym e) p.3)
spells_more _ b _ text v (backslash e) s = subst (λ z. IsCharacter (z ∷ text) v) (sym e) s
spells_more _ b _ text v (escape_byte {v = w} e) s =
    let s0 = s.0 in let s1 = s.1 in
    escape {b = b} (let z : 92 ∷ b ∷ text ≡ 92 ∷ b ∷ [] = cc in z)
    (let z : escape_value b ≡ Some v = cc in z)
spells_more _ b _ text v (hex_sign e) s = subst (λ z. IsCharacter (92 ∷ z ∷ text) v) (sym e)
    (hexadecimal {digits = text} refl s.0 s.1 s.2 s.3 s.4)
spells_more _ b _ text v (first_octal d) s =
    let l = s.1 in
    octal {digits = b ∷ text} refl (omega arith) (omega (arith, l)) (d, s.0) s.2 s.3 s.4
spells_more _ b _ text v (next_octal d f) s = let l = s.1 in
    ((d, s.0), omega (arith, l), s.2, s.3, s.4)
spells_more _ b _ text v (first_hex d) s = (omega arith, (d, s.0), s.1, s.2, s.3)
spells_more _ b _ text v (next_hex d f) s = ((d, s.0), s.1, s.2, s.3)

spells_end : (q : Stage) (v : ℕ) → Live q → closed_stage q ≡ Some v → Spells q [] v
spells_end Opened v l e = cc
spells_end Backslash v l e = cc
spells_end (Shut w) v l e = (refl, let z : v ≡ w = cc in z)
spells_end (Octals n w) v l e =
    choose (leb 1 w) (Some w) None (Some v) e
    (λ t i. let z : v ≡ w = cc in let u = leb-true 1 w t in let l0 = l.0 in let l1 = l.1 in
    (tt, omega (arith, l0), z, omega (arith, u, z), omega (arith, l1, z)))
    (λ t i. absurd (let z : ⊥ = cc in z))
spells_end HexMark v l e = cc
spells_end (Hexed w) v l e =
    choose (leb 1 w) (Some w) None (Some v) e
    (λ t i. let z : v ≡ w = cc in let u = leb-true 1 w t in
    (tt, z, omega (arith, u, z), omega (arith, l, z)))
    (λ t i. absurd (let z : ⊥ = cc in z))

-- ---- what is found is a literal

abbrev step : Stage → ℕ → List ℕ → Option Stage → Answer
step q b bs o = elim o [ Some r ↦ scan r bs | None ↦ shut_scan q b bs ]

record Read (q : Stage) (bytes : List ℕ) (v : ℕ) (rest : List ℕ) : Type 0 where
  text : List ℕ
  whole : bytes ≡ text ++ 39 ∷ rest
  spells : Spells q text v

read : (q : Stage) (bytes : List ℕ) (v : ℕ) (rest : List ℕ) → Live q → scan q bytes ≡ found v rest →
    Read q bytes v rest
read q [] v rest l e = cc
read q (b ∷ bs) v rest l e = go (next_stage q b) refl (λ r m h. read r bs v rest m h)
  where
    go : (o : Option Stage) → next_stage q b ≡ o →
        ((r : Stage) → Live r → scan r bs ≡ found v rest → Read r bs v rest) →
        Read q (b ∷ bs) v rest
    go (Some r) h again =
        let m = moves q b r h in
        let f : step q b bs (Some r) ≡ found v rest = ap (step q b bs) (sym h) ∙ e in
        let a = again r (live q b r l m) f in
        record {
          text = b ∷ a.text;
          whole = ap (λ t. b ∷ t) a.whole;
          spells =
              spells_more q b r a.text v m a.spells;
        }
    go None h again =
        let f : step q b bs None ≡ found v rest = ap (step q b bs) (sym h) ∙ e in
        last (closed_stage q) refl f
      where
        last : (c : Option ℕ) → closed_stage q ≡ c → shut_with (closed_stage q) b bs ≡ found v
            rest → Read q (b ∷ bs) v rest
        last None i f = let g : shut_with None b bs ≡ found v rest = ap (λ c. shut_with c b bs)
            (sym i) ∙ f in absurd (let z : ⊥ = cc in z)
        last (Some w) i f =
            let g : shut_with (Some w) b bs ≡ found v rest = ap (λ c. shut_with c b bs)
            (sym i) ∙ f in
            choose (eqb b 39) (found w bs) stuck (found v rest) g
            (λ t j. let k : b ≡ 39 = eqb-true b 39 t in let x : w ≡ v = cc in let y : bs ≡ rest =
            cc in
            record { text = []; whole = cc; spells = spells_end q v l (i ∙ ap Some x) })
            (λ t j. absurd (let z : ⊥ = cc in z))

-- ---- each literal is found

octal_digit : (d : ℕ) → digit_value d < 8 → (escape_value d ≡ None) × (eqb d 120 ≡ false)
octal_digit d h = (grind (arith, nat_tests), grind (arith, nat_tests))

after_eight : (n : ℕ) (ds : List ℕ) → n ≤ digits_value_after 8 n ds
after_eight n [] = omega arith
after_eight n (d ∷ ds) = let h = after_eight (n * 8 + digit_value d) ds in omega (arith, h)

after_sixteen : (n : ℕ) (ds : List ℕ) → n ≤ digits_value_after 16 n ds
after_sixteen n [] = omega arith
after_sixteen n (d ∷ ds) = let h = after_sixteen (n * 16 + digit_value d) ds in omega (arith, h)

digit_some : (radix d : ℕ) → digit_value d < radix → digit_in radix d ≡ Some (digit_value d)
digit_some radix d h = cond-true (ltb (digit_value d) radix) (Some (digit_value d)) None
    (lt-ltb (digit_value d) radix h)

octal_step : (n w d : ℕ) → digit_value d < 8 → n < 3 → w * 8 + digit_value d ≤ 255 →
    (2 ≤ n → 1 ≤ w * 8 + digit_value d) → more_octals n w d ≡ Some
    (Octals (n + 1) (w * 8 + digit_value d))
octal_step n w d h few small last =
    let m = w * 8 + digit_value d in
    ap (octal_with n w) (digit_some 8 d h) ∙ cond-true (octal_fits n m) (Some (Octals (n + 1) m))
    None (and_from (ltb n 3 && leb m 255) (ltb n 2 || leb 1 m)
    (and_from (ltb n 3) (leb m 255) (lt-ltb n 3 few) (le-leb m 255 small))
    (either (cases_lt n 2)))
  where
    either : (n < 2) ⊎ (2 ≤ n) → (ltb n 2 || leb 1 (w * 8 + digit_value d)) ≡ true
    either (inl t) = or_left (ltb n 2) (leb 1 (w * 8 + digit_value d)) (lt-ltb n 2 t)
    either (inr t) = or_right (ltb n 2) (leb 1 (w * 8 + digit_value d))
        (le-leb 1 (w * 8 + digit_value d) (last t))

hex_step : (w d : ℕ) → digit_value d < 16 → w * 16 + digit_value d ≤ 255 → more_hex w d ≡ Some
    (Hexed (w * 16 + digit_value d))
hex_step w d h small = ap (hex_with w) (digit_some 16 d h) ∙ cond-true
    (leb (w * 16 + digit_value d) 255) (Some (Hexed (w * 16 + digit_value d))) None
    (le-leb _ 255 small)

goes : (q : Stage) (b : ℕ) (r : Stage) (bs : List ℕ) (v : ℕ) (rest : List ℕ) →
    next_stage q b ≡ Some r → scan r bs ≡ found v rest → scan q (b ∷ bs) ≡ found v rest
goes q b r bs v rest e h = ap (step q b bs) e ∙ h

octals_found : (n w : ℕ) (text : List ℕ) (v : ℕ) (rest : List ℕ) → Spells (Octals n w) text v →
    scan (Octals n w) (text ++ 39 ∷ rest) ≡ found v rest
octals_found n w [] v rest s =
    let s2 = s.2 in let s3 = s.3 in
    let e : v ≡ w = s2 in
    let t : closed_stage (Octals n w) ≡ Some w = cond-true (leb 1 w) (Some w) None
    (le-leb 1 w (omega (arith, e, s3))) in
    let g : scan (Octals n w) (39 ∷ rest) ≡ shut_with (Some w) 39 rest =
    ap (λ c. shut_with c 39 rest) t in
    g ∙ ap (λ z. found z rest) (sym e)
octals_found n w (d ∷ ds) v rest s =
    let s0 = s.0 in let s1 = s.1 in let s2 = s.2 in let s3 = s.3 in let s4 = s.4 in
    let m = w * 8 + digit_value d in
    let bound : m ≤ digits_value_after 8 m ds = after_eight m ds in
    let e : v ≡ digits_value_after 8 m ds = s2 in
    goes (Octals n w) d (Octals (n + 1) m) (ds ++ 39 ∷ rest) v rest
    (octal_step n w d s0.0 (omega (arith, s1)) (omega (arith, bound, e, s4)) (λ t. let z : ds ≡ [] =
    short_tail ds (omega (arith, s1, t)) in let y : v ≡ m = e ∙ ap (digits_value_after 8 m) z in
    omega (arith, y, s3)))
    (octals_found (n + 1) m ds v rest (s0.1, omega (arith, s1), s2, s3, s4))
  where
    short_tail : (ds : List ℕ) → length ds ≤ 0 → ds ≡ []
    short_tail [] h = refl
    short_tail (x ∷ xs) h = absurd (omega arith)

hexed_found : (w : ℕ) (text : List ℕ) (v : ℕ) (rest : List ℕ) → Spells (Hexed w) text v →
    scan (Hexed w) (text ++ 39 ∷ rest) ≡ found v rest
hexed_found w [] v rest s =
    let s1 = s.1 in let s2 = s.2 in
    let e : v ≡ w = s1 in
    let t : closed_stage (Hexed w) ≡ Some w = cond-true (leb 1 w) (Some w) None
    (le-leb 1 w (omega (arith, e, s2))) in
    let g : scan (Hexed w) (39 ∷ rest) ≡ shut_with (Some w) 39 rest = ap (λ c. shut_with c 39 rest)
    t in
    g ∙ ap (λ z. found z rest) (sym e)
hexed_found w (d ∷ ds) v rest s =
    let s0 = s.0 in let s1 = s.1 in let s2 = s.2 in let s3 = s.3 in
    let m = w * 16 + digit_value d in
    let bound : m ≤ digits_value_after 16 m ds = after_sixteen m ds in
    let e : v ≡ digits_value_after 16 m ds = s1 in
    goes (Hexed w) d (Hexed m) (ds ++ 39 ∷ rest) v rest
    (hex_step w d s0.0 (omega (arith, bound, e, s3)))
    (hexed_found m ds v rest (s0.1, s1, s2, s3))

character_found : (body : List ℕ) (v : ℕ) (rest : List ℕ) → IsCharacter body v →
    scan Opened (body ++ 39 ∷ rest) ≡ found v rest
character_found body v rest (plain e low high no_quote no_slash) =
    let t : is_plain v ≡ true = and_from (leb 32 v && leb v 126 && not (eqb v 39)) (not (eqb v 92))
    (and_from (leb 32 v && leb v 126) (not (eqb v 39))
    (and_from (leb 32 v) (leb v 126) (le-leb 32 v low) (le-leb v 126 high))
    (ap not (ne_eqb v 39 no_quote))) (ap not (ne_eqb v 92 no_slash)) in
    ap (λ z. scan Opened (z ++ 39 ∷ rest)) e ∙ goes Opened v (Shut v) (39 ∷ rest) v rest
    (cond-true (is_plain v) (Some (Shut v)) (cond (eqb v 92) (Some Backslash) None) t) refl
character_found body v rest (escape {b = b} e h) =
    ap (λ z. scan Opened (z ++ 39 ∷ rest)) e ∙ goes Backslash b (Shut v) (39 ∷ rest) v rest
    (ap (after_backslash_with b) h) refl
character_found body v rest (octal {digits = ds} e some few digits is low high) =
    ap (λ z. scan Opened (z ++ 39 ∷ rest)) e ∙ begun ds some few digits is
  where
    begun : (ds : List ℕ) → 1 ≤ length ds → length ds ≤ 3 → AllDigits 8 ds → v ≡ digits_value 8 ds →
        scan Backslash (ds ++ 39 ∷ rest) ≡ found v rest
    begun [] s f a i = absurd (omega arith)
    begun (d ∷ ds) s f a i =
        let a0 = a.0 in
        let o = octal_digit d a0 in
        let m = 0 * 8 + digit_value d in
        goes Backslash d (Octals (0 + 1) m) (ds ++ 39 ∷ rest) v rest
        (ap (after_backslash_with d) o.0 ∙ cond-false (eqb d 120) (Some HexMark) (more_octals 0 0 d)
        o.1 ∙
        octal_step 0 0 d a0 (omega arith) (omega (arith, a0)) (λ t. absurd (omega (arith, t))))
        (octals_found (0 + 1) m ds v rest (a.1, omega (arith, f), i, low, high))
character_found body v rest (hexadecimal {digits = ds} e some digits is low high) =
    ap (λ z. scan Opened (z ++ 39 ∷ rest)) e ∙ begun ds some digits is
  where
    begun : (ds : List ℕ) → 1 ≤ length ds → AllDigits 16 ds → v ≡ digits_value 16 ds →
        scan HexMark (ds ++ 39 ∷ rest) ≡ found v rest
    begun [] s a i = absurd (omega arith)
    begun (d ∷ ds) s a i =
        let a0 = a.0 in
        let m = 0 * 16 + digit_value d in
        goes HexMark d (Hexed m) (ds ++ 39 ∷ rest) v rest (hex_step 0 d a0 (omega (arith, a0)))
        (hexed_found m ds v rest (a.1, i, low, high))

-- ---- with more bytes

stuck_stays : (q : Stage) (bytes more : List ℕ) → scan q bytes ≡ stuck →
    scan q (bytes ++ more) ≡ stuck
stuck_stays q [] more e = cc
stuck_stays q (b ∷ bs) more e = go (next_stage q b) refl (λ r h. stuck_stays r bs more h)
  where
    go : (o : Option Stage) → next_stage q b ≡ o →
        ((r : Stage) → scan r bs ≡ stuck → scan r (bs ++ more) ≡ stuck) →
        scan q ((b ∷ bs) ++ more) ≡ stuck
    go (Some r) h again = ap (step q b (bs ++ more)) h ∙ again r (ap (step q b bs) (sym h) ∙ e)
    go None h again = ap (step q b (bs ++ more)) h ∙ last (closed_stage q) refl
        (ap (step q b bs) (sym h) ∙ e)
      where
        last : (c : Option ℕ) → closed_stage q ≡ c → shut_with (closed_stage q) b bs ≡ stuck →
            shut_with (closed_stage q) b (bs ++ more) ≡ stuck
        last None i f = ap (λ c. shut_with c b (bs ++ more)) i
        last (Some w) i f =
            ap (λ c. shut_with c b (bs ++ more)) i ∙ choose (eqb b 39) (found w bs) stuck stuck
            (ap (λ c. shut_with c b bs) (sym i) ∙ f)
            (λ t j. absurd (let z : ⊥ = cc in z))
            (λ t j. cond-false (eqb b 39) (found w (bs ++ more)) stuck t)

-- bytes that finish a literal from a stage
record Finish (q : Stage) (bytes : List ℕ) : Type 0 where
  more : List ℕ
  value : ℕ
  finds : scan q (bytes ++ more) ≡ found value []

closing : (q : Stage) (v : ℕ) → next_stage q 39 ≡ None → closed_stage q ≡ Some v → Finish q []
closing q v e c = record {
  more = 39 ∷ [];
  value = v;
  finds = ap (step q 39 []) e ∙ ap
      (λ z. shut_with z 39 []) c;
}

finish : (q : Stage) → Live q → Finish q []
finish Opened l = record { more = 32 ∷ 39 ∷ []; value = 32; finds = refl }
finish Backslash l = record { more = 92 ∷ 39 ∷ []; value = 92; finds = refl }
finish (Shut v) l = closing (Shut v) v refl refl
finish (Octals n v) l = go (cases_lt v 1)
  where
    go : (v < 1) ⊎ (1 ≤ v) → Finish (Octals n v) []
    go (inl t) =
        let l2 = l.2 in
        let z : v ≡ 0 = omega (arith, t) in
        let u = l2 z in
        record {
          more = 49 ∷ 39 ∷ [];
          value = v * 8 + 1;
          finds = goes (Octals n v) 49
              (Octals (n + 1) (v * 8 + 1)) (39 ∷ []) (v * 8 + 1) []
              (octal_step n v 49 (omega arith) u
              (omega (arith, z)) (λ w. omega arith)) (octals_found (n + 1) (v * 8 + 1) []
              (v * 8 + 1) [] (tt, omega (arith, u), refl, omega arith, omega (arith, z)));
        }
    go (inr t) = closing (Octals n v) v refl (cond-true (leb 1 v) (Some v) None (le-leb 1 v t))
finish HexMark l = record { more = 49 ∷ 39 ∷ []; value = 1; finds = refl }
finish (Hexed v) l = go (cases_lt v 1)
  where
    go : (v < 1) ⊎ (1 ≤ v) → Finish (Hexed v) []
    go (inl t) =
        record {
          more = 49 ∷ 39 ∷ [];
          value = v * 16 + 1;
          finds = goes (Hexed v) 49
              (Hexed (v * 16 + 1)) (39 ∷ []) (v * 16 + 1) []
              (hex_step v 49 (omega arith) (omega (arith, t)))
              (hexed_found (v * 16 + 1) [] (v * 16 + 1) [] (
                tt,
                refl,
                omega arith,
                omega (arith, t),
              ));
        }
    go (inr t) = closing (Hexed v) v refl (cond-true (leb 1 v) (Some v) None (le-leb 1 v t))

short_finishes : (q : Stage) (bytes : List ℕ) → Live q → scan q bytes ≡ short → Finish q bytes
short_finishes q [] l e = finish q l
short_finishes q (b ∷ bs) l e = go (next_stage q b) refl (λ r m h. short_finishes r bs m h)
  where
    go : (o : Option Stage) → next_stage q b ≡ o →
        ((r : Stage) → Live r → scan r bs ≡ short → Finish r bs) → Finish q (b ∷ bs)
    go (Some r) h again =
        let a = again r (live q b r l (moves q b r h)) (ap (step q b bs) (sym h) ∙ e) in
        record { more = a.more; value = a.value; finds = ap (step q b (bs ++ a.more)) h ∙ a.finds }
    go None h again = last (closed_stage q) refl (ap (step q b bs) (sym h) ∙ e)
      where
        last : (c : Option ℕ) → closed_stage q ≡ c → shut_with (closed_stage q) b bs ≡ short →
            Finish q (b ∷ bs)
        last None i f = let g : shut_with None b bs ≡ short = ap (λ c. shut_with c b bs)
            (sym i) ∙ f in absurd (let z : ⊥ = cc in z)
        last (Some w) i f =
            choose (eqb b 39) (found w bs) stuck short (ap (λ c. shut_with c b bs) (sym i) ∙ f)
            (λ t j. absurd (let z : ⊥ = cc in z)) (λ t j. absurd (let z : ⊥ = cc in z))

-- ---- what readers need

pub literal_found : (text tail rest : List ℕ) (v : ℕ) → IsLiteral text v →
    39 ∷ tail ≡ text ++ rest → scan Opened tail ≡ found v rest
literal_found text tail rest v h e =
    let w : 39 ∷ tail ≡ 39 ∷ (h.body ++ 39 ∷ rest) = e ∙ ap (λ t. t ++ rest) h.whole ∙ ap
    (λ t. 39 ∷ t) (append_assoc h.body (39 ∷ []) rest) in
    let u : tail ≡ h.body ++ 39 ∷ rest = cc in
    ap (scan Opened) u ∙ character_found h.body v rest h.character

pub literal_spelled : (tail rest : List ℕ) (v : ℕ) → scan Opened tail ≡ found v rest →
    (text : List ℕ) × (39 ∷ tail ≡ text ++ rest) × IsLiteral text v
literal_spelled tail rest v e =
    let r = read Opened tail v rest tt e in (
      39 ∷ r.text ++ 39 ∷ [],
      ap (λ t. 39 ∷ t) (r.whole ∙ sym (append_assoc r.text (39 ∷ []) rest)),
      record { body = r.text; whole = refl; character = r.spells },
    )

pub stuck_begins_none : (tail more text rest : List ℕ) (v : ℕ) → scan Opened tail ≡ stuck →
    (39 ∷ tail) ++ more ≡ text ++ rest → IsLiteral text v → ⊥
stuck_begins_none tail more text rest v e w h =
    let f = literal_found text (tail ++ more) rest v h w in
    let g = stuck_stays Opened tail more e in
    cc

pub short_begins : (tail : List ℕ) → scan Opened tail ≡ short → (v : ℕ) × (more : List ℕ) ×
    IsLiteral ((39 ∷ tail) ++ more) v
short_begins tail e =
    let f = short_finishes Opened tail tt e in
    let (text, w, h) = literal_spelled (tail ++ f.more) [] f.value f.finds in
    (f.value, f.more, subst (λ t. IsLiteral t f.value) (sym (w ∙ append-nil text)) h)

-- ---- the literal at the front

-- it begins with a quote
pub quote_first : (bytes rest : List ℕ) (v : ℕ) → LiteralAt bytes v rest → (tail : List ℕ) ×
    (bytes ≡ 39 ∷ tail)
quote_first bytes rest v (text, h, e) =
    ((h.body ++ 39 ∷ []) ++ rest, e ∙ ap (λ t. t ++ rest) h.whole)

-- there is one alone
pub one_literal : (bytes r s : List ℕ) (v w : ℕ) → LiteralAt bytes v r → LiteralAt bytes w s →
    (v ≡ w) × (r ≡ s)
one_literal bytes r s v w a (text, h, e) =
    let (tail, first) = quote_first bytes r v a in
    let (t, i, f) = a in
    let x : scan Opened tail ≡ found v r = literal_found t tail r v i (sym first ∙ f) in
    let y : scan Opened tail ≡ found w s = literal_found text tail s w h (sym first ∙ e) in
    let same : found v r ≡ found w s = sym x ∙ y in
    (cc, cc)

-- it takes bytes
pub literal_shorter : (bytes rest : List ℕ) (v : ℕ) → LiteralAt bytes v rest →
    length rest < length bytes
literal_shorter bytes rest v (text, h, e) = omega (
  arith,
  ap length e,
  length-append text rest,
  ap length h.whole,
)

pub literal_of_scan : (bytes tail rest : List ℕ) (v : ℕ) → bytes ≡ 39 ∷ tail →
    scan Opened tail ≡ found v rest → LiteralAt bytes v rest
literal_of_scan bytes tail rest v first e = let (t, w, i) = literal_spelled tail rest v e in
    (t, i, first ∙ w)

pub no_literal_of_scan : (bytes tail : List ℕ) (a : Answer) → bytes ≡ 39 ∷ tail →
    scan Opened tail ≡ a → ((v : ℕ) (r : List ℕ) → a ≡ found v r → ⊥)
    → (v : ℕ) (rest : List ℕ) → LiteralAt bytes v rest → ⊥
no_literal_of_scan bytes tail a first e none v rest (t, h, w) =
    none v rest (sym e ∙ literal_found t tail rest v h (sym first ∙ w))

-- the quote at the front, and what is after it
pub quoted_front : (bytes tail : List ℕ) → 0 < length bytes → get_or bytes 0 0 ≡ 39 →
    tail ≡ drop 1 bytes → bytes ≡ 39 ∷ tail
quoted_front [] tail h e b = absurd (omega arith)
quoted_front (x ∷ xs) tail h e b = ap (λ (y : ℕ). y ∷ xs) e ∙ ap (λ (l : List ℕ). 39 ∷ l) (sym b)
