-- The forms of rightmost derivations, and the items that are valid at them (Aho, Sethi and Ullman,
-- 4.7: right-sentential forms, viable prefixes and valid items).
use Rattle.std.proofs.Common.{ℕ, zero, suc, ◌≡◌, ◌≢◌, ◌<◌, ◌+◌, List, [], ◌∷◌, ◌++◌, length, drop}
use Rattle.std.proofs.Common.{reverse, refl, sym, ◌∙◌, ap, subst, append_assoc, append-nil, inl}
use Rattle.std.proofs.Common.{inr}
use Rattle.std.proofs.Common.{arith}
use Rattle.std.specs.List.{All}
use Rattle.std.proofs.lemmas.List.Elements.{All-nil, All-cons, All-head, All-tail, All-append}
use Rattle.std.proofs.lemmas.List.{reverse-append, drop_at}
use Rattle.ysymbols.specs.Grammar.{ContextFree, left_of, body_of, IsToken, end_token, start_of}
use Rattle.ysymbols.specs.Derivation.{done}
use Rattle.ysymbols.specs.Forms.{First, IsRightmostRun, last_of}
use Rattle.ysymbols.specs.WellFormed.{WellFormed}
use Rattle.ysymbols.proofs.Derivations.{beside}
use Rattle.ylalr.specs.Items.{Valid, start, closure, move}
use Rattle.ymachine.specs.Cells.{Expects}
use Rattle.ymachine.proofs.Prefixes.{after, reverse_cons, expects_last}
use Rattle.ysession.specs.Sentences.{IsSentence}
use Rattle.ysession.proofs.Yields.{all_front, all_back, all_middle, head_is, tail_is, no_middle}
use Rattle.ysession.proofs.Yields.{Cut}
use Rattle.ysession.proofs.Yields.{cut, Uses, uses, Yields, none, token, rule, Split, yields_tokens}
use Rattle.ysession.proofs.Yields.{yields_nothing, yields_split, yields_back, yields_from_derives}
use Rattle.ysession.proofs.Yields.{derives_from_yields}

-- a form that a rightmost derivation reaches
pub data Sent (g : ContextFree) : List ℕ → Type 0 where
  begins : {x : List ℕ} → x ≡ start_of g ∷ [] → Sent g x
  goes : {x y : List ℕ} → Sent g x → (s : Uses g x y) → All (IsToken g) s.after → Sent g y

-- the forms from the start symbol's on to before the one reached, put before those that are there
abbrev pub listed : {g : ContextFree} {x : List ℕ} → Sent g x → List (List ℕ) → List (List ℕ)
listed (begins e) more = more
listed (goes {y = y} d s k) more = listed d (y ∷ more)

abbrev pub replacements : {g : ContextFree} {x : List ℕ} → Sent g x → ℕ
replacements (begins e) = 0
replacements (goes d s k) = suc (replacements d)

-- a rightmost derivation, from its end
pub sent_from_run : {g : ContextFree} (x : List ℕ) (more : List (List ℕ)) → (d : Sent g x)
    → IsRightmostRun g x more → (e : Sent g (last_of x more)) × (listed e [] ≡ listed d more)
sent_from_run x [] d h = (d, refl)
sent_from_run x (y ∷ more) d h = sent_from_run y more (goes d (uses h.0.0) h.0.1) h.1

-- a form of a rightmost derivation, the part before its last tokens made into tokens from the right
sent_yields : {g : ContextFree} {x w : List ℕ} → Yields g x w → (front behind : List ℕ)
    → All (IsToken g) behind → Sent g (front ++ (x ++ behind)) → Sent g (front ++ (w ++ behind))
sent_yields none front behind k d = d
sent_yields {g = g} (token {t = t} {x = x} {w = w} i y) front behind k d =
    let e = append_assoc front (t ∷ []) in
    subst (Sent g) (e (w ++ behind)) (sent_yields y (front ++ t ∷ []) behind k
    (subst (Sent g) (sym (e (x ++ behind))) d))
sent_yields {g = g} (rule {s = s} {x = x} {u = u} {w = w} {v = v} r h i f b y) front behind k d =
    let e = append_assoc front (s ∷ []) in
    let one : Sent g (front ++ s ∷ (w ++ behind)) =
    subst (Sent g) (e (w ++ behind)) (sent_yields y (front ++ s ∷ []) behind k
    (subst (Sent g) (sym (e (x ++ behind))) d)) in
    let l : All (IsToken g) (w ++ behind) =
    All-append (IsToken g) w behind (yields_tokens y) k in
    let two : Sent g (front ++ (body_of g r ++ (w ++ behind))) = goes one (record {
      before = front;
      rule = r;
      after = w ++ behind;
      within = h;
      from = ap (λ z. front ++ z ∷ (w ++ behind)) i;
      to = refl;
    }) l in
    let three : Sent g (front ++ (u ++ (w ++ behind))) = sent_yields b front (w ++ behind) l two in
    subst (λ z. Sent g (front ++ z))
    (sym (ap (λ z. z ++ behind) f ∙ append_assoc u w behind)) three

-- each sentence has a rightmost derivation
pub sent_from_sentence : {g : ContextFree} {w : List ℕ} → IsSentence g w → Sent g w
sent_from_sentence {g = g} {w = w} h =
    subst (Sent g) (append-nil w)
    (sent_yields (yields_from_derives h.1 h.0) [] [] (All-nil (IsToken g)) (begins refl))

abbrev NoFirst : ContextFree → List ℕ → Type 0
NoFirst g x = All (λ s. s ≢ left_of g 0) x

-- the first rule's left side stands in none of these forms
no_first : {g : ContextFree} {x : List ℕ} → WellFormed g → Sent g x → NoFirst g x
no_first {g = g} w (begins e) =
    let P : ℕ → Type 0 = λ s. s ≢ left_of g 0 in
    rw e (All-cons P (start_of g) [] w.start_other (All-nil P))
no_first {g = g} w (goes d s k) =
    let P : ℕ → Type 0 = λ s. s ≢ left_of g 0 in
    let h : NoFirst g (s.before ++ left_of g s.rule ∷ s.after) =
    subst (NoFirst g) s.from (no_first w d) in
    rw s.to (All-append P s.before (body_of g s.rule ++ s.after)
    (all_front P s.before (left_of g s.rule ∷ s.after) h)
    (All-append P (body_of g s.rule) s.after (w.alone s.rule s.within)
    (All-tail P (left_of g s.rule) s.after
    (all_back P s.before (left_of g s.rule ∷ s.after) h))))

positive : (n : ℕ) → n ≢ 0 → 0 < n
positive zero h = absurd (h refl)
positive (suc n) h = omega arith

-- so the first rule is not used, and the end token stands in no body that is
pub not_first : {g : ContextFree} {x y : List ℕ} → WellFormed g → Sent g x → (s : Uses g x y)
    → s.rule ≢ 0
not_first {g = g} w d s z =
    all_middle (λ s. s ≢ left_of g 0) s.before (left_of g s.rule) s.after
    (subst (NoFirst g) s.from (no_first w d)) (ap (left_of g) z)

pub ended : {g : ContextFree} {x y : List ℕ} → WellFormed g → Sent g x → (s : Uses g x y)
    → All (λ s. s ≢ end_token) (body_of g s.rule)
ended w d s = w.ended s.rule (positive s.rule (not_first w d s)) s.within

-- the first token, or the end
abbrev pub ahead : List ℕ → ℕ
ahead [] = end_token
ahead (t ∷ w) = t

pub token_ahead : {g : ContextFree} → WellFormed g → (u : List ℕ) → All (IsToken g) u
    → IsToken g (ahead u)
token_ahead w [] h = w.ends
token_ahead {g = g} w (t ∷ u) h = All-head (IsToken g) t u h

first_after : {g : ContextFree} → WellFormed g → (y u v : List ℕ) → Yields g y u
    → All (IsToken g) v → First g (y ++ ahead v ∷ []) (ahead (u ++ v))
first_after w y [] v d h = record {
  token = token_ahead w v h;
  rest = [];
  derives = beside (derives_from_yields d) done;
}
first_after {g = g} w y (t ∷ u) v d h = record {
  token = All-head (IsToken g) t u (yields_tokens d);
  rest = u ++ ahead v ∷ [];
  derives = beside (derives_from_yields d) done;
}

-- the dot moves over a part of a body
pub slide : {g : ContextFree} {p : List ℕ} {r d a : ℕ} → (z rest : List ℕ) → Valid g p r d a
    → drop d (body_of g r) ≡ z ++ rest → All (λ s. s ≢ end_token) z
    → Valid g (reverse z ++ p) r (d + length z) a
slide {g = g} {p = p} {r = r} {d = d} {a = a} [] rest v e h =
    subst (λ n. Valid g p r n a) (omega arith) v
slide {g = g} {p = p} {r = r} {d = d} {a = a} (c ∷ z) rest v e h =
    let P : ℕ → Type 0 = λ s. s ≢ end_token in
    let n = slide z rest (move v e (All-head P c z h))
    (after (body_of g r) d c (z ++ rest) e).rest (All-tail P c z h) in
    let q : reverse z ++ c ∷ p ≡ reverse (c ∷ z) ++ p =
    sym (ap (λ y. y ++ p) (reverse_cons c z) ∙ append_assoc (reverse z) (c ∷ []) p) in
    let k : suc d + length z ≡ d + suc (length z) = omega arith in
    subst (λ y. Valid g y r (d + suc (length z)) a) q
    (subst (λ i. Valid g (reverse z ++ c ∷ p) r i a) k n)

-- what the first symbol after a part of a prefix was expected by
pub expects_within : {g : ContextFree} (q : List ℕ) (x : ℕ) (p : List ℕ) {r d a : ℕ}
    → Valid g (q ++ x ∷ p) r d a → Expects g p x
expects_within [] x p v = expects_last v
expects_within (z ∷ q) x p v = expects_within q x p (expects_last v).valid

-- At a form of a rightmost derivation, the rules of a nonterminal begin after what stands before
-- it, and what the rest becomes is ahead.
abbrev NewAt : ContextFree → List ℕ → Type 0
NewAt g x = (front : List ℕ) (r : ℕ) (behind u : List ℕ) → x ≡ front ++ left_of g r ∷ behind
    → r < length g.rules → Yields g behind u → Valid g (reverse front) r 0 (ahead u)

new_at_start : {g : ContextFree} {x : List ℕ} → WellFormed g → x ≡ start_of g ∷ [] → NewAt g x
new_at_start {g = g} w e [] r behind u f h y =
    let i : start_of g ∷ [] ≡ left_of g r ∷ behind = sym e ∙ f in
    let n : u ≡ [] =
    yields_nothing y (sym (tail_is (start_of g) (left_of g r) [] behind i)) in
    let c : drop 0 (body_of g 0) ≡ left_of g r ∷ (end_token ∷ []) =
    w.first ∙ ap (λ z. z ∷ (end_token ∷ [])) (head_is (start_of g) (left_of g r) [] behind i) in
    rw n (closure start c h (record { token = w.ends; rest = end_token ∷ []; derives = done }))
new_at_start {g = g} w e (c ∷ front) r behind u f h y =
    absurd (no_middle front (left_of g r) behind
    (tail_is (start_of g) c [] (front ++ left_of g r ∷ behind) (sym e ∙ f)))

module _ {g : ContextFree} {x y : List ℕ} (w : WellFormed g) (d : Sent g x) (s : Uses g x y)
    (k : All (IsToken g) s.after) (new : NewAt g x) (front : List ℕ) (r : ℕ) (behind u : List ℕ)
    (h : r < length g.rules) (yields : Yields g behind u) where
  -- the nonterminal stands before the replaced one
  new_before : (mid : List ℕ) → s.before ≡ front ++ left_of g r ∷ mid
      → behind ≡ mid ++ (body_of g s.rule ++ s.after) → Valid g (reverse front) r 0 (ahead u)
  new_before mid e f =
      let i : x ≡ front ++ left_of g r ∷ (mid ++ left_of g s.rule ∷ s.after) =
      s.from ∙ (ap (λ z. z ++ left_of g s.rule ∷ s.after) e
      ∙ append_assoc front (left_of g r ∷ mid) (left_of g s.rule ∷ s.after)) in
      new front r (mid ++ left_of g s.rule ∷ s.after) u i h
      (yields_back g mid s.rule s.after u s.within (subst (λ z. Yields g z u) f yields))

  -- it stands in the new body
  new_inside : (mid more : List ℕ) → front ≡ s.before ++ mid
      → body_of g s.rule ≡ mid ++ left_of g r ∷ more → behind ≡ more ++ s.after
      → Valid g (reverse front) r 0 (ahead u)
  new_inside mid more e f b =
      let q : Split g more s.after u =
      yields_split more s.after (subst (λ z. Yields g z u) b yields) in
      let v : Valid g (reverse s.before) s.rule 0 (ahead q.back) =
      new s.before s.rule s.after q.back s.from s.within q.right in
      let no : All (λ s. s ≢ end_token) mid =
      all_front (λ s. s ≢ end_token) mid (left_of g r ∷ more)
      (subst (All (λ s. s ≢ end_token)) f (ended w d s)) in
      let l : Valid g (reverse mid ++ reverse s.before) s.rule (length mid) (ahead q.back) =
      subst (λ n. Valid g (reverse mid ++ reverse s.before) s.rule n (ahead q.back)) (omega arith)
      (slide mid (left_of g r ∷ more) v f no) in
      let c : drop (length mid) (body_of g s.rule) ≡ left_of g r ∷ more =
      ap (drop (length mid)) f ∙ drop_at mid (left_of g r ∷ more) (length mid) refl in
      let t : Valid g (reverse mid ++ reverse s.before) r 0 (ahead (q.front ++ q.back)) =
      closure l c h (first_after w more q.front q.back q.left (yields_tokens q.right)) in
      let p : reverse mid ++ reverse s.before ≡ reverse front =
      sym (ap reverse e ∙ reverse-append s.before mid) in
      subst (λ z. Valid g z r 0 (ahead u)) p
      (subst (λ z. Valid g (reverse mid ++ reverse s.before) r 0 (ahead z)) (sym q.parts) t)

  -- it can't stand among the tokens after
  new_behind : (mid : List ℕ) → s.after ≡ mid ++ left_of g r ∷ behind → ⊥
  new_behind mid e =
      let l = all_middle (IsToken g) mid (left_of g r) behind (subst (All (IsToken g)) e k) in
      let n = w.nonterminal r h in
      omega (arith, l, n)

  new_in_rest : (mid : List ℕ) → front ≡ s.before ++ mid
      → Cut (body_of g s.rule) s.after mid (left_of g r) behind
      → Valid g (reverse front) r 0 (ahead u)
  new_in_rest mid e (inl q) = new_inside mid q.0 e q.1 q.2
  new_in_rest mid e (inr q) = absurd (new_behind q.0 q.2)

  new_at : Cut s.before (body_of g s.rule ++ s.after) front (left_of g r) behind
      → Valid g (reverse front) r 0 (ahead u)
  new_at (inl q) = new_before q.0 q.1 q.2
  new_at (inr q) = new_in_rest q.0 q.1 (cut (body_of g s.rule) s.after q.0 (left_of g r) behind q.2)

-- a nonterminal of such a form has its rules begin there
pub valid_new : {g : ContextFree} {x : List ℕ} → WellFormed g → Sent g x → NewAt g x
valid_new w (begins e) = new_at_start w e
valid_new {g = g} w (goes d s k) =
    λ front r behind u f h y. new_at w d s k (valid_new w d) front r behind u h y
    (cut s.before (body_of g s.rule ++ s.after) front (left_of g r) behind (sym s.to ∙ f))
