-- Runs of bytes that pass a test, and the first pair of two bytes.
use Rattle.std.proofs.Common.{ℕ, ◌≡◌, ◌≤◌, ◌+◌, Bool, true, false, ◌&&◌, eqb, List, [], ◌∷◌, ◌++◌}
use Rattle.std.proofs.Common.{length, drop, Some, refl, sym, ap, ◌∙◌, subst, arith, append_assoc}
use Rattle.std.proofs.lemmas.Bool.{eq-eqb, eqb-true, and_parts, or_parts, or_from, and_right}
use Rattle.std.proofs.lemmas.Bool.{cond-true, cond-false}
use Rattle.std.proofs.lemmas.List.{append_cancel_right}
use Rattle.ylexemes.specs.Bytes.{all_pass, begins, has_pair, IsBetween}
use Rattle.ylexemes.specs.Views.{pair_after}

pub heads_are : (a b : ℕ) (x y : List ℕ) → a ∷ x ≡ b ∷ y → a ≡ b
heads_are a b x y e = cc

pub tails_are : (a b : ℕ) (x y : List ℕ) → a ∷ x ≡ b ∷ y → x ≡ y
tails_are a b x y e = cc

pub begins_append : (p : ℕ → Bool) (b : ℕ) (x y : List ℕ) → begins p (x ++ b ∷ []) ≡ begins p
    (x ++ b ∷ y)
begins_append p b [] y = refl
begins_append p b (a ∷ x) y = refl

pub run_one : (p : ℕ → Bool) (n m x y : List ℕ) → all_pass p n ≡ true → all_pass p m ≡ true →
    begins p x ≡ false → begins p y ≡ false → n ++ x ≡ m ++ y → n ≡ m
run_one p [] [] x y hn hm hx hy e = refl
run_one p [] (b ∷ m) x y hn hm hx hy e =
    let t : begins p x ≡ p b = ap (begins p) e in
    let u = (and_parts (p b) (all_pass p m) hm).0 in cc
run_one p (a ∷ n) [] x y hn hm hx hy e =
    let t : p a ≡ begins p y = ap (begins p) e in
    let u = (and_parts (p a) (all_pass p n) hn).0 in cc
run_one p (a ∷ n) (b ∷ m) x y hn hm hx hy e =
    let h : a ≡ b = heads_are a b (n ++ x) (m ++ y) e in
    let t : n ≡ m = run_one p n m x y (and_parts (p a) (all_pass p n) hn).1
    (and_parts (p b) (all_pass p m) hm).1 hx hy (tails_are a b (n ++ x) (m ++ y) e) in
    cc

-- a whole run is the longest
pub run_le : (p : ℕ → Bool) (n m x y : List ℕ) → begins p x ≡ false → all_pass p m ≡ true →
    n ++ x ≡ m ++ y → length m ≤ length n
run_le p n [] x y hx hm e = omega arith
run_le p [] (b ∷ m) x y hx hm e =
    let t : begins p x ≡ p b = ap (begins p) e in
    let u = (and_parts (p b) (all_pass p m) hm).0 in
    let w : false ≡ true = cc in cc
run_le p (a ∷ n) (b ∷ m) x y hx hm e =
    let l = run_le p n m x y hx (and_parts (p b) (all_pass p m) hm).1
    (tails_are a b (n ++ x) (m ++ y) e) in omega (arith, l)

-- texts of one length at one place are one text
pub same_text : (t u r s : List ℕ) → length t ≡ length u → t ++ r ≡ u ++ s → (t ≡ u) × (r ≡ s)
same_text [] [] r s l e = (refl, e)
same_text [] (b ∷ u) r s l e = absurd (let w : length u + 1 ≡ 0 = omega arith in omega arith)
same_text (a ∷ t) [] r s l e = absurd (let w : length t + 1 ≡ 0 = omega arith in omega arith)
same_text (a ∷ t) (b ∷ u) r s l e =
    let h = same_text t u r s (omega arith) (tails_are a b (t ++ r) (u ++ s) e) in
    let h0 = h.0 in let h1 = h.1 in
    let k : a ≡ b = heads_are a b (t ++ r) (u ++ s) e in
    (cc, h1)

-- ---- the first pair

pub pair_found : (c d : ℕ) (x r : List ℕ) → has_pair c d (x ++ c ∷ []) ≡ false → pair_after c d
    (x ++ c ∷ d ∷ r) ≡ Some r
pair_found c d [] r h = rw (eq-eqb c c refl, eq-eqb d d refl) refl
pair_found c d (a ∷ x) r h =
    let parts = or_parts (eqb a c && begins (λ y. eqb y d) (x ++ c ∷ []))
    (has_pair c d (x ++ c ∷ [])) h in
    let test : (eqb a c && begins (λ y. eqb y d) (x ++ c ∷ d ∷ r)) ≡ false = ap (λ t. eqb a c && t)
    (sym (begins_append (λ y. eqb y d) c x (d ∷ r))) ∙ parts.0 in
    rw test (pair_found c d x r parts.1)

pub record Pair (c d : ℕ) (bytes rest : List ℕ) : Type 0 where
  pub inside : List ℕ
  pub whole : bytes ≡ inside ++ c ∷ d ∷ rest
  pub first : has_pair c d (inside ++ c ∷ []) ≡ false

pub pair_splits : (c d : ℕ) (bytes rest : List ℕ) → pair_after c d bytes ≡ Some rest →
    Pair c d bytes rest
pair_splits c d [] rest e = cc
pair_splits c d (b ∷ bytes) rest e = go (eqb b c && begins (λ y. eqb y d) bytes) refl
    (pair_splits c d bytes rest)
  where
    at_pair : (z : List ℕ) → begins (λ y. eqb y d) z ≡ true → z ≡ d ∷ drop 1 z
    at_pair [] h = cc
    at_pair (y ∷ z) h = let w : y ≡ d = eqb-true y d h in cc

    go : (t : Bool) → (eqb b c && begins (λ y. eqb y d) bytes) ≡ t →
        (pair_after c d bytes ≡ Some rest → Pair c d bytes rest) → Pair c d (b ∷ bytes) rest
    go true h again =
        let parts = and_parts (eqb b c) (begins (λ y. eqb y d) bytes) h in
        let k : b ≡ c = eqb-true b c parts.0 in
        let z = at_pair bytes parts.1 in
        let f : Some (drop 1 bytes) ≡ Some rest =
        sym (cond-true _ (Some (drop 1 bytes)) (pair_after c d bytes) h) ∙ e in
        let g : drop 1 bytes ≡ rest = cc in
        record {
          inside = [];
          whole = cc;
          first = or_from (eqb c c && false) false
              (and_right (eqb c c) false refl) refl;
        }
    go false h again =
        let f : pair_after c d bytes ≡ Some rest =
        sym (cond-false _ (Some (drop 1 bytes)) (pair_after c d bytes) h) ∙ e in
        let p = again f in
        let w : begins (λ y. eqb y d) (p.inside ++ c ∷ []) ≡ begins (λ y. eqb y d) bytes =
        begins_append (λ y. eqb y d) c p.inside (d ∷ rest) ∙ ap (begins (λ y. eqb y d))
        (sym p.whole) in
        record {
          inside = b ∷ p.inside;
          whole = ap (λ t. b ∷ t) p.whole;
          first = or_from (eqb b c && begins (λ y. eqb y d) (p.inside ++ c ∷ []))
              (has_pair c d (p.inside ++ c ∷ [])) (ap (λ t. eqb b c && t) w ∙ h) p.first;
        }

-- what follows a text from one pair to the first of another
pub between_after : (a b c d : ℕ) (text rest after : List ℕ) → IsBetween a b c d text →
    text ++ rest ≡ a ∷ b ∷ after → pair_after c d after ≡ Some rest
between_after a b c d text rest after h e =
    let w : text ++ rest ≡ a ∷ b ∷ (h.inside ++ c ∷ d ∷ rest) = ap (λ t. t ++ rest) h.whole ∙ ap
    (λ t. a ∷ b ∷ t) (append_assoc h.inside (c ∷ d ∷ []) rest) in
    let v : h.inside ++ c ∷ d ∷ rest ≡ after = cc in
    subst (λ t. pair_after c d t ≡ Some rest) v (pair_found c d h.inside rest h.first)

pub between_begins : (a b c d : ℕ) (text : List ℕ) → IsBetween a b c d text → (more : List ℕ) ×
    (text ≡ a ∷ b ∷ more)
between_begins a b c d text h = (h.inside ++ c ∷ d ∷ [], h.whole)

pub between_made : (a b c d : ℕ) (after rest : List ℕ) → pair_after c d after ≡ Some rest →
    (text : List ℕ) × (a ∷ b ∷ after ≡ text ++ rest) × IsBetween a b c d text
between_made a b c d after rest e =
    let p = pair_splits c d after rest e in (
      a ∷ b ∷ (p.inside ++ c ∷ d ∷ []),
      ap (λ t. a ∷ b ∷ t)
          (p.whole ∙ sym (append_assoc p.inside (c ∷ d ∷ []) rest)),
      record { inside = p.inside; whole = refl; first = p.first },
    )

pub between_one : (a b c d : ℕ) (t u r s : List ℕ) → IsBetween a b c d t → IsBetween a b c d u →
    t ++ r ≡ u ++ s → (t ≡ u) × (r ≡ s)
between_one a b c d t u r s h k e =
    let (after, w) = between_begins a b c d t h in
    let f = between_after a b c d t r (after ++ r) h (ap (λ z. z ++ r) w) in
    let g = between_after a b c d u s (after ++ r) k (sym e ∙ ap (λ z. z ++ r) w) in
    let v : r ≡ s = cc in
    (append_cancel_right t u r (e ∙ ap (λ z. u ++ z) (sym v)), v)
