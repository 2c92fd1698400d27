-- Rounds with marks: one number more in the next round, one fewer in one of the two.
use Rattle.std.proofs.Common.{ℕ, zero, suc, Bool, true, false, ◌≡◌, ◌≢◌, ◌<◌, ◌≤◌, ◌+◌, ◌*◌}
use Rattle.std.proofs.Common.{◌⊎◌, List, [], ◌∷◌, ◌++◌, length, get_or, refl, sym, ◌∙◌, ap, subst}
use Rattle.std.proofs.Common.{inl, inr, arith, cond, get_or-set_same, get_or-set_other}
use Rattle.std.proofs.Math.ListN.{set, length-set}
use Rattle.std.specs.List.{Contains}
use Rattle.std.proofs.lemmas.List.Elements.{Contains-push, Contains-push_cases}
use Rattle.std.proofs.lemmas.List.Elements.{Contains-append_left}
use Rattle.std.proofs.lemmas.List.Sums.{sum_by-set, count_by-le-length}
use Rattle.std.proofs.lemmas.Nat.{mul-add-lt}
use Rattle.ybitsets.specs.Marks.{Has}
use Rattle.ybitsets.specs.Waiting.{InEither, AreListed, AreOut, IsOut, waiting_in}
use Rattle.std.proofs.lemmas.Bool.{cases_eq}

true_false : true ≡ false → ⊥
true_false e = absurd (cc)

pub marked_within : (m : List Bool) (i : ℕ) → Has m i → i < length m
marked_within [] i e = absurd (cc)
marked_within (b ∷ m) zero e = omega arith
marked_within (b ∷ m) (suc i) e = let z = marked_within m i e in omega arith

-- where p has no mark any more, any other has its own still
pub marked_still : (m : List Bool) (p r : ℕ) → r ≢ p → Has m r → Has (set m p false) r
marked_still m p r q h = get_or-set_other m p r false false q ∙ h

-- what has a mark where p has none is another
unmarked_other : (m : List Bool) (p r : ℕ) → get_or m p false ≡ false → Has m r → r ≢ p
unmarked_other m p r e h q = true_false (sym (subst (Has m) q h) ∙ e)

-- a number without a mark is out
pub out_unmarked : (m : List Bool) (a b a' b' : List ℕ) (p : ℕ) → AreListed m a b →
    IsOut a b a' b' p → get_or m p false ≡ false → AreListed m a' b'
out_unmarked m a b a' b' p l o e = record {
  listed = λ r h. other r (unmarked_other m p r e h) (o.rest r (l.listed r h));
  within = λ r h. l.within r (o.old r h);
}
  where
    other : (r : ℕ) → r ≢ p → (r ≡ p) ⊎ InEither a' b' r → InEither a' b' r
    other r q (inl s) = absurd (q s)
    other r q (inr s) = s

-- a number is out, and its mark
pub out_marked : (m : List Bool) (a b a' b' : List ℕ) (p : ℕ) → AreListed m a b →
    IsOut a b a' b' p → AreListed (set m p false) a' b'
out_marked m a b a' b' p l o = record {
  listed = λ r h. go r (cases_eq r p) h;
  within = λ r h. let e = length-set m p false in let z = l.within r (o.old r h) in omega arith;
}
  where
    other : (r : ℕ) → r ≢ p → (r ≡ p) ⊎ InEither a' b' r → InEither a' b' r
    other r q (inl s) = absurd (q s)
    other r q (inr s) = s

    go : (r : ℕ) → (r ≡ p) ⊎ (r ≢ p) → Has (set m p false) r → InEither a' b' r
    go r (inl q) h = absurd (true_false (sym (subst (Has (set m p false)) q h) ∙
        get_or-set_same m p false false (l.within p o.there)))
    go r (inr q) h = other r q
        (o.rest r (l.listed r (sym (get_or-set_other m p r false false q) ∙ h)))

-- a number more in the next round, and its mark
pub put_marked : (m : List Bool) (a b : List ℕ) (p : ℕ) → AreListed m a b → p < length m →
    AreListed (set m p true) a (b ++ p ∷ [])
put_marked m a b p l h = record {
  listed = λ r x. go r (cases_eq r p) x;
  within = λ r x. let e = length-set m p true in let z = inside r x in omega arith;
}
  where
    more : (r : ℕ) → InEither a b r → InEither a (b ++ p ∷ []) r
    more r (inl c) = inl c
    more r (inr c) = inr (Contains-append_left b (p ∷ []) r c)

    go : (r : ℕ) → (r ≡ p) ⊎ (r ≢ p) → Has (set m p true) r → InEither a (b ++ p ∷ []) r
    go r (inl q) x = inr
        (subst (λ i. Contains (b ++ p ∷ []) i) (sym q) (Contains-push b p))
    go r (inr q) x = more r (l.listed r (sym (get_or-set_other m p r true false q) ∙ x))

    pushed : (r : ℕ) → Contains b r ⊎ (p ≡ r) → r < length m
    pushed r (inl c) = l.within r (inr c)
    pushed r (inr q) = subst (λ i. i < length m) q h

    inside : (r : ℕ) → InEither a (b ++ p ∷ []) r → r < length m
    inside r (inl c) = l.within r (inl c)
    inside r (inr c) = pushed r (Contains-push_cases b p r c)

-- where both lists are over, none has a mark
pub none_marked : (m : List Bool) (a b : List ℕ) → AreListed m a b → AreOut a b → (p : ℕ) →
    Has m p → ⊥
none_marked m a b l o p h = o p (l.listed p h)

no_element : {r : ℕ} → Contains {X = ℕ} [] r → ⊥
no_element c = let h = c.1 in omega arith

-- one element was taken from the end of the first list
pub out_first : (a b c : List ℕ) (p : ℕ) → a ≡ c ++ p ∷ [] → IsOut a b c b p
out_first a b c p e = record {
  there = inl (subst (λ xs. Contains xs p) (sym e) (Contains-push c p));
  rest = λ r. rest r;
  old = λ r. old r;
  fewer = (let z = ap (λ (xs : List ℕ). length xs) e ∙ length_more c in omega arith);
}
  where
    length_more : (c : List ℕ) → length (c ++ p ∷ []) ≡ length c + 1
    length_more [] = refl
    length_more (x ∷ c) = let z = length_more c in omega arith

    cases : (r : ℕ) → Contains c r ⊎ (p ≡ r) → (r ≡ p) ⊎ InEither c b r
    cases r (inl x) = inr (inl x)
    cases r (inr x) = inl (sym x)

    rest : (r : ℕ) → InEither a b r → (r ≡ p) ⊎ InEither c b r
    rest r (inl x) = cases r (Contains-push_cases c p r (subst (λ xs. Contains xs r) e x))
    rest r (inr x) = inr (inr x)

    old : (r : ℕ) → InEither c b r → InEither a b r
    old r (inl x) = inl
        (subst (λ xs. Contains xs r) (sym e) (Contains-append_left c (p ∷ []) r x))
    old r (inr x) = inr x

-- the lists may change places
pub out_turned : (a b a' b' : List ℕ) (p : ℕ) → IsOut a b a' b' p → IsOut b a a' b' p
out_turned a b a' b' p o = record {
  there = turn p o.there;
  rest = λ r x. o.rest r (turn_back r x);
  old = λ r x. turn r (o.old r x);
  fewer = (let z = o.fewer in omega arith);
}
  where
    turn : (r : ℕ) → InEither a b r → InEither b a r
    turn r (inl x) = inr x
    turn r (inr x) = inl x

    turn_back : (r : ℕ) → InEither b a r → InEither a b r
    turn_back r (inl x) = inr x
    turn_back r (inr x) = inl x

-- two lists without elements are over
pub over : (a b : List ℕ) → a ≡ [] → b ≡ [] → AreOut a b
over a b e f p (inl c) = no_element (subst (λ xs. Contains xs p) e c)
over a b e f p (inr c) = no_element (subst (λ xs. Contains xs p) f c)

fewer_wait : (m : List Bool) (i : ℕ) → Has m i → waiting_in (set m i false) + 1 ≡ waiting_in m
fewer_wait m i e =
    let z = sum_by-set (λ (b : Bool). cond b 1 0) m i false false (marked_within m i e) in
    let y = ap {B = ℕ} (λ (b : Bool). cond b 1 0) e in
    omega (arith, z, y)

less : (r s k a b : ℕ) → (s < r) ⊎ (s ≡ r) → (s < r → b ≤ k) → (s ≡ r → b < a) →
    s * (k + 1) + b < r * (k + 1) + a
less r s k a b (inl h) f g = let z = f h in let y = mul-add-lt s (k + 1) b r h (omega arith) in
    omega arith
less r s k a b (inr h) f g = let z = g h in let y = ap (λ (t : ℕ). t * (k + 1)) h in omega arith

-- One was taken, and others were put: what is left of the work gets less, or no more and nothing
-- was put.
pub nearer : (a b : ℕ) (v w x : List Bool) (p : ℕ) → Has v p → w ≡ set v p false →
    length x ≡ length w → b ≤ a → (b < a) ⊎ (x ≡ w) →
    b * (length x + 1) + waiting_in x < a * (length v + 1) + waiting_in v
nearer a b v w x p h ew ex fewer calm =
    let em : length x ≡ length v =
    ex ∙ ap (λ (y : List Bool). length y) ew ∙ length-set v p false in
    subst (λ k. b * (k + 1) + waiting_in x < a * (length v + 1) + waiting_in v) (sym em) (go em calm)
  where
    le_or : (a b : ℕ) → a ≤ b → (a < b) ⊎ (a ≡ b)
    le_or a b h = grind arith

    few : length x ≡ length v → waiting_in x ≤ length v
    few em = let z = count_by-le-length (λ (b : Bool). b) x in omega (arith, z, em)

    go : length x ≡ length v → (b < a) ⊎ (x ≡ w) →
        b * (length v + 1) + waiting_in x < a * (length v + 1) + waiting_in v
    go em (inl z) = less a b (length v) (waiting_in v) (waiting_in x) (inl z) (λ _. few em)
        (λ q. absurd (omega arith))
    go em (inr z) =
        let eq = ap (λ (y : List Bool). waiting_in y) (z ∙ ew) in
        let one = fewer_wait v p h in
        less a b (length v) (waiting_in v) (waiting_in x) (le_or b a fewer) (λ _. few em)
        (λ _. omega (arith, eq, one))

-- a list of no element, said as a vector that gave none says it
pub nothing : (xs : List ℕ) (n : ℕ) → n ≡ length xs → (0 < n → false ≡ true) → xs ≡ []
nothing [] n e h = refl
nothing (x ∷ xs) n e h = absurd (true_false (sym (h (omega arith))))

pub nothing_left : (xs ys : List ℕ) → xs ≡ ys ++ [] → xs ≡ [] → ys ≡ []
nothing_left xs [] e f = refl
nothing_left xs (y ∷ ys) e f =
    let z = ap (λ (l : List ℕ). length l) (sym f ∙ e) in absurd (omega arith)
