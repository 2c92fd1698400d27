-- A tree has one meaning, and one first mistake.
use Rattle.std.proofs.Common.{ℕ, zero, suc, Bool, true, false, ◌≡◌, ◌<◌, ◌≤◌, ◌⊎◌, ◌↔◌, inl, inr}
use Rattle.std.proofs.Common.{List, [], ◌∷◌, length, Option, Some, None, refl, sym, ◌∙◌, ap, subst}
use Rattle.std.proofs.Common.{arith, get_or}
use Rattle.std.specs.List.{slice_get}
use Rattle.std.proofs.lemmas.Bool.{cases_order}
use Rattle.ydeclarations.specs.declared.mistake.Mistake.{Mistake}
use Rattle.ydeclarations.specs.Elaboration.{bare_of, own_numbers, rules, symbols, token_precedences}
use Rattle.ysymbols.specs.Forms.{IsReachable}
use Rattle.ysymbols.specs.Grammar.{GrammarValue}
use Rattle.ygrammar.specs.Meaning.{IsMeaning}
use Rattle.ydeclarations.specs.Mistakes.{HasNone, Holds, IsFirst}
use Rattle.ygrammar.specs.Numbers.{AreNumbers, IsLeast, IsOwn}
use Rattle.ysyntax.specs.Tree.{Tree}
use Rattle.ygrammar.proofs.LastTokens.{one_precedences}

-- ---- lists

-- lists of one length with the same elements are the same
same_gets : {A : Type 0} (xs ys : List A) → length xs ≡ length ys →
    ((i : ℕ) → i < length xs → slice_get xs i ≡ slice_get ys i) → xs ≡ ys
same_gets [] [] e f = refl
same_gets [] (y ∷ ys) e f = absurd (omega arith)
same_gets (x ∷ xs) [] e f = absurd (omega arith)
same_gets (x ∷ xs) (y ∷ ys) e f = ap (λ (z : _). z ∷ xs)
    (ap (λ (o : Option _). elim o [ None ↦ x | Some z ↦ z ]) (f 0 (omega arith))) ∙ ap
    (λ (zs : List _). y ∷ zs) (same_gets xs ys (omega arith) (λ i h. f (suc i) (omega arith)))

-- an element within is there
gets : {A : Type 0} (xs : List A) (i : ℕ) → i < length xs → (x : A) × (slice_get xs i ≡ Some x)
gets [] i h = absurd (omega arith)
gets (x ∷ xs) zero h = (x, refl)
gets (x ∷ xs) (suc i) h = gets xs i (omega arith)

-- ---- numbers

-- up to i the numbers are the same
abbrev SameBelow : List ℕ → List ℕ → ℕ → Type 0
SameBelow ns ms i = (j : ℕ) → j < i → slice_get ns j ≡ slice_get ms j

-- none is given a number below that of the other
not_below : (own : List (Option ℕ)) (ns ms : List ℕ) (i a b : ℕ) → SameBelow ns ms i →
    slice_get own i ≡ Some None → IsLeast own ns i a → IsLeast own ms i b → a < b → ⊥
not_below own ns ms i a b s e x y h = go (y.least a x.low h)
  where
    go : IsOwn own a ⊎ ((j : ℕ) × (j < i) × (slice_get own j ≡ Some None) ×
        (slice_get ms j ≡ Some a)) → ⊥
    go (inl o) = x.free o
    go (inr (j, l, n, g)) = let k : a < a = x.above j a l n (s j l ∙ g) in absurd (omega arith)

least_one : (own : List (Option ℕ)) (ns ms : List ℕ) (i a b : ℕ) → SameBelow ns ms i →
    slice_get own i ≡ Some None → IsLeast own ns i a → IsLeast own ms i b → a ≡ b
least_one own ns ms i a b s e x y = go (cases_order a b)
  where
    go : (a ≡ b) ⊎ ((a < b) ⊎ (b < a)) → a ≡ b
    go (inl h) = h
    go (inr (inl h)) = absurd (not_below own ns ms i a b s e x y h)
    go (inr (inr h)) = absurd (not_below own ms ns i b a (λ j l. sym (s j l)) e y x h)

abbrev some_of : ℕ → Option ℕ
some_of n = Some n

next_same : (own : List (Option ℕ)) (ns ms : List ℕ) → AreNumbers own ns → AreNumbers own ms →
    (i : ℕ) → i < length own → SameBelow ns ms i → slice_get ns i ≡ slice_get ms i
next_same own ns ms x y i h s = go (gets own i h)
  where
    go : (o : Option ℕ) × (slice_get own i ≡ Some o) → slice_get ns i ≡ slice_get ms i
    go (Some m, e) = x.kept i m e ∙ sym (y.kept i m e)
    go (None, e) =
        let a = gets ns i (subst (λ n. i < n) (sym x.each) h) in
        let b = gets ms i (subst (λ n. i < n) (sym y.each) h) in
        a.1 ∙ ap some_of (least_one own ns ms i a.0 b.0 s e (x.given i a.0 e a.1)
        (y.given i b.0 e b.1)) ∙ sym b.1

below_same : (own : List (Option ℕ)) (ns ms : List ℕ) → AreNumbers own ns → AreNumbers own ms →
    (i : ℕ) → i ≤ length own → SameBelow ns ms i
below_same own ns ms x y zero h j l = absurd (omega arith)
below_same own ns ms x y (suc i) h j l = go (cases_order j i)
    (below_same own ns ms x y i (omega arith))
  where
    go : (j ≡ i) ⊎ ((j < i) ⊎ (i < j)) → SameBelow ns ms i → slice_get ns j ≡ slice_get ms j
    go (inl e) s = subst (λ k. slice_get ns k ≡ slice_get ms k) (sym e)
        (next_same own ns ms x y i (omega arith) s)
    go (inr (inl k)) s = s j k
    go (inr (inr k)) s = absurd (omega arith)

-- the tokens have one list of numbers
pub one_numbers : (own : List (Option ℕ)) (ns ms : List ℕ) → AreNumbers own ns → AreNumbers own ms →
    ns ≡ ms
one_numbers own ns ms x y = same_gets ns ms (x.each ∙ sym y.each)
    (λ i h. below_same own ns ms x y (length own) (omega arith) i (subst (λ n. i < n) x.each h))

-- ---- marks

-- a thing that is marked exactly where it holds is marked in one way
pub one_marks : (P : ℕ → Type 0) (n : ℕ) (xs ys : List Bool) → length xs ≡ n → length ys ≡ n →
    ((s : ℕ) → s < n → (get_or xs s false ≡ true) ↔ P s) →
    ((s : ℕ) → s < n → (get_or ys s false ≡ true) ↔ P s) → xs ≡ ys
one_marks P n [] [] a b f g = refl
one_marks P n [] (y ∷ ys) a b f g = absurd (omega arith)
one_marks P n (x ∷ xs) [] a b f g = absurd (omega arith)
one_marks P n (x ∷ xs) (y ∷ ys) a b f g =
    ap (λ (z : Bool). z ∷ xs) (same_mark x y (λ h. (g 0 (omega arith)).1 ((f 0 (omega arith)).0 h))
    (λ h. (f 0 (omega arith)).1 ((g 0 (omega arith)).0 h)))
    ∙ ap (λ (zs : List Bool). y ∷ zs) (one_marks (λ s. P (suc s)) (length xs) xs ys refl
    (omega arith) (λ s h. f (suc s) (omega arith)) (λ s h. g (suc s) (omega arith)))
  where
    same_mark : (c d : Bool) → (c ≡ true → d ≡ true) → (d ≡ true → c ≡ true) → c ≡ d
    same_mark true d p q = sym (p refl)
    same_mark false true p q = q refl
    same_mark false false p q = refl

-- ---- the meaning

-- a tree means one grammar
pub one_meaning : (t : Tree) (g h : GrammarValue) → IsMeaning t g → IsMeaning t h → g ≡ h
one_meaning t g h x y =
    let numbers = one_numbers (own_numbers t) g.numbers h.numbers x.numbers y.numbers in
    let precedences = one_precedences (symbols t) (token_precedences t) (rules t)
    g.rule_precedences x.of_rules ∙ sym (one_precedences (symbols t) (token_precedences t)
    (rules t) h.rule_precedences y.of_rules) in
    let reachable = one_marks (IsReachable (bare_of t)) (length (symbols t)) g.reachable
    h.reachable x.reachable.each y.reachable.each x.reachable.exact y.reachable.exact in
    λ i. record {
      bare = (x.bare ∙ sym y.bare) i;
      names = (x.names ∙ sym y.names) i;
      numbers = numbers i;
      token_precedences = (x.precedences ∙ sym y.precedences) i;
      rule_precedences = precedences i;
      texts = (x.texts ∙ sym y.texts) i;
      reachable = reachable i;
    }

-- ---- the first mistake

-- one mistake is the first
pub one_first : (t : Tree) (fs : List Mistake) (m n : Mistake) → IsFirst t fs m → IsFirst t fs n →
    m ≡ n
one_first t [] m n x y = absurd x
one_first t (f ∷ fs) m n (inl x) (inl y) = sym x.0 ∙ y.0
one_first t (f ∷ fs) m n (inl x) (inr y) = absurd (y.1 (subst (Holds t) (sym x.0) x.1))
one_first t (f ∷ fs) m n (inr x) (inl y) = absurd (x.1 (subst (Holds t) (sym y.0) y.1))
one_first t (f ∷ fs) m n (inr x) (inr y) = one_first t fs m n x.2 y.2

-- without a mistake, there is no first one
pub none_first : (t : Tree) (fs : List Mistake) (m : Mistake) → HasNone t fs → IsFirst t fs m → ⊥
none_first t [] m h x = x
none_first t (f ∷ fs) m h (inl x) = h.0 (subst (Holds t) (sym x.0) x.1)
none_first t (f ∷ fs) m h (inr x) = none_first t fs m h.1 x.2
