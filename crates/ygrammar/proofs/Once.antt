-- No two symbols have one name, and no two tokens one number.
use Rattle.std.proofs.Common.{ℕ, ◌≡◌, ◌<◌, ◌⊎◌, inl, inr, filter, List, [], ◌∷◌, ◌++◌, map, Option}
use Rattle.std.proofs.Common.{Some, None, codes, refl, sym, ◌∙◌, ap, subst, arith, get_or}
use Rattle.std.specs.List.{slice_get}
use Rattle.std.proofs.lemmas.Bool.{cases_order}
use Rattle.std.proofs.lemmas.Option.{get_or_from_slice_get, slice_get-get_or, slice_get_within}
use Rattle.ydeclarations.specs.declared.mistake.Mistake.TheVariants.{BadNumber}
use Rattle.ydeclarations.specs.Elaboration.{appearances, listings, own_numbers, rule_left, rules}
use Rattle.ydeclarations.specs.Elaboration.{symbols, token_names_of, tokens}
use Rattle.ydeclarations.specs.Mistakes.{Clashes, HasNone, Holds, order}
use Rattle.ysymbols.specs.Names.{Name, is_among, with_names, number_in}
use Rattle.ydeclarations.specs.Printed.{printed_name}
use Rattle.ygrammar.specs.Numbers.{AreNumbers}
use Rattle.ysyntax.specs.Tree.{Tree}
use Rattle.ysymbols.specs.WellFormed.{StandOnce}
use Rattle.ygrammar.proofs.NumberSteps.{some_one}
use Rattle.ydeclarations.proofs.GivenTables.{distinct_tokens}
use Rattle.ydeclarations.proofs.TokenSteps.{Distinct, distinct_all, noted_behind}

-- ---- names

distinct_once : (ns : List Name) → Distinct ns → StandOnce ns
distinct_once ns d i j x e f = sym (own i e) ∙ own j f
  where
    own : (k : ℕ) → slice_get ns k ≡ Some x → number_in ns x ≡ k
    own k q = ap (number_in ns) (sym (get_or_from_slice_get ns k x [] q)) ∙ d k
        (slice_get_within ns k x q)

pub symbols_once : (t : Tree) → StandOnce (symbols t)
symbols_once t = distinct_once (symbols t) (distinct_all (tokens t) (map rule_left (rules t))
    (distinct_tokens t))

-- the end and `error` come first
first_names : (x y : List Name) → (more : List Name) ×
    (with_names (with_names (codes "$end" ∷ codes "error" ∷ []) x) y ≡ codes "$end" ∷ codes
    "error" ∷
    more)
first_names x y =
    let a = noted_behind (codes "$end" ∷ codes "error" ∷ []) x in
    let b = noted_behind (with_names (codes "$end" ∷ codes "error" ∷ []) x) y in
    (a.0 ++ b.0, b.1 ∙ ap (λ (ns : List Name). ns ++ b.0) a.1)

first_symbols : (t : Tree) → (more : List Name) × (symbols t ≡ codes "$end" ∷ codes "error" ∷ more)
first_symbols t = first_names (filter (is_among (token_names_of (listings t) (appearances t)))
    (map printed_name (appearances t))) (map rule_left (rules t))

pub end_name : (t : Tree) → get_or (symbols t) 0 [] ≡ codes "$end"
end_name t = ap (λ (ns : List Name). get_or ns 0 []) (first_symbols t).1

pub error_name : (t : Tree) → get_or (symbols t) 1 [] ≡ codes "error"
error_name t = ap (λ (ns : List Name). get_or ns 1 []) (first_symbols t).1

-- ---- numbers

module _ (own : List (Option ℕ)) (ns : List ℕ) (apart : Clashes own → ⊥) (are : AreNumbers own ns)
    (m : ℕ) where
  -- the number of one before j is that of none at j
  unlike : (i j : ℕ) → i < j → slice_get ns i ≡ Some m → slice_get ns j ≡ Some m → ⊥
  unlike i j l e f = both (get_or own i None) (get_or own j None) (there i e) (there j f)
    where
      there : (k : ℕ) → slice_get ns k ≡ Some m → slice_get own k ≡ Some (get_or own k None)
      there k q = slice_get-get_or own k None
          (subst (λ n. k < n) are.each (slice_get_within ns k m q))

      kept : (k n : ℕ) → slice_get ns k ≡ Some m → slice_get own k ≡ Some (Some n) →
          slice_get own k ≡ Some (Some m)
      kept k n q h = subst (λ a. slice_get own k ≡ Some (Some a))
          (some_one (slice_get ns k) (slice_get ns k) (are.kept k n h) q refl) h

      both : (a b : Option ℕ) → slice_get own i ≡ Some a → slice_get own j ≡ Some b → ⊥
      both (Some a) (Some b) x y = apart (i, j, m, l, kept i a e x, kept j b f y)
      both (Some a) None x y = (are.given j m y f).free (i, kept i a e x)
      both None (Some b) x y = (are.given i m x e).free (j, kept j b f y)
      both None None x y = let k : m < m = (are.given j m y f).above i m l x e in
          absurd (omega arith)

  one_place : (i j : ℕ) → slice_get ns i ≡ Some m → slice_get ns j ≡ Some m → i ≡ j
  one_place i j e f = go (cases_order i j)
    where
      go : (i ≡ j) ⊎ ((i < j) ⊎ (j < i)) → i ≡ j
      go (inl h) = h
      go (inr (inl h)) = absurd (unlike i j h e f)
      go (inr (inr h)) = absurd (unlike j i h f e)

-- the numbers of a tree without mistakes differ
pub numbers_once : (t : Tree) (own : List (Option ℕ)) (ns : List ℕ) → HasNone t order →
    own ≡ own_numbers t → AreNumbers own ns → StandOnce ns
numbers_once t own ns h e a i j m = one_place own ns apart a m i j
  where
    bad_number : Holds t BadNumber → ⊥
    bad_number = h.1.1.1.0

    apart : Clashes own → ⊥
    apart c = bad_number (inr (inr (subst Clashes e c)))
