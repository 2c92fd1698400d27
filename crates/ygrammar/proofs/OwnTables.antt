-- The table of numbers is that of the file.
use Rattle.std.proofs.Common.{ℕ, ◌≡◌, ◌<◌, ◌⊎◌, inl, inr, List, [], ◌∷◌, ◌++◌, length}
use Rattle.std.proofs.Common.{Option, Some, None, refl, sym, ◌∙◌, ap}
use Rattle.std.proofs.Common.{subst, arith, get_or, false, is_some, true}
use Rattle.std.specs.List.{Contains, flat_map}
use Rattle.std.proofs.lemmas.Option.{get_or_from_slice_get}
use Rattle.ydeclarations.specs.declared.mistake.Mistake.TheVariants as mistakes
use Rattle.ydeclarations.specs.Elaboration.{Listing, appearances, identifiers_of, uses}
use Rattle.ydeclarations.specs.Elaboration.{digits_number}
use Rattle.ydeclarations.specs.Elaboration.{first_or, listings, option_list, own_number}
use Rattle.ydeclarations.specs.Elaboration.{own_numbers, said_of}
use Rattle.ydeclarations.specs.Elaboration.{tokens}
use Rattle.ydeclarations.specs.Elaboration.{usual_of}
use Rattle.ydeclarations.specs.Mistakes.{Clashes, Holds}
use Rattle.ysymbols.specs.Names.{Name, number_in}
use Rattle.ysymbols.specs.Grammar.{number_bound, greatest_number}
use Rattle.ygrammar.specs.Numbers.{IsOwn}
use Rattle.ydeclarations.specs.Owned.{AllFit, AllSmall, IsFit, OwnSoFar, TellsNumbers, keep}
use Rattle.ydeclarations.specs.Told.{IsTold}
use Rattle.ysyntax.specs.Tree.{Identifier, Tree}
use Rattle.ysymbols.proofs.NameSteps.{false_true}
use Rattle.ydeclarations.proofs.TokenSteps.{by_numbers}
use Rattle.ydeclarations.proofs.GivenTables.{distinct_tokens, not_twice, said_token}

pub own_start : (t : Tree) (table : List (Option ℕ)) → IsTold digits_number (tokens t)
    (listings t) table → OwnSoFar (tokens t) table (usual_of (appearances t)) (own_number t)
own_start t table s = record {
  each = s.each;
  said = λ n h. kept (get_or table (number_in (tokens t) n) None) (usual_of (appearances t) n) ∙ ap
      (λ (xs : List ℕ). first_or xs (usual_of (appearances t) n)) (s.said n h);
}
  where
    kept : (o y : Option ℕ) → keep o y ≡ first_or (option_list o ++ []) y
    kept None y = refl
    kept (Some x) y = refl

pub own_list : (t : Tree) (table : List (Option ℕ)) → OwnSoFar (tokens t) table (λ _. None)
    (own_number t) → table ≡ own_numbers t
own_list t table s = by_numbers (own_number t) (tokens t) table None (distinct_tokens t) s.each
    (λ n h. kept (get_or table (number_in (tokens t) n) None) ∙ s.said n h)
  where
    kept : (o : Option ℕ) → o ≡ keep o None
    kept None = refl
    kept (Some x) = refl

pub are_small : (table : List (Option ℕ)) → AllSmall table →
    (m : ℕ) → IsOwn table m → m < number_bound
are_small table h m p = h p.0 m (get_or_from_slice_get table p.0 (Some m) None p.1)

-- no number given is out of range, no token is given two, and no two tokens have one
pub numbers_sound : (t : Tree) (table : List (Option ℕ)) → IsTold digits_number (tokens t)
    (listings t) table → AllFit table → (Clashes (own_numbers t) → ⊥) → Holds t mistakes.BadNumber →
    ⊥
numbers_sound t table s fit apart (inl p) =
    let (n, m, there, wrong) = p in
    let xs : List ℕ = said_of digits_number (listings t) n in
    let h : number_in (tokens t) n < length (tokens t) = said_token digits_number t n
    (let k = there.1 in omega arith) in
    let f : IsFit m = fit (number_in (tokens t) n) m
    (the_one (get_or table (number_in (tokens t) n) None) xs m (s.said n h) there) in
    not_fit m f wrong
  where
    the_one : (o : Option ℕ) (xs : List ℕ) (m : ℕ) → option_list o ++ [] ≡ xs → Contains xs m →
        o ≡ Some m
    the_one o xs m e c = here o (subst (λ (ys : List ℕ). Contains ys m) (sym e) c)
      where
        here : (o : Option ℕ) → Contains (option_list o ++ []) m → o ≡ Some m
        here None c = let k = c.1 in absurd (omega arith)
        here (Some x) (k, l, q) = let z : k ≡ 0 = omega arith in
            ap (λ y. some_of y) (sym (ap (λ j. get_or (x ∷ []) j m) z) ∙ q)
          where
            some_of : ℕ → Option ℕ
            some_of y = Some y

    not_fit : (m : ℕ) → IsFit m → ((m ≡ 0) ⊎ (greatest_number < m)) → ⊥
    not_fit m f (inl e) = let a = f.0 in absurd (omega arith)
    not_fit m f (inr e) = let a = f.1 in absurd (omega arith)
numbers_sound t table s fit apart (inr (inl p)) = not_twice digits_number t table s p
numbers_sound t table s fit apart (inr (inr p)) = apart p

-- the table of own numbers, from what was given
pub own_whole : (t : Tree) (ns : List Name) (d u : List Identifier) (given own : List (Option ℕ)) →
    ns ≡ tokens t → d ++ u ≡ appearances t → IsTold digits_number (tokens t) (listings t) given →
    ((f : Name → Option ℕ) → OwnSoFar ns given (usual_of (d ++ u)) f → OwnSoFar ns own
    (λ _. None) f) → own ≡ own_numbers t
own_whole t ns d u given own e f s h =
    own_list t own (subst (λ (x : List Name). OwnSoFar x own (λ _. None) (own_number t)) e
    (h (own_number t) (subst (λ (is : List Identifier). OwnSoFar ns given (usual_of is)
    (own_number t)) (sym f)
    (subst (λ (x : List Name). OwnSoFar x given (usual_of (appearances t)) (own_number t)) (sym e)
    (own_start t given s)))))

-- the numbers given are those of the tree, or one of them is a mistake
pub told_here : (t : Tree) (ns : List Name) (ls : List Listing) (table : List (Option ℕ))
    (fault : Option ℕ) → ns ≡ tokens t → ls ≡ listings t → TellsNumbers ns [] ls table fault →
    TellsNumbers (tokens t) [] (listings t) table fault
told_here t ns ls table fault e f s =
    subst (λ (x : List Name). TellsNumbers x [] (listings t) table fault) e
    (subst (λ (x : List Listing). TellsNumbers ns [] x table fault) f s)

-- every number that is given is in range, and each token is given one or none
pub all_given : (t : Tree) (table : List (Option ℕ)) (fault : Option ℕ) → is_some fault ≡ false →
    TellsNumbers (tokens t) [] (listings t) table fault →
    IsTold digits_number (tokens t) (listings t) table × AllFit table
all_given t table (Some i) h s = absurd (false_true (sym h))
all_given t table None h s = s

-- a number that is given is a mistake
pub bad_given : (t : Tree) (table : List (Option ℕ)) (fault : Option ℕ) → is_some fault ≡ true →
    TellsNumbers (tokens t) [] (listings t) table fault → Holds t mistakes.BadNumber
bad_given t table (Some i) h (inl p) = inl p
bad_given t table (Some i) h (inr p) = inr (inl p)
bad_given t table None h s = absurd (false_true h)

pub appear : (d u : List Identifier) (t : Tree) → d ≡ flat_map identifiers_of t.definitions → u ≡
    uses t →
    d ++ u ≡ appearances t
appear d u t e f = ap (λ (x : List Identifier). x ++ u) e ∙ ap (λ (x : List Identifier).
    flat_map identifiers_of t.definitions ++ x) f
