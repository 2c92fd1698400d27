-- The names and literals of two lists, noted one after another.
use Rattle.std.proofs.Common.{filter, Bool, ◌≡◌, cond, List, [], ◌∷◌, ◌++◌, map, refl, sym, ◌∙◌, ap}
use Rattle.std.proofs.lemmas.List.Elements.{filter-append}
use Rattle.std.proofs.lemmas.List.{map-append}
use Rattle.ysymbols.specs.Names.{Name, is_among, with_names}
use Rattle.ydeclarations.specs.Printed.{printed_name}
use Rattle.ysyntax.specs.Tree.{Identifier}
use Rattle.ysymbols.proofs.NameSteps.{all_append, among_all}

filter_same : (p q : Name → Bool) → ((n : Name) → p n ≡ q n) → (ns : List Name) →
    filter p ns ≡ filter q ns
filter_same p q h [] = refl
filter_same p q h (n ∷ ns) = ap (λ b. cond b (n ∷ filter p ns) (filter p ns)) (h n) ∙ ap
    (λ xs. cond (q n) (n ∷ xs) xs) (filter_same p q h ns)

-- both halves of the names and literals are noted
pub both_noted : (first found one two : List Name) (d u : List Identifier) →
    one ≡ with_names first (filter (is_among found) (map printed_name d)) →
    two ≡ with_names one (filter (is_among found) (map printed_name u)) → two ≡ with_names first
    (filter (is_among found) (map printed_name (d ++ u)))
both_noted first found one two d u f g =
    g
    ∙ ap (λ ns. with_names ns (filter (is_among found) (map printed_name u))) f
    ∙ sym (all_append first (filter (is_among found) (map printed_name d))
    (filter (is_among found) (map printed_name u)))
    ∙ ap (with_names first) (sym (filter-append (is_among found) (map printed_name d) (map
    printed_name u)) ∙
    ap (filter (is_among found)) (sym (map-append printed_name d u)))

-- what is among the names that were found is among all of them
pub tokens_noted : (all first found two : List Name) (is : List Identifier) →
    found ≡ with_names [] all →
    two ≡ with_names first (filter (is_among found) (map printed_name is)) → two ≡ with_names first
    (filter (is_among all) (map printed_name is))
tokens_noted all first found two is e f = f ∙ ap (with_names first)
    (filter_same (is_among found) (is_among all)
    (λ n. ap (λ ns. is_among ns n) e ∙ among_all [] all n) (map printed_name is))
