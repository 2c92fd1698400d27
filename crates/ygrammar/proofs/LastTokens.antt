-- The precedences of rules, by the last tokens of their bodies.
use Rattle.std.proofs.Common.{ℕ, ◌≡◌, ◌<◌, ◌≤◌, ◌⊎◌, inl, inr, Bool, true, false, cond, nat_lt}
use Rattle.std.proofs.Common.{fold, List, [], ◌∷◌, map, length, Option, Some, None, refl, sym, ◌∙◌}
use Rattle.std.proofs.Common.{ap, subst, arith}
use Rattle.std.specs.List.{AllByRecursion}
use Rattle.std.proofs.lemmas.Bool.Decides.{nat_tests}
use Rattle.std.proofs.lemmas.List.Elements.{All-from_recursion, recursion_from_All}
use Rattle.std.proofs.lemmas.List.Sums.{fold-append}
use Rattle.ysymbols.specs.declared.precedence.Precedence.{Precedence}
use Rattle.ydeclarations.specs.Elaboration.{HavePrecedences, IsChosenToken, IsLastToken, Rule}
use Rattle.ydeclarations.specs.Elaboration.{precedence_at}
use Rattle.ysymbols.specs.Names.{Name, number_in}
use Rattle.ygrammar.specs.Numbered.{chosen_token, last_token, rule_precedence}
use Rattle.ysyntax.specs.Tree.{Identifier}

-- ---- the last token of a body

module _ (tokens : ℕ) where
  abbrev later : Option ℕ → ℕ → Option ℕ
  later last s = cond (nat_lt s tokens) (Some s) last

  abbrev NoToken : List ℕ → Type 0
  NoToken xs = AllByRecursion (λ x. tokens ≤ x) xs

  -- none of these is a token, or one is the last
  abbrev Found : Option ℕ → List ℕ → Type 0
  Found last xs = (NoToken xs × (fold later last xs ≡ last)) ⊎ ((s : ℕ) × IsLastToken tokens xs s ×
      (fold later last xs ≡ Some s))

  behind_one : (x s : ℕ) (xs : List ℕ) → IsLastToken tokens xs s → IsLastToken tokens (x ∷ xs) s
  behind_one x s xs l = record {
    before = x ∷ l.before;
    after = l.after;
    whole =
        ap (λ (ys : List ℕ). x ∷ ys) l.whole;
    token = l.token;
    last = l.last;
  }

  found : (last : Option ℕ) (xs : List ℕ) → Found last xs
  found last [] = inl (tt, refl)
  found last (x ∷ xs) = go (nat_lt x tokens) refl (found (Some x) xs) (found last xs)
    where
      is_token : nat_lt x tokens ≡ true → x < tokens
      is_token q = grind (arith, nat_tests)

      is_none : nat_lt x tokens ≡ false → tokens ≤ x
      is_none q = grind (arith, nat_tests)

      go : (b : Bool) → nat_lt x tokens ≡ b → Found (Some x) xs → Found last xs →
          Found last (x ∷ xs)
      go true q (inl h) k = rw q
          (inr (
            x,
            record {
              before = [];
              after = xs;
              whole = refl;
              token = is_token q;
              last =
                  All-from_recursion (λ y. tokens ≤ y) xs h.0;
            },
            h.1,
          ))
      go true q (inr h) k = rw q (inr (h.0, behind_one x h.0 xs h.1, h.2))
      go false q k (inl h) = rw q (inl ((is_none q, h.0), h.1))
      go false q k (inr h) = rw q (inr (h.0, behind_one x h.0 xs h.1, h.2))

  -- what is no token changes nothing
  passed : (last : Option ℕ) (xs : List ℕ) → NoToken xs → fold later last xs ≡ last
  passed last [] h = refl
  passed last (x ∷ xs) h = go (nat_lt x tokens) refl (passed last xs h.1)
    where
      go : (b : Bool) → nat_lt x tokens ≡ b → fold later last xs ≡ last →
          fold later (later last x) xs ≡ last
      go true q k = absurd (let l : tokens ≤ x = h.0 in grind (arith, nat_tests))
      go false q k = rw q k

  one_last : (body : List ℕ) (s : ℕ) → IsLastToken tokens body s → last_token tokens body ≡ Some s
  one_last body s l =
      ap (fold later None) l.whole
      ∙ fold-append later None l.before (s ∷ l.after)
      ∙ passed (later (fold later None l.before) s) l.after
      (recursion_from_All (λ x. tokens ≤ x) l.after l.last)
      ∙ here (nat_lt s tokens) refl
    where
      here : (b : Bool) → nat_lt s tokens ≡ b → later (fold later None l.before) s ≡ Some s
      here true q = rw q refl
      here false q = absurd (let k : s < tokens = l.token in grind (arith, nat_tests))

-- ---- precedences of rules

chosen_is : (ns : List Name) (tokens : ℕ) (prec : Option Identifier) (body : List ℕ) →
    IsChosenToken ns tokens prec body (chosen_token ns tokens prec body)
chosen_is ns tokens (Some i) body = refl
chosen_is ns tokens None body = go (found tokens None body)
  where
    go : Found tokens None body → IsChosenToken ns tokens None body (last_token tokens body)
    go (inl h) = subst (IsChosenToken ns tokens None body) (sym h.1)
        (All-from_recursion (λ x. tokens ≤ x) body h.0)
    go (inr h) = subst (IsChosenToken ns tokens None body) (sym h.2) h.1

one_chosen : (ns : List Name) (tokens : ℕ) (prec : Option Identifier) (body : List ℕ)
    (chosen : Option ℕ) → IsChosenToken ns tokens prec body chosen → chosen ≡ chosen_token ns tokens
    prec body
one_chosen ns tokens (Some i) body chosen h = h
one_chosen ns tokens None body (Some s) h = sym (one_last tokens body s h)
one_chosen ns tokens None body None h =
    sym (passed tokens None body (recursion_from_All (λ x. tokens ≤ x) body h))

-- rules by number have their precedences
pub have_precedences : (ns : List Name) (given : List (Option Precedence)) (rs : List Rule) →
    HavePrecedences ns given rs (map (rule_precedence ns given) rs)
have_precedences ns given [] = tt
have_precedences ns given (r ∷ rs) = (
  (
    chosen_token ns (length given) r.prec (map (number_in ns) r.body),
    chosen_is ns (length given) r.prec (map (number_in ns) r.body),
    refl,
  ),
  have_precedences ns given rs,
)

-- and no others
pub one_precedences : (ns : List Name) (given : List (Option Precedence)) (rs : List Rule)
    (ps : List (Option Precedence)) → HavePrecedences ns given rs ps →
    ps ≡ map (rule_precedence ns given) rs
one_precedences ns given [] [] h = refl
one_precedences ns given [] (p ∷ ps) h = absurd h
one_precedences ns given (r ∷ rs) [] h = absurd h
one_precedences ns given (r ∷ rs) (p ∷ ps) h =
    let (chosen, is, e) = h.0 in
    ap (λ (q : Option Precedence). q ∷ ps)
    (e ∙ ap (precedence_at given) (one_chosen ns (length given) r.prec
    (map (number_in ns) r.body) chosen is))
    ∙ ap (λ (qs : List (Option Precedence)). rule_precedence ns given r ∷ qs)
    (one_precedences ns given rs ps h.1)
