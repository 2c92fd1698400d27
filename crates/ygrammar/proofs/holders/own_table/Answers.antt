use Rattle.std.proofs.Common.{◌≡◌, ◌≤◌, ap, sym, ◌∙◌, map, subst, refl, inr, List, [], is_some}
use Rattle.std.proofs.Common.{false, get_or, ◌++◌}
use Rattle.ygrammar.specs.declared.holders.Holders.{Holders}
use Rattle.ygrammar.specs.Numbers.{FaultyAt}
use Rattle.ygrammar.proofs.BadPlaces.{bad_placed, held_here, small_whole, wrong_here}
use Rattle.ygrammar.specs.declared.holders.Holders.TheVariants.{Nobody, Several}
use Rattle.ydeclarations.specs.declared.outline.Listed.{Listed}
use Rattle.ysyntax.specs.declared.tree.Occurrence.{Occurrence}
use Rattle.ydeclarations.specs.Elaboration.{digits_number, listings, own_numbers, tokens}
use Rattle.ysymbols.specs.Grammar.{number_bound}
use Rattle.ydeclarations.specs.Mistakes.{Clashes}
use Rattle.ygrammar.specs.Numbers.{AreHolders, IsOwn}
use Rattle.ydeclarations.specs.Outline.{Outlines, listed_view}
use Rattle.ydeclarations.specs.Owned.{AllFit, TellsNumbers}
use Rattle.ydeclarations.specs.Told.{IsTold}
use Rattle.ysyntax.specs.Tree.{Identifier, Tree}
use Rattle.ysyntax.specs.TreeViews.{occurrence_view}
use Rattle.ygrammar.proofs.NumberSteps.{clash_held, none_clash}
use Rattle.ygrammar.proofs.OwnTables.{all_given, appear, are_small, bad_given, numbers_sound}
use Rattle.ygrammar.proofs.OwnTables.{own_whole, told_here}
use Rattle.ygrammar.proofs.holders.own_table.Goals.{In_ok-holders}
use Rattle.ygrammar.proofs.holders.own_table.Goals as goal

-- what was given
given : (c : In_ok-holders) (t : Tree) → Outlines c.args.outline.now t
    → c.args.tokens.now ≡ tokens t
    → TellsNumbers (tokens t) [] (listings t) c.in_ok-given.given.first.items
    c.in_ok-given.given.fault
given c t o e = told_here t _ _ _ _ e
    (ap (λ (xs : List Listed). map listed_view xs) c.deref.ensures.value ∙ o.listed)
    c.in_ok-given.ensures.told

-- what was given, each token one in range or none, and the numbers from it
owned : (c : In_ok-holders) (t : Tree) → Outlines c.args.outline.now t
    → c.args.tokens.now ≡ tokens t → is_some c.in_ok-given.given.fault ≡ false
    → (IsTold digits_number (tokens t) (listings t) c.in_ok-given.given.first.items
    × AllFit c.in_ok-given.given.first.items)
    × (c.own_numbers-numbers.result.items ≡ own_numbers t)
owned c t o e f =
    let seen : List Occurrence → List Identifier = map occurrence_view in
    let told = all_given t _ _ f (given c t o e) in
    let ids = appear _ _ t (ap seen c.deref-2.ensures.value ∙ o.declared)
    (ap seen c.deref-3.ensures.value ∙ o.used) in (
      told,
      own_whole t _ (seen c.deref-2.result.now) (seen c.deref-3.result.now) _ _ e ids told.0
          c.own_numbers-numbers.ensures.told,
    )

pub own_holders-requires : goal.own_holders-requires
own_holders-requires c = λ m p. c.bound_of.ensures.above m
    (subst (λ xs. IsOwn xs m) (c.deref-4.ensures.value ∙ sym c.deref-5.ensures.value) p)

pub own_holders-requires-2 : goal.own_holders-requires-2
own_holders-requires-2 c = λ m p. are_small c.own_numbers-numbers.result.items
    (c.own_numbers-numbers.ensures.small c.in_ok-given.ensures.small) m
    (subst (λ xs. IsOwn xs m) c.deref-6.ensures.value p)

pub returns-then-not-has_shared-clause-told : goal.returns-then-not-has_shared-clause-told
returns-then-not-has_shared-clause-told c = λ t o e.
    let (told, n) =
    owned (goal.at.returns-then-not-has_shared-clause-told c).In_ok-holders t o e c.if-is_none.ensures in
    let k = subst (λ xs. AreHolders c.bound_of.result xs c.in_ok-holders.holders.items)
    (c.deref-4.ensures.value ∙ n) c.in_ok-holders.ensures in
    record {
      numbers = n;
      few = subst (λ m. m ≤ number_bound) (sym k.each) c.bound_of.ensures.few;
      holders = record { each = refl; exact = k.exact };
      sound = numbers_sound t _ told.0 told.1 (none_clash c.bound_of.result _ _ k
          (subst (λ hs. (m : _) → get_or hs m Nobody ≡ Several → ⊥)
          c.deref-then-is_none.ensures.value c.if-not-has_shared.ensures));
    }

pub returns-clause-told : goal.returns-clause-told
returns-clause-told c = λ t o e. (
  refl,
  elim c.else-is_none.branch [
    | goal.else-is_none-via-else-is_none w ↦
        bad_given t _ _ w.if-is_none.ensures (given (goal.at.returns-clause-told c).In_ok-holders t o e)
    | goal.else-is_none-via-then-is_none+else-not-has_shared w ↦
        let n = (owned (goal.at.returns-clause-told c).In_ok-holders t o e w.if-is_none.ensures).1 in
        let (m, s) = w.if-not-has_shared.ensures in
        inr (inr (subst Clashes (c.deref-4.ensures.value ∙ n) (clash_held _ _ m
        (subst (λ hs. get_or hs m Nobody ≡ Several) w.deref-then-is_none.ensures.value s)
        (c.in_ok-holders.ensures.exact m))))
  ],
)

pub returns-clause-place : goal.returns-clause-place
returns-clause-place c = λ t ds rs o sites e.
    let xs = c.args.outline.now.listed.items in
    let ns = c.args.tokens.now in
    let seen : List Occurrence → List Identifier = map occurrence_view in
    bad_placed t xs c.own_numbers-numbers.result.items c.in_ok-given.given.fault
    c.hold_given.new.holders.items o.listed
    (small_whole t ns c.deref.result.now xs (seen c.deref-2.result.now ++ seen c.deref-3.result.now)
    c.in_ok-given.given.first.items c.own_numbers-numbers.result.items e c.deref.ensures.value
    o.listed (appear _ _ t (ap seen c.deref-2.ensures.value ∙ o.declared)
    (ap seen c.deref-3.ensures.value ∙ o.used)) c.in_ok-given.ensures.first
    c.own_numbers-numbers.ensures.told)
    (wrong_here t ns c.deref.result.now xs c.in_ok-given.given.fault e c.deref.ensures.value
    o.listed c.in_ok-given.ensures.fault)
    (held_here t ns c.deref-7.result.now xs c.deref-6.result.now c.own_numbers-numbers.result.items
    c.hold_given.new.holders.items e c.deref-7.ensures.value o.listed c.deref-6.ensures.value
    (c.hold_given.ensures.given c.deref-6.result.now c.in_ok-holders-2.ensures))
    c.args.outline.now ds rs _ sites refl
    (subst (λ (hs : List Holders). FaultyAt xs c.in_ok-given.given.fault hs c.first_at_fault.result)
    c.deref-9.ensures.value
    (subst (λ (ys : List Listed). FaultyAt ys c.in_ok-given.given.fault c.deref-9.result.now
    c.first_at_fault.result) c.deref-8.ensures.value c.first_at_fault.ensures))
