use Rattle.std.proofs.Common.{ℕ, ◌≡◌, List, Option, length, map, get_or}
use Rattle.ysymbols.specs.Grammar.{number_bound}
use Rattle.ydeclarations.specs.Outline.{listed_view}
use Rattle.ygrammar.specs.declared.holders.Holders.TheVariants.{Nobody}
use Rattle.ygrammar.specs.Numbers.{AreHolders, HasNumber, IsHolders}
use Rattle.ygrammar.proofs.holders.hold_given.Given as goal

abbrev pub invariant-loop-one : goal.invariant-loop-one
invariant-loop-one l = record {
  each : length l.holders.items ≡ number_bound;
  given : (own : List (Option ℕ)) → AreHolders number_bound own l.fn.holders.items →
      (m : ℕ) → IsHolders (get_or l.holders.items m Nobody)
      (HasNumber l.tokens own (map listed_view l.listed) l.one-index m);
}
