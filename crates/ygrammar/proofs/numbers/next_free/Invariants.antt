use Rattle.std.proofs.Common.{ℕ, ◌≡◌, ◌<◌, ◌≤◌, ◌-◌, length, max, true, get_or}
use Rattle.ygrammar.specs.declared.holders.Holders.TheVariants.{Nobody}
use Rattle.ygrammar.specs.Numbers.{is_held}
use Rattle.ygrammar.proofs.numbers.next_free.Given as goal

abbrev pub invariant-loop-number : goal.invariant-loop-number
invariant-loop-number l = record {
  low : l.from ≤ l.number;
  bound : l.number ≤ max l.from (length l.holders);
  least : (u : ℕ) → l.from ≤ u → u < l.number → is_held (get_or l.holders u Nobody) ≡ true;
}

abbrev pub decreases-loop-number : goal.decreases-loop-number
decreases-loop-number l = length l.holders - l.number
