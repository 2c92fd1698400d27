use Rattle.std.proofs.Common.{ℕ, ◌<◌, ◌-◌, length}
use Rattle.ysymbols.specs.Marking.{AreDots, Keeps, IsSettled, OnlyProductive, numbered_grammar}
use Rattle.ysymbols.specs.Marking.{rule_at}
use Rattle.ysymbols.proofs.productive.drain.Given as goal

abbrev pub invariant-loop-s : goal.invariant-loop-s
invariant-loop-s l = record {
  keeps : Keeps l.initial.list.marks l.list.marks;
  dots : AreDots l.rules l.dots.items l.list.marks;
  settled : (k : ℕ) → k < length l.rules → IsSettled (rule_at l.rules k) l.list;
  sound : (tokens symbols : ℕ) → OnlyProductive (numbered_grammar tokens symbols l.rules)
      l.initial.list.marks → OnlyProductive (numbered_grammar tokens symbols l.rules) l.list.marks;
}

abbrev pub decreases-loop-s : goal.decreases-loop-s
decreases-loop-s l = length l.list.marks - l.list.taken
