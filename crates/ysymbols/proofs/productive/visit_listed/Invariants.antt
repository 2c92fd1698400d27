use Rattle.std.proofs.Common.{ℕ, ◌<◌, slice_index}
use Rattle.ysymbols.specs.Marking.{AreDots, Grows, IsSettled, OnlyProductive, numbered_grammar}
use Rattle.ysymbols.specs.Marking.{rule_at}
use Rattle.ysymbols.proofs.productive.visit_listed.Given as goal

abbrev pub invariant-loop-r : goal.invariant-loop-r
invariant-loop-r l = record {
  grows : Grows l.initial.list l.list;
  dots : AreDots l.rules l.dots.items l.list.marks;
  settled : (k : ℕ) → k < l.r-index →
      IsSettled (rule_at l.rules (slice_index l.listed k)) l.list;
  sound : (tokens symbols : ℕ) → OnlyProductive (numbered_grammar tokens symbols l.rules)
      l.initial.list.marks → OnlyProductive (numbered_grammar tokens symbols l.rules) l.list.marks;
}
