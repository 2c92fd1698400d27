use Rattle.std.proofs.Common.{ℕ, ◌<◌, slice_index}
use Rattle.ysymbols.specs.Forms.{IsReachable}
use Rattle.ysymbols.specs.Marking.{Grows, IsMarked, OnlyReachable, numbered_grammar, rule_at}
use Rattle.ysymbols.proofs.reachable.mark_body.Given as goal

abbrev pub invariant-loop-s : goal.invariant-loop-s
invariant-loop-s l = record {
  grows : Grows l.initial.list l.list;
  all : (k : ℕ) → k < l.s-index → IsMarked l.list.marks (slice_index (rule_at l.rules l.r).body k);
  sound : (tokens symbols : ℕ) → IsReachable (numbered_grammar tokens symbols l.rules)
      (rule_at l.rules l.r).left → OnlyReachable (numbered_grammar tokens symbols l.rules)
      l.initial.list.marks → OnlyReachable (numbered_grammar tokens symbols l.rules) l.list.marks;
}
