use Rattle.std.proofs.Common.{ℕ, ◌<◌, EachIndex, slice_index}
use Rattle.ysymbols.specs.Forms.{IsReachable}
use Rattle.ysymbols.specs.Marking.{Grows, IsMarked, OnlyReachable, numbered_grammar, rule_at}
use Rattle.ysymbols.proofs.reachable.mark_bodies.Given as goal

abbrev pub invariant-loop-r : goal.invariant-loop-r
invariant-loop-r l = record {
  grows : Grows l.initial.list l.list;
  all : (k : ℕ) → k < l.r-index → EachIndex (rule_at l.rules (slice_index l.listed k)).body
      (λ j. IsMarked l.list.marks (slice_index (rule_at l.rules (slice_index l.listed k)).body j));
  sound : (tokens symbols : ℕ) → EachIndex l.listed
      (λ k. IsReachable (numbered_grammar tokens symbols l.rules)
      (rule_at l.rules (slice_index l.listed k)).left) → OnlyReachable
      (numbered_grammar tokens symbols l.rules) l.initial.list.marks → OnlyReachable
      (numbered_grammar tokens symbols l.rules) l.list.marks;
}
