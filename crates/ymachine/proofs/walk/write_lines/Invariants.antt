use Rattle.std.proofs.Common.{◌≤◌, ◌++◌, true, take, flat_map, codes}
use Rattle.std.specs.Prelude.{vec_capacity}
use Rattle.ylink.specs.Sends.{Sends}
use Rattle.ymachine.specs.declared.parts.StackEntry.{StackEntry}
use Rattle.ymachine.specs.Content.{node_tree, trees_over}
use Rattle.ymachine.specs.MachineOver.{machine_over}
use Rattle.ymachine.specs.Unwinding.{tree_text}
use Rattle.ymachine.proofs.walk.write_lines.Given as goal

-- the lines so far were sent
abbrev pub invariant-loop-entry : goal.invariant-loop-entry
invariant-loop-entry g l = record {
  room : vec_capacity l.fn.walk ≤ vec_capacity l.walk;
  sent : Sends g.W.Write.contents l.fn.link l.link true
      (flat_map (λ (e : StackEntry). tree_text (machine_over l.tables)
      (node_tree (trees_over l.children l.nodes) e) ++ codes "\n") (take l.entry-index l.stack));
}
