use Rattle.std.proofs.Common.{ℕ, ◌≡◌, ◌≤◌, ◌++◌, List, length, true, IsTrue}
use Rattle.std.specs.Prelude.{vec_capacity}
use Rattle.ylink.specs.Sends.{Sends}
use Rattle.ymachine.specs.Content.{trees_over}
use Rattle.ymachine.specs.MachineOver.{machine_over}
use Rattle.ymachine.specs.Walk.{open_text, frames_fit}
use Rattle.ymachine.proofs.walk.write_open.Given as goal

-- what was sent and what is left of the open nodes are the whole
abbrev pub invariant-loop-frame : goal.invariant-loop-frame
invariant-loop-frame g l = record {
  frames : IsTrue (frames_fit l.children l.root l.walk.items);
  room : vec_capacity l.fn.walk ≤ vec_capacity l.walk;
  sent : List ℕ;
  so_far : Sends g.W.Write.contents l.fn.link l.link true sent;
  parts : open_text (machine_over l.tables) l.children (trees_over l.children l.nodes)
      l.fn.walk.items ≡ sent ++ open_text (machine_over l.tables) l.children
      (trees_over l.children l.nodes) l.walk.items;
}

abbrev pub decreases-loop-frame : goal.decreases-loop-frame
decreases-loop-frame g l =
    length (open_text (machine_over l.tables) l.children (trees_over l.children l.nodes)
    l.walk.items)
