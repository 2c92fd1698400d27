use Rattle.std.proofs.Common.{true, flat_map, take}
use Rattle.ylink.specs.Sends.{Sends}
use Rattle.std.proofs.Common.{codes, ◌++◌}
use Rattle.ytables.specs.Text.{name_of}
use Rattle.ytables.proofs.report.put_names.Given as goal

-- the lines so far were sent
abbrev pub invariant-loop-s : goal.invariant-loop-s
invariant-loop-s g l = Sends g.W.Write.contents l.initial.link l.link true
    (flat_map (λ s. codes " " ++ name_of l.grammar s) (take l.s-index l.symbols))
