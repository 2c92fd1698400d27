use Rattle.std.proofs.Common.{◌-◌, length}
use Rattle.std.specs.Io.KnownBytes.{Keeps}
use Rattle.ylink.specs.Buffered.{written}
use Rattle.ylink.proofs.buffered.Buffered.pass_on.Given as goal

-- nothing that was written is lost
abbrev pub invariant-loop-self : goal.invariant-loop-self
invariant-loop-self g l = Keeps (written g.W.Write.contents l.initial.self)
    (written g.W.Write.contents l.self)

abbrev pub decreases-loop-self : goal.decreases-loop-self
decreases-loop-self g l = length l.self.bytes.items - l.self.sent
