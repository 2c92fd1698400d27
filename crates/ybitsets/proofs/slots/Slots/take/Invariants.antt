use Rattle.std.proofs.Common.{◌-◌, vec_len}
use Rattle.ybitsets.proofs.slots.Slots.take.Given as goal

abbrev pub decreases-loop-self : goal.decreases-loop-self
decreases-loop-self l = vec_len l.self.words - l.self.full
