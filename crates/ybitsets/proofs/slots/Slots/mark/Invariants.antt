use Rattle.std.proofs.Common.{◌+◌, ◌-◌, ◌/◌, vec_len}
use Rattle.ybitsets.proofs.slots.Slots.mark.Given as goal

abbrev pub decreases-loop-self : goal.decreases-loop-self
decreases-loop-self l = (l.at / 64 + 1) - vec_len l.self.words
