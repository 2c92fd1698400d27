use Rattle.std.proofs.Common.{ℕ, ◌≡◌, ◌<◌, ◌-◌, None, length, get_or}
use Rattle.ylalr.proofs.lefts.Lefts.clear.Given as goal

abbrev pub invariant-loop-s : goal.invariant-loop-s
invariant-loop-s l = record {
  sized : length l.self ≡ length l.initial.self;
  done : (k : ℕ) → k < l.s → get_or l.self k None ≡ None;
}

abbrev pub decreases-loop-s : goal.decreases-loop-s
decreases-loop-s l = length l.initial.self - l.s
