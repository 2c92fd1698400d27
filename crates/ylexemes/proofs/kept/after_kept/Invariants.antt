use Rattle.std.proofs.Common.{◌≡◌, ◌≤◌, ◌+◌, length}
use Rattle.ylexemes.specs.declared.kept.Mode.TheVariants.{Outside}
use Rattle.ylexemes.specs.Kept.{closes}
use Rattle.ylexemes.proofs.kept.after_kept.Given as goal

abbrev pub invariant-loop-rest : goal.invariant-loop-rest
invariant-loop-rest l = (closes l.mode l.depth l.rest ≡ closes Outside 0 l.bytes) ×
    (l.depth + length l.rest ≤ length l.bytes)

abbrev pub decreases-loop-rest : goal.decreases-loop-rest
decreases-loop-rest l = length l.rest
