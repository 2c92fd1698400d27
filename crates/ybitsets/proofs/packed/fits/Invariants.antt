use Rattle.std.proofs.Common.{ℕ, ◌≡◌, ◌<◌, ◌+◌, true, None, is_some, get_or, slice_index}
use Rattle.ybitsets.proofs.packed.fits.Given as goal

abbrev pub invariant-loop-t : goal.invariant-loop-t
invariant-loop-t g l = (s : ℕ) → s < l.t → is_some (get_or l.row s None) ≡ true →
    slice_index l.owners (l.d + s) ≡ 0
