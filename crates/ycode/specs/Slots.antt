-- Slots of which some are taken, 64 to a word.
use Rattle.std.specs.Prelude.{ℕ, ◌≡◌, ◌+◌, ◌/◌, ◌%◌, ◌<◌, List, length, slice_index}
use Rattle.std.specs.Int.{bit_at}

-- the slot is taken: its bit is set
abbrev pub IsTaken : List ℕ → ℕ → Type 0
IsTaken words k = bit_at (slice_index words (k / 64)) (k % 64) ≡ 1

-- of these columns, moved by d, one is such a slot
abbrev pub MeetsTaken : List ℕ → List ℕ → ℕ → Type 0
MeetsTaken words columns d = (k : ℕ) × (k < length columns) × IsTaken words (d + slice_index columns k)

-- the slot is one of these columns, moved by d
abbrev pub IsMoved : List ℕ → ℕ → ℕ → Type 0
IsMoved columns d i = (k : ℕ) × (k < length columns) × (i ≡ d + slice_index columns k)
