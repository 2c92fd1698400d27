-- What is known of the places where rows can't begin.
use Rattle.std.specs.Prelude.{ℕ, ◌≡◌, ◌<◌, [], true, false, length, slice_index, slice_index_or}
use Rattle.ycode.specs.declared.finder.Finder.{Finder}
use Rattle.ycode.specs.Packing.{PackingValue, Begins, is_taken, can_begin}
use Rattle.ycode.specs.Slots.{IsTaken}

-- what is known holds of these packed rows
pub record KnowsOf (p : PackingValue) (f : Finder) : Type 0 where
  pub cells : (i : ℕ) → IsTaken f.cells.items i → is_taken p i ≡ true
  pub starts : (d : ℕ) → IsTaken f.starts.items d → Begins p.begun d
  pub full : (i : ℕ) → i < f.full → is_taken p i ≡ true
  pub count : length f.lasts.items ≡ length f.shapes
  pub lasts : (k d : ℕ) → k < length f.shapes → d < slice_index f.lasts.items k →
      can_begin p (slice_index_or f.shapes k []) d ≡ false

-- nothing is known
abbrev pub KnowsNothing : Finder → Type 0
KnowsNothing f = (f.cells.items ≡ []) × (f.starts.items ≡ []) × (f.full ≡ 0) × (f.shapes ≡ []) ×
    (f.lasts.items ≡ [])
