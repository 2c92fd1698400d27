use Rattle.std.proofs.Common.{ℕ, ◌≡◌, ◌<◌, ◌*◌, All, length, false, slice_index_or}
use Rattle.ycode.specs.Bits.{bit_of, bytes_for}
use Rattle.ycode.proofs.sets.bytes_of.Given as goal

abbrev pub invariant-loop-k : goal.invariant-loop-k
invariant-loop-k l = record {
  len : length l.bytes.items ≡ l.k;
  bits : (t : ℕ) → t < 8 * l.k → bit_of l.bytes.items 0 t ≡ slice_index_or l.members t false;
  small : All (λ b. b < 256) l.bytes.items;
  value : l.bytes.items ≡ bytes_for l.k l.members;
}
