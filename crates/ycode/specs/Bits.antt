-- Sets as bits in bytes.
use Rattle.std.specs.Prelude.{ℕ, ◌≡◌, ◌+◌, ◌*◌, ◌/◌, ◌%◌, ◌^◌, ◌<◌, ◌≤◌, Bool, false, List}
use Rattle.std.specs.Prelude.{[], ◌∷◌, ◌++◌, length, map, nat_eq, slice_index, slice_index_or}
use Rattle.std.specs.Prelude.{if◌then◌else◌}
use Rattle.std.specs.List.{All, range_with_len, sum_by}
use Rattle.std.specs.Int.{bit_at}
use Rattle.ysymbols.specs.Names.{is_among, number_in}

-- bit t of the bytes from a place on
abbrev pub bit_of : List ℕ → ℕ → ℕ → Bool
bit_of bytes at t = nat_eq (bit_at (slice_index bytes (at + t / 8)) (t % 8)) 1

-- so many sets, each of so many bytes, and the bytes of each but the first
pub record SetsValue : Type 0 where
  pub span : ℕ
  pub count : ℕ
  pub bytes : List ℕ
  pub others : List (List ℕ)

-- the byte of the eight members from a place on, the first in its lowest bit
abbrev pub byte_for : List Bool → ℕ → ℕ
byte_for members at = sum_by (λ k. if slice_index_or members (at + k) false then 2 ^ k else 0)
    (range_with_len 0 8)

-- the bytes of a set, so many
abbrev pub bytes_for : ℕ → List Bool → List ℕ
bytes_for span members = map (λ k. byte_for members (8 * k)) (range_with_len 0 span)

-- the sets with one more after them
abbrev pub and_set : SetsValue → List ℕ → SetsValue
and_set s set = record {
  span = s.span;
  count = s.count + 1;
  bytes = s.bytes ++ set;
  others = s.others ++ set ∷ [];
}

-- the sets with one more after them, unless it is there; set 0 stands for no other
abbrev pub with_set : SetsValue → List ℕ → SetsValue
with_set s set = if is_among s.others set then s else and_set s set

-- the number of a set other than set 0
abbrev pub number_of : SetsValue → List ℕ → ℕ
number_of s set = number_in s.others set + 1

-- so many bytes from a place on say which members are in the set; there are no others
abbrev pub AreBits : List ℕ → ℕ → ℕ → List Bool → Type 0
AreBits bytes at span members = (t : ℕ) → t < 8 * span →
    bit_of bytes at t ≡ slice_index_or members t false

-- set n has these members
pub record HasSet (s : SetsValue) (n : ℕ) (members : List Bool) : Type 0 where
  pub number : n < s.count
  pub bits : AreBits s.bytes (n * s.span) s.span members

-- what holds of sets: there is one at least
pub record IsSets (s : SetsValue) : Type 0 where
  pub sized : length s.bytes ≡ s.count * s.span
  pub some : 0 < s.count
  pub wide : 0 < s.span
  pub narrow : s.span < 2 ^ 32
  pub small : All (λ b. b < 256) s.bytes

-- the sets but the first are listed: each in its place
pub record AreListed (s : SetsValue) : Type 0 where
  pub count : s.count ≡ length s.others + 1
  pub bits : (k t : ℕ) → k < length s.others → t < 8 * s.span →
      bit_of s.bytes ((k + 1) * s.span) t ≡ bit_of (slice_index_or s.others k []) 0 t

-- the old sets are as they were, and there is at most one more
pub record KeepsSets (old new : SetsValue) : Type 0 where
  pub span : new.span ≡ old.span
  pub bits : (n t : ℕ) → n < old.count → t < 8 * old.span →
      bit_of new.bytes (n * new.span) t ≡ bit_of old.bytes (n * old.span) t
  pub count : old.count ≤ new.count
  pub longer : new.count ≤ old.count + 1
