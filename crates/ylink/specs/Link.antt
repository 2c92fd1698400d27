-- What a link holds, and what its calls do to those bytes of its device that are known.
use Rattle.std.specs.Prelude.{ℕ, ◌≡◌, ◌<◌, ◌≤◌, Bool, List, length, take, Option, Some, None}
use Rattle.std.specs.Io.KnownBytes.{Keeps, Appends, Consumes, IsAtEnd}
use Rattle.ylink.specs.declared.link.Link.{Link}

-- the reader or writer
abbrev pub device_of : {D : Type 0} → Link D → D
device_of link = link.device

-- whether a call of it failed since the flag was cleared
abbrev pub has_failed : {D : Type 0} → Link D → Bool
has_failed link = link.failed

-- a read took n bytes, 0 only at the end or with no room; a failed one took nothing
abbrev pub LinkReads : Option (List ℕ) → Option (List ℕ) → Option ℕ → List ℕ → Type 0
LinkReads old new None buf = Keeps old new
LinkReads old new (Some n) buf = (n ≤ length buf) × Consumes old new (take n buf) ×
    (n ≡ 0 → 0 < length buf → IsAtEnd new)

-- a write took n bytes, 0 only where there were none to write; a failed one took nothing
abbrev pub LinkWrites : Option (List ℕ) → Option (List ℕ) → Option ℕ → List ℕ → Type 0
LinkWrites old new None bytes = Keeps old new
LinkWrites old new (Some n) bytes = (n ≤ length bytes) × Appends old new (take n bytes) ×
    (0 < length bytes → 0 < n)
