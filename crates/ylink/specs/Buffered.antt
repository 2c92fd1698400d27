-- What stands between a device and what is written to it.
use Rattle.std.specs.Prelude.{ℕ, ◌≡◌, false, Bool, List, Option, drop}
use Rattle.std.specs.Io.KnownBytes.{Keeps, append_known}
use Rattle.ylink.specs.declared.buffered.Buffer.{Buffer}
use Rattle.ylink.specs.declared.buffered.Buffered.{Buffered}
use Rattle.ylink.specs.Link.{device_of}

-- the bytes in a buffer
abbrev pub kept_in : Buffer → List ℕ
kept_in it = it.bytes.items

-- the device behind the buffer
abbrev pub behind : {W : Type 0} → Buffered W → W
behind it = device_of it.link

-- the bytes that the device has still to take
abbrev pub held_by : {W : Type 0} → Buffered W → List ℕ
held_by it = drop it.sent it.bytes.items

-- what was written, where it is known: what the device has taken, and what it has still to take
abbrev pub written : {W : Type 0} → (W → Option (List ℕ)) → Buffered W → Option (List ℕ)
written contents it = append_known (contents (behind it)) (held_by it)

-- What was written through a buffer, and the device that it leaves: where no call failed, the device
-- has taken all of it; else it has a beginning.
pub record Drains {W : Type 0} (contents : W → Option (List ℕ)) (it : Buffered W) (device : W)
    (failed : Bool) : Type 0 where
  pub whole : failed ≡ false → Keeps (written contents it) (contents device)
  pub rest : List ℕ
  pub front : Keeps (written contents it) (append_known (contents device) rest)
