use Rattle.std.proofs.Common.{◌≡◌, ◌≤◌, ◌-◌, length, take}
use Rattle.std.specs.Io.KnownBytes.{Appends}
use Rattle.ylink.specs.Link.{device_of, has_failed}
use Rattle.ylink.proofs.put.put.Given as goal

-- what was taken so far was written
abbrev pub invariant-loop-at : goal.invariant-loop-at
invariant-loop-at g l = record {
  within : l.at ≤ length l.text;
  written : Appends (g.W.Write.contents (device_of l.initial.link))
      (g.W.Write.contents (device_of l.link)) (take l.at l.text);
  failed : has_failed l.link ≡ has_failed l.initial.link;
}

abbrev pub decreases-loop-at : goal.decreases-loop-at
decreases-loop-at g l = length l.text - l.at
