use Rattle.std.proofs.Common.{◌≡◌, take}
use Rattle.ycode.specs.Layout.{key_of}
use Rattle.ycode.proofs.layout.key_of.Given as goal

abbrev pub invariant-loop-entry : goal.invariant-loop-entry
invariant-loop-entry l = l.key.items ≡ key_of (take l.entry-index l.entries)
