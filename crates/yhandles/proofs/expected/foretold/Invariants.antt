use Rattle.std.proofs.Common.{ℕ, ◌≡◌, ◌<◌, length, slice_index}
use Rattle.ysession.specs.Session.{machine_of, history_of}
use Rattle.yhandles.specs.Expected.{Tells}
use Rattle.yhandles.proofs.expected.foretold.Given as goal

-- there is a number for each token so far
abbrev pub invariant-loop-token : goal.invariant-loop-token
invariant-loop-token l = record {
  count : length l.numbers.items ≡ l.token;
  each : (token : ℕ) → token < length l.numbers.items
      → Tells (machine_of l.session) (history_of l.session) token
      (slice_index l.numbers.items token);
}
