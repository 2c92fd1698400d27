use Rattle.std.proofs.Common.{ℕ, ◌≡◌, ◌<◌, length, get_or}
use Rattle.ybitsets.specs.Marks.{Has}
use Rattle.ybitsets.proofs.waiting.Waiting.from_back.Given as goal

abbrev pub invariant-loop-p : goal.invariant-loop-p
invariant-loop-p l = record {
  sized : length l.waiting ≡ l.n;
  every : (k : ℕ) → k < l.p-index → Has l.waiting (get_or l.list k 0);
}
