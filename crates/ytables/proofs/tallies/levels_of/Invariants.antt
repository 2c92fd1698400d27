use Rattle.std.proofs.Common.{ℕ, ◌≡◌, ◌≤◌, ◌<◌, length, get_or, None, false}
use Rattle.ytables.specs.Tallies.{against}
use Rattle.ytables.proofs.tallies.levels_of.Given as goal

abbrev pub invariant-loop-t : goal.invariant-loop-t
invariant-loop-t l = record {
  len : length l.levels.items ≡ length l.before;
  done : (t : ℕ) → t < l.t → get_or l.levels.items t None ≡ against l.grammar
      (get_or l.before t false) t;
  rest : (t : ℕ) → l.t ≤ t → t < length l.before → get_or l.levels.items t None ≡ None;
}
