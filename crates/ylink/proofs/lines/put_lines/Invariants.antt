use Rattle.std.proofs.Common.{ℕ, ◌≡◌, ◌+◌, true, flat_map}
use Rattle.std.specs.List.{range_with_len}
use Rattle.ylink.specs.Sends.{Sends}
use Rattle.ylink.proofs.lines.put_lines.Given as goal

-- the lines so far were sent
abbrev pub invariant-loop-number : goal.invariant-loop-number
invariant-loop-number g l = (u : g.L.Lines.Context l.lines) (n : ℕ) → l.first + n ≡ l.number →
    Sends g.W.Write.contents l.initial.link l.link true
    (flat_map (g.L.Lines.line l.lines u) (range_with_len l.first n))
