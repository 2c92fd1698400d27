use Rattle.std.proofs.Common.{ℕ, ◌≡◌, ◌+◌, ◌-◌, true, flat_map, subst, arith}
use Rattle.std.specs.List.{range_with_len}
use Rattle.ylink.specs.Sends.{Sends}
use Rattle.ylink.proofs.Ranges.{range_cut, range_sent}
use Rattle.ylink.proofs.lines.put_lines.Goals as goal

pub returns-in_err-put_line : goal.returns-in_err-put_line
returns-in_err-put_line g c = λ u n e.
    let k : ℕ = c.loop-number.number - c.args.first in
    range_cut g.W.Write.contents (g.L.Lines.line c.args.lines.now u) c.args.first _ _ _ _ n k
    c.loop-number.number c.from_residual.ensures (omega arith) (omega arith)
    (c.loop-number.invariant u k (omega arith)) (c.in_err-put_line.ensures u)

pub loop-number-preserved : goal.loop-number-preserved
loop-number-preserved g c = λ u n e.
    let k : ℕ = c.loop-number.number - c.args.first in
    let more : k + 1 ≡ n = omega arith in
    subst (λ i. Sends g.W.Write.contents c.args.link.now c.put_line.new.link true
    (flat_map (g.L.Lines.line c.args.lines.now u) (range_with_len c.args.first i))) more
    (range_sent g.W.Write.contents (g.L.Lines.line c.args.lines.now u) c.args.first _ _ _ k
    c.loop-number.number (omega arith) (c.loop-number.invariant u k (omega arith))
    (c.in_ok-put_line.ensures u))

pub returns : goal.returns
returns g c = λ u n e. c.loop-number.invariant u n (omega arith)
