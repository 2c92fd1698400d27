use Rattle.std.proofs.Common.{◌++◌, ap, is_some, codes}
use Rattle.ytables.specs.Text.{name_of}
use Rattle.ylink.proofs.Sent.{Sends-part}
use Rattle.ytables.proofs.report.put_names.Goals as goal

pub returns-in_err-put_name : goal.returns-in_err-put_name
returns-in_err-put_name g c =
    Sends-part g.W.Write.contents (λ s. codes " " ++ name_of c.args.grammar.now s) c.args.link.now
    c.loop-s.link c.put_name.new.link (is_some c.from_residual.result) c.args.symbols.now
    c.loop-s.s-index 0
    (ap is_some c.from_residual.ensures) c.loop-s-test.true c.loop-s.invariant
    c.in_err-put_name.ensures
