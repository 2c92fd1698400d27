use Rattle.std.proofs.Common.{◌≢◌, [], codes}
use Rattle.ylink.proofs.Sent.{Sends-stop, Sends-none, Sends-then}
use Rattle.ysession.proofs.Unwound.{cut_in_names, cut_at_end}
use Rattle.ysession.proofs.unwind.put_form.Goals as goal

some_end : codes "\n" ≢ []
some_end e = cc

pub returns-in_err-put_names-clause-sends : goal.returns-in_err-put_names-clause-sends
returns-in_err-put_names-clause-sends g c =
    let w = g.W.Write.contents in
    Sends-none w _ _ _ _ c.from_residual.ensures
    (Sends-stop w _ _ _ _ c.in_err-put_names.ensures)

pub returns-in_err-put_names-clause-cut : goal.returns-in_err-put_names-clause-cut
returns-in_err-put_names-clause-cut g c =
    λ none. cut_in_names _ _ _ (codes "\n") some_end c.in_err-put_names.ensures.bytes

pub returns-clause-sends : goal.returns-clause-sends
returns-clause-sends g c =
    Sends-then g.W.Write.contents _ _ _ _ _ _ c.in_ok-put_names.ensures c.put_end.ensures.sends

pub returns-clause-cut : goal.returns-clause-cut
returns-clause-cut g c =
    λ none. cut_at_end _ _ _ _ (codes "\n") some_end c.in_ok-put_names.ensures.bytes
    (c.put_end.ensures.kept none)
