use Rattle.ylalr.proofs.DraftSteps.{opens_kept}
use Rattle.ylalr.proofs.looks.visit.Goals as goal

pub returns-clause-serves : goal.returns-clause-serves
returns-clause-serves c =
    let P = c.args.lr0.now in
    let h = c.args.here in
    record {
      opens = opens_kept P c.open.new.draft c.shift.new.draft h.state h.row h.item
          c.in_ok-shift.ensures.further c.in_ok-open.ensures.opens;
      shifts = c.in_ok-shift.ensures.shifts;
    }
