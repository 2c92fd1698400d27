use Rattle.ylexemes.proofs.Made.{IsRun, name_part, c_identifier_part}
use Rattle.ylexemes.proofs.front.name_at.Goals.{After-name_run}
use Rattle.ylexemes.proofs.front.name_at.Goals as goal

run : (c : After-name_run) →
    IsRun c.args.bytes.now c.name_run.result.0.now c.name_run.result.1.now
run c = record {
  whole = c.name_run.ensures.whole;
  each = c.name_run.ensures.run;
  stop = c.name_run.ensures.stop;
  start = c.requires;
}

pub returns-in-None : goal.returns-in-None
returns-in-None c = name_part c.args.bytes.now _ _ c.after_gap-end.result.now
    (run (goal.at.returns-in-None c).After-name_run) c.after_gap-end.ensures c.in-None.ensures

pub returns-in-Some : goal.returns-in-Some
returns-in-Some c = c_identifier_part c.args.bytes.now _ _ c.after_gap-end.result.now
    c.in-Some.tail.now (run (goal.at.returns-in-Some c).After-name_run) c.after_gap-end.ensures
    c.in-Some.ensures
