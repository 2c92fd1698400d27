use Rattle.std.proofs.Common.{take}
use Rattle.std.specs.List.{All}
use Rattle.ybitsets.specs.Marks.{Has}
use Rattle.ybitsets.specs.Rows.{IsSized}
use Rattle.ylalr.proofs.FormSteps.{Adding}
use Rattle.ylalr.proofs.behind.add_form.Given as goal

abbrev pub invariant-loop-s : goal.invariant-loop-s
invariant-loop-s l = record {
  passed : All (Has l.nullable) (take l.s-index l.form);
  sized : IsSized l.initial.rows.height l.initial.rows.width l.rows;
  adding : Adding l.nullable l.first l.form l.initial.rows l.rows l.to l.s-index;
}
