use Rattle.ybitsets.specs.Rows.{Holds}
use Rattle.ybitsets.proofs.RowLemmas.{Uniting}
use Rattle.ybitsets.proofs.rows.Rows.add_from.Given as goal

abbrev pub invariant-loop-k : goal.invariant-loop-k
invariant-loop-k l = Uniting l.initial.self l.self l.to (Holds l.other l.from) l.k l.grew
