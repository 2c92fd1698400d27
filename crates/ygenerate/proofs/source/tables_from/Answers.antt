use Rattle.std.proofs.Common.{List, ℕ, subst}
use Rattle.std.proofs.lemmas.Result.{IfOk-weaker, IfErr-weaker}
use Rattle.ygenerate.specs.Sources.{AreTablesOf, NoTables}
use Rattle.ygenerate.proofs.Sources.{file_fails, file_tables}
use Rattle.ygenerate.proofs.source.tables_from.Goals as goal

pub returns-in-Ok-clause-tables : goal.returns-in-Ok-clause-tables
returns-in-Ok-clause-tables g c =
    IfOk-weaker c.tables_over.result _ _ (λ t are.
    file_tables g.D.Folder.reads g.D.Folder.unreadable c.args.grammar.now c.args.folder.now
    c.read.new.self c.in-Ok.bytes.items c.in-Ok.ensures.bytes t
    (subst (λ (s : List ℕ). AreTablesOf s t) c.deref.ensures.value are)) c.tables_over.ensures.tables

pub returns-in-Ok-clause-fails : goal.returns-in-Ok-clause-fails
returns-in-Ok-clause-fails g c =
    IfErr-weaker c.tables_over.result _ _ (λ fault lacks.
    file_fails g.D.Folder.reads g.D.Folder.unreadable c.args.grammar.now c.args.folder.now
    c.read.new.self c.in-Ok.bytes.items c.in-Ok.ensures.bytes fault
    (subst (λ (s : List ℕ). NoTables s fault) c.deref.ensures.value lacks))
    c.tables_over.ensures.refused
