use Rattle.std.proofs.Common.{rules}
use Rattle.ylalr.specs.Collection.{Guide}
use Rattle.yembed.proofs.texts.report_text.Goals as goal

pub returns-in-Ok-written-clause-text : goal.returns-in-Ok-written-clause-text
returns-in-Ok-written-clause-text c =
    let counted = c.conflicts_of-conflicts.ensures in
    record {
      tables = c.in-Ok.tables;
      are = c.in-Ok.ensures.tables;
      counted = record {
        shift_reduce = counted.shift_reduce;
        reduce_reduce = counted.reduce_reduce;
      };
      wrote = λ (u : Guide) is. let sent = c.in-Ok-written.ensures.text u is in search rules;
    }
