use Rattle.yembed.specs.Codes.{IsCodeOf}
use Rattle.yembed.proofs.OneParser.{one_parser}
use Rattle.yembed.proofs.codes.arrays_of.Goals as goal

pub returns-in-Ok-made-clause-code : goal.returns-in-Ok-made-clause-code
returns-in-Ok-made-clause-code c =
    record {
      tables = c.in-Ok.tables;
      are = c.in-Ok.ensures.tables;
      says = c.in-Ok-made.ensures.says;
      value = c.in-Ok-made.ensures.value;
    }

pub returns-in-Ok-made-clause-only : goal.returns-in-Ok-made-clause-only
returns-in-Ok-made-clause-only c =
    let made : IsCodeOf c.args.grammar.now c.in-Ok-made.code = record {
      tables = c.in-Ok.tables;
      are = c.in-Ok.ensures.tables;
      says = c.in-Ok-made.ensures.says;
      value = c.in-Ok-made.ensures.value;
    } in
    λ other is. one_parser c.args.grammar.now other c.in-Ok-made.code is made
