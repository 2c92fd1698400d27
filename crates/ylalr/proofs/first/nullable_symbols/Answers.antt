use Rattle.std.proofs.Common.{subst, sym}
use Rattle.ylalr.specs.First.{IsNullable}
use Rattle.ylalr.proofs.FirstSteps.{all_nullable}
use Rattle.ylalr.proofs.first.nullable_symbols.Goals as goal

pub returns-clause-exact : goal.returns-clause-exact
returns-clause-exact c =
    subst (IsNullable c.args.grammar.now.bare) (sym c.of.ensures)
    (all_nullable _ _ c.symbols-well_formed.ensures.well_formed c.in_ok-item_rows.ensures)
