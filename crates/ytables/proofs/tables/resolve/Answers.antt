use Rattle.ytables.proofs.tables.resolve.Goals as goal

pub invariant_of-result : goal.invariant_of-result
invariant_of-result c = record {
  rows = c.in-Ok.ensures.actions;
  defaults = c.in-Ok.ensures.defaults;
  width = c.in-Ok.ensures.width;
  gotos = c.in-Ok.ensures.gotos;
  tables = λ u h. record { rows = c.in-Ok.ensures.rows u h; sums = c.in-Ok.ensures.sums u h };
  listed = c.in-Ok.ensures.listed;
  conflicts = λ u h. c.in-Ok.ensures.conflicts u h;
}

pub returns-in-Ok-clause-tables : goal.returns-in-Ok-clause-tables
returns-in-Ok-clause-tables c =
    λ u h. record { rows = c.in-Ok.ensures.rows u h; sums = c.in-Ok.ensures.sums u h }
