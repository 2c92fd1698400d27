use Rattle.ylalr.proofs.FirstSteps.{first_spread}
use Rattle.ylalr.proofs.first.first_tokens.Goals as goal

pub returns-clause-exact : goal.returns-clause-exact
returns-clause-exact c = first_spread c.args.grammar.now.bare c.args.nullable.now
    c.in_ok-links.links c.in_ok-first.first c.spread.new.rows c.requires.exact c.in_ok-links.ensures
    c.in_ok-first.ensures.own c.in_ok-spread.ensures.exact
