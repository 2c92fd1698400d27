use Rattle.ylalr.proofs.ListSteps.{closure_whole, closure_range}
use Rattle.ylalr.proofs.closure.closure.Goals as goal

pub returns-clause-closure : goal.returns-clause-closure
returns-clause-closure c = closure_whole c.args.grammar.now.bare c.want.new.wanted c.args.kernel.now
    c.in_ok-items.items c.want.ensures.exact c.in_ok-items.ensures.exact

pub returns-clause-range : goal.returns-clause-range
returns-clause-range c = closure_range c.args.grammar.now.bare c.want.new.wanted c.args.kernel.now
    c.in_ok-items.items c.want.ensures.sized.columns c.requires.range c.in_ok-items.ensures.exact
