use Rattle.std.proofs.Common.{refl}
use Rattle.ylalr.proofs.FrontSteps.{each_more}
use Rattle.ybitsets.proofs.Growth.{sized_grown}
use Rattle.ylalr.proofs.first.own_tokens.Goals as goal

pub loop-t-preserved : goal.loop-t-preserved
loop-t-preserved c =
    let g = c.args.grammar.now.bare in
    let i = c.loop-t.invariant in
    record {
      sized = sized_grown c.loop-t.first c.mark.new.self g.symbols g.tokens c.mark.result i.sized
          c.mark.ensures.grown;
      own = each_more (λ t. t) c.loop-t.t c.loop-t.t c.loop-t.first c.mark.new.self refl
          c.mark.ensures.exact i.own;
    }
