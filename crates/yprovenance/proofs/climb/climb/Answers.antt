use Rattle.std.proofs.Common.{◌<◌, ◌++◌, ◌∷◌, [], ◌∙◌, ap, List, arith}
use Rattle.yprovenance.specs.declared.reason.Reason.{Reason}
use Rattle.yprovenance.specs.Trail.{entry_at}
use Rattle.yprovenance.proofs.ClimbSteps.{climb_first, climb_next, reason_of}
use Rattle.yprovenance.proofs.climb.climb.Goals as goal

pub loop-index-init : goal.loop-index-init
loop-index-init c =
    let l = c.args.trail.now in
    record {
      within = c.requires;
      chain = λ m a t h. climb_first m a c.at.result (entry_at l c.args.source.index)
          c.args.source.cause c.push.new.self.items c.at.ensures.value
          (c.in_ok-push.ensures.items ∙ ap
          (λ (xs : List Reason). xs ++ reason_of c.at.result c.args.source.cause ∷ [])
          c.new-chain.ensures.items) h;
    }

pub loop-index-preserved : goal.loop-index-preserved
loop-index-preserved c =
    let l = c.args.trail.now in
    let k = c.loop-index.index in
    let i = c.loop-index.invariant in
    let e = c.at-entry.result in
    let z : 0 < k = omega arith in
    let low : e.gives < k = c.at-entry.ensures.gives z in
    let within = i.within in
    record {
      within = omega (arith, low, within);
      chain = λ m a t h. climb_next m a l k e c.at-in-loop-index.result c.loop-index.chain.items
          c.push-in-loop-index.new.self.items z within t c.at-entry.ensures.value
          c.at-in-loop-index.ensures.value c.in_ok-push-2.ensures.items (i.chain m a t h);
    }
