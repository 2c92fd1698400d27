use Rattle.std.proofs.Common.{◌≡◌, ◌∙◌, ap, length}
use Rattle.ysymbols.specs.Grammar.{Production, left_of}
use Rattle.ylalr.proofs.FrontSteps.{each_more}
use Rattle.ybitsets.proofs.Growth.{sized_grown}
use Rattle.ylalr.proofs.first_rules.own_rules.Goals as goal

pub loop-r-preserved : goal.loop-r-preserved
loop-r-preserved c =
    let g = c.args.grammar.now.bare in
    let i = c.loop-r.invariant in
    let r = c.loop-r.r in
    let le : c.left.result ≡ left_of g r = c.left.ensures ∙ ap (λ (p : Production). p.left)
    c.rule.ensures.production in
    record {
      sized = sized_grown c.loop-r.rows c.mark.new.self g.symbols (length g.rules) c.mark.result
          i.sized c.mark.ensures.grown;
      own = each_more (left_of g) r c.left.result c.loop-r.rows c.mark.new.self le
          c.mark.ensures.exact i.own;
    }
