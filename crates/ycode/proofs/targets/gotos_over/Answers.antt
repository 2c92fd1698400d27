use Rattle.std.proofs.Common.{ℕ, ◌+◌, ◌∙◌, ap}
use Rattle.ylalr.specs.Collection.{goto_in}
use Rattle.ycode.specs.Cells.{tokens_of}
use Rattle.ycode.proofs.ListSteps.{made_more}
use Rattle.ycode.proofs.targets.gotos_over.Goals as goal

pub loop-q-preserved : goal.loop-q-preserved
loop-q-preserved c =
    let v = c.args.tables.now in
    let q = c.loop-q.q in
    let x = c.args.x in
    made_more (λ (k : ℕ). goto_in v.built k (tokens_of v + x)) c.loop-q.gotos.items
    c.push.new.self.items q c.goto.result c.in_ok-push.ensures.items c.loop-q.invariant
    (c.goto.ensures.value ∙ ap (λ (k : ℕ). goto_in v.built q (k + x)) c.requires.sizes.tokens)
