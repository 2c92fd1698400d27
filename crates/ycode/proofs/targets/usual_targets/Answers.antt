use Rattle.std.proofs.Common.{ℕ, ◌≡◌, ◌+◌, ◌<◌, ◌∙◌, List, Option, None, [], ◌∷◌, ◌++◌, length}
use Rattle.std.proofs.Common.{get_or}
use Rattle.std.proofs.Common.{sym, ap, subst, arith}
use Rattle.std.proofs.lemmas.List.FromFn.{length-map-range_with_len}
use Rattle.ycode.specs.Cells.{tokens_of, symbols_of}
use Rattle.ycode.specs.Combs.{AreAtMost}
use Rattle.ycode.specs.Targets.{gotos_over}
use Rattle.ycode.specs.Usual.{most_usual}
use Rattle.ycode.proofs.CellLoops.{at_most_push}
use Rattle.ycode.proofs.ListSteps.{made_more}
use Rattle.ycode.proofs.ReadSteps.{goto_state_below}
use Rattle.ycode.proofs.targets.usual_targets.Goals as goal

pub most_usual-requires : goal.most_usual-requires
most_usual-requires c = λ i n e.
    (let v = c.args.tables.now in
    let a = c.requires.sizes in
    let m : tokens_of v + c.loop-x.x < symbols_of v = (let t = c.loop-x-test.true in
    let x = a.tokens in let y = a.symbols in omega (arith, t, x, y)) in
    let b = goto_state_below v c.args.sizes.now a c.loop-x.x m i n
    (ap (λ (x : List (Option ℕ)). get_or x i None)
    (sym (c.deref.ensures.value ∙ c.in_ok-gotos.ensures)) ∙ e) in
    let s = a.states in omega (arith, b, s))

pub loop-x-preserved : goal.loop-x-preserved
loop-x-preserved c =
    let v = c.args.tables.now in
    let x = c.loop-x.x in
    let old = c.loop-x.usual.items in
    let new = c.push.new.self.items in
    let n = c.in_ok-most_usual.field-0 in
    let inv = c.loop-x.invariant in
    let e : new ≡ old ++ n ∷ [] = c.in_ok-push.ensures.items in
    record {
      list = made_more (λ (k : ℕ). most_usual (gotos_over v k)) old new x n e inv.list
          (c.in_ok-most_usual.ensures.value ∙
          ap most_usual (c.deref.ensures.value ∙ c.in_ok-gotos.ensures));
      most = subst (AreAtMost c.args.sizes.now.states) (sym e)
          (at_most_push c.args.sizes.now.states old n inv.most c.in_ok-most_usual.ensures.most);
    }

pub returns-clause-len : goal.returns-clause-len
returns-clause-len c =
    let v = c.args.tables.now in
    let a = c.requires.sizes in
    let l = ap (λ (x : List ℕ). length x) c.loop-x.invariant.list in
    let m = length-map-range_with_len (λ (k : ℕ). most_usual (gotos_over v k)) 0 c.loop-x.x in
    let t = c.loop-x-test.false in
    let u = c.loop-x.auto.x-end in
    let x = a.tokens in let y = a.symbols in let s = a.some_nonterminals in
    omega (arith, l, m, t, u, x, y, s)
