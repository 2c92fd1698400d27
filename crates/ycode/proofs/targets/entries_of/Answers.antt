use Rattle.std.proofs.Common.{ℕ, ◌≡◌, ◌+◌, ◌<◌, ◌∙◌, ap, sym, arith}
use Rattle.ylalr.specs.Collection.{goto_in}
use Rattle.ycode.specs.Cells.{states_of, tokens_of}
use Rattle.ycode.specs.Targets.{beside}
use Rattle.ycode.proofs.CellSteps.{beside_most}
use Rattle.ycode.proofs.EntrySteps.{entries_more, rest_more, most_more, entries_for_more}
use Rattle.ycode.proofs.targets.entries_of.Goals as goal

pub loop-q-preserved : goal.loop-q-preserved
loop-q-preserved c =
    let v = c.args.tables.now in
    let x = c.args.x in
    let usual = c.args.usual in
    let q = c.loop-q.q in
    let old = c.loop-q.entries in
    let new = c.push_number.new.entries in
    let number = c.beside.result in
    let inv = c.loop-q.invariant in
    let adds = c.in_ok-push_number.ensures in
    let is : number ≡ beside usual (goto_in v.built q (tokens_of v + x)) =
    c.beside.ensures ∙ ap (beside usual) (c.goto-goto.ensures.value ∙
    ap (λ (k : ℕ). goto_in v.built q (k + x)) c.requires.sizes.tokens) in
    let there : q < states_of v = (let t = c.loop-q-test.true in
    let s = c.requires.sizes.states in omega (arith, t, s)) in
    record {
      entries = entries_more old new q number adds inv.rest
          (λ s. beside usual (goto_in v.built s (tokens_of v + x))) is inv.entries;
      rest = rest_more old new q number adds inv.rest;
      most = most_more old new q number adds inv.rest (states_of v)
          (λ k e. (let to = beside_most usual k (goto_in v.built q (tokens_of v + x))
          (sym is ∙ e) in
          let l = c.requires.sizes.gotos q (tokens_of v + x) k there c.requires.nonterminal to in
          omega (arith, l))) inv.most;
      list = entries_for_more (λ s. beside usual (goto_in v.built s (tokens_of v + x))) old new q
          number adds is inv.list;
    }
