use Rattle.std.proofs.Common.{◌≡◌, ◌<◌, ◌+◌, ◌-◌, [], ◌∷◌, length, get_or, set, drop, sym, ap, ◌∙◌}
use Rattle.std.proofs.Common.{subst, arith, length-set}
use Rattle.ysymbols.specs.Grammar.{GrammarValue, body_of}
use Rattle.ylalr.specs.declared.items.Item.{Item}
use Rattle.ylalr.specs.Collection.{goto_in}
use Rattle.ytables.specs.Tables.{after_dot}
use Rattle.ytables.proofs.GotoSteps.{Marked, next_below, marked_end, marked_token, marked_more}
use Rattle.ytables.proofs.GotoSteps.{marked_whole}
use Rattle.ytables.proofs.gotos.gotos_of.Goals as goal
use Rattle.ytables.proofs.gotos.gotos_of.Goals.{in-Some+then-tokens-x, in-Some+else-tokens-x}
use Rattle.ytables.proofs.gotos.gotos_of.Goals.{in_default}

pub goto-requires-clause-symbol : goal.goto-requires-clause-symbol
goto-requires-clause-symbol c =
    let m = c.args.automaton.now in
    let v = c.grammar-grammar.result.now in
    let xs = c.items-items.result.now in
    let k = c.loop-item.item-index in
    let d : Item = record { rule = 0; dot = 0 } in
    let i = get_or xs k d in
    next_below m v xs c.args.q k c.in-Some.x d (drop (i.dot + 1) (body_of v.bare i.rule))
    c.grammar-grammar.ensures c.items-items.ensures c.symbols.ensures.well_formed
    c.states-guide.ensures.states c.requires.state c.loop-item-test.true c.in-Some.ensures

pub index_mut-requires : goal.index_mut-requires
index_mut-requires c =
    let m = c.args.automaton.now in
    let v = c.grammar-grammar.result.now in
    let xs = c.items-items.result.now in
    let k = c.loop-item.item-index in
    let d : Item = record { rule = 0; dot = 0 } in
    let i = get_or xs k d in
    let below = next_below m v xs c.args.q k c.in-Some.x d
    (drop (i.dot + 1) (body_of v.bare i.rule)) c.grammar-grammar.ensures
    c.items-items.ensures c.symbols.ensures.well_formed c.states-guide.ensures.states
    c.requires.state c.loop-item-test.true c.in-Some.ensures in
    let len = c.loop-item.invariant.len in
    let high = c.if-tokens-x.true in
    omega (arith, below, len, c.loop-item.row.ok.0, high)

pub loop-item-preserved : goal.loop-item-preserved
loop-item-preserved c =
    let m = c.args.automaton.now in
    let v = c.grammar-grammar.result.now in
    let q = c.args.q in
    let t = c.args.tokens in
    let xs = c.items-items.result.now in
    let k = c.loop-item.item-index in
    let d : Item = record { rule = 0; dot = 0 } in
    let i = get_or xs k d in
    let y = drop (i.dot + 1) (body_of v.bare i.rule) in
    let row = c.loop-item.row.items in
    let inv = c.loop-item.invariant in
    let l = c.loop-item-test.true in
    elim c.match-next_symbol.branch [
      | in-Some+then-tokens-x w ↦
          (let x = w.in-Some.x in
          let after : after_dot m.grammar.bare i ≡ x ∷ y =
          subst (λ (u : GrammarValue). after_dot u.bare i ≡ x ∷ y) c.grammar-grammar.ensures
          w.in-Some.ensures in
          let items : c.match-next_symbol.row.items ≡ set row (x - t) (goto_in m q x) =
          ap (λ v. v.items) w.row-is ∙ ap (set row (x - t)) w.goto.ensures.value in
          let below = next_below m v xs q k x d y c.grammar-grammar.ensures c.items-items.ensures
          c.symbols.ensures.well_formed c.states-guide.ensures.states c.requires.state l
          w.in-Some.ensures in
          let len = inv.len in
          let high = w.if-tokens-x.true in
          let room : x - t < length row = omega (arith, below, len, high) in
          record {
            len = ap (λ l. length l + t) items ∙ ap (λ n. n + t)
                (length-set row (x - t) (goto_in m q x)) ∙ inv.len;
            gotos = subst (Marked m q t xs (k + 1)) (sym items)
                (marked_more m q t xs k d l row x y inv.gotos after high room);
          })
      | in-Some+else-tokens-x w ↦
          (let x = w.in-Some.x in
          let after : after_dot m.grammar.bare i ≡ x ∷ y =
          subst (λ (u : GrammarValue). after_dot u.bare i ≡ x ∷ y) c.grammar-grammar.ensures
          w.in-Some.ensures in
          let items : c.match-next_symbol.row.items ≡ row = ap (λ v. v.items) w.row-is in
          record {
            len = ap (λ l. length l + t) items ∙ inv.len;
            gotos = subst (Marked m q t xs (k + 1)) (sym items)
                (marked_token m q t xs k d l row x y inv.gotos after w.if-tokens-x.false);
          })
      | in_default w ↦
          (let after : after_dot m.grammar.bare i ≡ [] =
          subst (λ (u : GrammarValue). after_dot u.bare i ≡ []) c.grammar-grammar.ensures
          w.in_default.ensures in
          let items : c.match-next_symbol.row.items ≡ row = ap (λ v. v.items) w.row-is in
          record {
            len = ap (λ l. length l + t) items ∙ inv.len;
            gotos = subst (Marked m q t xs (k + 1)) (sym items)
                (marked_end m q t xs k d l row inv.gotos after);
          })
    ]

pub returns-clause-gotos : goal.returns-clause-gotos
returns-clause-gotos c =
    let m = c.args.automaton.now in
    let t = c.args.tokens in
    let xs = c.items-items.result.now in
    let row = c.loop-item.row.items in
    let inv = c.loop-item.invariant in
    let len = inv.len in
    let end : c.loop-item.item-index ≡ length xs = omega (
      arith,
      c.loop-item-test.false,
      c.loop-item.auto.item-index-end,
    ) in
    marked_whole m c.args.q t xs row c.states-guide.ensures.states c.requires.state
    c.items-items.ensures (omega (arith, len))
    (subst (λ n. Marked m c.args.q t xs n row) end inv.gotos)
