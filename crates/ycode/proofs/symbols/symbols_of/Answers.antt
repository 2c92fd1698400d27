use Rattle.std.proofs.Common.{ℕ, ◌≡◌, ◌+◌, ◌∙◌, List, [], ◌∷◌, ◌++◌, length, slice_index, sym, ap}
use Rattle.std.proofs.Common.{subst}
use Rattle.std.proofs.Common.{arith, length-append}
use Rattle.ysymbols.specs.Grammar.{GrammarValue}
use Rattle.ylalr.specs.declared.items.Item.{Item}
use Rattle.ylalr.specs.Collection.{Collection, state_of}
use Rattle.ycode.specs.Symbols.{StandsBefore, symbol_for}
use Rattle.ycode.proofs.ListSteps.{made_more}
use Rattle.ycode.proofs.SymbolSteps.{symbols_more}
use Rattle.ycode.proofs.symbols.symbols_of.Goals as goal

pub loop-q-preserved : goal.loop-q-preserved
loop-q-preserved c =
    let v = c.args.tables.now in
    let q = c.loop-q.q in
    let s = c.symbol_before.result in
    let inv = c.loop-q.invariant in
    let same = c.automaton-automaton.ensures.value in
    let g = c.grammar-grammar.ensures ∙ ap (λ (m : Collection). m.grammar) same in
    let items : c.items.result.now ≡ state_of v.built q = c.items.ensures ∙
    ap (λ (m : Collection). state_of m q) same in
    let here : StandsBefore v.built.grammar.bare (state_of v.built q) s =
    subst (λ (k : List Item). StandsBefore v.built.grammar.bare k s) items
    (subst (λ (x : GrammarValue). StandsBefore x.bare c.items.result.now s) g
    c.symbol_before.ensures.before) in
    let is : s ≡ symbol_for v.built.grammar.bare (state_of v.built q) =
    c.symbol_before.ensures.is ∙ (ap (λ (x : GrammarValue). symbol_for x.bare c.items.result.now) g
    ∙ ap (symbol_for v.built.grammar.bare) items) in
    let more : c.push.new.self.items ≡ c.loop-q.symbols.items ++ s ∷ [] =
    c.in_ok-push.ensures.items in
    record {
      len = ap length more ∙ (length-append c.loop-q.symbols.items (s ∷ []) ∙
          ap (λ n. n + 1) inv.len);
      symbols = symbols_more v.built.grammar.bare (state_of v.built) c.loop-q.symbols.items
          c.push.new.self.items q s inv.len more here inv.symbols;
      list = made_more (λ k. symbol_for v.built.grammar.bare (state_of v.built k))
          c.loop-q.symbols.items c.push.new.self.items q s more inv.list is;
    }

pub returns-clause-symbols : goal.returns-clause-symbols
returns-clause-symbols c = λ q l.
    (let v = c.args.tables.now in
    let e = c.requires.states in
    let t = c.loop-q-test.false in
    subst (λ (x : List ℕ). StandsBefore v.built.grammar.bare (state_of v.built q) (slice_index x q))
    (sym c.of.ensures) (c.loop-q.invariant.symbols q (omega (arith, e, t, l))))
