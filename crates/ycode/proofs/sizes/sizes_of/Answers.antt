use Rattle.std.proofs.Common.{◌≡◌, ◌∙◌, length, ap, subst, arith}
use Rattle.ysymbols.specs.Grammar.{GrammarValue}
use Rattle.ysymbols.specs.WellFormed.{WellFormed}
use Rattle.ylalr.specs.Collection.{Collection, HasStates, Guide, IsGuide, bare_of}
use Rattle.ycode.specs.Cells.{states_of, tokens_of, symbols_of, rules_of}
use Rattle.ycode.proofs.CellSteps.{action_fits, goto_below, some_states}
use Rattle.ycode.proofs.sizes.sizes_of.Goals as goal

pub returns : goal.returns
returns c =
    let v = c.args.tables.now in
    let same = c.automaton-automaton.ensures.value in
    let g = c.grammar-grammar.ensures ∙ ap (λ (m : Collection). m.grammar) same in
    let w : WellFormed (bare_of v.built) = subst (λ (x : GrammarValue). WellFormed x.bare) g
    c.symbols.ensures.well_formed in
    let s : HasStates v.built = subst HasStates same c.states.ensures.states in
    let u : (u : Guide) × IsGuide v.built u =
    subst (λ (m : Collection). (u : Guide) × IsGuide m u) same c.states.ensures.guide in
    let states : c.states.result ≡ states_of v = c.states.ensures.count ∙
    ap (λ (m : Collection). length m.states) same in
    let tokens : c.token_count.result ≡ tokens_of v = c.token_count.ensures ∙
    ap (λ (x : GrammarValue). x.bare.tokens) g in
    let symbols : c.symbols.result ≡ symbols_of v = c.symbols.ensures.value ∙
    ap (λ (x : GrammarValue). x.bare.symbols) g in
    let rules : c.rules.result ≡ rules_of v = c.rules.ensures ∙
    ap (λ (x : GrammarValue). length x.bare.rules) g in
    record {
      states = states;
      tokens = tokens;
      symbols = symbols;
      rules = rules;
      few_states = let f = s.few in omega (arith, states, f);
      few_symbols = let f = w.small in omega (arith, symbols, f);
      few_rules = let f = w.few in omega (arith, rules, f);
      some_states = let f = some_states v.built s in omega (arith, states, f);
      some_tokens = let f = w.ends in omega (arith, tokens, f);
      some_nonterminals = let f = w.nonterminal 0 w.some in let h = w.left 0 w.some in
          omega (arith, tokens, symbols, f, h);
      some_rules = let f = w.some in omega (arith, rules, f);
      actions = action_fits v c.automaton-automaton.ensures.tables
          c.automaton-automaton.ensures.allowed s w u.0 u.1;
      gotos = λ q x n h l e. goto_below v.built q x n s h l e;
    }
