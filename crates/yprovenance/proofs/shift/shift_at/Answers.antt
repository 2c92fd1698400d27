use Rattle.std.proofs.Common.{sym, ap, ◌∙◌, subst}
use Rattle.ysymbols.specs.Grammar.{GrammarValue}
use Rattle.ysymbols.specs.WellFormed.{WellFormed}
use Rattle.ylalr.specs.Collection.{Collection, HasStates, bare_of, goto_in}
use Rattle.yprovenance.proofs.ShiftSteps.{shift_some, shift_none}
use Rattle.yprovenance.proofs.shift.shift_at.Goals as goal

pub returns-in-Some : goal.returns-in-Some
returns-in-Some c =
    let m = c.args.tables.now.built in
    let same = c.automaton-automaton.ensures.value in
    let w : WellFormed (bare_of m) = subst (λ (v : GrammarValue). WellFormed v.bare)
    (c.grammar-grammar.ensures ∙ ap (λ (m : Collection). m.grammar) same)
    c.symbols-well_formed.ensures.well_formed in
    let s : HasStates m = subst HasStates same c.states-guide.ensures.states in
    shift_some m c.args.q c.args.t w s c.requires.state c.requires.token c.if-t-ne-END.true
    c.in-Some.n (sym c.in-Some.is ∙ c.goto.ensures.value ∙ ap
    (λ (m : Collection). goto_in m c.args.q c.args.t) same)

pub returns-in-None : goal.returns-in-None
returns-in-None c =
    let m = c.args.tables.now.built in
    let same = c.automaton-automaton.ensures.value in
    let w : WellFormed (bare_of m) = subst (λ (v : GrammarValue). WellFormed v.bare)
    (c.grammar-grammar.ensures ∙ ap (λ (m : Collection). m.grammar) same)
    c.symbols-well_formed.ensures.well_formed in
    let s : HasStates m = subst HasStates same c.states-guide.ensures.states in
    shift_none m c.args.q c.args.t w s c.requires.state c.requires.token c.if-t-ne-END.true
    (sym c.in-None.is ∙ c.goto.ensures.value ∙ ap
    (λ (m : Collection). goto_in m c.args.q c.args.t) same)
