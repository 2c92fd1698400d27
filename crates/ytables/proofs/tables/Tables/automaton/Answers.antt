use Rattle.std.proofs.Common.{sym, subst}
use Rattle.ysymbols.specs.Grammar.{GrammarValue}
use Rattle.ysymbols.specs.WellFormed.{WellFormed}
use Rattle.ylalr.specs.Collection.{bare_of, state_of}
use Rattle.ytables.specs.Tables.{TablesValue}
use Rattle.ytables.specs.Allowed.{Allows, CellsAllow}
use Rattle.ytables.proofs.AllowedSteps.{action_allowed}
use Rattle.ytables.proofs.tables.Tables.automaton.Goals as goal

pub returns-clause-allowed : goal.returns-clause-allowed
returns-clause-allowed c =
    let I = c.self.inside in
    let m = I.automaton in
    let v : TablesValue = record {
      built = m;
      actions = I.found.actions.rows;
      defaults = I.found.defaults.items;
      shift_reduce = I.found.counts.shift_reduce;
      reduce_reduce = I.found.counts.reduce_reduce;
      choice = I.found.chosen;
    } in
    let guide = c.states-guide.ensures.guide in
    let well : WellFormed m.grammar.bare = subst (λ (x : GrammarValue). WellFormed x.bare)
    c.grammar.ensures c.symbols-well_formed.ensures.well_formed in
    let follows = c.self.invariant.tables guide.0 guide.1 in
    let all : CellsAllow v = λ q t h l. subst (Allows (bare_of m) (state_of m q) t)
    (sym (follows.rows.action q t h l))
    (action_allowed m guide.0 q t well c.states-guide.ensures.states h) in
    subst CellsAllow c.self.view_is all
