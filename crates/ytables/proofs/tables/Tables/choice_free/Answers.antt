use Rattle.std.proofs.Common.{◌≡◌, not, sym, ap, ◌∙◌, subst}
use Rattle.ysymbols.specs.Grammar.{GrammarValue}
use Rattle.ysymbols.specs.WellFormed.{WellFormed}
use Rattle.ylalr.specs.Collection.{Collection, Guide, IsGuide, HasStates, bare_of}
use Rattle.ytables.specs.Tables.{TablesValue, AreTables}
use Rattle.ytables.proofs.HadSteps.{cells_have, no_choice, choice_no, unset}
use Rattle.ytables.proofs.tables.Tables.choice_free.Goals as goal

pub returns-clause-exact : goal.returns-clause-exact
returns-clause-exact c u h =
    let v = c.args.self.now in
    let same : c.self.inside.found.chosen ≡ v.choice =
    ap (λ (v : TablesValue). v.choice) c.self.view_is in
    let sums = (tables_of u h).sums in (
      λ e. no_choice v.built u (sym sums.choice ∙ sym same ∙ unset c.self.inside.found.chosen e),
      λ n. ap not (same ∙ sums.choice ∙ choice_no v.built u n),
    )
  where
    tables_of : AreTables c.args.self.now
    tables_of = subst AreTables c.self.view_is c.self.invariant.tables

pub returns-clause-have : goal.returns-clause-have
returns-clause-have c e =
    let v = c.args.self.now in
    let same : c.self.inside.automaton ≡ v.built =
    ap (λ (v : TablesValue). v.built) c.self.view_is in
    let well : WellFormed (bare_of v.built) = subst (λ (x : GrammarValue). WellFormed x.bare)
    (c.grammar.ensures ∙ ap (λ (m : Collection). m.grammar) same)
    c.symbols-well_formed.ensures.well_formed in
    let states : HasStates v.built = subst HasStates same c.states-guide.ensures.states in
    let guide : (u : Guide) × IsGuide v.built u = subst (λ m. (u : Guide) × IsGuide m u) same
    c.states-guide.ensures.guide in
    let tables : AreTables v = subst AreTables c.self.view_is c.self.invariant.tables in
    cells_have v well states guide.0 guide.1 tables
    (sym (ap (λ (v : TablesValue). v.choice) c.self.view_is) ∙ unset c.self.inside.found.chosen e)
