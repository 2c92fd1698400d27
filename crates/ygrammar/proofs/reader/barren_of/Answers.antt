use Rattle.std.proofs.Common.{IfErr, Result, subst, sym}
use Rattle.std.proofs.lemmas.Result.{IfOk-weaker}
use Rattle.ysymbols.specs.Grammar.{GrammarValue}
use Rattle.ysyntax.specs.declared.fault.GrammarFault.{GrammarFault}
use Rattle.ysyntax.specs.declared.fault.PlacedFault.{PlacedFault}
use Rattle.ysyntax.specs.SiteViews.{tree_sites}
use Rattle.ysyntax.specs.TreeViews.{tree_view}
use Rattle.ydeclarations.specs.Places.{IsBarren}
use Rattle.ygrammar.specs.Faults.{IsFaultIn}
use Rattle.ygrammar.specs.Parsed.{AreBarren, AreBarrenOf}
use Rattle.ygrammar.proofs.AllPlaces.{all_first}
use Rattle.ygrammar.proofs.ReaderSteps.{barren_told}
use Rattle.ygrammar.proofs.reader.barren_of.Goals as goal

pub returns-in-Unproductive : goal.returns-in-Unproductive
returns-in-Unproductive c =
    let t = tree_view c.args.parsed.now.tree in
    let ss = tree_sites c.args.parsed.now.tree in
    let e : PlacedFault = c.in-Err.placed in
    let (source, p, h) = c.requires in
    let here : IsFaultIn source t ss e =
    subst (λ (r : Result GrammarValue PlacedFault). IfErr r (λ e. IsFaultIn source t ss e))
    c.in-Err.is h in
    let first = barren_told source t ss e c.in-Unproductive.line here c.in-Unproductive.is in
    IfOk-weaker c.barren_lefts.result _ _ (λ v all.
    subst (λ (r : Result GrammarValue PlacedFault). AreBarrenOf t ss r v.items) (sym c.in-Err.is)
    (subst (λ (f : GrammarFault). AreBarren t ss f e.at v.items) (sym c.in-Unproductive.is)
    (all, all_first (λ r. IsBarren t r) ss v.items e.at all first))) c.barren_lefts.ensures
