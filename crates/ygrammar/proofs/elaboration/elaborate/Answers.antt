use Rattle.std.proofs.Common.{refl}
use Rattle.ygrammar.specs.Elaborated.{IsReady}
use Rattle.ysyntax.specs.Tree.{yield}
use Rattle.ysyntax.specs.TreeViews.{tree_view}
use Rattle.ydeclarations.specs.OutlineSites.{IsPlaced}
use Rattle.ysyntax.specs.SiteViews.{tree_sites}
use Rattle.ygrammar.proofs.PlaceSteps.{memory_placed, passes_place}
use Rattle.ygrammar.proofs.MeaningSteps.{are_in}
use Rattle.ygrammar.proofs.SymbolNames.{spelled_names}
use Rattle.ygrammar.proofs.Wellness.{well_formed_of}
use Rattle.ygrammar.proofs.elaboration.elaborate.Goals.{In_ok-texts}
use Rattle.ygrammar.proofs.elaboration.elaborate.Goals as goal

ready : (c : In_ok-texts) → IsReady (tree_view c.args.tree.now) c.in_ok-named.named
    c.in_ok-rules.rules.items c.in_ok-texts.texts.texts
ready c =
    let t = tree_view c.args.tree.now in
    let n = c.in_ok-named.ensures.named in
    let vs = c.in_ok-rules.ensures.numbered in
    let sound = c.in_ok-rules.ensures.decides in
    record {
      named = n;
      numbered = vs;
      texts = c.in_ok-texts.ensures;
      sound = sound.none;
      in_range = are_in t _ _ _ c.requires.shaped n.all_defined sound.none.1.1.1.1.0
          n.tokens_first refl vs;
      well_formed = well_formed_of t c.requires.shaped
          (spelled_names c.requires.spelled.0 (yield t) t c.requires.spelled.1 refl) sound.none
          sound.productive;
    }

pub grammar_of-requires : goal.grammar_of-requires
grammar_of-requires c = (_, ready (goal.at.grammar_of-requires c).In_ok-texts)

pub returns-clause-means : goal.returns-clause-means
returns-clause-means c = c.grammar_of.ensures.means _ (ready (goal.at.returns-clause-means c).In_ok-texts)

pub returns-in_err-named-clause-place : goal.returns-in_err-named-clause-place
returns-in_err-named-clause-place c =
    passes_place (IsPlaced (tree_view c.args.tree.now) (tree_sites c.args.tree.now))
    c.in_err-named.field-0.0 _ c.from_residual-in_err-named.ensures.1
    (c.in_err-named.ensures.place _ _ c.in_ok-outline.ensures.sites)

pub returns-in_err-rules-clause-place : goal.returns-in_err-rules-clause-place
returns-in_err-rules-clause-place c =
    passes_place (IsPlaced (tree_view c.args.tree.now) (tree_sites c.args.tree.now))
    c.in_err-rules.field-0.0 _ c.from_residual-in_err-rules.ensures.1
    (c.in_err-rules.ensures.place _ _ c.in_ok-outline.ensures.sites)

pub returns-clause-place : goal.returns-clause-place
returns-clause-place c = memory_placed (tree_view c.args.tree.now) (tree_sites c.args.tree.now)
    c.grammar_of.result c.grammar_of.ensures.memory
