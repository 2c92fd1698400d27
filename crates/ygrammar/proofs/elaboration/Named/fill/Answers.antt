use Rattle.std.proofs.Common.{IfErr, refl}
use Rattle.ydeclarations.specs.declared.mistake.Mistake.TheVariants as mistakes
use Rattle.ygrammar.specs.Elaborated.{IsFirstRefused}
use Rattle.ysyntax.specs.TreeViews.{tree_view}
use Rattle.std.proofs.Common.{◌++◌}
use Rattle.ydeclarations.specs.OutlineSites.{IsPlaced}
use Rattle.ygrammar.proofs.PlaceSteps.{passes_place}
use Rattle.ygrammar.proofs.ElaborationSteps.{refuses}
use Rattle.ygrammar.proofs.elaboration.Named.fill.Goals as goal

pub returns-in_err-refuse_token_left-clause-refused :
    goal.returns-in_err-refuse_token_left-clause-refused
returns-in_err-refuse_token_left-clause-refused c =
    let t = tree_view c.args.tree.now in
    refuses (λ r. IfErr r (IsFirstRefused t)) t 0 mistakes.TokenLeft
    c.in_err-refuse_token_left.field-0.0 _ (λ y f. f) refl c.from_residual.ensures.1 tt
    (c.in_err-refuse_token_left.ensures.clears t c.requires.outline c.requires.names)

pub returns-in_err-add_nonterminals-clause-refused :
    goal.returns-in_err-add_nonterminals-clause-refused
returns-in_err-add_nonterminals-clause-refused c =
    let t = tree_view c.args.tree.now in
    refuses (λ r. IfErr r (IsFirstRefused t)) t 1 mistakes.Undefined
    c.in_err-add_nonterminals.field-0.0 _ (λ y f. f) refl
    c.from_residual-in_err-add_nonterminals.ensures.1
    (c.in_ok-refuse_token_left.ensures.clears t c.requires.outline c.requires.names, tt)
    c.in_err-add_nonterminals.ensures.defined

pub returns-in_err-self-clause-refused :
    goal.returns-in_err-self-clause-refused
returns-in_err-self-clause-refused c =
    let t = tree_view c.args.tree.now in
    let o = c.requires.outline in
    refuses (λ r. IfErr r (IsFirstRefused t)) t 2 mistakes.TwicePrecedence c.in_err-self.field-0.0 _
    (λ y f. f) refl c.from_residual-in_err-self.ensures.1 (
      c.in_ok-refuse_token_left.ensures.clears t o c.requires.names,
      (c.in_ok-add_nonterminals.ensures.defined, tt),
    )
    (c.in_err-self.ensures.told t o c.requires.names)

pub returns-in_err-self-2-clause-refused :
    goal.returns-in_err-self-2-clause-refused
returns-in_err-self-2-clause-refused c =
    let t = tree_view c.args.tree.now in
    let o = c.requires.outline in
    refuses (λ r. IfErr r (IsFirstRefused t)) t 3 mistakes.BadNumber c.in_err-self-2.field-0.0 _
    (λ y f. f) refl c.from_residual-in_err-self-2.ensures.1 (
      c.in_ok-refuse_token_left.ensures.clears t o c.requires.names,
      (
        c.in_ok-add_nonterminals.ensures.defined,
        ((c.in_ok-self.ensures.told t o c.requires.names).sound, tt),
      ),
    )
    (c.in_err-self-2.ensures.told t o c.requires.names)

pub returns-clause-filled : goal.returns-clause-filled
returns-clause-filled c =
    let t = tree_view c.args.tree.now in
    let o = c.requires.outline in
    let given = c.in_ok-self.ensures.told t o c.requires.names in
    record {
      names = c.in_ok-add_nonterminals.ensures.symbols;
      tokens_first = c.requires.tokens;
      given = given.table;
      own = c.in_ok-self-2.ensures.told t o c.requires.names;
      no_token_left = c.in_ok-refuse_token_left.ensures.clears t o c.requires.names;
      all_defined = c.in_ok-add_nonterminals.ensures.defined;
      once = given.sound;
    }

pub returns-in_err-refuse_token_left-clause-place : goal.returns-in_err-refuse_token_left-clause-place
returns-in_err-refuse_token_left-clause-place c = λ ds rs out.
    passes_place (IsPlaced (tree_view c.args.tree.now) (ds ++ rs))
    c.in_err-refuse_token_left.field-0.0 _ c.from_residual.ensures.1
    (c.in_err-refuse_token_left.ensures.place (tree_view c.args.tree.now) ds rs out c.requires.names)

pub returns-in_err-add_nonterminals-clause-place : goal.returns-in_err-add_nonterminals-clause-place
returns-in_err-add_nonterminals-clause-place c = λ ds rs out.
    passes_place (IsPlaced (tree_view c.args.tree.now) (ds ++ rs))
    c.in_err-add_nonterminals.field-0.0 _ c.from_residual-in_err-add_nonterminals.ensures.1
    (c.in_err-add_nonterminals.ensures.place ds rs out)

pub returns-in_err-self-clause-place : goal.returns-in_err-self-clause-place
returns-in_err-self-clause-place c = λ ds rs out.
    let t = tree_view c.args.tree.now in
    passes_place (IsPlaced t (ds ++ rs)) c.in_err-self.field-0.0 _
    c.from_residual-in_err-self.ensures.1
    (c.in_err-self.ensures.place t ds rs c.requires.outline out c.requires.names)

pub returns-in_err-self-2-clause-place : goal.returns-in_err-self-2-clause-place
returns-in_err-self-2-clause-place c = λ ds rs out.
    let t = tree_view c.args.tree.now in
    passes_place (IsPlaced t (ds ++ rs)) c.in_err-self-2.field-0.0 _
    c.from_residual-in_err-self-2.ensures.1
    (c.in_err-self-2.ensures.place t ds rs c.requires.outline out c.requires.names)
