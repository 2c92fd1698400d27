use Rattle.std.specs.Prelude.{IfErr}
use Rattle.std.proofs.Common.{◌≡◌, ◌∙◌, List, Result, length, Err, ap, subst, sym, arith}
use Rattle.std.proofs.lemmas.List.{length-map}
use Rattle.std.proofs.lemmas.Result.{err_from_is_err_and}
use Rattle.ysyntax.specs.declared.lexer.Placed.{Placed}
use Rattle.ysyntax.specs.declared.fault.PlacedFault.{PlacedFault}
use Rattle.ysyntax.specs.Placing.{too_long}
use Rattle.ysyntax.specs.Answers.{StandIn, views}
use Rattle.ygrammar.specs.declared.parsed.Parsed.{Parsed}
use Rattle.ygrammar.specs.GrammarOf.{AnswersRefusal, HasLine, unplaced}
use Rattle.ylexemes.specs.Lexemes.{Lexeme}
use Rattle.ylexemes.specs.Views.{lexeme_view}
use Rattle.ysyntax.specs.Tree.{yield}
use Rattle.ysyntax.specs.TreeViews.{tree_view}
use Rattle.ygrammar.proofs.InnerSteps.{few_inner}
use Rattle.ygrammar.proofs.ReaderSteps.{has_tree, ok_err, read_no_fault, same_refusal}
use Rattle.ygrammar.proofs.ReaderSteps.{same_tree, sites_of, text_fault}
use Rattle.ygrammar.proofs.parsed.read_parsed.Goals as goal

pub returns-in_err-lexemes-clause-refused : goal.returns-in_err-lexemes-clause-refused
returns-in_err-lexemes-clause-refused c = λ r (short, out).
    let is = err_from_is_err_and c.from_residual.result c.from_residual.ensures.1 in
    subst (λ (x : Result Parsed PlacedFault). AnswersRefusal (unplaced x) r) (sym is.1)
    (subst (λ (f : PlacedFault). AnswersRefusal {X = Parsed} (unplaced (Err f)) r) (sym is.2)
    (same_refusal c.in_err-lexemes.field-0.0.fault r (c.in_err-lexemes.ensures.fault r short out)))

pub returns-in_err-lexemes-clause-line : goal.returns-in_err-lexemes-clause-line
returns-in_err-lexemes-clause-line c =
    let source = c.args.source.now in
    let e : PlacedFault = c.in_err-lexemes.field-0.0 in
    let is = err_from_is_err_and c.from_residual.result c.from_residual.ensures.1 in
    subst (λ (x : Result Parsed PlacedFault). IfErr x (λ f. HasLine source f)) (sym is.1)
    (subst (λ (f : PlacedFault). HasLine source f) (sym is.2)
    (text_fault source e (λ l. let same : Err e ≡ Err too_long = c.in_err-lexemes.ensures.too_long.1 l in cc)
    c.in_err-lexemes.ensures.exact).1)

pub returns-clause-refused : goal.returns-clause-refused
returns-clause-refused c = λ r (short, out).
    read_no_fault (views c.in_ok-lexemes.lexemes.items) r _
    (sym (c.in_ok-lexemes.ensures.fault r short out))

pub returns-clause-parsed : goal.returns-clause-parsed
returns-clause-parsed c =
    let source = c.args.source.now in
    let ls : List Placed = c.in_ok-lexemes.lexemes.items in
    let t = tree_view c.in_ok-tree.tree in
    let same = c.deref.ensures.value in
    let whole = c.in_ok-tree.ensures.whole in
    let count : length (yield t) ≡ length ls =
    ap (λ (x : List Lexeme). length x) (sym whole) ∙ ap (λ (x : List Placed). length (views x)) same
    ∙ length-map ls (λ (p : Placed). lexeme_view p.lexeme) in
    let few = few_inner t in
    let k = c.in_ok-lexemes.lexemes.len in
    record {
      has = has_tree source ls c.deref.result.now t same whole c.in_ok-tree.ensures.shaped
          (λ l. ok_err c.in_ok-lexemes.lexemes too_long (c.in_ok-lexemes.ensures.too_long.1 l))
          c.in_ok-lexemes.ensures.found;
      one = λ u h. same_tree source ls c.deref.result.now t u same whole c.in_ok-tree.ensures.shaped
          c.in_ok-lexemes.ensures.only h;
      sites = sites_of source ls c.deref.result.now c.in_ok-tree.tree same whole
          c.in_ok-tree.ensures.sites c.in_ok-lexemes.ensures.sites;
      stands = c.in_ok-tree.ensures.stands source
          (subst (StandIn source) (sym same) c.in_ok-lexemes.ensures.placed);
      counted = omega (arith, count, few);
      lexemes = ap views (sym same) ∙ whole;
      ends = c.in_ok-lexemes.ensures.placed;
      places = c.in_ok-lexemes.ensures.sites;
    }
