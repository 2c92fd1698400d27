use Rattle.std.proofs.Common.{◌≡◌, ◌++◌, ◌∷◌, ◌∙◌, ◌-◌, List, ap, arith, drop, length, map, subst}
use Rattle.std.proofs.Common.{sym}
use Rattle.std.specs.List.{flat_map}
use Rattle.ysyntax.specs.declared.lexer.Placed.{Placed}
use Rattle.ylexemes.specs.declared.kind.Sign.TheVariants.{Mark}
use Rattle.ysyntax.specs.declared.recogniser.State.TheVariants.{RulesMark}
use Rattle.ysyntax.specs.Answers.{StandIn, StandsIn, views}
use Rattle.ysyntax.specs.Lexer.{kinds}
use Rattle.ylexemes.specs.Lexemes.{Lexeme, fixed}
use Rattle.ysyntax.specs.Tree.{rule_text_yield, definition_yield}
use Rattle.ysyntax.specs.TreeViews.{rule_text_view, definition_view}
use Rattle.ysyntax.proofs.Accepted.{recognised}
use Rattle.ysyntax.specs.SiteViews.{definition_sites, named_in, rule_text_sites, site_marks}
use Rattle.ysyntax.proofs.SiteSteps.{mark_named, named_behind, two_pieces}
use Rattle.ysyntax.proofs.TreeSteps.{Goes, all_behind, end_marked, left_behind}
use Rattle.ysyntax.proofs.tree_builder.build_tree.Goals as goal

pub definitions-requires : goal.definitions-requires
definitions-requires c = recognised (kinds (views c.args.lexemes.now)) c.requires

pub overflow_sub-lexemes : goal.overflow_sub-lexemes
overflow_sub-lexemes c =
    let rest : c.front.inside.rest.now ≡ c.definitions.new.self = c.front.view_is in
    let same = ap (λ (x : List Placed). length x) rest in
    let left = (left_behind c.args.lexemes.now c.definitions.new.self
    (flat_map definition_yield (map definition_view c.in_ok-definitions.definitions.items))
    (fixed Mark) c.in_ok-definitions.ensures.whole).0 in
    omega (arith, same, left)

pub rule_texts-requires : goal.rule_texts-requires
rule_texts-requires c =
    let rest : c.front.inside.rest.now ≡ c.definitions.new.self = c.front.view_is in
    let same : views c.split_at.result.1.now ≡ views c.definitions.new.self =
    ap views c.split_at.ensures.back ∙ ap (λ (x : List Placed). views
    (drop (length c.args.lexemes.now - length x) c.args.lexemes.now)) rest ∙
    (left_behind c.args.lexemes.now c.definitions.new.self (flat_map definition_yield
    (map definition_view c.in_ok-definitions.definitions.items)) (fixed Mark)
    c.in_ok-definitions.ensures.whole).1 in
    subst (Goes RulesMark) (sym same) c.in_ok-definitions.ensures.goes_on

pub returns-clause-whole : goal.returns-clause-whole
returns-clause-whole c =
    let front : List Lexeme = flat_map definition_yield
    (map definition_view c.in_ok-definitions.definitions.items) in
    let rules : List Lexeme = flat_map rule_text_yield
    (map rule_text_view c.in_ok-rule_texts.rule_texts.items) in
    let rest : c.front.inside.rest.now ≡ c.definitions.new.self = c.front.view_is in
    let same : views c.split_at.result.1.now ≡ views c.definitions.new.self =
    ap views c.split_at.ensures.back ∙ ap (λ (x : List Placed). views
    (drop (length c.args.lexemes.now - length x) c.args.lexemes.now)) rest ∙
    (left_behind c.args.lexemes.now c.definitions.new.self front (fixed Mark)
    c.in_ok-definitions.ensures.whole).1 in
    let left : c.rest.inside.rest.now ≡ c.rule_texts.new.self = c.rest.view_is in
    let (b, ended) = c.in_ok-rule_texts.ensures.ended in
    let marked = end_marked c.rest.inside.rest.now b c.is_empty.result (ap views left ∙ ended)
    c.is_empty.ensures in
    c.in_ok-definitions.ensures.whole
    ∙ ap (λ (x : List Lexeme). front ++ fixed Mark ∷ x)
    (sym same ∙ c.in_ok-rule_texts.ensures.whole
    ∙ ap (λ (x : List Lexeme). rules ++ x) (sym (ap views left) ∙ marked))

pub returns-clause-sites : goal.returns-clause-sites
returns-clause-sites c =
    let rest : c.front.inside.rest.now ≡ c.definitions.new.self = c.front.view_is in
    let n = length c.args.lexemes.now - length c.front.inside.rest.now in
    let cut : views (drop n c.args.lexemes.now) ≡ views c.definitions.new.self =
    ap (λ (x : List Placed). views
    (drop (length c.args.lexemes.now - length x) c.args.lexemes.now)) rest ∙
    (left_behind c.args.lexemes.now c.definitions.new.self (flat_map definition_yield
    (map definition_view c.in_ok-definitions.definitions.items)) (fixed Mark)
    c.in_ok-definitions.ensures.whole).1 in
    let behind : named_in c.split_at.result.1.now ≡ named_in c.definitions.new.self =
    ap named_in c.split_at.ensures.back ∙ named_behind n c.args.lexemes.now c.definitions.new.self
    (site_marks (flat_map definition_sites c.in_ok-definitions.definitions.items))
    c.in_ok-definitions.ensures.sites cut in
    let (b, ended) = c.in_ok-rule_texts.ensures.ended in
    two_pieces (flat_map definition_sites c.in_ok-definitions.definitions.items)
    (flat_map rule_text_sites c.in_ok-rule_texts.rule_texts.items) (named_in c.args.lexemes.now)
    (named_in c.definitions.new.self) (named_in c.rule_texts.new.self)
    c.in_ok-definitions.ensures.sites (sym behind ∙ c.in_ok-rule_texts.ensures.sites)
    (mark_named b c.rule_texts.new.self ended)

pub returns-clause-stands : goal.returns-clause-stands
returns-clause-stands c = λ source h.
    c.in_ok-rule_texts.ensures.stands source (subst (StandIn source) (sym c.split_at.ensures.back)
    (all_behind (StandsIn source) (length c.args.lexemes.now - length c.front.inside.rest.now)
    c.args.lexemes.now h))
