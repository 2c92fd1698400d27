use Rattle.std.proofs.Common.{ap, sym, ◌∙◌, ◌≡◌, ◌≤◌, length, refl, subst, List, ℕ}
use Rattle.std.proofs.lemmas.List.{length-map}
use Rattle.ydeclarations.specs.Elaboration.{rules as rules_of_tree, symbols as symbols_of_tree}
use Rattle.ydeclarations.specs.Elaboration.{token_precedences}
use Rattle.ysymbols.specs.Grammar.{RuleValue, most_rules, most_symbols}
use Rattle.ygrammar.specs.Numbered.{rule_numbers}
use Rattle.ygrammar.proofs.MistakeSteps.{long_found, no_limit}
use Rattle.ygrammar.proofs.refusals.refuse_limit.Goals as goal

pub returns-then-any_long-clause-clears : goal.returns-then-any_long-clause-clears
returns-then-any_long-clause-clears c = λ t e f. (
  refl,
  long_found t c.args.symbols.now c.args.rules.now f
      (sym c.any_long.ensures ∙ c.if-any_long.true),
)

pub returns-clause-clears : goal.returns-clause-clears
returns-clause-clears c = λ t e f.
    let a : length c.args.symbols.now ≡ length (symbols_of_tree t) =
    ap (λ (x : List (List ℕ)). length x) e in
    let b : length c.args.rules.now ≡ length (rules_of_tree t) =
    ap (λ (x : List RuleValue). length x) f ∙ length-map (rules_of_tree t)
    (rule_numbers (symbols_of_tree t) (token_precedences t)) in
    let l : length c.args.symbols.now ≤ most_symbols =
    subst (λ n. n ≤ most_symbols) c.len.ensures
    c.if-len-gt-MOST_SYMBOLS.false in
    let m : length c.args.rules.now ≤ most_rules = c.if-rules-gt-MOST_RULES.false in
    no_limit t (length c.args.symbols.now) (length c.args.rules.now) c.args.rules.now a b f l m
    (sym c.any_long.ensures ∙ c.if-any_long.false)
