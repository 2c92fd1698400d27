use Rattle.std.proofs.Common.{◌≡◌, ap, sym, List, ℕ, Option, map, Some, None}
use Rattle.ydeclarations.specs.Elaboration.{final_of}
use Rattle.ysyntax.specs.Tree.{BodyPart}
use Rattle.ysyntax.specs.TreeViews.{body_part_view, rule_text_view}
use Rattle.ygrammar.proofs.RuleSteps.{ends_action, ends_symbol}
use Rattle.ygrammar.proofs.rules.final_parts.Goals.{In-Some-Action-default, In-Some-Symbol-default}
use Rattle.ygrammar.proofs.rules.final_parts.Goals as goal

abbrev Parted : Type 0
Parted = List BodyPart × Option (List ℕ)

-- the parts and the text of a rule, where these are they
parts : {a b : Parted} → a ≡ b → b.0 ≡ a.0
parts e = sym (ap (λ (r : Parted). r.0) e)

texts : {a b : Parted} → a ≡ b → b.1 ≡ a.1
texts e = sym (ap (λ (r : Parted). r.1) e)

-- what an action at the end makes of a rule
action : (c : In-Some-Action-default) →
    final_of (rule_text_view c.args.rule_text.now).last (rule_text_view c.args.rule_text.now).body
    ≡ (
      map body_part_view c.in-Some-Action-default.rest.now,
      Some c.in-Some-Action-default.text.text.now,
    )
action c = ends_action _ _ _ _ _ _ c.in-None.is c.as_slice-body.ensures.value
    c.in-Some-Action-default.ensures.cases.0 c.in-Some-Action-default.field-0-0-is

-- what a symbol at the end makes of it
symbol : (c : In-Some-Symbol-default) →
    final_of (rule_text_view c.args.rule_text.now).last (rule_text_view c.args.rule_text.now).body
    ≡ (map body_part_view c.as_slice-body.result.now, None)
symbol c = ends_symbol _ _ _ _ _ _ c.in-None.is c.as_slice-body.ensures.value
    c.in-Some-Symbol-default.ensures.cases.0 c.in-Some-Symbol-default.field-0-0-is

pub returns-in-Some-Action-default-clause-items : goal.returns-in-Some-Action-default-clause-items
returns-in-Some-Action-default-clause-items c =
    parts (action (goal.at.returns-in-Some-Action-default-clause-items c).In-Some-Action-default)

pub returns-in-Some-Action-default-clause-text : goal.returns-in-Some-Action-default-clause-text
returns-in-Some-Action-default-clause-text c =
    texts (action (goal.at.returns-in-Some-Action-default-clause-text c).In-Some-Action-default)

pub returns-in-Some-Symbol-default-clause-items : goal.returns-in-Some-Symbol-default-clause-items
returns-in-Some-Symbol-default-clause-items c =
    parts (symbol (goal.at.returns-in-Some-Symbol-default-clause-items c).In-Some-Symbol-default)

pub returns-in-Some-Symbol-default-clause-text : goal.returns-in-Some-Symbol-default-clause-text
returns-in-Some-Symbol-default-clause-text c =
    texts (symbol (goal.at.returns-in-Some-Symbol-default-clause-text c).In-Some-Symbol-default)
