-- The braced texts of a syntax tree, by their places in the source.
use Rattle.std.specs.Prelude.{ℕ, ◌≡◌, List, take, drop, length, IfSome}
use Rattle.std.specs.List.{AllByRecursion}
use Rattle.ysyntax.specs.declared.tree.BracedText.{BracedText}
use Rattle.ysyntax.specs.declared.tree.RuleText.{RuleText as CodeRuleText}
use Rattle.ysyntax.specs.declared.tree.BodyPart.{BodyPart as CodeBodyPart}
use Rattle.ysyntax.specs.declared.tree.BodyPart.TheVariants as items

-- the text stands at its place
abbrev pub StandsAt : List ℕ → BracedText → Type 0
StandsAt source b = take (length b.text.now) (drop b.at source) ≡ b.text.now

-- the action that a part of a body is stands at its place
abbrev pub BodyPartStands : List ℕ → CodeBodyPart → Type 0
BodyPartStands source (items.Symbol m) = Unit {0}
BodyPartStands source (items.Action b) = StandsAt source b

-- the actions of a rule stand at their places
pub record RuleTextStands (source : List ℕ) (c : CodeRuleText) : Type 0 where
  pub body : AllByRecursion (BodyPartStands source) c.body.items
  pub last : IfSome c.last (λ b. StandsAt source b)
