-- The lists of a file, with the places of what stands in them.
use Rattle.std.specs.Prelude.{ℕ, ◌≡◌, Bool, true, false, List, [], ◌∷◌, ◌++◌, map, Option, Some}
use Rattle.std.specs.Prelude.{None}
use Rattle.std.specs.Prelude.{Result, IfErr}
use Rattle.std.specs.List.{flat_map, AllByRecursion}
use Rattle.ydeclarations.specs.declared.mistake.Refused.{Refused}
use Rattle.ydeclarations.specs.declared.mistake.Refused.TheVariants as refused
use Rattle.ydeclarations.specs.declared.outline.Listed.{Listed}
use Rattle.ydeclarations.specs.declared.outline.Outline.{Outline}
use Rattle.ydeclarations.specs.declared.outline.Started.{Started}
use Rattle.ydeclarations.specs.Elaboration.{option_list}
use Rattle.ydeclarations.specs.Places.{StandsAt, digits_of, listed_of, select, start_of}
use Rattle.ysyntax.specs.declared.tree.BodyPart.{BodyPart as CodeBodyPart}
use Rattle.ysyntax.specs.declared.tree.BodyPart.TheVariants as items
use Rattle.ysyntax.specs.declared.tree.Definition.{Definition as CodeDefinition}
use Rattle.ysyntax.specs.declared.tree.Definition.TheVariants as definitions
use Rattle.ysyntax.specs.declared.tree.Digits.{Digits}
use Rattle.ysyntax.specs.declared.tree.Entry.{Entry as CodeEntry}
use Rattle.ysyntax.specs.declared.tree.NameAt.{NameAt}
use Rattle.ysyntax.specs.declared.tree.Occurrence.{Occurrence}
use Rattle.ysyntax.specs.declared.tree.RuleText.{RuleText as CodeRuleText}
use Rattle.ysyntax.specs.Sites.{Role, Site, used, prec_name, typed, left_side}
use Rattle.ysyntax.specs.Tree.{Identifier, Tree}
use Rattle.ysyntax.specs.TreeViews.{digits_view, name_view, occurrence_view}

-- ---- what stands in the code's pieces

abbrev pub typed_in : CodeDefinition → List NameAt
typed_in (definitions.Types t) = t.names.items
typed_in (definitions.Start m at) = []
typed_in (definitions.Union t) = []
typed_in definitions.Block = []
typed_in (definitions.Listing l) = []

abbrev pub starts_in : CodeDefinition → List Started
starts_in (definitions.Start m place) = record { who = m; at = place } ∷ []
starts_in (definitions.Types t) = []
starts_in (definitions.Union t) = []
starts_in definitions.Block = []
starts_in (definitions.Listing l) = []

abbrev pub entries_in : CodeDefinition → List CodeEntry
entries_in (definitions.Listing l) = l.entries.items
entries_in (definitions.Start m at) = []
entries_in (definitions.Union t) = []
entries_in definitions.Block = []
entries_in (definitions.Types t) = []

abbrev pub listed_entry : Listed → CodeEntry
listed_entry l = record { who = l.who; digits = l.digits }

abbrev pub lefts_in : CodeRuleText → List NameAt
lefts_in c = option_list c.left

abbrev pub symbol_in : CodeBodyPart → List Occurrence
symbol_in (items.Symbol m) = m ∷ []
symbol_in (items.Action b) = []

abbrev pub precs_in : CodeRuleText → List Occurrence
precs_in c = option_list c.prec

abbrev pub used_in : CodeRuleText → List Occurrence
used_in c = flat_map symbol_in c.body.items ++ precs_in c

-- ---- their sites

abbrev pub name_at : NameAt → List ℕ × ℕ
name_at n = (name_view n, n.at)

abbrev pub occurrence_at : Occurrence → Identifier × ℕ
occurrence_at m = (occurrence_view m, m.at)

abbrev pub start_at : Started → Unit {0} × ℕ
start_at s = (tt, s.at)

abbrev pub digits_at : Digits → List ℕ × ℕ
digits_at d = (digits_view d, d.at)

abbrev pub numbers_at : Listed → List (List ℕ × ℕ)
numbers_at l = map digits_at (option_list l.digits)

abbrev pub typed_of : Role → Option (List ℕ)
typed_of (typed n) = Some n
typed_of _ = None

abbrev pub left_of : Role → Option (List ℕ)
left_of (left_side n) = Some n
left_of _ = None

abbrev pub use_of : Role → Option Identifier
use_of (used i) = Some i
use_of (prec_name i) = Some i
use_of _ = None

abbrev pub prec_of : Role → Option Identifier
prec_of (prec_name i) = Some i
prec_of _ = None

-- the role is one of a rule
abbrev pub is_of_rule : Role → Bool
is_of_rule (left_side n) = true
is_of_rule (used i) = true
is_of_rule (prec_name i) = true
is_of_rule _ = false

-- The lists are those of the sites of declarations, and of the sites of rules after them.
pub record OutlineSites (o : Outline) (ds rs : List Site) : Type 0 where
  pub of_declarations : AllByRecursion (λ s. is_of_rule s.role ≡ false) ds
  pub of_rules : AllByRecursion (λ s. is_of_rule s.role ≡ true) rs
  pub typed : map name_at o.typed.items ≡ select typed_of ds
  pub starts : map start_at o.starts.items ≡ select start_of ds
  pub listed : map (λ l. occurrence_at l.who) o.listed.items ≡ select listed_of ds
  pub numbers : flat_map numbers_at o.listed.items ≡ select digits_of ds
  pub lefts : map name_at o.lefts.items ≡ select left_of rs
  pub used : map occurrence_at o.used.items ≡ select use_of rs
  pub precs : map occurrence_at o.precs.items ≡ select prec_of rs

-- the mistake stands at its place, or memory ran out
abbrev pub IsPlaced : Tree → List Site → Refused → Type 0
IsPlaced t ss (refused.Mistake what at) = StandsAt t ss what at
IsPlaced t ss refused.Memory = Unit {0}

-- an answer's mistake stands at its place
abbrev pub Places : {A : Type 0} → Outline → Tree → Result A Refused → Type 0
Places o t r = (ds rs : List Site) → OutlineSites o ds rs → IfErr r (IsPlaced t (ds ++ rs))
