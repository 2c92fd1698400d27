-- The history that the contents of a journal show, and what they count.
use Rattle.std.specs.Prelude.{◌≡◌, ◌+◌, List, [], ◌∷◌, map, Some}
use Rattle.std.specs.Option.{option_map}
use Rattle.ymachine.specs.declared.machine.Deed.{Deed}
use Rattle.ymachine.specs.declared.machine.Edit.{Edit}
use Rattle.ymachine.specs.declared.machine.StepKind.{StepKind}
use Rattle.ymachine.specs.Machine.{Configuration, next, edited}
use Rattle.ymachine.specs.MachineOver.{machine_over}
use Rattle.ymachine.specs.Past.{Past}
use Rattle.ymachine.specs.History.{History}
use Rattle.ymachine.specs.Content.{Place, configuration_of, place_next, place_edited, place_deed}

-- the kind of a step, with the configuration in which it was made
abbrev pub step_view : StepKind × Place → StepKind × Configuration
step_view step = (step.0, configuration_of step.1)

-- the history that a past of contents shows
abbrev pub past_view : Past StepKind Place → History
past_view p = record { now = configuration_of p.now; earlier = map step_view p.earlier }

-- the step began with the tables and the tokens of this content
abbrev pub KeepsGround : Place → StepKind × Place → Type 0
KeepsGround p step = (step.1.tables ≡ p.tables) × (step.1.tokens ≡ p.tokens)

-- each content counts one step more than the one before it, and the first one none
abbrev pub Counts : Place → List (StepKind × Place) → Type 0
Counts now [] = now.content.steps ≡ 0
Counts now (step ∷ earlier) =
    (now.content.steps ≡ step.1.content.steps + 1) × Counts step.1 earlier

-- What a parser makes of a content, seen by its configuration, is what the machine of its tables
-- makes of that; the tables and the tokens stay.
pub record GoesByMachine (p : Place) : Type 0 where
  pub next : option_map step_view (place_next p)
      ≡ next (machine_over p.tables) (configuration_of p)
  pub edited : (edit : Edit) → option_map step_view (place_edited edit p)
      ≡ edited (machine_over p.tables) edit (configuration_of p)
  pub ground : (deed : Deed) (kind : StepKind) (after : Place)
      → place_deed deed p ≡ Some (kind, after) → KeepsGround p (kind, after)
