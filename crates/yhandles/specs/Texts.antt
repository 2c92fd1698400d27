-- Texts of the session behind a handle.
use Rattle.std.specs.Prelude.{ℕ, ◌≡◌, ◌≢◌, Option, Some, None, Result, Ok, Err}
use Rattle.std.specs.Global.{Vec}
use Rattle.ysymbols.specs.Grammar.{start_of}
use Rattle.std.specs.Prelude.{[], ◌∷◌}
use Rattle.ymachine.specs.declared.machine.Mode.TheVariants.{Accepted}
use Rattle.ymachine.specs.Past.{back_by, to_first}
use Rattle.ymachine.specs.Rightmost.{IsRightmostDerivation}
use Rattle.ymachine.specs.Unwinding.{NoErrors, forms_of, forms_text, tree_lines, whole_input}
use Rattle.ysession.specs.declared.session.Session.{Session}
use Rattle.ysession.specs.Session.{grammar_of, history_of, machine_of, setting_of}
use Rattle.ystepper.specs.Reply.{configuration_text}
use Rattle.yhandles.specs.declared.texts.TextFault.{TextFault}
use Rattle.yhandles.specs.declared.texts.TextFault.TheVariants.{NotAccepted, HadError, NoRoom}

-- a text, or why there is none
abbrev pub Text : Type 0
Text = Result (Vec ℕ) TextFault

-- the text of the configuration, which stays; or memory ran out
abbrev pub Showed : Session → Text → Session → Type 0
Showed was (Ok text) is =
    (text.items ≡ configuration_text (machine_of was) (history_of was)) × (is ≡ was)
Showed was (Err NoRoom) is = is ≡ was
Showed was (Err fault) is = ⊥

-- the session goes on as it was
pub record Stays (was is : Session) : Type 0 where
  pub history : history_of is ≡ history_of was
  pub setting : setting_of is ≡ setting_of was

-- the lines of the trees of the stack; or memory ran out
abbrev pub Treed : Session → Text → Session → Type 0
Treed was (Ok text) is =
    (text.items ≡ tree_lines (machine_of was) (history_of was).now.stack) × Stays was is
Treed was (Err NoRoom) is = Stays was is
Treed was (Err fault) is = ⊥

-- the session is accepted, and no error step was made
pub record Unwindable (was : Session) : Type 0 where
  pub accepted : (history_of was).now.mode ≡ Accepted
  pub quiet : NoErrors (history_of was).earlier

-- the forms of the session are a rightmost derivation of its input
abbrev pub Derives : Session → Type 0
Derives was =
    ∥ IsRightmostDerivation (grammar_of was).bare (start_of (grammar_of was).bare ∷ [])
    (forms_of (history_of was)) (whole_input (history_of was)) ∥₁

-- The forms, which are a rightmost derivation, and the start is left; or why it can't be unwound,
-- and nothing changes; or memory ran out, and so many steps are undone.
abbrev pub Unwound : Session → Text → Session → Type 0
Unwound was (Ok text) is =
    Unwindable was × Derives was × (text.items ≡ forms_text (machine_of was) (history_of was))
    × (history_of is ≡ to_first (history_of was)) × (setting_of is ≡ setting_of was)
Unwound was (Err NotAccepted) is = ((history_of was).now.mode ≢ Accepted) × Stays was is
Unwound was (Err HadError) is =
    ((history_of was).now.mode ≡ Accepted) × (NoErrors (history_of was).earlier → ⊥)
    × Stays was is
Unwound was (Err NoRoom) is =
    Unwindable was × ((steps : ℕ) × (history_of is ≡ back_by steps (history_of was)))
    × (setting_of is ≡ setting_of was)

-- the status of a text; 12 where there is no session
abbrev pub text_status : Option Text → ℕ
text_status None = 12
text_status (Some (Ok text)) = 0
text_status (Some (Err NoRoom)) = 3
text_status (Some (Err NotAccepted)) = 10
text_status (Some (Err HadError)) = 11
