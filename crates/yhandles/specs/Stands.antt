-- Where a session stands, in C's numbers.
use Rattle.std.specs.Prelude.{ℕ, ◌≡◌, length, Some}
use Rattle.ymachine.specs.declared.machine.Mode.{Mode}
use Rattle.ymachine.specs.declared.machine.Mode.TheVariants.{Running, Popping, Accepted, Failed}
use Rattle.ymachine.specs.Machine.{symbols}
use Rattle.ymachine.specs.Past.{position}
use Rattle.ymachine.specs.Tables.{state_after}
use Rattle.ysession.specs.declared.session.Session.{Session}
use Rattle.ysession.specs.Session.{history_of, tables_of}
use Rattle.yhandles.specs.declared.stands.Standing.{Standing}

-- the number of a mode
abbrev pub mode_number : Mode → ℕ
mode_number Running = 1
mode_number Popping = 2
mode_number Accepted = 3
mode_number Failed = 4

-- the session stands there
pub record IsStanding (s : Session) (shown : Standing) : Type 0 where
  pub mode : shown.mode ≡ mode_number (history_of s).now.mode
  pub position : shown.position ≡ position (history_of s)
  pub state : state_after (tables_of s) (symbols (history_of s).now.stack) ≡ Some shown.state
  pub height : shown.height ≡ length (history_of s).now.stack
  pub left : shown.left ≡ length (history_of s).now.rest
  pub counter : shown.counter ≡ (history_of s).now.counter
  pub errors : shown.errors ≡ (history_of s).now.errors

-- C gets where the session stands, which stays as it is
pub record Stands (was : Session) (shown : Standing) (is : Session) : Type 0 where
  pub shows : IsStanding was shown
  pub stays : is ≡ was
