-- What a line says.
use Rattle.std.specs.Prelude.{ℕ, ◌≡◌, ◌≢◌, ◌↔◌, ◌+◌, ◌≤◌, nat_lt, List, length, codes}
use Rattle.std.specs.Prelude.{if◌then◌else◌}
use Rattle.std.specs.Str.{bytes_eq}
use Rattle.ystepper.specs.declared.command.Line.{Line as CodeLine}
use Rattle.ystepper.specs.declared.command.Line.TheVariants as code
use Rattle.ystepper.specs.Command as commands
use Rattle.ystepper.specs.Command.{command_of, command_view, IsSpelled}

-- the end of the session, or a command
pub data Line : Type 0 where
  Quit : Line
  Command : commands.Command → Line

-- a line of the code, as one of these
abbrev pub line_view : CodeLine → Line
line_view code.Quit = Quit
line_view (code.Command command) = Command (command_view command)

-- the most bytes of a line that may be a command
abbrev pub longest_line : ℕ
longest_line = 4096

-- so many bytes of a line decide what it says: one more than the longest has
abbrev pub line_room : ℕ
line_room = longest_line + 1

-- the end of the session or a command; a line of more than 4,096 bytes is unknown
unfoldable pub line_in : List ℕ → Line
line_in line =
    if nat_lt longest_line (length line) then Command commands.Unknown
    else (if bytes_eq line (codes "quit") then Quit
    else Command (command_of line))

-- the lines with this meaning: `quit`, or a command's, of at most 4,096 bytes
abbrev pub IsLineOf : Line → List ℕ → Type 0
IsLineOf Quit line = line ≡ codes "quit"
IsLineOf (Command command) line = IsSpelled command line × (length line ≤ longest_line)

-- each line but the unknown ones is known by its spelling, and no other line has the same meaning
abbrev pub AreTold : Type 0
AreTold = (line : List ℕ) (said : Line) → (said ≢ Command commands.Unknown)
    → (line_in line ≡ said) ↔ IsLineOf said line
