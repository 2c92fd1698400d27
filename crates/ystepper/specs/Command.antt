-- What a command line says.
use Rattle.std.specs.Prelude.{ℕ, ◌≡◌, ◌<◌, ◌≤◌, ◌⊎◌, nat_le, nat_lt, ◌&&◌, ◌||◌, List, ◌++◌, length}
use Rattle.std.specs.Prelude.{take, drop, Option, Some, None, codes, true, if◌then◌else◌}
use Rattle.std.specs.Option.{option_map_or}
use Rattle.std.specs.Str.{bytes_eq, all_ascii_digits}
use Rattle.std.specs.Str.Parse.{digits_value}
use Rattle.ystepper.specs.declared.command.Command.{Command as CodeCommand}
use Rattle.ystepper.specs.declared.command.Command.TheVariants as code

-- a command: at most so many steps, or undos; to a position; the configuration, the trees, or the
-- forms; an edit of the upcoming tokens, by the bytes that spell the token to insert; or a line
-- that is no command
pub data Command : Type 0 where
  Run Back To : (n : ℕ) → Command
  Show Tree Unwind : Command
  Insert : (bytes : List ℕ) → Command
  Drop Unknown : Command

-- a command of the code, as one of these
abbrev pub command_view : CodeCommand → Command
command_view (code.Run n) = Run n
command_view (code.Back n) = Back n
command_view (code.To n) = To n
command_view code.Show = Show
command_view code.Tree = Tree
command_view code.Unwind = Unwind
command_view (code.Insert bytes) = Insert bytes.now
command_view code.Drop = Drop
command_view code.Unknown = Unknown

-- the greatest number that a command takes
abbrev pub greatest_count : ℕ
greatest_count = 1000000

-- a number from the least one to 1,000,000
abbrev pub number_within : ℕ → ℕ → Option ℕ
number_within least n = if nat_lt n least || nat_lt greatest_count n then None else Some n

-- one to seven decimal digits with such a value
abbrev pub number_in : ℕ → List ℕ → Option ℕ
number_in least digits =
    if nat_lt 0 (length digits) && (nat_le (length digits) 7 && all_ascii_digits digits)
    then number_within least (digits_value 10 digits) else None

-- the number after a word
abbrev pub number_after : ℕ → List ℕ → List ℕ → Option ℕ
number_after least word line =
    if nat_le (length word) (length line) && bytes_eq (take (length word) line) word
    then number_in least (drop (length word) line) else None

-- a command with a number after it
abbrev pub number_command : List ℕ → Command
number_command line =
    option_map_or Run (number_after 1 (codes "run ") line)
    (option_map_or Back (number_after 1 (codes "back ") line)
    (option_map_or To (number_after 0 (codes "to ") line) Unknown))

-- what follows a word
abbrev pub text_after : List ℕ → List ℕ → Option (List ℕ)
text_after word line =
    if nat_le (length word) (length line) && bytes_eq (take (length word) line) word
    then Some (drop (length word) line) else None

-- exactly one of the commands; anything else is unknown
unfoldable pub command_of : List ℕ → Command
command_of line =
    if bytes_eq line (codes "step") then Run 1
    else (if bytes_eq line (codes "show") then Show
    else (if bytes_eq line (codes "tree") then Tree
    else (if bytes_eq line (codes "unwind") then Unwind
    else (if bytes_eq line (codes "drop") then Drop
    else option_map_or Insert (text_after (codes "insert ") line) (number_command line)))))

-- a word, and after it one to seven decimal digits, whose value lies from the least one to
-- 1,000,000
pub record IsNumbered (least : ℕ) (word : List ℕ) (n : ℕ) (line : List ℕ) : Type 0 where
  pub digits : List ℕ
  pub parts : line ≡ word ++ digits
  pub some : 0 < length digits
  pub few : length digits ≤ 7
  pub decimal : all_ascii_digits digits ≡ true
  pub value : n ≡ digits_value 10 digits
  pub at_least : least ≤ n
  pub at_most : n ≤ greatest_count

-- the lines that a command is spelled as
abbrev pub IsSpelled : Command → List ℕ → Type 0
IsSpelled (Run n) line = ((line ≡ codes "step") × (n ≡ 1)) ⊎ IsNumbered 1 (codes "run ") n line
IsSpelled (Back n) line = IsNumbered 1 (codes "back ") n line
IsSpelled (To n) line = IsNumbered 0 (codes "to ") n line
IsSpelled Show line = line ≡ codes "show"
IsSpelled Tree line = line ≡ codes "tree"
IsSpelled Unwind line = line ≡ codes "unwind"
IsSpelled (Insert bytes) line = line ≡ codes "insert " ++ bytes
IsSpelled Drop line = line ≡ codes "drop"
IsSpelled Unknown line = ⊥
