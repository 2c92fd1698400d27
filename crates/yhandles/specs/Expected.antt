-- The numbers that say which tokens could come next.
use Rattle.std.specs.Prelude.{ℕ, ◌≡◌, ◌<◌, List, length, slice_index, Ok, Err}
use Rattle.ymachine.specs.History.{History}
use Rattle.ymachine.specs.Machine.{Machine}
use Rattle.ysession.specs.declared.expected.Outlook.{Outlook}
use Rattle.ysession.specs.declared.expected.Outlook.TheVariants.{Unexpected, Expected, Untold}
use Rattle.ysession.specs.declared.session.Session.{Session}
use Rattle.ysession.specs.Expected.{Says}
use Rattle.ysession.specs.Session.{history_of, machine_of}
use Rattle.yhandles.specs.declared.texts.TextFault.TheVariants.{NoRoom}
use Rattle.yhandles.specs.Texts.{Stays, Text}

-- the number of an outlook
abbrev pub outlook_number : Outlook → ℕ
outlook_number Unexpected = 0
outlook_number Expected = 1
outlook_number Untold = 2

-- the number tells what is so of the token
pub record Tells (m : Machine) (h : History) (token number : ℕ) : Type 0 where
  pub outlook : Outlook
  pub says : Says m h token outlook
  pub told : number ≡ outlook_number outlook

-- there is a number for each token of the grammar, at the token's own number
pub record AreTold (m : Machine) (h : History) (numbers : List ℕ) : Type 0 where
  pub whole : length numbers ≡ m.tokens
  pub each : (token : ℕ) → token < m.tokens → Tells m h token (slice_index numbers token)

-- the numbers of all tokens; or memory ran out. In both cases the session goes on as it was.
abbrev pub Foretold : Session → Text → Session → Type 0
Foretold was (Ok text) is = AreTold (machine_of was) (history_of was) text.items × Stays was is
Foretold was (Err NoRoom) is = Stays was is
Foretold was (Err fault) is = ⊥
