-- What a session replies.
use Rattle.std.specs.Prelude.{ℕ, List}
use Rattle.ymachine.specs.Machine.{Machine}
use Rattle.ymachine.specs.History.{History}
use Rattle.ystepper.specs.Headline.{Begins}
use Rattle.ystepper.specs.Lines.{AreLines}
use Rattle.ystepper.specs.Plain.{HasOneText}
use Rattle.ystepper.specs.Reached.{ReachesHistories}
use Rattle.ystepper.specs.Transcript.{Transcript}

-- the text has the replies to the lines of this input, from this history on
pub record Replies (machine : Machine) (history : History) (input text : List ℕ) : Type 0 where
  pub lines : List (List ℕ)
  pub are : AreLines input lines
  pub wrote : Transcript machine history lines text

-- The text is that of a session over this grammar and these tokens, for the lines of this input. It
-- is a function of the lines, unless memory runs out. Whatever history the replies come to is one of
-- these tokens, and its forms, where it is accepted without error steps, are a rightmost derivation.
pub record IsSession (grammar tokens input text : List ℕ) : Type 0 where
  pub machine : Machine
  pub history : History
  pub begins : Begins grammar tokens machine history
  pub plain : (lines : List (List ℕ)) → HasOneText machine history lines
  pub reached : ReachesHistories begins.tables.built.grammar.bare machine begins.parses.symbols
      history
  pub replied : Replies machine history input text
