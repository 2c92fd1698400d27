-- The histories that a session comes to, and what is known of each.
use Rattle.std.specs.Prelude.{ℕ, ◌≡◌, ◌⊎◌, List, [], ◌∷◌, ◌++◌}
use Rattle.ysymbols.specs.Grammar.{ContextFree, start_of}
use Rattle.ymachine.specs.declared.machine.Mode.TheVariants.{Accepted}
use Rattle.ymachine.specs.Machine.{Machine}
use Rattle.ymachine.specs.History.{History, IsHistory}
use Rattle.ymachine.specs.Rightmost.{IsRightmostDerivation}
use Rattle.ymachine.specs.Unwinding.{NoErrors, NoEdits, forms_of, whole_input}
use Rattle.ystepper.specs.Line.{Line, line_in}
use Rattle.ystepper.specs.Line as lines
use Rattle.ystepper.specs.Reply.{Reply}
use Rattle.ystepper.specs.Transcript.{Transcript}

-- a command has a reply, with which the text begins, and from the history that it leaves the rest
-- of the text comes to a later one; after `quit` nothing comes
abbrev pub LeadsBy : Machine → History → Line → (History → List ℕ → Type 0) → List ℕ → Type 0
LeadsBy m h lines.Quit later text = ⊥
LeadsBy m h (lines.Command command) later text =
    (reply : List ℕ) × (more : List ℕ) × (mid : History) × Reply m h command reply mid
    × (text ≡ reply ++ more) × later mid more

-- From history h the session writes this text for these lines, and comes to the history later:
-- before the first line, or with the reply to one of them.
abbrev pub Reaches : Machine → History → List (List ℕ) → List ℕ → History → Type 0
Reaches m h [] text later = Transcript m h [] text × (later ≡ h)
Reaches m h (line ∷ rest) text later =
    (Transcript m h (line ∷ rest) text × (later ≡ h))
    ⊎ LeadsBy m h (line_in line) (λ mid more. Reaches m mid rest more later) text

-- Whatever a session that begins with history h comes to is a history of these tokens. Where it is
-- accepted without error steps, its forms, which `unwind` writes, are a rightmost derivation of
-- the whole input from the start symbol; where no edit was made, that is these tokens.
pub record ReachesHistories (g : ContextFree) (m : Machine) (tokens : List ℕ) (h : History) : Type 0
  where
    pub histories : (lines : List (List ℕ)) (text : List ℕ) (later : History)
        → Reaches m h lines text later → IsHistory m tokens later
    pub derives : (lines : List (List ℕ)) (text : List ℕ) (later : History)
        → Reaches m h lines text later → NoErrors later.earlier → later.now.mode ≡ Accepted
        → IsRightmostDerivation g (start_of g ∷ []) (forms_of later) (whole_input later)
        × (NoEdits later.earlier → whole_input later ≡ tokens)
