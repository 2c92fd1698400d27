-- How far a parse by tables has come (Aho, Sethi and Ullman, 4.7, the LR parsing algorithm).
use Rattle.std.specs.Prelude.{ℕ, ◌≡◌, ◌≤◌, List, length, drop, slice_index_or}
use Rattle.ytables.specs.Tables.{TablesValue as Tables}
use Rattle.ymachine.specs.declared.machine.Mode.TheVariants as modes
use Rattle.ymachine.specs.Machine.{symbols}
use Rattle.ymachine.specs.MachineOver.{machine_over}
use Rattle.ymachine.specs.Past.{position}
use Rattle.ymachine.specs.History.{History, places_from}
use Rattle.ysession.specs.States.{AreStates}
use Rattle.ysession.specs.Verdict.{IsQuiet}

-- the token ahead, or the end
abbrev pub ahead : List ℕ → ℕ → ℕ
ahead tokens taken = slice_index_or tokens taken 0

-- So many steps from the first configuration on, none of which detects an error, lead to one that
-- goes on, where so many tokens were taken and the stack has these states.
pub record Reaches (t : Tables) (tokens states : List ℕ) (taken steps : ℕ) : Type 0 where
  pub h : History
  pub run : IsQuiet (machine_over t) tokens h
  pub at : position h ≡ steps
  pub mode : h.now.mode ≡ modes.Running
  pub counter : h.now.counter ≡ 0
  pub rest : h.now.rest ≡ drop taken (places_from 1 tokens)
  pub read : taken ≤ length tokens
  pub stack : AreStates t (symbols h.now.stack) states
