-- What unwinding answers, writes and leaves.
use Rattle.std.specs.Prelude.{ℕ, suc, ◌≡◌, ◌≢◌, ◌++◌, Bool, true, false, List, [], ◌∷◌, flat_map}
use Rattle.std.specs.Prelude.{Option, Result, Ok, Err}
use Prim.Native.Nat.{zero}
use Rattle.std.specs.Io.KnownBytes.{Appends}
use Rattle.ylink.specs.Sends.{Begins}
use Rattle.ymachine.specs.declared.machine.Mode.TheVariants.{Accepted}
use Rattle.ymachine.specs.declared.machine.AtStart.{AtStart}
use Rattle.ymachine.specs.declared.machine.StepKind.TheVariants as kinds
use Rattle.ymachine.specs.declared.machine.UnwindFault.{UnwindFault}
use Rattle.ymachine.specs.declared.machine.UnwindFault.TheVariants.{NotAccepted, HadError, Write}
use Rattle.ymachine.specs.Machine.{Machine}
use Rattle.ymachine.specs.Past.{position, back_by, to_first, Undoes}
use Rattle.ymachine.specs.History.{History}
use Rattle.ymachine.specs.Unwinding.{NoErrors, form_of, forms_from, forms_of, form_line, forms_text}

-- the space before a name that isn't the first
abbrev pub gap : ℕ → List ℕ
gap zero = []
gap (suc index) = 32 ∷ []

-- the known bytes grow by a beginning of the line, which lacks its end
pub record Cuts (old known : Option (List ℕ)) (line : List ℕ) : Type 0 where
  pub front : List ℕ
  pub back : List ℕ
  pub parts : line ≡ front ++ back
  pub short : back ≢ []
  pub written : Appends old known front

-- a form is written where no step is undone yet, and where the last undo took a reduction back
abbrev pub IsAtForm : History → ℕ → Type 0
IsAtForm h zero = Unit {0}
IsAtForm h (suc n) =
    (rule : ℕ) × Undoes {E = AtStart} (back_by n h) (Ok (kinds.Reduce rule)) (back_by (suc n) h)

-- The lines of the forms before the one that stands in `new`, from which these tokens are shifted
-- later, were written, and a beginning of its line without its end, which is a beginning of the
-- whole text. It stands at the acceptance, or directly before a reduction.
pub record Stops (old known : Option (List ℕ)) (m : Machine) (h new : History) : Type 0 where
  pub steps : ℕ
  pub left : new ≡ back_by steps h
  pub at : IsAtForm h steps
  pub before : List (List ℕ)
  pub later : List ℕ
  pub forms : forms_of h ≡ before ++ forms_from later new
  pub front : List ℕ
  pub back : List ℕ
  pub line : form_line m (form_of new.now later) ≡ front ++ back
  pub short : back ≢ []
  pub written : Appends old known (flat_map (form_line m) before ++ front)
  pub begins : Begins old known (forms_text m h)

-- the whole text was written and the first configuration is left, or the link failed at the form
-- that stands
abbrev pub GoesBack : Option (List ℕ) → Option (List ℕ) → Machine → History → Bool → History
    → Type 0
GoesBack old known m h true new =
    Appends old known (forms_text m h) × (new ≡ to_first h) × (position new ≡ 0)
GoesBack old known m h false new = Stops old known m h new

-- What unwinding answers, and what it leaves of the known bytes and the history. It is refused
-- where the parse isn't accepted, else where an error step was made; then nothing changes.
abbrev pub Unwinds : Option (List ℕ) → Option (List ℕ) → Machine → History
    → Result (Unit {0}) UnwindFault → History → Type 0
Unwinds old known m h (Ok done) new =
    (h.now.mode ≡ Accepted) × NoErrors h.earlier × GoesBack old known m h true new
Unwinds old known m h (Err NotAccepted) new = (h.now.mode ≢ Accepted) × (new ≡ h) × (known ≡ old)
Unwinds old known m h (Err HadError) new =
    (h.now.mode ≡ Accepted) × (NoErrors h.earlier → ⊥) × (new ≡ h) × (known ≡ old)
Unwinds old known m h (Err Write) new =
    (h.now.mode ≡ Accepted) × NoErrors h.earlier × GoesBack old known m h false new

-- whether the link failed
abbrev pub is_write : Result (Unit {0}) UnwindFault → Bool
is_write (Ok done) = false
is_write (Err NotAccepted) = false
is_write (Err HadError) = false
is_write (Err Write) = true
