-- What is proved of verdicts: the laws that contracts name.
use Rattle.std.specs.Prelude.{ℕ, ◌≡◌, ◌+◌, ◌<◌, ◌≤◌, List, length, None}
use Rattle.ysymbols.specs.Grammar.{ContextFree}
use Rattle.ysymbols.specs.WellFormed.{WellFormed}
use Rattle.ymachine.specs.declared.machine.Mode.TheVariants as modes
use Rattle.ymachine.specs.Machine.{Machine, next}
use Rattle.ymachine.specs.Past.{most_steps, position}
use Rattle.ymachine.specs.History.{History}
use Rattle.ymachine.specs.Cells.{IsSound}
use Rattle.ymachine.specs.Complete.{IsComplete}
use Rattle.ymachine.specs.Rightmost.{AreInput}
use Rattle.ysession.specs.declared.verdict.Verdict.{Verdict}
use Rattle.ysession.specs.declared.verdict.Verdict.TheVariants.{Limit}
use Rattle.ysession.specs.Verdict.{IsQuiet, place_ahead, AcceptedAt, Says, IsVerdict}
use Rattle.ysession.specs.Sentences.{IsSentence, Derivations, steps_of, IsSoundOf, IsExactOf}
use Rattle.ysession.specs.Sentences.{IsAnswered}

-- Two histories of one length that detect no error are equal.
abbrev pub OneHistoryLaw : Type 0
OneHistoryLaw = (m : Machine) (w : List ℕ) (h other : History) → IsQuiet m w h → IsQuiet m w other
    → position h ≡ position other → h ≡ other

-- The steps come to one verdict.
abbrev pub OneVerdictLaw : Type 0
OneVerdictLaw = (m : Machine) (w : List ℕ) (v other : Verdict) → Says m w v → Says m w other
    → other ≡ v

-- So what a verdict says of the steps makes it their verdict.
abbrev pub VerdictLaw : Type 0
VerdictLaw = (m : Machine) (w : List ℕ) (v : Verdict) → Says m w v → IsVerdict m w v

-- Where the greatest position is reached with no error detected and nothing accepted, the steps
-- come to no verdict within the limit.
abbrev pub LimitLaw : Type 0
LimitLaw = (m : Machine) (w : List ℕ) (h : History) → IsQuiet m w h → position h ≡ most_steps
    → (h.now.mode ≡ modes.Accepted → ⊥) → Says m w Limit

-- The same where the steps end with no error detected and nothing accepted.
abbrev pub HaltedLaw : Type 0
HaltedLaw = (m : Machine) (w : List ℕ) (h : History) → IsQuiet m w h → next m h.now ≡ None
    → (h.now.mode ≡ modes.Accepted → ⊥) → Says m w Limit

-- With no error detected, the place ahead tells how many tokens are upcoming.
abbrev pub PlaceLaw : Type 0
PlaceLaw = (m : Machine) (w : List ℕ) (h : History) → IsQuiet m w h
    → place_ahead w h.now.rest + length h.now.rest ≡ length w + 1

-- Any tables: what the verdict says of the steps it says of sentences.
abbrev pub SoundLaw : Type 0
SoundLaw = (g : ContextFree) (m : Machine) → WellFormed g → IsSound g m → (w : List ℕ)
    → AreInput g w → (v : Verdict) → Says m w v → IsSoundOf g w v

-- Where no cell has a choice: a rejection finds the first place where no sentence goes on.
abbrev pub ExactLaw : Type 0
ExactLaw = (g : ContextFree) (m : Machine) → WellFormed g → IsSound g m → IsComplete g m
    → (w : List ℕ) → AreInput g w → (v : Verdict) → Says m w v → IsExactOf g w v

-- Where no cell has a choice: a sentence has one rightmost derivation, and is accepted at the
-- position that it tells.
abbrev pub SentenceLaw : Type 0
SentenceLaw = (g : ContextFree) (m : Machine) → WellFormed g → IsSound g m → IsComplete g m
    → (w : List ℕ) → AreInput g w → IsSentence g w →
    (forms : List (List ℕ)) × Derivations g w forms
    × ((other : List (List ℕ)) → Derivations g w other → other ≡ forms)
    × (steps_of w forms ≤ most_steps → AcceptedAt m w (steps_of w forms))

-- The same of the one verdict.
abbrev pub AnsweredLaw : Type 0
AnsweredLaw = (g : ContextFree) (m : Machine) → WellFormed g → IsSound g m → IsComplete g m
    → (w : List ℕ) → AreInput g w → (v : Verdict) → IsVerdict m w v → IsAnswered g w v

-- Where no cell has a choice: a sentence whose parse takes more steps than may stand comes to no
-- verdict within the limit.
abbrev pub LongLaw : Type 0
LongLaw = (g : ContextFree) (m : Machine) → WellFormed g → IsSound g m → IsComplete g m
    → (w : List ℕ) → AreInput g w → (v : Verdict) → Says m w v → IsSentence g w
    → (forms : List (List ℕ)) → Derivations g w forms → most_steps < steps_of w forms → v ≡ Limit
