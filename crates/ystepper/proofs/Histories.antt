-- Each history that the replies of a session reach is one of its machine.
use Rattle.std.proofs.Common.{ℕ, zero, suc, ◌≡◌, ◌-◌, inl, inr, Bool, true, false, List, [], ◌∷◌}
use Rattle.std.proofs.Common.{Ok}
use Rattle.std.proofs.Common.{Err, refl, sym, ◌∙◌, subst}
use Rattle.ysymbols.specs.Grammar.{GrammarValue}
use Rattle.ymachine.specs.declared.machine.Edit.{Edit}
use Rattle.ymachine.specs.declared.machine.Edit.TheVariants as edits
use Rattle.ymachine.specs.declared.machine.StepKind.{StepKind}
use Rattle.ymachine.specs.Machine.{Machine, Configuration, next, edited}
use Rattle.ymachine.specs.Past.{Steps, Comes, LeadsTo, back_from, position}
use Rattle.ymachine.specs.History.{History, IsHistory, first_configuration}
use Rattle.ystepper.specs.Command.{Command}
use Rattle.ystepper.specs.Command.{Run, Back, To, Show, Tree, Unwind, Insert, Drop, Unknown}
use Rattle.ystepper.specs.Headline.{Parses}
use Rattle.ystepper.specs.Line.{Line, line_in}
use Rattle.ystepper.specs.Line as words
use Rattle.ystepper.specs.Reached.{LeadsBy, Reaches, ReachesHistories}
use Rattle.ystepper.specs.Reply.{Edits, EditsBy, GoesToBy, Reply, RunsBy}
use Rattle.ystepper.specs.Transcript.{Transcript}

module _ (m : Machine) (tokens : List ℕ) where
  -- a later configuration is made from the last one of a history
  longer : (kind : StepKind) (h new : History)
      → Comes (next m) (edited m) h.now kind new.now → new.earlier ≡ (kind, h.now) ∷ h.earlier
      → IsHistory m tokens h → IsHistory m tokens new
  longer kind h new comes e i =
      subst (λ (l : List (StepKind × Configuration)). LeadsTo (next m) (edited m)
      (first_configuration tokens) new.now l) (sym e) (comes, i)

  same : (h new : History) → new ≡ h → IsHistory m tokens h → IsHistory m tokens new
  same h new e i = subst (IsHistory m tokens) (sym e) i

  -- some of the last ones are taken off
  shorter : (n : ℕ) (now : Configuration) (earlier : List (StepKind × Configuration))
      → LeadsTo (next m) (edited m) (first_configuration tokens) now earlier
      → IsHistory m tokens (back_from n now earlier)
  shorter zero now earlier i = i
  shorter (suc n) now [] i = i
  shorter (suc n) now (step ∷ earlier) i = shorter n step.1 earlier i.1

  runs : (n : ℕ) (made : Bool) (h : History) (text : List ℕ) (new : History)
      → RunsBy (Steps (next m)) m n made h text new → IsHistory m tokens h → IsHistory m tokens new
  runs zero made h text new p i = same h new p.1 i
  runs (suc n) made h text new (Ok kind, mid, step, (more, is, later)) i =
      runs n true mid more new later (longer kind h mid (inl step.1.0) step.1.1 i)
  runs (suc n) made h text new (Err fault, mid, step, (is, left)) i =
      same h new (left ∙ step.1) i

  goes_to : (k : ℕ) (above : Bool) (h : History) (text : List ℕ) (new : History)
      → GoesToBy (Steps (next m)) m k above h text new → IsHistory m tokens h
      → IsHistory m tokens new
  goes_to k true h text new p i = runs (k - position h) false h text new p i
  goes_to k false h text new p i =
      same _ new p.1 (shorter (position h - k) h.now h.earlier i)

  edit_made : (edit : Edit) (h : History) (text : List ℕ) (new : History)
      → EditsBy (Steps (next m)) (Edits m) m edit h text new → IsHistory m tokens h
      → IsHistory m tokens new
  edit_made edit h text new (Ok kind, made, is) i =
      longer kind h new (inr (edit, made.1.0)) made.1.1 i
  edit_made edit h text new (Err fault, made, is) i = same h new made.1 i

  -- whatever a command replies, it leaves a history
  pub replied : (h : History) (c : Command) (text : List ℕ) (new : History)
      → Reply m h c text new → IsHistory m tokens h → IsHistory m tokens new
  replied h (Run n) text new p i = runs n false h text new p i
  replied h (Back n) text new p i = same _ new p.1 (shorter n h.now h.earlier i)
  replied h (To k) text new p i = goes_to k _ h text new p i
  replied h Show text new p i = same h new p.1 i
  replied h Tree text new p i = same h new p.1 i
  replied h Unwind text new (inl p) i = same h new p.2 i
  replied h Unwind text new (inr (inl p)) i = same h new p.3 i
  replied h Unwind text new (inr (inr p)) i =
      same _ new p.3 (shorter (position h) h.now h.earlier i)
  replied h (Insert bytes) text new (inl (token, spelled, p)) i =
      edit_made (edits.Insert token) h text new p i
  replied h (Insert bytes) text new (inr p) i = same h new p.2 i
  replied h Drop text new p i = edit_made edits.Drop h text new p i
  replied h Unknown text new p i = same h new p.1 i

  line_leads : (h : History) (l : Line) (rest : List (List ℕ)) (text : List ℕ) (later : History)
      → ((mid : History) (more : List ℕ) → Reaches m mid rest more later → IsHistory m tokens mid
      → IsHistory m tokens later)
      → LeadsBy m h l (λ mid more. Reaches m mid rest more later) text → IsHistory m tokens h
      → IsHistory m tokens later
  line_leads h words.Quit rest text later on p i = absurd p
  line_leads h (words.Command c) rest text later on (reply, more, mid, said, is, goes) i =
      on mid more goes (replied h c reply mid said i)

  -- each history that is reached from one is one
  pub reached : (h : History) (lines : List (List ℕ)) (text : List ℕ) (later : History)
      → Reaches m h lines text later → IsHistory m tokens h → IsHistory m tokens later
  reached h [] text later p i = same h later p.1 i
  reached h (line ∷ rest) text later (inl p) i = same h later p.1 i
  reached h (line ∷ rest) text later (inr p) i =
      line_leads h (line_in line) rest text later
      (λ mid more goes j. reached mid rest more later goes j) p i

-- the history at the start of a session is reached
pub reached_first : (m : Machine) (h : History) (lines : List (List ℕ)) (text : List ℕ)
    → Transcript m h lines text → Reaches m h lines text h
reached_first m h [] text t = (t, refl)
reached_first m h (line ∷ rest) text t = inl (t, refl)

-- so what a session over a grammar and tokens comes to is a history of these, and unwinds to a
-- derivation
pub reaches_histories : (v : GrammarValue) (tokens : List ℕ) (m : Machine) (h : History)
    (p : Parses v tokens m h) → ReachesHistories v.bare m p.symbols h
reaches_histories v tokens m h p =
    let first : IsHistory m p.symbols h =
    subst (IsHistory m p.symbols) (sym p.first) refl in
    record {
      histories = λ lines text later r. reached m p.symbols h lines text later r first;
      derives = λ lines text later r quiet accepted.
          p.derives later (reached m p.symbols h lines text later r first) quiet accepted;
    }
