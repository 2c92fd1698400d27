-- A text of a session has no step that was refused when memory ran out, or it says `no memory`.
use Rattle.std.proofs.Common.{ℕ, zero, suc, ◌≡◌, ◌-◌, ◌++◌, ◌⊎◌, inl, inr, Bool, true, false, List}
use Rattle.std.proofs.Common.{[]}
use Rattle.std.proofs.Common.{◌∷◌, Ok, Err, codes, sym, ap, ◌∙◌, subst, append_assoc}
use Rattle.ymachine.specs.declared.machine.Edit.{Edit}
use Rattle.ymachine.specs.declared.machine.Edit.TheVariants as edits
use Rattle.ymachine.specs.declared.machine.StepFault.TheVariants.{Halted, NoToken, Limit, Memory}
use Rattle.ymachine.specs.Machine.{Machine, next}
use Rattle.ymachine.specs.Past.{Steps, position}
use Rattle.ymachine.specs.History.{History}
use Rattle.ystepper.specs.Command.{Command}
use Rattle.ystepper.specs.Command.{Run, Back, To, Show, Tree, Unwind, Insert, Drop, Unknown}
use Rattle.ystepper.specs.Line.{Line, line_in}
use Rattle.ystepper.specs.Line as words
use Rattle.ystepper.specs.Plain.{PlainEdits, PlainReply, PlainSteps, PlainTranscript, SaysNoMemory}
use Rattle.ystepper.specs.Reply.{Edits, EditsBy, GoesToBy, Reply, RunsBy, step_line}
use Rattle.ystepper.specs.Transcript.{Continues, Transcript}

behind : (front text : List ℕ) → SaysNoMemory text → SaysNoMemory (front ++ text)
behind front text says = record {
  before = front ++ says.before;
  after = says.after;
  parts = ap (λ (t : List ℕ). front ++ t) says.parts ∙ sym (append_assoc front says.before _);
}

in_front : (text more : List ℕ) → SaysNoMemory text → SaysNoMemory (text ++ more)
in_front text more says = record {
  before = says.before;
  after = says.after ++ more;
  parts = ap (λ (t : List ℕ). t ++ more) says.parts ∙ append_assoc says.before _ more
      ∙ ap (λ (t : List ℕ). says.before ++ t) (append_assoc (codes "no memory\n") says.after more);
}

says : (text : List ℕ) → text ≡ codes "no memory\n" → SaysNoMemory text
says text is = record { before = []; after = []; parts = is }

run_either : (m : Machine) (n : ℕ) (made : Bool) (h : History) (text : List ℕ) (new : History)
    → RunsBy (Steps (next m)) m n made h text new
    → RunsBy (PlainSteps m) m n made h text new ⊎ SaysNoMemory text
run_either m zero made h text new p = inl p
run_either m (suc n) made h text new (Ok kind, mid, step, (more, is, later)) =
    elim (run_either m n true mid more new later) [
      | inl plain ↦ inl (Ok kind, mid, (step, λ e. cc), (more, is, plain))
      | inr none ↦
          inr (subst SaysNoMemory (sym is)
          (behind (step_line m (position mid) (codes " ") kind) more none))
    ]
run_either m (suc n) made h text new (Err Memory, mid, step, (is, same)) = inr (says text is)
run_either m (suc n) made h text new (Err Halted, mid, step, rest) =
    inl (Err Halted, mid, (step, λ e. cc), rest)
run_either m (suc n) made h text new (Err NoToken, mid, step, rest) =
    inl (Err NoToken, mid, (step, λ e. cc), rest)
run_either m (suc n) made h text new (Err Limit, mid, step, rest) =
    inl (Err Limit, mid, (step, λ e. cc), rest)

goes_either : (m : Machine) (k : ℕ) (above : Bool) (h : History) (text : List ℕ) (new : History)
    → GoesToBy (Steps (next m)) m k above h text new
    → GoesToBy (PlainSteps m) m k above h text new ⊎ SaysNoMemory text
goes_either m k true h text new p = run_either m (k - position h) false h text new p
goes_either m k false h text new p = inl p

edit_either : (m : Machine) (edit : Edit) (h : History) (text : List ℕ) (new : History)
    → EditsBy (Steps (next m)) (Edits m) m edit h text new
    → EditsBy (PlainSteps m) (PlainEdits m) m edit h text new ⊎ SaysNoMemory text
edit_either m edit h text new (Ok kind, made, is) = inl (Ok kind, (made, λ e. cc), is)
edit_either m edit h text new (Err Memory, made, is) = inr (says text is)
edit_either m edit h text new (Err Halted, made, is) = inl (Err Halted, (made, λ e. cc), is)
edit_either m edit h text new (Err NoToken, made, is) = inl (Err NoToken, (made, λ e. cc), is)
edit_either m edit h text new (Err Limit, made, is) = inl (Err Limit, (made, λ e. cc), is)

reply_either : (m : Machine) (h : History) (c : Command) (text : List ℕ) (new : History)
    → Reply m h c text new → PlainReply m h c text new ⊎ SaysNoMemory text
reply_either m h (Run n) text new p = run_either m n false h text new p
reply_either m h (Back n) text new p = inl p
reply_either m h (To k) text new p = goes_either m k _ h text new p
reply_either m h Show text new p = inl p
reply_either m h Tree text new p = inl p
reply_either m h Unwind text new p = inl p
reply_either m h (Insert bytes) text new (inl (token, spelled, p)) =
    elim (edit_either m (edits.Insert token) h text new p) [
      | inl plain ↦ inl (inl (token, spelled, plain))
      | inr none ↦ inr none
    ]
reply_either m h (Insert bytes) text new (inr p) = inl (inr p)
reply_either m h Drop text new p = edit_either m edits.Drop h text new p
reply_either m h Unknown text new p = inl p

line_either : (m : Machine) (h : History) (l : Line) (rest : List (List ℕ)) (text : List ℕ)
    → ((mid : History) (more : List ℕ) → Transcript m mid rest more
    → PlainTranscript m mid rest more ⊎ SaysNoMemory more)
    → Continues (Reply m) h l (λ mid more. Transcript m mid rest more) text
    → Continues (PlainReply m) h l (λ mid more. PlainTranscript m mid rest more) text
    ⊎ SaysNoMemory text
line_either m h words.Quit rest text later p = inl p
line_either m h (words.Command c) rest text later (reply, more, mid, said, is, goes) =
    elim (reply_either m h c reply mid said) [
      | inr none ↦ inr (subst SaysNoMemory (sym is) (in_front reply more none))
      | inl plain ↦
          elim (later mid more goes) [
            | inr none ↦ inr (subst SaysNoMemory (sym is) (behind reply more none))
            | inl on ↦ inl (reply, more, mid, plain, is, on)
          ]
    ]

pub text_either : (m : Machine) (h : History) (lines : List (List ℕ)) (text : List ℕ)
    → Transcript m h lines text → PlainTranscript m h lines text ⊎ SaysNoMemory text
text_either m h [] text p = inl p
text_either m h (line ∷ rest) text p =
    line_either m h (line_in line) rest text (λ mid more q. text_either m mid rest more q) p
