-- Sessions in which no step or edit is refused when memory runs out: there is a text, and only one.
use Rattle.std.proofs.Common.{ℕ, zero, suc, ◌≡◌, ◌≢◌, ◌<◌, ◌≤◌, ◌-◌, ◌++◌, ◌⊎◌, inl, inr, nat_lt}
use Rattle.std.proofs.Common.{Bool}
use Rattle.std.proofs.Common.{true, false, List, [], ◌∷◌, Option, Some, None, IsSome, Result, Ok}
use Rattle.std.proofs.Common.{Err}
use Rattle.std.proofs.Common.{arith, codes, refl, sym, ap, ◌∙◌, subst}
use Rattle.std.proofs.lemmas.Bool.{cases_lt}
use Rattle.std.proofs.lemmas.List.Elements.{All-nil, All-cons, All-head, All-tail}
use Rattle.ymachine.specs.declared.machine.StepKind.{StepKind}
use Rattle.ymachine.specs.declared.machine.StepFault.{StepFault}
use Rattle.ymachine.specs.declared.machine.StepFault.TheVariants.{Halted, NoToken, Limit, Memory}
use Rattle.ymachine.specs.declared.machine.Mode.{Mode}
use Rattle.ymachine.specs.declared.machine.Mode.TheVariants.{Running, Popping, Accepted, Failed}
use Rattle.ymachine.specs.Machine.{Machine, Configuration, next, edited}
use Rattle.ymachine.specs.Past.{position, most_steps, back_by, to_first}
use Rattle.ymachine.specs.History.{History}
use Rattle.ymachine.specs.Unwinding.{NoErrors, is_error_step, tree_lines, forms_text}
use Rattle.ystepper.specs.Command.{Command}
use Rattle.ystepper.specs.Command.{Run, Back, To, Show, Tree, Unwind, Insert, Drop, Unknown}
use Rattle.ystepper.specs.Line.{Line}
use Rattle.ystepper.specs.Line as words
use Rattle.ystepper.specs.Line.{line_in}
use Rattle.std.proofs.Common.{ap₂}
use Rattle.ymachine.specs.declared.machine.Edit.{Edit}
use Rattle.ymachine.specs.declared.machine.Edit.TheVariants as edits
use Rattle.ymachine.specs.Machine.{next_in, edited_in}
use Rattle.ymachine.specs.Past.{Changes, Steps}
use Rattle.ymachine.specs.Spelling.{Spells}
use Rattle.ymachine.proofs.Spellings.{spells_some, one_spelled}
use Rattle.ystepper.specs.Reply.{Edits, EditsBy, InsertsBy, edit_text}
use Rattle.ystepper.specs.Reply.{GoesOn, RunsBy, GoesToBy, Runs, GoesTo, Reply, Unwinds, refusal}
use Rattle.ystepper.specs.Reply.{configuration_text, step_line, undo_text}
use Rattle.ystepper.specs.Transcript.{Continues, Transcript}
use Rattle.ystepper.specs.Plain.{PlainSteps, PlainEdits, PlainReply, PlainTranscript, HasOneText}
use Rattle.ystepper.proofs.Otherwise.{text_either}

-- ---- there is a text

step_at : (m : Machine) (h : History) (o : Option (StepKind × Configuration)) → next m h.now ≡ o
    → (position h < most_steps) ⊎ (most_steps ≤ position h)
    → (result : Result StepKind StepFault) × (mid : History) × PlainSteps m h result mid
step_at m h None e p = (Err Halted, h, (((e, e), refl), λ bad. cc))
step_at m h (Some s) e (inl p) = (
  Ok s.0,
  record { now = s.1; earlier = (s.0, h.now) ∷ h.earlier },
  ((p, (e, refl)), λ bad. cc),
)
step_at m h (Some s) e (inr p) =
    let some = subst (λ (x : Option (StepKind × Configuration)). IsSome x) (sym e) refl in
    (Err Limit, h, (((some, p), refl), λ bad. cc))

plain_step : (m : Machine) (h : History) → (result : Result StepKind StepFault) × (mid : History)
    × PlainSteps m h result mid
plain_step m h = step_at m h (next m h.now) refl (cases_lt (position h) most_steps)

none_some : (o : Option (StepKind × Configuration)) → o ≡ None → IsSome o → ⊥
none_some None e p = cc
none_some (Some s) e p = cc

-- an edit can be made only where a step follows
edit_lives : (m : Machine) (edit : Edit) (c : Configuration) (d : Mode) → c.mode ≡ d
    → IsSome (edited_in m edit c d) → IsSome (next_in m c d)
edit_lives m edit c Running e p = refl
edit_lives m edit c Popping e p = refl
edit_lives m edit c Accepted e p = p
edit_lives m edit c Failed e p = p

lives : (m : Machine) (edit : Edit) (c : Configuration) → IsSome (edited m edit c)
    → IsSome (next m c)
unfolding next edited
lives m edit c p = edit_lives m edit c c.mode refl p

-- an edit is answered, unless memory runs out
edit_at : (m : Machine) (edit : Edit) (h : History) (o e : Option (StepKind × Configuration))
    → next m h.now ≡ o → edited m edit h.now ≡ e
    → (position h < most_steps) ⊎ (most_steps ≤ position h)
    → (result : Result StepKind StepFault) × (new : History) × PlainEdits m edit h result new
edit_at m edit h None None f g p = (Err Halted, h, (((f, g), refl), λ bad. cc))
edit_at m edit h None (Some t) f g p =
    let some = subst (λ (x : Option (StepKind × Configuration)). IsSome x) (sym g) refl in
    absurd (none_some (next m h.now) f (lives m edit h.now some))
edit_at m edit h (Some s) None f g p =
    let some = subst (λ (x : Option (StepKind × Configuration)). IsSome x) (sym f) refl in
    (Err NoToken, h, (((some, g), refl), λ bad. cc))
edit_at m edit h (Some s) (Some t) f g (inl p) = (
  Ok t.0,
  record { now = t.1; earlier = (t.0, h.now) ∷ h.earlier },
  ((p, (g, refl)), λ bad. cc),
)
edit_at m edit h (Some s) (Some t) f g (inr p) =
    let some = subst (λ (x : Option (StepKind × Configuration)). IsSome x) (sym g) refl in
    (Err Limit, h, (((some, p), refl), λ bad. cc))

plain_edit : (m : Machine) (edit : Edit) (h : History) → (text : List ℕ) × (new : History)
    × EditsBy (PlainSteps m) (PlainEdits m) m edit h text new
plain_edit m edit h =
    let (result, new, s) =
    edit_at m edit h (next m h.now) (edited m edit h.now) refl refl
    (cases_lt (position h) most_steps) in
    (edit_text m new result, new, (result, s, refl))

insert_at : (m : Machine) (bytes : List ℕ) (h : History) (o : Option ℕ) → Spells m bytes o
    → (text : List ℕ) × (new : History) × InsertsBy (PlainSteps m) (PlainEdits m) m bytes h text new
insert_at m bytes h (Some token) s =
    let (text, new, e) = plain_edit m (edits.Insert token) h in (text, new, inl (token, s, e))
insert_at m bytes h None s = (codes "bad token\n", h, inr (s, refl, refl))

plain_insert : (m : Machine) (bytes : List ℕ) (h : History) → (text : List ℕ) × (new : History)
    × InsertsBy (PlainSteps m) (PlainEdits m) m bytes h text new
plain_insert m bytes h = let (o, s) = spells_some m bytes in insert_at m bytes h o s

run_after : (m : Machine) (n : ℕ) (made : Bool) (h mid : History) (r : Result StepKind StepFault)
    → PlainSteps m h r mid
    → ((text : List ℕ) × (new : History) × RunsBy (PlainSteps m) m n true mid text new)
    → (text : List ℕ) × (new : History) × RunsBy (PlainSteps m) m (suc n) made h text new
run_after m n made h mid (Ok kind) s (more, new, q) = (
  step_line m (position mid) (codes " ") kind ++ more,
  new,
  (Ok kind, mid, s, (more, refl, q)),
)
run_after m n made h mid (Err fault) s q =
    (refusal made fault, mid, (Err fault, mid, s, (refl, refl)))

plain_run : (m : Machine) (n : ℕ) (made : Bool) (h : History) → (text : List ℕ) × (new : History)
    × RunsBy (PlainSteps m) m n made h text new
plain_run m zero made h = ([], h, (refl, refl))
plain_run m (suc n) made h =
    let (r, mid, s) = plain_step m h in run_after m n made h mid r s (plain_run m n true mid)

plain_to : (m : Machine) (h : History) (k : ℕ) (above : Bool) → (text : List ℕ) × (new : History)
    × GoesToBy (PlainSteps m) m k above h text new
plain_to m h k true = plain_run m (k - position h) false h
plain_to m h k false =
    (undo_text m (position h - k) false h.earlier, back_by (position h - k) h, (refl, refl))

abbrev IsNoError : StepKind × Configuration → Type 0
IsNoError step = is_error_step step.0 ≡ false

abbrev mode_number : Mode → ℕ
mode_number Running = 0
mode_number Popping = 1
mode_number Accepted = 2
mode_number Failed = 3

other : {a b c : Mode} → a ≡ b → (b ≡ c → ⊥) → a ≢ c
other e f g = f (sym e ∙ g)

-- a past has an error step or none
errors_known : (earlier : List (StepKind × Configuration)) → NoErrors earlier ⊎ (NoErrors earlier
    → ⊥)
errors_known [] = inl (All-nil IsNoError)
errors_known (step ∷ earlier) = one_known step earlier (is_error_step step.0) refl
    (errors_known earlier)
  where
    one_known : (step : StepKind × Configuration) (earlier : List (StepKind × Configuration))
        (b : Bool) → is_error_step step.0 ≡ b → NoErrors earlier ⊎ (NoErrors earlier → ⊥) → NoErrors
        (step ∷ earlier) ⊎ (NoErrors (step ∷ earlier) → ⊥)
    one_known step earlier true e known = inr (λ all. let bad : true ≡ false = sym e
        ∙ All-head IsNoError step earlier all in cc)
    one_known step earlier false e (inl none) = inl (All-cons IsNoError step earlier e none)
    one_known step earlier false e (inr some) =
        inr (λ all. some (All-tail IsNoError step earlier all))

-- whatever the mode, an unwinding has a reply
unwinds_some : (m : Machine) (h : History) (mode : Mode) → h.now.mode ≡ mode → NoErrors h.earlier
    ⊎ (NoErrors h.earlier → ⊥) → (text : List ℕ) × (new : History) × Unwinds m h text new
unwinds_some m h Accepted e (inl none) = (
  forms_text m h,
  to_first h,
  inr
      (inr (e, none, refl, refl)),
)
unwinds_some m h Accepted e (inr some) = (codes "had error\n", h, inr (inl (e, some, refl, refl)))
unwinds_some m h Running e known = (
  codes "not accepted\n",
  h,
  inl
      (other e (λ bad. let wrong : 0 ≡ 2 = ap mode_number bad in omega (arith, wrong)), refl, refl),
)
unwinds_some m h Popping e known = (
  codes "not accepted\n",
  h,
  inl
      (other e (λ bad. let wrong : 1 ≡ 2 = ap mode_number bad in omega (arith, wrong)), refl, refl),
)
unwinds_some m h Failed e known = (
  codes "not accepted\n",
  h,
  inl
      (other e (λ bad. let wrong : 3 ≡ 2 = ap mode_number bad in omega (arith, wrong)), refl, refl),
)

plain_reply : (m : Machine) (h : History) (command : Command) → (text : List ℕ)
    × (new : History) × PlainReply m h command text new
plain_reply m h (Run n) = plain_run m n false h
plain_reply m h (Back n) = (undo_text m n false h.earlier, back_by n h, (refl, refl))
plain_reply m h (To k) = plain_to m h k (nat_lt (position h) k)
plain_reply m h Show = (configuration_text m h, h, (refl, refl))
plain_reply m h Tree = (tree_lines m h.now.stack, h, (refl, refl))
plain_reply m h Unwind = unwinds_some m h h.now.mode refl (errors_known h.earlier)
plain_reply m h (Insert bytes) = plain_insert m bytes h
plain_reply m h Drop = plain_edit m edits.Drop h
plain_reply m h Unknown = (codes "unknown command\n", h, (refl, refl))

plain_line : (m : Machine) (h : History) (line : Line) (later : History → List ℕ → Type 0)
    → ((mid : History) → (more : List ℕ) × later mid more)
    → (text : List ℕ) × Continues (PlainReply m) h line later text
plain_line m h words.Quit later some = ([], refl)
plain_line m h (words.Command command) later some =
    let (reply, mid, r) = plain_reply m h command in
    let (more, t) = some mid in
    (reply ++ more, (reply, more, mid, r, refl, t))

plain_text : (m : Machine) (h : History) (lines : List (List ℕ)) → (text : List ℕ)
    × PlainTranscript m h lines text
plain_text m h [] = ([], refl)
plain_text m h (line ∷ lines) =
    plain_line m h (line_in line) (λ mid more. PlainTranscript m mid lines more)
    (λ mid. plain_text m mid lines)

-- ---- it is a text of the session

run_is : (m : Machine) (n : ℕ) (made : Bool) (h new : History) (text : List ℕ)
    → RunsBy (PlainSteps m) m n made h text new → Runs m n made h text new
run_is m zero made h new text p = p
run_is m (suc n) made h new text (Ok kind, mid, s, (more, e, q)) =
    (Ok kind, mid, s.0, (more, e, run_is m n true mid new more q))
run_is m (suc n) made h new text (Err fault, mid, s, q) = (Err fault, mid, s.0, q)

to_is : (m : Machine) (k : ℕ) (above : Bool) (h new : History) (text : List ℕ)
    → GoesToBy (PlainSteps m) m k above h text new → GoesTo m k above h text new
to_is m k true h new text p = run_is m (k - position h) false h new text p
to_is m k false h new text p = p

edit_is : (m : Machine) (edit : Edit) (h new : History) (text : List ℕ)
    → EditsBy (PlainSteps m) (PlainEdits m) m edit h text new
    → EditsBy (Steps (next m)) (Edits m) m edit h text new
edit_is m edit h new text (result, s, e) = (result, s.0, e)

insert_is : (m : Machine) (bytes : List ℕ) (h new : History) (text : List ℕ)
    → InsertsBy (PlainSteps m) (PlainEdits m) m bytes h text new
    → InsertsBy (Steps (next m)) (Edits m) m bytes h text new
insert_is m bytes h new text (inl (token, s, e)) =
    inl (token, s, edit_is m (edits.Insert token) h new text e)
insert_is m bytes h new text (inr p) = inr p

reply_is : (m : Machine) (h new : History) (command : Command) (text : List ℕ)
    → PlainReply m h command text new → Reply m h command text new
reply_is m h new (Run n) text p = run_is m n false h new text p
reply_is m h new (Back n) text p = p
reply_is m h new (To k) text p = to_is m k (nat_lt (position h) k) h new text p
reply_is m h new Show text p = p
reply_is m h new Tree text p = p
reply_is m h new Unwind text p = p
reply_is m h new (Insert bytes) text p = insert_is m bytes h new text p
reply_is m h new Drop text p = edit_is m edits.Drop h new text p
reply_is m h new Unknown text p = p

line_is : (m : Machine) (h : History) (line : Line) (text : List ℕ)
    (later others : History → List ℕ → Type 0)
    → ((mid : History) (more : List ℕ) → later mid more → others mid more)
    → Continues (PlainReply m) h line later text → Continues (Reply m) h line others text
line_is m h words.Quit text later others f p = p
line_is m h (words.Command command) text later others f (reply, more, mid, r, e, t) =
    (reply, more, mid, reply_is m h mid command reply r, e, f mid more t)

text_is : (m : Machine) (h : History) (lines : List (List ℕ)) (text : List ℕ)
    → PlainTranscript m h lines text → Transcript m h lines text
text_is m h [] text p = p
text_is m h (line ∷ lines) text p =
    line_is m h (line_in line) text (λ mid more. PlainTranscript m mid lines more)
    (λ mid more. Transcript m mid lines more) (λ mid more. text_is m mid lines more) p

-- so each line has a reply, and all lines have a text
pub runs_some : (m : Machine) (n : ℕ) (made : Bool) (h : History) → (text : List ℕ)
    × (new : History) × Runs m n made h text new
runs_some m n made h =
    let (text, new, p) = plain_run m n made h in (text, new, run_is m n made h new text p)

pub Transcript-some : (m : Machine) (h : History) (lines : List (List ℕ)) → (text : List ℕ)
    × Transcript m h lines text
Transcript-some m h lines =
    let (text, p) = plain_text m h lines in (text, text_is m h lines text p)

-- ---- there is no other

-- a history is its configuration now and those before it
same_past : (a b : History) → a.now ≡ b.now → a.earlier ≡ b.earlier → a ≡ b
same_past a b e f =
    ap (λ (c : Configuration). let x : History = record { now = c; earlier = a.earlier } in x) e
    ∙ ap
    (λ (p : List (StepKind × Configuration)).
    let x : History = record { now = b.now; earlier = p } in x) f

-- a step is there or not
some_none : (o : Option (StepKind × Configuration)) (s : StepKind × Configuration) → o ≡ Some s
    → o ≡ None → ⊥
some_none None s e f = cc
some_none (Some x) s e f = cc

abbrev kind_in : StepKind → Option (StepKind × Configuration) → StepKind
kind_in kind None = kind
kind_in kind (Some s) = s.0

abbrev content_in : Configuration → Option (StepKind × Configuration) → Configuration
content_in content None = content
content_in content (Some s) = s.1

-- what is answered to a step or an edit, and what it leaves
one_change : (m : Machine) (what : Configuration
    → Option (StepKind × Configuration)) (h a b : History)
    (r q : Result StepKind StepFault) → Changes (next m) what h r a → Changes (next m) what h q b
    → (IsSome (what h.now) → IsSome (next m h.now)) → (r ≢ Err Memory) → (q ≢ Err Memory)
    → (r ≡ q) × (a ≡ b)
one_change m what h a b (Ok j) (Ok k) s t live x y =
    let kinds : j ≡ k = ap (kind_in j) (sym s.1.0 ∙ t.1.0) in
    let nows : a.now ≡ b.now = ap (content_in a.now) (sym s.1.0 ∙ t.1.0) in
    let pasts : a.earlier ≡ b.earlier =
    s.1.1 ∙ ap (λ (z : StepKind). (z, h.now) ∷ h.earlier) kinds ∙ sym t.1.1 in (
      ap (λ (z : StepKind). let w : Result StepKind StepFault = Ok z in w) kinds,
      same_past a b nows pasts,
    )
one_change m what h a b (Ok j) (Err Halted) s t live x y =
    absurd (none_some (next m h.now) t.0.0
    (live (subst (λ (o : Option (StepKind × Configuration)). IsSome o) (sym s.1.0) refl)))
one_change m what h a b (Ok j) (Err NoToken) s t live x y =
    absurd (some_none (what h.now) (j, a.now) s.1.0 t.0.1)
one_change m what h a b (Ok j) (Err Limit) s t live x y = absurd (omega (arith, s.0, t.0.1))
one_change m what h a b (Err Halted) (Ok k) s t live x y =
    absurd (none_some (next m h.now) s.0.0
    (live (subst (λ (o : Option (StepKind × Configuration)). IsSome o) (sym t.1.0) refl)))
one_change m what h a b (Err NoToken) (Ok k) s t live x y =
    absurd (some_none (what h.now) (k, b.now) t.1.0 s.0.1)
one_change m what h a b (Err Limit) (Ok k) s t live x y = absurd (omega (arith, t.0, s.0.1))
one_change m what h a b (Err Halted) (Err Halted) s t live x y = (refl, s.1 ∙ sym t.1)
one_change m what h a b (Err NoToken) (Err NoToken) s t live x y = (refl, s.1 ∙ sym t.1)
one_change m what h a b (Err Limit) (Err Limit) s t live x y = (refl, s.1 ∙ sym t.1)
one_change m what h a b (Err Halted) (Err NoToken) s t live x y =
    absurd (none_some (next m h.now) s.0.0 t.0.0)
one_change m what h a b (Err NoToken) (Err Halted) s t live x y =
    absurd (none_some (next m h.now) t.0.0 s.0.0)
one_change m what h a b (Err Halted) (Err Limit) s t live x y =
    absurd (none_some (next m h.now) s.0.0 (live t.0.0))
one_change m what h a b (Err Limit) (Err Halted) s t live x y =
    absurd (none_some (next m h.now) t.0.0 (live s.0.0))
one_change m what h a b (Err NoToken) (Err Limit) s t live x y =
    absurd (none_some (what h.now) s.0.1 t.0.0)
one_change m what h a b (Err Limit) (Err NoToken) s t live x y =
    absurd (none_some (what h.now) t.0.1 s.0.0)
one_change m what h a b (Err Memory) q s t live x y = absurd (x refl)
one_change m what h a b r (Err Memory) s t live x y = absurd (y refl)

one_step : (m : Machine) (h a b : History) (r q : Result StepKind StepFault)
    → PlainSteps m h r a → PlainSteps m h q b → (r ≡ q) × (a ≡ b)
one_step m h a b r q s t = one_change m (next m) h a b r q s.0 t.0 (λ p. p) s.1 t.1

one_edit : (m : Machine) (edit : Edit) (h a b : History) (s t : List ℕ)
    → EditsBy (PlainSteps m) (PlainEdits m) m edit h s a
    → EditsBy (PlainSteps m) (PlainEdits m) m edit h t b → (s ≡ t) × (a ≡ b)
one_edit m edit h a b s t (r, x, e) (q, y, f) =
    let (same, after) =
    one_change m (edited m edit) h a b r q x.0 y.0 (lives m edit h.now) x.1 y.1 in (
      e ∙ ap₂ (λ (g : History) (z : Result StepKind StepFault). edit_text m g z) after same ∙ sym f,
      after,
    )

one_insert : (m : Machine) (bytes : List ℕ) (h a b : History) (s t : List ℕ)
    → InsertsBy (PlainSteps m) (PlainEdits m) m bytes h s a
    → InsertsBy (PlainSteps m) (PlainEdits m) m bytes h t b → (s ≡ t) × (a ≡ b)
one_insert m bytes h a b s t (inl (x, c, e)) (inl (y, d, f)) =
    let same : y ≡ x = one_spelled m bytes y x d c in
    one_edit m (edits.Insert x) h a b s t e
    (subst (λ (z : ℕ). EditsBy (PlainSteps m) (PlainEdits m) m (edits.Insert z) h t b) same f)
one_insert m bytes h a b s t (inl (x, c, e)) (inr (n, p, q)) = absurd (n x c)
one_insert m bytes h a b s t (inr (n, p, q)) (inl (y, d, f)) = absurd (n y d)
one_insert m bytes h a b s t (inr (n, e, f)) (inr (i, p, q)) = (e ∙ sym p, f ∙ sym q)

one_after : (m : Machine) (n : ℕ) (made : Bool) (mid a b : History)
    (r : Result StepKind StepFault) (s t : List ℕ)
    → GoesOn m made (RunsBy (PlainSteps m) m n true) r mid s a
    → GoesOn m made (RunsBy (PlainSteps m) m n true) r mid t b
    → ((x y : List ℕ) → RunsBy (PlainSteps m) m n true mid x a
    → RunsBy (PlainSteps m) m n true mid y b → (x ≡ y) × (a ≡ b)) → (s ≡ t) × (a ≡ b)
one_after m n made mid a b (Ok kind) s t (more, e, p) (end, f, q) later =
    let (x, y) = later more end p q in
    (e ∙ ap (λ (l : List ℕ). step_line m (position mid) (codes " ") kind ++ l) x ∙ sym f, y)
one_after m n made mid a b (Err fault) s t (e, f) (p, q) later = (e ∙ sym p, f ∙ sym q)

one_run : (m : Machine) (n : ℕ) (made : Bool) (h a b : History) (s t : List ℕ)
    → RunsBy (PlainSteps m) m n made h s a → RunsBy (PlainSteps m) m n made h t b
    → (s ≡ t) × (a ≡ b)
one_run m zero made h a b s t (e, f) (p, q) = (e ∙ sym p, f ∙ sym q)
one_run m (suc n) made h a b s t (r, mid, x, g) (q, left, y, k) =
    let (e, f) = one_step m h mid left r q x y in
    let own = subst
    (λ (z : History). GoesOn m made (RunsBy (PlainSteps m) m n true) r z t b) (sym f)
    (subst
    (λ (z : Result StepKind StepFault).
    GoesOn m made (RunsBy (PlainSteps m) m n true) z left t b) (sym e) k) in
    one_after m n made mid a b r s t g own (λ u v. one_run m n true mid a b u v)

one_to : (m : Machine) (k : ℕ) (above : Bool) (h a b : History) (s t : List ℕ)
    → GoesToBy (PlainSteps m) m k above h s a → GoesToBy (PlainSteps m) m k above h t b
    → (s ≡ t) × (a ≡ b)
one_to m k true h a b s t p q = one_run m (k - position h) false h a b s t p q
one_to m k false h a b s t (e, f) (p, q) = (e ∙ sym p, f ∙ sym q)

one_unwinding : (m : Machine) (h a b : History) (s t : List ℕ) → Unwinds m h s a
    → Unwinds m h t b → (s ≡ t) × (a ≡ b)
one_unwinding m h a b s t (inl (n, e, f)) (inl (i, p, q)) = (e ∙ sym p, f ∙ sym q)
one_unwinding m h a b s t (inl (n, e, f)) (inr (inl (i, j, p, q))) = absurd (n i)
one_unwinding m h a b s t (inl (n, e, f)) (inr (inr (i, j, p, q))) = absurd (n i)
one_unwinding m h a b s t (inr (inl (i, j, e, f))) (inl (n, p, q)) = absurd (n i)
one_unwinding m h a b s t (inr (inr (i, j, e, f))) (inl (n, p, q)) = absurd (n i)
one_unwinding m h a b s t (inr (inl (i, j, e, f))) (inr (inl (k, l, p, q))) =
    (e ∙ sym p, f ∙ sym q)
one_unwinding m h a b s t (inr (inl (i, j, e, f))) (inr (inr (k, l, p, q))) = absurd (j l)
one_unwinding m h a b s t (inr (inr (i, j, e, f))) (inr (inl (k, l, p, q))) = absurd (l j)
one_unwinding m h a b s t (inr (inr (i, j, e, f))) (inr (inr (k, l, p, q))) =
    (e ∙ sym p, f ∙ sym q)

one_reply : (m : Machine) (h a b : History) (command : Command) (s t : List ℕ)
    → PlainReply m h command s a → PlainReply m h command t b → (s ≡ t) × (a ≡ b)
one_reply m h a b (Run n) s t p q = one_run m n false h a b s t p q
one_reply m h a b (Back n) s t (e, f) (p, q) = (e ∙ sym p, f ∙ sym q)
one_reply m h a b (To k) s t p q = one_to m k (nat_lt (position h) k) h a b s t p q
one_reply m h a b Show s t (e, f) (p, q) = (e ∙ sym p, f ∙ sym q)
one_reply m h a b Tree s t (e, f) (p, q) = (e ∙ sym p, f ∙ sym q)
one_reply m h a b Unwind s t p q = one_unwinding m h a b s t p q
one_reply m h a b (Insert bytes) s t p q = one_insert m bytes h a b s t p q
one_reply m h a b Drop s t p q = one_edit m edits.Drop h a b s t p q
one_reply m h a b Unknown s t (e, f) (p, q) = (e ∙ sym p, f ∙ sym q)

one_line : (m : Machine) (h : History) (line : Line) (later : History → List ℕ → Type 0)
    (s t : List ℕ)
    → ((mid : History) (x y : List ℕ) → later mid x → later mid y → x ≡ y)
    → Continues (PlainReply m) h line later s → Continues (PlainReply m) h line later t → s ≡ t
one_line m h words.Quit later s t one e f = e ∙ sym f
one_line m h (words.Command command) later s t one (reply, more, mid, r, e, x)
    (said, end, left, q, f, y) =
    let (i, j) = one_reply m h mid left command reply said r q in
    let rest : more ≡ end =
    one mid more end x (subst (λ (z : History). later z end) (sym j) y) in
    e ∙ ap (λ (l : List ℕ). reply ++ l) rest ∙ ap (λ (l : List ℕ). l ++ end) i ∙ sym f

one_text : (m : Machine) (h : History) (lines : List (List ℕ)) (s t : List ℕ)
    → PlainTranscript m h lines s → PlainTranscript m h lines t → s ≡ t
one_text m h [] s t e f = e ∙ sym f
one_text m h (line ∷ lines) s t p q =
    one_line m h (line_in line) (λ mid more. PlainTranscript m mid lines more) s t
    (λ mid x y. one_text m mid lines x y) p q

pub has_one_text : (m : Machine) (h : History) (lines : List (List ℕ)) → HasOneText m h lines
has_one_text m h lines =
    let (text, plain) = plain_text m h lines in record {
      text = text;
      plain = plain;
      told = text_is m h lines text plain;
      only = λ other p. one_text m h lines other text p plain;
      otherwise = λ other p.
          elim (text_either m h lines other p) [
            | inl same ↦ inl (one_text m h lines other text same plain)
            | inr none ↦ inr none
          ];
    }
