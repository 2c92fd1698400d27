-- Quiet histories: up to the first error that is detected each step is one of four kinds.
use Rattle.std.proofs.Common.{inl, inr, ◌⊎◌, ℕ, ◌≡◌, ◌≢◌, ◌-◌, ◌==◌, Bool, true, false, List, []}
use Rattle.std.proofs.Common.{◌∷◌, ◌++◌, if◌then◌else◌, refl, sym, ◌∙◌, ap, subst, arith}
use Rattle.std.proofs.Common.{Option, Some, None, reverse}
use Rattle.std.proofs.lemmas.List.Elements.{All-nil, All-cons, All-head, All-tail}
use Rattle.ysymbols.specs.Grammar.{error_token}
use Rattle.ytokens.specs.Symbols.{is_input}
use Rattle.ymachine.specs.declared.machine.Mode.{Mode}
use Rattle.ymachine.specs.declared.machine.Mode.TheVariants.{Running, Popping, Accepted, Failed}
use Rattle.ymachine.specs.declared.machine.Edit.{Edit}
use Rattle.ymachine.specs.declared.machine.Edit.TheVariants as edits
use Rattle.ymachine.specs.declared.machine.StepKind.{StepKind}
use Rattle.ymachine.specs.declared.machine.StepKind.TheVariants as kinds
use Rattle.ymachine.specs.Machine.{Machine, Move, Shift, Reduce, Accept, Error, Configuration}
use Rattle.ymachine.specs.Machine.{symbols, lookahead, without_last, width, next, next_in, step_by}
use Rattle.ymachine.specs.Machine.{shift_step, discard_step, detect_step, edited}
use Rattle.ymachine.specs.Machine.{edited_in, edited_rest, Entry, pop_step, recover_by}
use Rattle.ymachine.specs.Past.{LeadsTo, Comes}
use Rattle.ymachine.specs.History.{History, first_configuration, first_history}
use Rattle.ymachine.specs.Unwinding.{is_error_step, is_edit, NoErrors, NoEdits}
use Rattle.ymachine.proofs.StepKinds.{some_is, none_some, Stepped, shifts, reduces, accepts, fails}
use Rattle.ymachine.proofs.StepKinds.{detects, discards, pops, shifts_error, inserts, drops}
use Rattle.ymachine.proofs.StepKinds.{stepped}
use Rattle.ysession.specs.Verdict.{is_detect, NoDetect, IsQuiet}

abbrev truth : Bool → Type 0
truth true = Unit {0}
truth false = ⊥

pub true_false : true ≡ false → ⊥
true_false e = subst truth e tt

abbrev mode_number : Mode → ℕ
mode_number Running = 0
mode_number Popping = 1
mode_number Accepted = 2
mode_number Failed = 3

-- one mode is not two
pub apart : {a b c : Mode} → a ≡ b → a ≡ c → mode_number b ≢ mode_number c → ⊥
apart e f h = h (ap mode_number (sym e ∙ f))

abbrev clean : StepKind × Configuration → Type 0
clean step = is_error_step step.0 ≡ false

abbrev pub unedited : StepKind × Configuration → Type 0
unedited step = is_edit step.0 ≡ false

abbrev pub undetected : StepKind × Configuration → Type 0
undetected step = is_detect step.0 ≡ false

-- from the first configuration on, each one is the next of the one before
abbrev pub StepsTo : Machine → Configuration → Configuration → List (StepKind × Configuration)
    → Type 0
StepsTo m first now [] = now ≡ first
StepsTo m first now (step ∷ earlier) =
    (next m step.1 ≡ Some (step.0, now)) × StepsTo m first step.1 earlier

-- no step goes on from an accepted parse, nor from one that has failed
pub halted : (m : Machine) (c : Configuration) → c.mode ≡ Accepted → next m c ≡ None
unfolding next
halted m c e = ap (next_in m c) e

failed : (m : Machine) (c : Configuration) → c.mode ≡ Failed → next m c ≡ None
unfolding next
failed m c e = ap (next_in m c) e

abbrev inserted : Bool → ℕ → Configuration → Option (StepKind × Configuration)
inserted b token c = if b then Some (
  kinds.Insert token,
  record c { rest = (token, 0) ∷ c.rest },
) else None

-- an edit is seen as an edit
module _ (m : Machine) (c : Configuration) (k : StepKind) (n : Configuration) where
  by_inserted : (token : ℕ) (b : Bool) → inserted b token c ≡ Some (k, n) → is_edit k ≡ true
  by_inserted token true e = ap (λ (z : StepKind × Configuration). is_edit z.0) (sym (some_is e))
  by_inserted token false e = absurd (none_some e)

  by_rest : (edit : Edit) (rest : List (ℕ × ℕ)) → c.rest ≡ rest
      → edited_rest m edit c rest ≡ Some (k, n) → is_edit k ≡ true
  by_rest (edits.Insert token) rest r e =
      by_inserted token (is_input m.tokens token)
      (subst (λ z. edited_rest m (edits.Insert token) c z ≡ Some (k, n)) (sym r) e)
  by_rest edits.Drop [] r e = absurd (none_some e)
  by_rest edits.Drop (t ∷ rest) r e =
      ap (λ (z : StepKind × Configuration). is_edit z.0) (sym (some_is e))

  by_edit_in : (edit : Edit) (d : Mode) → edited_in m edit c d ≡ Some (k, n) → is_edit k ≡ true
  by_edit_in edit Running e = by_rest edit c.rest refl e
  by_edit_in edit Popping e = by_rest edit c.rest refl e
  by_edit_in edit Accepted e = absurd (none_some e)
  by_edit_in edit Failed e = absurd (none_some e)

  is_edited : (edit : Edit) → edited m edit c ≡ Some (k, n) → is_edit k ≡ true
  unfolding edited
  is_edited edit e = by_edit_in edit c.mode e

  by_step : Comes (next m) (edited m) c k n → is_edit k ≡ false → next m c ≡ Some (k, n)
  by_step (inl s) u = s
  by_step (inr e) u = absurd (true_false (sym (is_edited e.0 e.1) ∙ u))

-- each configuration of a history without edits comes from a step
pub steps_to : (m : Machine) (first now : Configuration) (earlier : List (StepKind × Configuration))
    → LeadsTo (next m) (edited m) first now earlier → NoEdits earlier → StepsTo m first now earlier
steps_to m first now [] h u = h
steps_to m first now (step ∷ earlier) h u = (
  by_step m step.1 step.0 now h.0 (All-head unedited step earlier u),
  steps_to m first step.1 earlier h.1 (All-tail unedited step earlier u),
)

pub quiet_steps : (m : Machine) (tokens : List ℕ) (h : History) → IsQuiet m tokens h
    → StepsTo m (first_configuration tokens) h.now h.earlier
quiet_steps m tokens h q = steps_to m (first_configuration tokens) h.now h.earlier q.history q.steps

-- the parse runs with the counter 0, or it has ended
abbrev pub QuietAt : Machine → Configuration → Type 0
QuietAt m c = ((c.mode ≡ Running) × (c.counter ≡ 0)) ⊎ (next m c ≡ None)

abbrev Quiet : Machine → StepKind → Configuration → Type 0
Quiet m k n = (is_error_step k ≡ false) × QuietAt m n

module _ (m : Machine) (c : Configuration) (k : StepKind) (n : Configuration) (r : c.mode ≡ Running)
    (z : c.counter ≡ 0) (d : is_detect k ≡ false) where
  moved : (x : StepKind × Configuration) → x ≡ (k, n) → Quiet m x.0 x.1 → Quiet m k n
  moved x e q = subst (λ (y : StepKind × Configuration). Quiet m y.0 y.1) e q

  by_shift : (rest : List (ℕ × ℕ)) → shift_step c rest ≡ (k, n) → Quiet m k n
  by_shift [] e = moved _ e (refl, inr (failed m (record c { mode = Failed }) refl))
  by_shift (t ∷ rest) e =
      moved _ e (refl, inl (r, (let l : c.counter - 1 ≡ 0 = omega (arith, z) in l)))

  by_error : (b : Bool) → b ≡ false
      → (if b then discard_step c c.rest else detect_step c) ≡ (k, n) → Quiet m k n
  by_error true f e = absurd (true_false f)
  by_error false f e =
      absurd (true_false (ap (λ (y : StepKind × Configuration). is_detect y.0) e ∙ d))

  by_move : (a : Move) → step_by m c a ≡ (k, n) → Quiet m k n
  by_move Shift e = by_shift c.rest e
  by_move (Reduce q) e = moved _ e (refl, inl (r, z))
  by_move Accept e = moved _ e (refl, inr (halted m (record c { mode = Accepted }) refl))
  by_move Error e = by_error (c.counter == 3) (ap (λ i. i == 3) z) e

  quiet_step : next m c ≡ Some (k, n) → Quiet m k n
  unfolding next
  quiet_step e =
      by_move (m.cell (symbols c.stack) (lookahead c.rest)) (some_is (ap (next_in m c) (sym r) ∙ e))

-- up to the first error that is detected no step is an error step
no_errors_to : (m : Machine) (first now : Configuration) (earlier : List (StepKind × Configuration))
    → first.mode ≡ Running → first.counter ≡ 0 → StepsTo m first now earlier → NoDetect earlier
    → NoErrors earlier × QuietAt m now
no_errors_to m first now [] r z h x = (
  All-nil clean,
  inl (ap (λ (c : Configuration). c.mode) h ∙ r, ap (λ (c : Configuration). c.counter) h ∙ z),
)
no_errors_to m first now (last ∷ earlier) r z h x =
    by (no_errors_to m first last.1 earlier r z h.1 (All-tail undetected last earlier x))
  where
    by : NoErrors earlier × QuietAt m last.1 → NoErrors (last ∷ earlier) × QuietAt m now
    by (a, inl q) =
        let s = quiet_step m last.1 last.0 now q.0 q.1 (All-head undetected last earlier x) h.0 in
        (All-cons clean last earlier s.0 a, s.1)
    by (a, inr q) = absurd (none_some (sym q ∙ h.0))

-- a quiet history goes on with the counter 0, or it has ended
pub quiet_at : (m : Machine) (tokens : List ℕ) (h : History) → IsQuiet m tokens h
    → QuietAt m h.now
quiet_at m tokens h q =
    (no_errors_to m (first_configuration tokens) h.now h.earlier refl refl (quiet_steps m tokens h q)
    q.quiet).1

pub no_errors : (m : Machine) (tokens : List ℕ) (h : History) → IsQuiet m tokens h
    → NoErrors h.earlier
no_errors m tokens h q =
    (no_errors_to m (first_configuration tokens) h.now h.earlier refl refl (quiet_steps m tokens h q)
    q.quiet).0

-- What a step that is no error step makes, and what it leaves.
pub data Plain (m : Machine) (c : Configuration) (k : StepKind) (n : Configuration) : Type 0 where
  plain_shift : (token : ℕ × ℕ) (rest : List (ℕ × ℕ)) → c.mode ≡ Running
      → m.cell (symbols c.stack) token.0 ≡ Shift → c.rest ≡ token ∷ rest → k ≡ kinds.Shift token.0
      → symbols n.stack ≡ symbols c.stack ++ token.0 ∷ [] → n.rest ≡ rest → n.mode ≡ Running
      → Plain m c k n
  plain_reduce : (r : ℕ) → c.mode ≡ Running
      → m.cell (symbols c.stack) (lookahead c.rest) ≡ Reduce r → k ≡ kinds.Reduce r
      → symbols n.stack
      ≡ without_last (width m r) (symbols c.stack) ++ (m.rule r).left ∷ [] → n.rest ≡ c.rest
      → n.mode ≡ Running → Plain m c k n
  plain_accept : c.mode ≡ Running → k ≡ kinds.Accept → n.stack ≡ c.stack → n.rest ≡ c.rest
      → n.mode ≡ Accepted → Plain m c k n
  plain_fail : k ≡ kinds.Fail → n.stack ≡ c.stack → n.rest ≡ c.rest → n.mode ≡ Failed
      → Plain m c k n

plain_step : {m : Machine} {c n : Configuration} {k : StepKind} → Stepped m c k n
    → is_error_step k ≡ false → is_edit k ≡ false → Plain m c k n
plain_step (shifts t rest r h e k st re mo) x y = plain_shift t rest r h e k st re mo
plain_step (reduces r d h k st re mo) x y = plain_reduce r d h k st re mo
plain_step (accepts d h k st re mo) x y = plain_accept d k st re mo
plain_step (fails k st re mo) x y = plain_fail k st re mo
plain_step (detects d h k st re mo) x y = absurd (true_false (sym (ap is_error_step k) ∙ x))
plain_step (discards t rest r h e k st re mo) x y =
    absurd (true_false (sym (ap is_error_step k) ∙ x))
plain_step (pops t p k st re mo) x y = absurd (true_false (sym (ap is_error_step k) ∙ x))
plain_step (shifts_error p h k st re mo) x y = absurd (true_false (sym (ap is_error_step k) ∙ x))
plain_step (inserts t d i k st re mo) x y = absurd (true_false (sym (ap is_edit k) ∙ y))
plain_step (drops t rest d e k st re mo) x y = absurd (true_false (sym (ap is_edit k) ∙ y))

-- from the first configuration on, each one is left by such a step of the one before
abbrev pub PlainTo : Machine → Configuration → Configuration → List (StepKind × Configuration)
    → Type 0
PlainTo m first now [] = now ≡ first
PlainTo m first now (step ∷ earlier) =
    Plain m step.1 step.0 now × PlainTo m first step.1 earlier

plain_to : (m : Machine) (first now : Configuration) (earlier : List (StepKind × Configuration))
    → StepsTo m first now earlier → NoErrors earlier → NoEdits earlier → PlainTo m first now earlier
plain_to m first now [] h x y = h
plain_to m first now (step ∷ earlier) h x y = (
  plain_step (stepped m step.1 step.0 now h.0) (All-head clean step earlier x)
      (All-head unedited step earlier y),
  plain_to m first step.1 earlier h.1 (All-tail clean step earlier x)
      (All-tail unedited step earlier y),
)

pub quiet_plain : (m : Machine) (tokens : List ℕ) (h : History) → IsQuiet m tokens h
    → PlainTo m (first_configuration tokens) h.now h.earlier
quiet_plain m tokens h q =
    plain_to m (first_configuration tokens) h.now h.earlier (quiet_steps m tokens h q)
    (no_errors m tokens h q) q.steps

abbrev pub history : Configuration → List (StepKind × Configuration) → History
history now earlier = record { now = now; earlier = earlier }

-- the first configuration alone is a quiet history
pub quiet_first : (m : Machine) (tokens : List ℕ) → IsQuiet m tokens (first_history tokens)
quiet_first m tokens = record {
  history = refl;
  steps = All-nil unedited;
  quiet = All-nil undetected;
}

-- and so is one step more that detects no error
pub quiet_on : {m : Machine} {tokens : List ℕ} (c : Configuration)
    (earlier : List (StepKind × Configuration)) (k : StepKind) (n : Configuration)
    → next m c ≡ Some (k, n) → is_edit k ≡ false → is_detect k ≡ false
    → IsQuiet m tokens (history c earlier) → IsQuiet m tokens (history n ((k, c) ∷ earlier))
quiet_on c earlier k n e u d q = record {
  history = (inl e, q.history);
  steps = All-cons unedited (k, c) earlier u q.steps;
  quiet = All-cons undetected (k, c) earlier d q.quiet;
}

-- a step is no edit
module _ (m : Machine) (c : Configuration) (k : StepKind) (n : Configuration) where
  told : (x : StepKind × Configuration) → x ≡ (k, n) → is_edit x.0 ≡ false → is_edit k ≡ false
  told x e f = sym (ap (λ (z : StepKind × Configuration). is_edit z.0) e) ∙ f

  no_edit_shift : (rest : List (ℕ × ℕ)) → shift_step c rest ≡ (k, n) → is_edit k ≡ false
  no_edit_shift [] e = told _ e refl
  no_edit_shift (t ∷ rest) e = told _ e refl

  no_edit_discard : (rest : List (ℕ × ℕ)) → discard_step c rest ≡ (k, n) → is_edit k ≡ false
  no_edit_discard [] e = told _ e refl
  no_edit_discard (t ∷ rest) e = told _ e refl

  no_edit_error : (b : Bool) → (if b then discard_step c c.rest else detect_step c) ≡ (k, n)
      → is_edit k ≡ false
  no_edit_error true e = no_edit_discard c.rest e
  no_edit_error false e = told _ e refl

  no_edit_running : (a : Move) → step_by m c a ≡ (k, n) → is_edit k ≡ false
  no_edit_running Shift e = no_edit_shift c.rest e
  no_edit_running (Reduce q) e = told _ e refl
  no_edit_running Accept e = told _ e refl
  no_edit_running Error e = no_edit_error (c.counter == 3) e

  no_edit_pop : (xs : List Entry) → pop_step c xs ≡ (k, n) → is_edit k ≡ false
  no_edit_pop [] e = told _ e refl
  no_edit_pop (top ∷ below) e = told _ e refl

  no_edit_popping : (a : Move) → recover_by c a ≡ (k, n) → is_edit k ≡ false
  no_edit_popping Shift e = told _ e refl
  no_edit_popping (Reduce q) e = no_edit_pop (reverse c.stack) e
  no_edit_popping Accept e = no_edit_pop (reverse c.stack) e
  no_edit_popping Error e = no_edit_pop (reverse c.stack) e

  no_edit_in : (d : Mode) → next_in m c d ≡ Some (k, n) → is_edit k ≡ false
  no_edit_in Running e =
      no_edit_running (m.cell (symbols c.stack) (lookahead c.rest)) (some_is e)
  no_edit_in Popping e = no_edit_popping (m.cell (symbols c.stack) error_token) (some_is e)
  no_edit_in Accepted e = absurd (none_some e)
  no_edit_in Failed e = absurd (none_some e)

  pub no_edit : next m c ≡ Some (k, n) → is_edit k ≡ false
  unfolding next
  no_edit e = no_edit_in c.mode e
