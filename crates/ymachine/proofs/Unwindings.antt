-- What every history keeps, and the derivation that an accepted one without error steps unwinds to.
use Rattle.std.proofs.Common.{ℕ, suc, ◌≡◌, ◌≢◌, ◌<◌, Bool, true, false, if◌then◌else◌, List, []}
use Rattle.std.proofs.Common.{◌∷◌, ◌++◌, length, take, drop, reverse, refl, sym, ◌∙◌, ap, subst}
use Rattle.std.proofs.Common.{append_assoc}
use Rattle.std.proofs.Common.{append-nil, arith}
use Rattle.std.specs.List.{All}
use Rattle.std.proofs.lemmas.List.Elements.{All-head, All-tail, All-cons, All-nil}
use Rattle.std.proofs.lemmas.List.{reverse-reverse}
use Rattle.ysymbols.specs.Derivation.{Replaces}
use Rattle.ysymbols.specs.Grammar.{ContextFree, left_of, body_of, IsToken, end_token}
use Rattle.ysymbols.specs.Grammar.{start_of}
use Rattle.ysymbols.specs.Forms.{IsRule, IsRightmostRun, last_of}
use Rattle.ysymbols.specs.WellFormed.{WellFormed}
use Rattle.ymachine.specs.declared.machine.Mode.{Mode}
use Rattle.ymachine.specs.declared.machine.Mode.TheVariants.{Running, Popping, Accepted, Failed}
use Rattle.ymachine.specs.declared.machine.StepKind.{StepKind}
use Rattle.ymachine.specs.Machine.{Machine, Reduce, Configuration, symbols, lookahead, without_last}
use Rattle.ymachine.specs.Machine.{width, next, edited}
use Rattle.ymachine.specs.Past.{LeadsTo}
use Rattle.ymachine.specs.History.{History, IsHistory, places_from, first_configuration}
use Rattle.ymachine.specs.Unwinding.{tokens_left, form_of, shifts_from, is_reduction, Input}
use Rattle.ymachine.specs.Unwinding.{input_after, input_by}
use Rattle.ymachine.specs.Unwinding.{is_error_step, is_edit, NoErrors, NoEdits, forms_before}
use Rattle.ymachine.specs.Cells.{Expects, IsSound}
use Rattle.ymachine.specs.Rightmost.{AreInput, UnwindsRight}
use Rattle.std.specs.Prelude.{nat_lt}
use Rattle.std.proofs.lemmas.Bool.{ltb-true}
use Rattle.ytokens.specs.Symbols.{is_input}
use Rattle.ysymbols.proofs.Derivations.{rule_is}
use Rattle.ymachine.proofs.Ends.{first, second}
use Rattle.ymachine.proofs.Prefixes.{handle, at_accept}
use Rattle.ymachine.proofs.StepKinds.{without_last_append, Stepped, shifts, reduces, accepts, fails}
use Rattle.ymachine.proofs.StepKinds.{detects, discards, pops, shifts_error, inserts, drops, came}

abbrev truth : Bool → Type 0
truth true = Unit {0}
truth false = ⊥

true_false : true ≡ false → ⊥
true_false e = subst truth e tt

abbrev mode_number : Mode → ℕ
mode_number Running = 0
mode_number Popping = 1
mode_number Accepted = 2
mode_number Failed = 3

apart : {a b c : Mode} → a ≡ b → a ≡ c → mode_number b ≢ mode_number c → ⊥
apart e f h = h (ap mode_number (sym e ∙ f))

abbrev quiet : StepKind × Configuration → Type 0
quiet step = is_error_step step.0 ≡ false

abbrev unedited : StepKind × Configuration → Type 0
unedited step = is_edit step.0 ≡ false

pub left_of_places : (n : ℕ) (tokens : List ℕ) → tokens_left (places_from n tokens) ≡ tokens
left_of_places n [] = refl
left_of_places n (token ∷ tokens) = ap (λ z. token ∷ z) (left_of_places (suc n) tokens)

-- the tokens that the past has shifted, and these
abbrev shifts_before : List (StepKind × Configuration) → List ℕ → List ℕ
shifts_before [] later = later
shifts_before (step ∷ earlier) later = shifts_before earlier (shifts_from step.0 later)

-- forms that run on to the tokens shifted
abbrev Runs : ContextFree → List ℕ → List (StepKind × Configuration) → List ℕ → List (List ℕ)
    → Type 0
Runs g later earlier form rest =
    IsRightmostRun g form rest × (last_of form rest ≡ shifts_before earlier later)

module _ (g : ContextFree) (m : Machine) (w : WellFormed g) (s : IsSound g m) where
  -- the body of a rule that a cell names is on top of the stack, and a goto for its left side is
  -- there
  pub record Found (c : Configuration) (r : ℕ) : Type 0 where
    pub below : List ℕ
    pub within : r < length g.rules
    pub parts : symbols c.stack ≡ reverse below ++ body_of g r
    pub goto : Expects g below (left_of g r)
    pub left : without_last (width m r) (symbols c.stack) ++ (m.rule r).left ∷ []
        ≡ reverse below ++ left_of g r ∷ []

  pub found : (c : Configuration) (t r : ℕ) → m.cell (symbols c.stack) t ≡ Reduce r → Found c r
  found c t r h =
      let e = s.reduce (symbols c.stack) t r h in
      let d = handle w e.1 in
      let p : symbols c.stack ≡ reverse d.below ++ body_of g r =
      sym (reverse-reverse (symbols c.stack)) ∙ d.parts in
      let rule = s.rule r d.within in
      let n : width m r ≡ length (body_of g r) = ap (λ z. length z.body) rule in
      record {
        below = d.below;
        within = d.within;
        parts = p;
        goto = d.goto;
        left = ap (λ z. without_last (width m r) z ++ (m.rule r).left ∷ []) p
            ∙ (ap (λ z. z ++ (m.rule r).left ∷ [])
            (without_last_append (reverse d.below) (body_of g r) (width m r) n)
            ∙ ap (λ z. reverse d.below ++ z.left ∷ []) rule);
      }

  -- the stack and the kind of a step that leaves the stack as it is
  unmoved : (c n : Configuration) (k : StepKind) (later : List ℕ) → n.stack ≡ c.stack
      → shifts_from k later ≡ later → form_of n later ≡ form_of c (shifts_from k later)
  unmoved c n k later st e = ap (λ z. symbols z ++ later) st
      ∙ ap (λ z. symbols c.stack ++ z) (sym e)

  -- a step that is no reduction keeps the form
  pub form_kept : {c n : Configuration} {k : StepKind} (later : List ℕ) → Stepped m c k n
      → is_error_step k ≡ false → is_reduction k ≡ false
      → form_of n later ≡ form_of c (shifts_from k later)
  form_kept {c = c} later (shifts t rest r h e k st re mo) x y =
      ap (λ z. z ++ later) st ∙ (append_assoc (symbols c.stack) (t.0 ∷ []) later
      ∙ ap (λ z. symbols c.stack ++ shifts_from z later) (sym k))
  form_kept later (reduces r d h k st re mo) x y = absurd (true_false (sym (ap is_reduction k) ∙ y))
  form_kept {c = c} {n = n} later (accepts d h k st re mo) x y =
      unmoved c n _ later st (ap (λ z. shifts_from z later) k)
  form_kept {c = c} {n = n} later (fails k st re mo) x y =
      unmoved c n _ later st (ap (λ z. shifts_from z later) k)
  form_kept later (detects d h k st re mo) x y = absurd (true_false (sym (ap is_error_step k) ∙ x))
  form_kept later (discards t rest r h e k st re mo) x y =
      absurd (true_false (sym (ap is_error_step k) ∙ x))
  form_kept later (pops t p k st re mo) x y = absurd (true_false (sym (ap is_error_step k) ∙ x))
  form_kept later (shifts_error p h k st re mo) x y =
      absurd (true_false (sym (ap is_error_step k) ∙ x))
  form_kept {c = c} {n = n} later (inserts t d i k st re mo) x y =
      unmoved c n _ later st (ap (λ z. shifts_from z later) k)
  form_kept {c = c} {n = n} later (drops t rest d e k st re mo) x y =
      unmoved c n _ later st (ap (λ z. shifts_from z later) k)

  -- an undone reduction replaces its left side, with tokens alone after it
  pub form_replaced : {c n : Configuration} {k : StepKind} (later : List ℕ) → Stepped m c k n
      → is_reduction k ≡ true → All (IsToken g) later
      → (s : Replaces (IsRule g) (form_of n later) (form_of c (shifts_from k later)))
      × All (IsToken g) s.after
  form_replaced {c = c} {n = n} later (reduces r d h k st re mo) y a =
      let f = found c (lookahead c.rest) r h in (
        record {
          before = reverse f.below;
          symbol = left_of g r;
          body = body_of g r;
          after = later;
          rule = rule_is g r f.within;
          from = ap (λ z. z ++ later) (st ∙ f.left)
              ∙ append_assoc (reverse f.below) (left_of g r ∷ []) later;
          to = ap (λ z. form_of c (shifts_from z later)) k
              ∙ (ap (λ z. z ++ later) f.parts ∙ append_assoc (reverse f.below) (body_of g r) later);
        },
        a,
      )
  form_replaced later (shifts t rest r h e k st re mo) y a =
      absurd (true_false (sym y ∙ ap is_reduction k))
  form_replaced later (accepts d h k st re mo) y a = absurd (true_false (sym y ∙ ap is_reduction k))
  form_replaced later (fails k st re mo) y a = absurd (true_false (sym y ∙ ap is_reduction k))
  form_replaced later (detects d h k st re mo) y a = absurd (true_false (sym y ∙ ap is_reduction k))
  form_replaced later (discards t rest r h e k st re mo) y a =
      absurd (true_false (sym y ∙ ap is_reduction k))
  form_replaced later (pops t p k st re mo) y a = absurd (true_false (sym y ∙ ap is_reduction k))
  form_replaced later (shifts_error p h k st re mo) y a =
      absurd (true_false (sym y ∙ ap is_reduction k))
  form_replaced later (inserts t d i k st re mo) y a =
      absurd (true_false (sym y ∙ ap is_reduction k))
  form_replaced later (drops t rest d e k st re mo) y a =
      absurd (true_false (sym y ∙ ap is_reduction k))

  -- what holds of all upcoming tokens, and of each that may be inserted, still does
  rest_kept : (P : ℕ → Type 0) → ((t : ℕ) → is_input m.tokens t ≡ true → P t)
      → {c n : Configuration} {k : StepKind} → Stepped m c k n → All P (tokens_left c.rest)
      → All P (tokens_left n.rest)
  rest_kept P q {c = c} (shifts t rest r h e k st re mo) a =
      rw re (All-tail P t.0 (tokens_left rest) (subst (λ z. All P (tokens_left z)) e a))
  rest_kept P q (reduces r d h k st re mo) a = rw re a
  rest_kept P q (accepts d h k st re mo) a = rw re a
  rest_kept P q (fails k st re mo) a = rw re a
  rest_kept P q (detects d h k st re mo) a = rw re a
  rest_kept P q (discards t rest r h e k st re mo) a =
      rw re (All-tail P t.0 (tokens_left rest) (subst (λ z. All P (tokens_left z)) e a))
  rest_kept P q (pops t p k st re mo) a = rw re a
  rest_kept P q (shifts_error p h k st re mo) a = rw re a
  rest_kept P q {c = c} (inserts t d i k st re mo) a =
      rw re (All-cons P t (tokens_left c.rest) (q t i) a)
  rest_kept P q (drops t rest d e k st re mo) a =
      rw re (All-tail P t.0 (tokens_left rest) (subst (λ z. All P (tokens_left z)) e a))

  -- what holds of all upcoming tokens and of those shifted later holds of those shifted from before
  -- a step on
  later_kept : (P : ℕ → Type 0) {c n : Configuration} {k : StepKind} (later : List ℕ)
      → Stepped m c k n → All P (tokens_left c.rest) → All P later → All P (shifts_from k later)
  later_kept P later (shifts t rest r h e k st re mo) a l =
      subst (λ z. All P (shifts_from z later)) (sym k)
      (All-cons P t.0 later (All-head P t.0 (tokens_left rest)
      (subst (λ z. All P (tokens_left z)) e a)) l)
  later_kept P later (reduces r d h k st re mo) a l =
      subst (λ z. All P (shifts_from z later)) (sym k) l
  later_kept P later (accepts d h k st re mo) a l =
      subst (λ z. All P (shifts_from z later)) (sym k) l
  later_kept P later (fails k st re mo) a l = subst (λ z. All P (shifts_from z later)) (sym k) l
  later_kept P later (detects d h k st re mo) a l =
      subst (λ z. All P (shifts_from z later)) (sym k) l
  later_kept P later (discards t rest r h e k st re mo) a l =
      subst (λ z. All P (shifts_from z later)) (sym k) l
  later_kept P later (pops t p k st re mo) a l = subst (λ z. All P (shifts_from z later)) (sym k) l
  later_kept P later (shifts_error p h k st re mo) a l =
      subst (λ z. All P (shifts_from z later)) (sym k) l
  later_kept P later (inserts t d i k st re mo) a l =
      subst (λ z. All P (shifts_from z later)) (sym k) l
  later_kept P later (drops t rest d e k st re mo) a l =
      subst (λ z. All P (shifts_from z later)) (sym k) l

  -- an input token is a token of the grammar
  input_token : (t : ℕ) → is_input m.tokens t ≡ true → IsToken g t
  input_token t h = let l = ltb-true t m.tokens (second (nat_lt 1 t) (nat_lt t m.tokens) h) in
      let e = s.tokens in omega (arith, l, e)

  -- an input token is not the end
  input_within : (t : ℕ) → is_input m.tokens t ≡ true → t ≢ end_token
  input_within t h e = let l = ltb-true 1 t (first (nat_lt 1 t) (nat_lt t m.tokens) h) in
      omega (arith, l, e)

  -- without an error step or an edit, the tokens shifted and the upcoming ones stay
  whole_kept : {c n : Configuration} {k : StepKind} → Stepped m c k n → is_error_step k ≡ false
      → is_edit k ≡ false → shifts_from k (tokens_left n.rest) ≡ tokens_left c.rest
  whole_kept {n = n} (shifts t rest r h e k st re mo) x y =
      ap (λ z. shifts_from z (tokens_left n.rest)) k
      ∙ (ap (λ z. t.0 ∷ tokens_left z) re ∙ ap tokens_left (sym e))
  whole_kept {n = n} (reduces r d h k st re mo) x y =
      ap (λ z. shifts_from z (tokens_left n.rest)) k ∙ ap tokens_left re
  whole_kept {n = n} (accepts d h k st re mo) x y =
      ap (λ z. shifts_from z (tokens_left n.rest)) k ∙ ap tokens_left re
  whole_kept {n = n} (fails k st re mo) x y =
      ap (λ z. shifts_from z (tokens_left n.rest)) k ∙ ap tokens_left re
  whole_kept (detects d h k st re mo) x y = absurd (true_false (sym (ap is_error_step k) ∙ x))
  whole_kept (discards t rest r h e k st re mo) x y =
      absurd (true_false (sym (ap is_error_step k) ∙ x))
  whole_kept (pops t p k st re mo) x y = absurd (true_false (sym (ap is_error_step k) ∙ x))
  whole_kept (shifts_error p h k st re mo) x y = absurd (true_false (sym (ap is_error_step k) ∙ x))
  whole_kept (inserts t d i k st re mo) x y = absurd (true_false (sym (ap is_edit k) ∙ y))
  whole_kept (drops t rest d e k st re mo) x y = absurd (true_false (sym (ap is_edit k) ∙ y))

  -- What a step or an edit other than an error step makes of an input: the upcoming tokens are those
  -- that it leaves, and what was read has grown by the token shifted.
  record Reads (i : Input) (n : Configuration) (k : StepKind) : Type 0 where
    pub upcoming : (input_after k i).upcoming ≡ tokens_left n.rest
    pub read : (later : List ℕ) → i.read ++ shifts_from k later ≡ (input_after k i).read ++ later

  reads_same : (i : Input) (c n : Configuration) → i.upcoming ≡ tokens_left c.rest
      → n.rest ≡ c.rest → i.upcoming ≡ tokens_left n.rest
  reads_same i c n u re = u ∙ ap tokens_left (sym re)

  reads : (i : Input) {c n : Configuration} {k : StepKind} → Stepped m c k n
      → is_error_step k ≡ false → i.upcoming ≡ tokens_left c.rest → Reads i n k
  reads i {n = n} (shifts t rest r h e k st re mo) x u =
      let all = u ∙ ap tokens_left e in
      subst (Reads i n) (sym k) (record {
        upcoming = ap (drop 1) all ∙ ap tokens_left (sym re);
        read = λ later. sym (ap (λ z. (i.read ++ take 1 z) ++ later) all
            ∙ append_assoc i.read (t.0 ∷ []) later);
      })
  reads i {c = c} {n = n} (reduces r d h k st re mo) x u =
      subst (Reads i n) (sym k) (record { upcoming = reads_same i c n u re; read = λ l. refl })
  reads i {c = c} {n = n} (accepts d h k st re mo) x u =
      subst (Reads i n) (sym k) (record { upcoming = reads_same i c n u re; read = λ l. refl })
  reads i {c = c} {n = n} (fails k st re mo) x u =
      subst (Reads i n) (sym k) (record { upcoming = reads_same i c n u re; read = λ l. refl })
  reads i (detects d h k st re mo) x u = absurd (true_false (sym (ap is_error_step k) ∙ x))
  reads i (discards t rest r h e k st re mo) x u =
      absurd (true_false (sym (ap is_error_step k) ∙ x))
  reads i (pops t p k st re mo) x u = absurd (true_false (sym (ap is_error_step k) ∙ x))
  reads i (shifts_error p h k st re mo) x u = absurd (true_false (sym (ap is_error_step k) ∙ x))
  reads i {n = n} (inserts t d h k st re mo) x u =
      subst (Reads i n) (sym k) (record {
        upcoming = ap (λ z. t ∷ z) u ∙ ap tokens_left (sym re);
        read = λ later. refl;
      })
  reads i {n = n} (drops t rest d e k st re mo) x u =
      subst (Reads i n) (sym k) (record {
        upcoming = ap (drop 1) (u ∙ ap tokens_left e) ∙ ap tokens_left (sym re);
        read = λ later. refl;
      })

  module _ (first : Configuration) (empty : first.stack ≡ []) where
    -- without error steps, the tokens that were read are those shifted, and the others are upcoming
    record AllRead (now : Configuration) (earlier : List (StepKind × Configuration)) : Type 0 where
      pub upcoming : (input_by now earlier).upcoming ≡ tokens_left now.rest
      pub read : (later : List ℕ) → shifts_before earlier later
          ≡ (input_by now earlier).read ++ later

    all_read : (now : Configuration) (earlier : List (StepKind × Configuration))
        → LeadsTo (next m) (edited m) first now earlier → NoErrors earlier → AllRead now earlier
    all_read now [] h x = record { upcoming = refl; read = λ later. refl }
    all_read now (step ∷ earlier) h x =
        let before = all_read step.1 earlier h.1 (All-tail quiet step earlier x) in
        let one = reads (input_by step.1 earlier) (came m step.1 step.0 now h.0)
        (All-head quiet step earlier x) before.upcoming in
        record {
          upcoming = one.upcoming;
          read = λ later. before.read (shifts_from step.0 later) ∙ one.read later;
        }

    -- what holds of all tokens, and of each that may be inserted, holds of the upcoming ones
    pub rest_history : (P : ℕ → Type 0) → ((t : ℕ) → is_input m.tokens t ≡ true → P t)
        → (now : Configuration) (earlier : List (StepKind × Configuration))
        → LeadsTo (next m) (edited m) first now earlier → All P (tokens_left first.rest)
        → All P (tokens_left now.rest)
    rest_history P q now [] h a =
        subst (λ (c : Configuration). All P (tokens_left c.rest)) (sym h) a
    rest_history P q now (step ∷ earlier) h a =
        rest_kept P q (came m step.1 step.0 now h.0) (rest_history P q step.1 earlier h.1 a)

    -- without error steps and edits, the whole input is the first one
    pub whole : (now : Configuration) (earlier : List (StepKind × Configuration))
        → LeadsTo (next m) (edited m) first now earlier → NoErrors earlier → NoEdits earlier
        → shifts_before earlier (tokens_left now.rest) ≡ tokens_left first.rest
    whole now [] h x y = ap (λ (c : Configuration). tokens_left c.rest) h
    whole now (step ∷ earlier) h x y =
        ap (shifts_before earlier) (whole_kept (came m step.1 step.0 now h.0)
        (All-head quiet step earlier x) (All-head unedited step earlier y))
        ∙ whole step.1 earlier h.1 (All-tail quiet step earlier x)
        (All-tail unedited step earlier y)

    -- the forms: the one now, then those before the reductions, the newest first
    pub unwinds : (later : List ℕ) (now : Configuration) (earlier : List (StepKind × Configuration))
        → LeadsTo (next m) (edited m) first now earlier → NoErrors earlier
        → All (IsToken g) (tokens_left first.rest) → All (IsToken g) later
        → IsRightmostRun g (form_of now later) (forms_before later earlier)
        × (last_of (form_of now later) (forms_before later earlier)
        ≡ shifts_before earlier later)
    unwinds later now [] h x a l =
        (tt, ap (λ (c : Configuration). form_of c later) h ∙ ap (λ z. symbols z ++ later) empty)
    unwinds later now (step ∷ earlier) h x a l =
        by (is_reduction step.0) refl (unwinds (shifts_from step.0 later) step.1 earlier h.1
        (All-tail quiet step earlier x) a more)
      where
        v : Stepped m step.1 step.0 now
        v = came m step.1 step.0 now h.0

        more : All (IsToken g) (shifts_from step.0 later)
        more = later_kept (IsToken g) later v
            (rest_history (IsToken g) input_token step.1 earlier h.1 a) l

        by : (b : Bool) → is_reduction step.0 ≡ b
            → Runs g (shifts_from step.0 later) earlier
            (form_of step.1 (shifts_from step.0 later))
            (forms_before (shifts_from step.0 later) earlier)
            → Runs g (shifts_from step.0 later) earlier (form_of now later)
            (if b then form_of step.1 (shifts_from step.0 later)
            ∷ forms_before (shifts_from step.0 later) earlier else forms_before
            (shifts_from step.0 later) earlier)
        by true e before = ((form_replaced later v e l, before.0), before.1)
        by false e before =
            subst (λ z. Runs g (shifts_from step.0 later) earlier z
            (forms_before (shifts_from step.0 later) earlier))
            (sym (form_kept later v (All-head quiet step earlier x) e)) before

    -- what an accepted configuration has: the start symbol alone, and no token
    pub record Accepting (now : Configuration) : Type 0 where
      pub stack : symbols now.stack ≡ start_of g ∷ []
      pub rest : now.rest ≡ []

    nothing : (rest : List (ℕ × ℕ)) → lookahead rest ≡ end_token
        → All (λ t. t ≢ end_token) (tokens_left rest) → rest ≡ []
    nothing [] e k = refl
    nothing (t ∷ rest) e k = absurd (All-head (λ t. t ≢ end_token) t.0 (tokens_left rest) k e)

    pub accepting : (now : Configuration) (earlier : List (StepKind × Configuration))
        → LeadsTo (next m) (edited m) first now earlier
        → All (λ t. t ≢ end_token) (tokens_left first.rest) → first.mode ≡ Running
        → now.mode ≡ Accepted → Accepting now
    accepting now [] h a r d =
        absurd (apart (ap (λ (c : Configuration). c.mode) h ∙ r) d (λ e. omega arith))
    accepting now (step ∷ earlier) h a r d = by (came m step.1 step.0 now h.0)
      where
        by : Stepped m step.1 step.0 now → Accepting now
        by (accepts q c k st re mo) =
            let z = s.accept (symbols step.1.stack) (lookahead step.1.rest) c in
            record {
              stack = ap symbols st ∙ (sym (reverse-reverse (symbols step.1.stack))
                  ∙ at_accept w z.2);
              rest = re ∙ nothing step.1.rest z.0
                  (rest_history (λ t. t ≢ end_token) input_within step.1 earlier h.1 a);
            }
        by (shifts t rest q c e k st re mo) = absurd (apart mo d (λ e. omega arith))
        by (reduces q c e k st re mo) = absurd (apart mo d (λ e. omega arith))
        by (fails k st re mo) = absurd (apart mo d (λ e. omega arith))
        by (detects q c k st re mo) = absurd (apart mo d (λ e. omega arith))
        by (discards t rest q c e k st re mo) = absurd (apart mo d (λ e. omega arith))
        by (pops t q k st re mo) = absurd (apart mo d (λ e. omega arith))
        by (shifts_error q c k st re mo) = absurd (apart mo d (λ e. omega arith))
        by (inserts t q i k st re mo) = absurd (q (sym mo ∙ d))
        by (drops t rest q e k st re mo) = absurd (q (sym mo ∙ d))

  -- an accepted history has the start symbol alone on its stack, and no upcoming tokens
  pub accepted : (tokens : List ℕ) (h : History) → AreInput g tokens → IsHistory m tokens h
      → h.now.mode ≡ Accepted → Accepting (first_configuration tokens) refl h.now
  accepted tokens h a p d =
      accepting (first_configuration tokens) refl h.now h.earlier p
      (subst (All (λ t. t ≢ end_token)) (sym (left_of_places 1 tokens)) a.1) refl d

  -- the form of an accepted history is the start symbol
  pub accepted_form : (tokens : List ℕ) (h : History) → AreInput g tokens → IsHistory m tokens h
      → h.now.mode ≡ Accepted → form_of h.now [] ≡ start_of g ∷ []
  accepted_form tokens h a p d = append-nil (symbols h.now.stack) ∙ (accepted tokens h a p d).stack

  -- an accepted history without error steps unwinds to a rightmost derivation of the whole input
  pub unwinds_right : (tokens : List ℕ) (h : History) → AreInput g tokens
      → UnwindsRight g m tokens h
  unwinds_right tokens h a p x d =
      let here = left_of_places 1 tokens in
      let u = unwinds (first_configuration tokens) refl [] h.now h.earlier p x
      (subst (All (IsToken g)) (sym here) a.0) (All-nil (IsToken g)) in
      let none = (accepted tokens h a p d).rest in
      let i = input_by h.now h.earlier in
      let all = all_read (first_configuration tokens) refl h.now h.earlier p x in (
        (
          accepted_form tokens h a p d,
          u.0,
          u.1 ∙ (all.read []
              ∙ ap (λ z. i.read ++ z) (sym (all.upcoming ∙ ap tokens_left none))),
        ),
        λ y. ap (λ z. i.read ++ z) all.upcoming ∙ (sym (all.read (tokens_left h.now.rest))
            ∙ (whole (first_configuration tokens) refl h.now h.earlier p x y ∙ here)),
      )
