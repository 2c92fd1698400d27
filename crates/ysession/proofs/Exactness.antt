-- Where no cell has a choice, an error is found where no sentence goes on (Aho, Sethi and Ullman,
-- 4.7, the viable prefix property).
use Rattle.std.proofs.Common.{ℕ, suc, ◌≡◌, ◌≢◌, ◌≤◌, ◌+◌, false, List, [], ◌∷◌, ◌++◌, length, take}
use Rattle.std.proofs.Common.{drop, reverse, get_or, refl, sym, ◌∙◌, ap, subst, append_assoc, arith}
use Rattle.std.proofs.Common.{Some}
use Rattle.std.specs.List.{All}
use Rattle.std.proofs.lemmas.List.{reverse-reverse, append_cancel_right, length-append, take_at}
use Rattle.ysymbols.specs.Grammar.{ContextFree, left_of, body_of, IsToken, end_token}
use Rattle.ysymbols.specs.WellFormed.{WellFormed}
use Rattle.ymachine.specs.declared.machine.Mode.TheVariants as modes
use Rattle.ymachine.specs.declared.machine.StepKind.{StepKind}
use Rattle.ymachine.specs.declared.machine.StepKind.TheVariants as kinds
use Rattle.ymachine.specs.Machine.{Machine, Move, Shift, Reduce, Accept, Error, Configuration}
use Rattle.ymachine.specs.Machine.{symbols, lookahead, next}
use Rattle.ymachine.specs.History.{first_configuration}
use Rattle.ymachine.specs.Unwinding.{tokens_left}
use Rattle.ymachine.specs.Cells.{IsSound}
use Rattle.ymachine.specs.Rightmost.{AreInput}
use Rattle.ymachine.proofs.Prefixes.{reverse_cons, reverse_push}
use Rattle.ymachine.proofs.StepKinds.{Stepped, shifts, reduces, accepts, fails, detects, discards}
use Rattle.ymachine.proofs.StepKinds.{pops, shifts_error, inserts, drops, stepped}
use Rattle.ymachine.proofs.Unwindings.{left_of_places, Found, found}
use Rattle.ymachine.specs.Complete.{IsComplete}
use Rattle.ysession.specs.declared.verdict.Verdict.TheVariants.{Accepted, Rejected, Limit}
use Rattle.ysession.specs.Verdict.{is_detect, RejectedAt}
use Rattle.ysession.specs.Sentences.{IsSentence, BeginsSentence}
use Rattle.ysession.proofs.Laws.{ExactLaw}
use Rattle.ysession.proofs.Yields.{all_back}
use Rattle.ysession.proofs.Quiet.{true_false, apart, quiet_plain, Plain, plain_shift, plain_reduce}
use Rattle.ysession.proofs.Quiet.{plain_accept, plain_fail, PlainTo}
use Rattle.ysession.proofs.Shifted.{Shifted, shifted_all, shifted_left, place_is}
use Rattle.ysession.proofs.Beginnings.{prefix_of, taken}
use Rattle.ysession.proofs.Sentential.{Sent, sent_from_sentence, ahead, token_ahead}
use Rattle.ysession.proofs.Way.{Ready, ready_first, Wants, wants_shift, wants_reduce, wants_accept}
use Rattle.ysession.proofs.Way.{wants}
use Rattle.ysession.proofs.Completeness.{lookahead_is}

-- The stack p with the tokens u is on the way of a sentence's derivation.
record Along (g : ContextFree) (p u : List ℕ) : Type 0 where
  pub form : List ℕ
  pub sent : Sent g form
  pub here : reverse p ++ u ≡ form
  pub ready : Ready sent p u

ahead_same : (e b d : List ℕ) → ahead b ≡ ahead d → ahead (e ++ b) ≡ ahead (e ++ d)
ahead_same [] b d h = h
ahead_same (t ∷ e) b d h = refl

abbrev move_number : Move → ℕ
move_number Shift = 0
move_number (Reduce r) = 1
move_number Accept = 2
move_number Error = 3

abbrev move_rule : Move → ℕ
move_rule Shift = 0
move_rule (Reduce r) = r
move_rule Accept = 0
move_rule Error = 0

-- one move is not two
differ : {x y z : Move} → x ≡ y → x ≡ z → move_number y ≢ move_number z → ⊥
differ e h n = n (ap move_number (sym e ∙ h))

same_below : (b d y : List ℕ) → reverse b ++ y ≡ reverse d ++ y → b ≡ d
same_below b d y e =
    sym (reverse-reverse b)
    ∙ (ap reverse (append_cancel_right (reverse b) (reverse d) y e) ∙ reverse-reverse d)

module _ (g : ContextFree) (m : Machine) (w : WellFormed g) (s : IsSound g m)
    (f : IsComplete g m) where
  -- The cell of the step that is needed.
  data Cell (c : Configuration) (p u : List ℕ) : Type 0 where
    cell_shift : (t : ℕ) (rest : List ℕ) → u ≡ t ∷ rest
        → m.cell (symbols c.stack) (lookahead c.rest) ≡ Shift → Along g (t ∷ p) rest → Cell c p u
    cell_reduce : (r : ℕ) (below : List ℕ)
        → m.cell (symbols c.stack) (lookahead c.rest) ≡ Reduce r
        → reverse p ≡ reverse below ++ body_of g r → Along g (left_of g r ∷ below) u → Cell c p u
    cell_accept : m.cell (symbols c.stack) (lookahead c.rest) ≡ Accept → Cell c p u

  cell : (c : Configuration) (u : List ℕ) → ahead u ≡ lookahead c.rest
      → All (IsToken g) (tokens_left c.rest) → Along g (prefix_of c) u → Cell c (prefix_of c) u
  cell c u a k l = by (wants w l.sent (prefix_of c) u l.here l.ready)
    where
      by : Wants g l.sent (prefix_of c) u → Cell c (prefix_of c) u
      by (wants_shift t rest e h r) =
          let i : t ≡ lookahead c.rest = ap ahead (sym e) ∙ a in
          let j : IsToken g t = subst (IsToken g) (sym (i ∙ lookahead_is c.rest))
          (token_ahead w (tokens_left c.rest) k) in
          let q = f.shift (symbols c.stack) t j h in
          cell_shift t rest e (ap (m.cell (symbols c.stack)) (sym i) ∙ q) (record {
            form = l.form;
            sent = l.sent;
            here = ap (λ z. z ++ rest) (reverse_cons t (prefix_of c))
                ∙ (append_assoc (reverse (prefix_of c)) (t ∷ []) rest
                ∙ (ap (λ z. reverse (prefix_of c) ++ z) (sym e) ∙ l.here));
            ready = r;
          })
      by (wants_reduce r below z b h e i j q y n) =
          cell_reduce r below
          (ap (m.cell (symbols c.stack)) (sym a) ∙ f.reduce (symbols c.stack) r (ahead u) e) i
          (record { form = z; sent = b; here = sym j; ready = q })
      by (wants_accept e v y) =
          cell_accept (ap (m.cell (symbols c.stack)) (sym a ∙ ap ahead e)
          ∙ f.accept (symbols c.stack) end_token v)

  module _ (tokens : List ℕ) (input : All (IsToken g) tokens) (front back other_back : List ℕ)
      (parts : tokens ≡ front ++ back) (ahead_is : ahead other_back ≡ ahead back)
      (sentence : IsSentence g (front ++ other_back)) where
    left_tokens : (now : Configuration) (earlier : List (StepKind × Configuration))
        → PlainTo m (first_configuration tokens) now earlier
        → All (IsToken g) (tokens_left now.rest)
    left_tokens now earlier h =
        let t = taken g m w s tokens input now earlier h in
        all_back (IsToken g) t.word (tokens_left now.rest)
        (subst (All (IsToken g)) (shifted_all t.shifted) input)

    -- the upcoming tokens up to the cutting, with the sentence's tokens after
    abbrev Goes : Configuration → Type 0
    Goes c = (e : List ℕ) → tokens_left c.rest ≡ e ++ back → Along g (prefix_of c) (e ++ other_back)

    along_step : {c n : Configuration} {k : StepKind} → Plain m c k n → n.mode ≡ modes.Running
        → All (IsToken g) (tokens_left c.rest) → (c.mode ≡ modes.Running → Goes c) → Goes n
    along_step {c = c} {n = n} (plain_shift t rest r h i k st re mo) y a l e b =
        let j : tokens_left c.rest ≡ t.0 ∷ (e ++ back) =
        ap tokens_left i ∙ ap (λ z. t.0 ∷ z) (ap tokens_left (sym re) ∙ b) in
        let p : t.0 ≡ lookahead c.rest = sym (ap lookahead i) in
        let pre : prefix_of n ≡ t.0 ∷ prefix_of c =
        ap reverse st ∙ reverse_push (symbols c.stack) t.0 in
        let here : m.cell (symbols c.stack) (lookahead c.rest) ≡ Shift =
        ap (m.cell (symbols c.stack)) (sym p) ∙ h in
        by pre here (cell c (t.0 ∷ (e ++ other_back)) p a (l r (t.0 ∷ e) j))
      where
        by : prefix_of n ≡ t.0 ∷ prefix_of c
            → m.cell (symbols c.stack) (lookahead c.rest) ≡ Shift
            → Cell c (prefix_of c) (t.0 ∷ (e ++ other_back))
            → Along g (prefix_of n) (e ++ other_back)
        by pre here (cell_shift v tail u z d) =
            let vt : t.0 ≡ v = ap (λ z. get_or z 0 0) u in
            let tl : tail ≡ e ++ other_back = sym (ap (drop 1) u) in
            subst (λ z. Along g z (e ++ other_back))
            (ap (λ z. z ∷ prefix_of c) (sym vt) ∙ sym pre)
            (subst (Along g (v ∷ prefix_of c)) tl d)
        by pre here (cell_reduce o below z u d) = absurd (differ here z (λ e. omega (arith, e)))
        by pre here (cell_accept z) = absurd (differ here z (λ e. omega (arith, e)))
    along_step {c = c} {n = n} (plain_reduce r d h k st re mo) y a l e b =
        let j : tokens_left c.rest ≡ e ++ back = ap tokens_left (sym re) ∙ b in
        let i : ahead (e ++ other_back) ≡ lookahead c.rest =
        ahead_same e other_back back ahead_is ∙ (ap ahead (sym j) ∙ sym (lookahead_is c.rest)) in
        by (found g m w s c (lookahead c.rest) r h) (cell c (e ++ other_back) i a (l d e j))
      where
        by : Found g m w s c r → Cell c (prefix_of c) (e ++ other_back)
            → Along g (prefix_of n) (e ++ other_back)
        by o (cell_shift v tail u z p) = absurd (differ h z (λ e. omega (arith, e)))
        by o (cell_accept z) = absurd (differ h z (λ e. omega (arith, e)))
        by o (cell_reduce q below z u p) =
            let rq : q ≡ r = ap move_rule (sym z ∙ h) in
            let i : reverse below ++ body_of g r ≡ reverse o.below ++ body_of g r =
            ap (λ t. reverse below ++ body_of g t) (sym rq)
            ∙ (sym u ∙ (reverse-reverse (symbols c.stack) ∙ o.parts)) in
            let bb : below ≡ o.below = same_below below o.below (body_of g r) i in
            let pre : prefix_of n ≡ left_of g r ∷ o.below =
            ap reverse (st ∙ o.left) ∙ (reverse_push (reverse o.below) (left_of g r)
            ∙ ap (λ z. left_of g r ∷ z) (reverse-reverse o.below)) in
            subst (λ z. Along g z (e ++ other_back))
            (ap (λ t. left_of g t ∷ below) rq ∙ (ap (λ z. left_of g r ∷ z) bb ∙ sym pre)) p
    along_step (plain_accept d k st re mo) y a l e b =
        absurd (apart mo y (λ i. omega (arith, i)))
    along_step (plain_fail k st re mo) y a l e b = absurd (apart mo y (λ i. omega (arith, i)))

    along : (now : Configuration) (earlier : List (StepKind × Configuration))
        → PlainTo m (first_configuration tokens) now earlier → now.mode ≡ modes.Running → Goes now
    along now [] h r e b =
        let i : front ≡ e = append_cancel_right front e back (sym parts
        ∙ (sym (left_of_places 1 tokens)
        ∙ (ap (λ (c : Configuration). tokens_left c.rest) (sym h) ∙ b))) in
        let d : Sent g (e ++ other_back) =
        subst (λ z. Sent g (z ++ other_back)) i (sent_from_sentence sentence) in
        let k : All (IsToken g) (e ++ other_back) =
        subst (λ z. All (IsToken g) (z ++ other_back)) i sentence.0 in
        let p : [] ≡ prefix_of now = sym (ap prefix_of h) in
        subst (λ z. Along g z (e ++ other_back)) p
        (record { form = e ++ other_back; sent = d; here = refl; ready = ready_first w d k })
    along now (step ∷ earlier) h r e b =
        along_step h.0 r (left_tokens step.1 earlier h.1) (along step.1 earlier h.1) e b

    -- no error is found where a sentence goes on
    no_error : (now : Configuration) (earlier : List (StepKind × Configuration))
        → PlainTo m (first_configuration tokens) now earlier → now.mode ≡ modes.Running
        → tokens_left now.rest ≡ back → m.cell (symbols now.stack) (lookahead now.rest) ≡ Error → ⊥
    no_error now earlier h r b z =
        by (cell now other_back (ahead_is ∙ (ap ahead (sym b) ∙ sym (lookahead_is now.rest)))
        (left_tokens now earlier h) (along now earlier h r [] b))
      where
        by : Cell now (prefix_of now) other_back → ⊥
        by (cell_shift t rest e y l) = differ z y (λ e. omega (arith, e))
        by (cell_reduce q below y u l) = differ z y (λ e. omega (arith, e))
        by (cell_accept y) = differ z y (λ e. omega (arith, e))

-- the mode and the cell where an error is detected
detection : (m : Machine) (c n : Configuration) → next m c ≡ Some (kinds.Detect, n)
    → (c.mode ≡ modes.Running) × (m.cell (symbols c.stack) (lookahead c.rest) ≡ Error)
detection m c n e = by (stepped m c kinds.Detect n e)
  where
    wrong : {k : StepKind} → kinds.Detect ≡ k → is_detect k ≡ false → ⊥
    wrong e f = true_false (ap is_detect e ∙ f)

    by : Stepped m c kinds.Detect n
        → (c.mode ≡ modes.Running) × (m.cell (symbols c.stack) (lookahead c.rest) ≡ Error)
    by (detects r h k st re mo) = (r, h)
    by (shifts t rest r h e k st re mo) = absurd (wrong k refl)
    by (reduces r d h k st re mo) = absurd (wrong k refl)
    by (accepts d h k st re mo) = absurd (wrong k refl)
    by (fails k st re mo) = absurd (wrong k refl)
    by (discards t rest r h e k st re mo) = absurd (wrong k refl)
    by (pops t p k st re mo) = absurd (wrong k refl)
    by (shifts_error p h k st re mo) = absurd (wrong k refl)
    by (inserts t d i k st re mo) = absurd (wrong k refl)
    by (drops t rest d e k st re mo) = absurd (wrong k refl)

module _ (g : ContextFree) (m : Machine) (w : WellFormed g) (s : IsSound g m) (f : IsComplete g m)
    (tokens : List ℕ) (a : AreInput g tokens) (place : ℕ) (v : RejectedAt m tokens place) where
  run : PlainTo m (first_configuration tokens) v.h.now v.h.earlier
  run = quiet_plain m tokens v.h v.run

  -- what was shifted begins no sentence with such a token, or the end, ahead
  pub no_sentence : (word back : List ℕ) → Shifted tokens word v.h.now.rest
      → ahead back ≡ ahead (tokens_left v.h.now.rest) → IsSentence g (word ++ back) → ⊥
  no_sentence word back t h n =
      let d = detection m v.h.now v.after v.detects in
      no_error g m w s f tokens a.0 word (tokens_left v.h.now.rest) back (shifted_all t) h n v.h.now
      v.h.earlier run d.0 refl d.1

  at_token : (word : List ℕ) (t : Shifted tokens word v.h.now.rest) (back : List ℕ)
      → t.back ≡ back → place ≤ length tokens → BeginsSentence g (take place tokens) → ⊥
  at_token word t [] e l n =
      let i : length tokens ≡ length word + 0 =
      ap length t.parts ∙ (length-append word t.back ∙ ap (λ z. length word + length z) e) in
      let p = place_is t in
      let q = v.at in
      omega (arith, i, p, q, l)
  at_token word t (x ∷ back) e l n =
      let p = place_is t in
      let q = v.at in
      let j : tokens ≡ (word ++ x ∷ []) ++ back =
      t.parts ∙ (ap (λ z. word ++ z) e ∙ sym (append_assoc word (x ∷ []) back)) in
      let i : length (word ++ x ∷ []) ≡ place =
      (let k = length-append word (x ∷ []) in omega (arith, k, p, q)) in
      let o : take place tokens ≡ word ++ x ∷ [] =
      ap (take place) j ∙ take_at (word ++ x ∷ []) back place i in
      no_sentence word (x ∷ n.0) t (sym (ap ahead (shifted_left t ∙ e)))
      (subst (IsSentence g) (ap (λ z. z ++ n.0) o ∙ append_assoc word (x ∷ []) n.0) n.1)

  at_end : (word : List ℕ) (t : Shifted tokens word v.h.now.rest) (back : List ℕ)
      → t.back ≡ back → place ≡ length tokens + 1 → IsSentence g tokens → ⊥
  at_end word t [] e l n =
      no_sentence word [] t (sym (ap ahead (shifted_left t ∙ e)))
      (subst (IsSentence g) (t.parts ∙ ap (λ z. word ++ z) e) n)
  at_end word t (x ∷ back) e l n =
      let i : length tokens ≡ length word + suc (length back) =
      ap length t.parts ∙ (length-append word t.back ∙ ap (λ z. length word + length z) e) in
      let p = place_is t in
      let q = v.at in
      omega (arith, i, p, q, l)

pub exact : ExactLaw
exact g m w s f tokens a (Accepted p) v = tt
exact g m w s f tokens a (Rejected place) v =
    let t = taken g m w s tokens a.0 v.h.now v.h.earlier (quiet_plain m tokens v.h v.run) in (
      at_token g m w s f tokens a place v t.word t.shifted t.shifted.back refl,
      at_end g m w s f tokens a place v t.word t.shifted t.shifted.back refl,
    )
exact g m w s f tokens a Limit v = tt
