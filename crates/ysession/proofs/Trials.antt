-- What a trial of a token over the states of a stack shows.
use Rattle.std.proofs.Common.{ℕ, zero, suc, ◌≡◌, ◌≢◌, ◌-◌, ◌+◌, ◌<◌, ◌≤◌, ◌==◌, List, [], ◌∷◌}
use Rattle.std.proofs.Common.{Option, Some, None, IsSome, Bool, true, false, refl}
use Rattle.std.proofs.Common.{sym, subst, arith, ◌∙◌, ap, if◌then◌else◌, ◌⊎◌, inl, inr}
use Rattle.std.specs.Prelude.{is_some, unwrap_or}
use Rattle.std.specs.Option.{option_map}
use Rattle.ysymbols.specs.Grammar.{end_token, error_token}
use Rattle.ytables.specs.declared.cell.Action.{Action}
use Rattle.ytables.specs.declared.cell.Action.TheVariants as actions
use Rattle.ytables.specs.Tables.{TablesValue as Tables}
use Rattle.ytokens.specs.Symbols.{is_input}
use Rattle.ymachine.specs.declared.machine.Edit.TheVariants as edits
use Rattle.ymachine.specs.declared.machine.Mode.{Mode}
use Rattle.ymachine.specs.declared.machine.Mode.TheVariants.{Running, Popping, Accepted, Failed}
use Rattle.ymachine.specs.declared.machine.StepKind.{StepKind}
use Rattle.ymachine.specs.declared.machine.StepKind.TheVariants as kinds
use Rattle.ymachine.specs.History.{History}
use Rattle.ymachine.specs.Machine.{Configuration, Entry, Machine, Move, Shift, Reduce, Accept}
use Rattle.ymachine.specs.Machine.{Error}
use Rattle.ymachine.specs.Machine.{next, next_in, edited, edited_in, lookahead, symbols, shift_step}
use Rattle.ymachine.specs.Machine.{reduce_step, discard_step, detect_step, recover_by, pop_step}
use Rattle.ymachine.specs.MachineOver.{machine_over}
use Rattle.ymachine.specs.Past.{most_steps, position}
use Rattle.ysession.specs.declared.expected.Outlook.{Outlook}
use Rattle.ysession.specs.declared.expected.Outlook.TheVariants.{Unexpected, Expected, Untold}
use Rattle.ysession.specs.Expected.{IsExpected, IsReducing, IsTaken, Reduces, Says}
use Rattle.ysession.specs.Expected.{SaysWithin, Shows, can_be_next, edits_for, taking, with_next}
use Rattle.ysession.specs.States.{AreStates, GoesOn, IsStep}

-- ---- values that may be missing

none_some : {A : Type 0} (x : A) → None ≡ Some x → ⊥
none_some x e = let bad : false ≡ true = ap is_some e in cc

some_is : {A : Type 0} (x y : A) → Some x ≡ Some y → x ≡ y
some_is x y e = ap (λ (o : Option _). unwrap_or o x) e

-- ---- reductions

-- no reduction comes next
abbrev Stops : Machine → Configuration → Type 0
Stops m c = (rule : ℕ) (after : Configuration) → next m c ≡ Some (kinds.Reduce rule, after) → ⊥

-- reductions alone come to one configuration only that none of them leaves
one_stop : (m : Machine) (n k : ℕ) (c d e : Configuration) → Reduces m n c d → Reduces m k c e
    → Stops m d → Stops m e → d ≡ e
one_stop m zero zero c d e r s p q = r ∙ sym s
one_stop m zero (suc k) c d e r s p q = absurd (p s.0 s.1 (ap (next m) r ∙ s.2))
one_stop m (suc n) zero c d e r s p q = absurd (q r.0 r.1 (ap (next m) s ∙ r.2))
one_stop m (suc n) (suc k) c d e r s p q =
    let mid = ap (λ (x : StepKind × Configuration). x.1) (some_is _ _ (sym s.2 ∙ r.2)) in
    one_stop m n k r.1 d e r.3 (subst (λ (x : Configuration). Reduces m k x e) mid s.3) p q

-- and no more of them come than lead there
no_more : (m : Machine) (n k : ℕ) (c d e : Configuration) → Reduces m n c d → Stops m d
    → Reduces m k c e → k ≤ n
no_more m n zero c d e r p s = omega arith
no_more m zero (suc k) c d e r p s = absurd (p s.0 s.1 (ap (next m) r ∙ s.2))
no_more m (suc n) (suc k) c d e r p s =
    let mid = ap (λ (x : StepKind × Configuration). x.1) (some_is _ _ (sym s.2 ∙ r.2)) in
    let below = no_more m n k r.1 d e r.3 p (subst (λ (x : Configuration). Reduces m k x e) mid s.3)
    in
    omega (arith, below)

-- a reduction more
reduces_on : (m : Machine) (n : ℕ) (c d e : Configuration) (rule : ℕ) → Reduces m n c d
    → next m d ≡ Some (kinds.Reduce rule, e) → Reduces m (suc n) c e
reduces_on m zero c d e rule r s = (rule, e, ap (next m) (sym r) ∙ s, refl)
reduces_on m (suc n) c d e rule r s = (r.0, r.1, r.2, reduces_on m n r.1 d e rule r.3 s)

-- the step that takes a token is no reduction
no_reduction : (token rule : ℕ) → taking token ≡ kinds.Reduce rule → ⊥
no_reduction zero rule e = cc
no_reduction (suc n) rule e = cc

-- ---- a trial

-- so many reductions were made with the token ahead, and the stack has these states
pub record Tries (t : Tables) (first : Configuration) (token count : ℕ) (states : List ℕ) : Type 0
  where
    pub at : Configuration
    pub reduces : Reduces (machine_over t) count first at
    pub goes : GoesOn t at token states

pub tries_none : (t : Tables) (first : Configuration) (token : ℕ) (states : List ℕ)
    → GoesOn t first token states → Tries t first token 0 states
tries_none t first token states g = record { at = first; reduces = refl; goes = g }

-- the step that a shift is
shift_takes : (c : Configuration) (token : ℕ) (rest : List (ℕ × ℕ)) → lookahead rest ≡ token
    → token ≢ end_token → (after : Configuration) × (shift_step c rest ≡ (taking token, after))
shift_takes c token [] e h = absurd (h (sym e))
shift_takes c token (x ∷ rest) e h =
    let after : Configuration = (shift_step c (x ∷ rest)).1 in
    let is : taking token ≡ kinds.Shift x.0 =
    by token h ∙ ap (λ (n : ℕ). kinds.Shift n) (sym e) in
    (after, ap (λ (k : StepKind). let made : StepKind × Configuration = (k, after) in made) (sym is))
  where
    by : (n : ℕ) → n ≢ end_token → taking n ≡ kinds.Shift n
    by zero h = absurd (h refl)
    by (suc n) h = refl

-- an error is neither a reduction nor the step that takes a token
error_reduces : (c : Configuration) (b : Bool) (rest : List (ℕ × ℕ)) (rule : ℕ)
    → (if b then discard_step c rest else detect_step c).0 ≡ kinds.Reduce rule → ⊥
error_reduces c true [] rule e = cc
error_reduces c true (x ∷ rest) rule e = cc
error_reduces c false rest rule e = cc

error_takes : (c : Configuration) (b : Bool) (rest : List (ℕ × ℕ)) (token : ℕ)
    → (if b then discard_step c rest else detect_step c).0 ≡ taking token → ⊥
error_takes c true [] zero e = cc
error_takes c true [] (suc n) e = cc
error_takes c true (x ∷ rest) zero e = cc
error_takes c true (x ∷ rest) (suc n) e = cc
error_takes c false rest zero e = cc
error_takes c false rest (suc n) e = cc

module _ (t : Tables) (first : Configuration) (token count : ℕ) (states : List ℕ)
    (r : Tries t first token count states) where
  abbrev m : Machine
  m = machine_over t

  -- a reduction more
  pub tries_on : (rule : ℕ) (new : List ℕ) → IsStep t r.at token (actions.Reduce rule) new
      → Tries t first token (count + 1) new
  tries_on rule new s =
      let one : suc count ≡ count + 1 = omega arith in
      let after : Configuration = (reduce_step m r.at rule).1 in
      record {
        at = after;
        reduces = subst (λ (n : ℕ). Reduces m n first after) one
            (reduces_on m count first r.at after rule r.reduces s.makes);
        goes = record { mode = r.goes.mode; ahead = r.goes.ahead; stack = s.stack };
      }

  -- where no reduction comes next, no more come than were made
  not_long : (most : ℕ) → count < most → Stops m r.at → IsReducing m first most → ⊥
  not_long most h p l =
      let below = no_more m count most first r.at l.at r.reduces p l.reduces in
      absurd (omega (arith, below, h))

  taken : (most : ℕ) (after : Configuration) → count < most
      → next m r.at ≡ Some (taking token, after) → Shows m first token most Expected
  taken most after h n = (
    record { count = count; at = r.at; reduces = r.reduces; after = after; takes = n },
    not_long most h (λ rule later s. no_reduction token rule
        (ap (λ (x : StepKind × Configuration). x.0) (some_is _ _ (sym n ∙ s)))),
  )

  by_shift : (most to : ℕ) (new : List ℕ) → count < most
      → IsStep t r.at token (actions.Shift to) new → Shows m first token most Expected
  by_shift most to new h s =
      let is = shift_takes r.at token r.at.rest r.goes.ahead s.fits in
      taken most is.0 h (s.makes ∙ ap (λ (x : StepKind × Configuration). Some x) is.1)

  by_accept : (most : ℕ) (new : List ℕ) → count < most
      → IsStep t r.at token actions.Accept new → Shows m first token most Expected
  by_accept most new h s =
      let after : Configuration = record r.at { mode = Accepted } in
      taken most after h (s.makes ∙ ap (λ (n : ℕ). let made : Option (StepKind × Configuration) =
      Some (taking n, after) in made) (sym s.fits))

  pub by_taking : (most : ℕ) (action : Action) (new : List ℕ) → count < most
      → ((to : ℕ) × (action ≡ actions.Shift to)) ⊎ (action ≡ actions.Accept)
      → IsStep t r.at token action new → Shows m first token most Expected
  by_taking most action new h (inl is) s =
      by_shift most is.0 new h (subst (λ (a : Action). IsStep t r.at token a new) is.1 s)
  by_taking most action new h (inr is) s =
      by_accept most new h (subst (λ (a : Action). IsStep t r.at token a new) is s)

  pub by_error : (most : ℕ) (new : List ℕ) → count < most
      → IsStep t r.at token actions.Error new → Shows m first token most Unexpected
  by_error most new h s =
      let b : Bool = r.at.counter == 3 in
      let stops : Stops m r.at = λ rule after n. error_reduces r.at b r.at.rest rule
      (ap (λ (x : StepKind × Configuration). x.0) (some_is _ _ (sym s.makes ∙ n))) in (
        (λ e. let same = one_stop m e.count count first e.at r.at e.reduces r.reduces
            (λ rule after n. no_reduction token rule
            (ap (λ (x : StepKind × Configuration). x.0) (some_is _ _ (sym e.takes ∙ n))))
            stops in
            error_takes r.at b r.at.rest token (ap (λ (x : StepKind × Configuration). x.0)
            (some_is _ _ (sym s.makes ∙ (ap (next m) (sym same) ∙ e.takes))))),
        not_long most h stops,
      )

  pub by_limit : (most : ℕ) → count ≡ most → Shows m first token most Untold
  unfolding next
  by_limit most e = record {
    at = r.at;
    reduces = subst (λ (n : ℕ). Reduces m n first r.at) e r.reduces;
    left = subst (λ (d : Mode). IsSome (next_in m r.at d)) (sym r.goes.mode) refl;
  }

-- ---- a token next

-- the configuration with a token next, which goes on as the one before
pub record Next (m : Machine) (c : Configuration) (token : ℕ) : Type 0 where
  pub first : Configuration
  pub given : with_next m token c ≡ Some first
  pub mode : first.mode ≡ Running
  pub stack : first.stack ≡ c.stack
  pub ahead : lookahead first.rest ≡ token

pub next_of : (m : Machine) (c : Configuration) (token : ℕ) → can_be_next m.tokens token ≡ true
    → c.mode ≡ Running → Next m c token
unfolding edited
next_of m c zero can r = record {
  first = record c { rest = [] };
  given = refl;
  mode = r;
  stack = refl;
  ahead = refl;
}
next_of m c (suc n) can r =
    let first : Configuration = record c { rest = (suc n, 0) ∷ c.rest } in
    record {
      first = first;
      given = ap (λ (d : Mode). option_map (λ (made : StepKind × Configuration). made.1)
          (edited_in m (edits.Insert (suc n)) c d)) r
          ∙ ap (λ (b : Bool). let made : Option (StepKind × Configuration) =
          if b then Some (kinds.Insert (suc n), first) else None in
          option_map (λ (x : StepKind × Configuration). x.1) made) can;
      mode = r;
      stack = refl;
      ahead = refl;
    }

-- what is shown with the token next is so of the token
pub says_within : (m : Machine) (c first : Configuration) (token most : ℕ) (outlook : Outlook)
    → with_next m token c ≡ Some first → Shows m first token most outlook
    → SaysWithin m c token most outlook
says_within m c first token most Unexpected given s = (
  (λ e. s.0 (subst (λ (f : Configuration). IsTaken m f token) (some_is _ _ (sym e.given ∙ given))
      e.taken)),
  (λ l. s.1 (subst (λ (f : Configuration). IsReducing m f most) (some_is _ _ (sym l.given ∙ given))
      l.reducing)),
)
says_within m c first token most Expected given s = (
  record { first = first; given = given; taken = s.0 },
  (λ l. s.1 (subst (λ (f : Configuration). IsReducing m f most) (some_is _ _ (sym l.given ∙ given))
      l.reducing)),
)
says_within m c first token most Untold given s =
    record { first = first; given = given; reducing = s }

-- over the states of a stack
pub says_over : (t : Tables) (c : Configuration) (token most : ℕ) (states : List ℕ)
    (outlook : Outlook) → can_be_next (machine_over t).tokens token ≡ true → c.mode ≡ Running
    → AreStates t (symbols c.stack) states
    → ((first : Configuration) → GoesOn t first token states
    → Shows (machine_over t) first token most outlook)
    → SaysWithin (machine_over t) c token most outlook
says_over t c token most states outlook can r a shows =
    let x = next_of (machine_over t) c token can r in
    says_within (machine_over t) c x.first token most outlook x.given
    (shows x.first (record {
      mode = x.mode;
      ahead = x.ahead;
      stack = subst (λ (s : List Entry). AreStates t (symbols s) states) (sym x.stack) a;
    }))

-- a token that isn't one of the input can't be inserted
unnamed : (m : Machine) (c : Configuration) (n : ℕ) → is_input m.tokens (suc n) ≡ false
    → c.mode ≡ Running → with_next m (suc n) c ≡ None
unfolding edited
unnamed m c n can r =
    let first : Configuration = record c { rest = (suc n, 0) ∷ c.rest } in
    ap (λ (d : Mode). option_map (λ (made : StepKind × Configuration). made.1)
    (edited_in m (edits.Insert (suc n)) c d)) r
    ∙ ap (λ (b : Bool). let made : Option (StepKind × Configuration) =
    if b then Some (kinds.Insert (suc n), first) else None in
    option_map (λ (x : StepKind × Configuration). x.1) made) can

-- what can't be next isn't expected
pub says_never : (m : Machine) (c : Configuration) (token most : ℕ)
    → can_be_next m.tokens token ≡ false → c.mode ≡ Running
    → SaysWithin m c token most Unexpected
says_never m c zero most can r = let bad : true ≡ false = can in cc
says_never m c (suc n) most can r =
    let none = unnamed m c n can r in (
      (λ e. none_some e.first (sym none ∙ e.given)),
      (λ l. none_some l.first (sym none ∙ l.given)),
    )

-- ---- in a session

-- within as many reductions as there are positions left
pub says_in : (m : Machine) (h : History) (token most : ℕ) (outlook : Outlook)
    → most ≡ most_steps - (position h + edits_for token h.now)
    → SaysWithin m h.now token most outlook → Says m h token outlook
says_in m h token most Unexpected e s = s.0
says_in m h token most Expected e s = s.0
says_in m h token most Untold e s = record { count = most; long = s; limit = omega (arith, e) }

-- a recovery that pops takes no token, and makes no reduction
pop_takes : (c : Configuration) (stack : List Entry) (token : ℕ)
    → (pop_step c stack).0 ≡ taking token → ⊥
pop_takes c [] zero e = cc
pop_takes c [] (suc n) e = cc
pop_takes c (x ∷ stack) zero e = cc
pop_takes c (x ∷ stack) (suc n) e = cc

pop_reduces : (c : Configuration) (stack : List Entry) (rule : ℕ)
    → (pop_step c stack).0 ≡ kinds.Reduce rule → ⊥
pop_reduces c [] rule e = cc
pop_reduces c (x ∷ stack) rule e = cc

recovery_takes : (c : Configuration) (a : Move) (token : ℕ) → (recover_by c a).0 ≡ taking token → ⊥
recovery_takes c Shift zero e = cc
recovery_takes c Shift (suc n) e = cc
recovery_takes c (Reduce r) token e = pop_takes c _ token e
recovery_takes c Accept token e = pop_takes c _ token e
recovery_takes c Error token e = pop_takes c _ token e

recovery_reduces : (c : Configuration) (a : Move) (rule : ℕ)
    → (recover_by c a).0 ≡ kinds.Reduce rule → ⊥
recovery_reduces c Shift rule e = cc
recovery_reduces c (Reduce r) rule e = pop_reduces c _ rule e
recovery_reduces c Accept rule e = pop_reduces c _ rule e
recovery_reduces c Error rule e = pop_reduces c _ rule e

-- a parse that doesn't go on takes no token
idle : (m : Machine) (first : Configuration) (token : ℕ) (mode : Mode) → first.mode ≡ mode
    → mode ≢ Running → IsTaken m first token → ⊥
unfolding next
idle m first token mode e o x = by x.count mode e o x.reduces
  where
    step : (k : StepKind) (after : Configuration) (d : Mode) → first.mode ≡ d → d ≢ Running
        → next m first ≡ Some (k, after)
        → (((n : ℕ) → k ≡ taking n → ⊥) × ((rule : ℕ) → k ≡ kinds.Reduce rule → ⊥))
    step k after Running e o s = absurd (o refl)
    step k after Popping e o s =
        let a = m.cell (symbols first.stack) error_token in
        let is = ap (λ (z : StepKind × Configuration). z.0)
        (some_is _ _ (sym (ap (next_in m first) e) ∙ s)) in (
          (λ n t. recovery_takes first a n (is ∙ t)),
          (λ rule t. recovery_reduces first a rule (is ∙ t)),
        )
    step k after Accepted e o s = absurd (none_some _ (sym (ap (next_in m first) e) ∙ s))
    step k after Failed e o s = absurd (none_some _ (sym (ap (next_in m first) e) ∙ s))

    by : (count : ℕ) (d : Mode) → first.mode ≡ d → d ≢ Running → Reduces m count first x.at → ⊥
    by zero d e o r = (step (taking token) x.after d e o (ap (next m) (sym r) ∙ x.takes)).0 token refl
    by (suc n) d e o r = (step (kinds.Reduce r.0) r.1 d e o r.2).1 r.0 refl

-- the mode with a token next
next_mode : (m : Machine) (c first : Configuration) (token : ℕ) (mode : Mode) → c.mode ≡ mode
    → with_next m token c ≡ Some first → first.mode ≡ c.mode
unfolding edited
next_mode m c first zero mode e s = ap (λ (x : Configuration). x.mode) (sym (some_is _ _ s))
next_mode m c first (suc n) mode e s = by mode e (is_input m.tokens (suc n)) refl s
  where
    put : Configuration
    put = record c { rest = (suc n, 0) ∷ c.rest }

    found : Bool → Option (StepKind × Configuration)
    found b = if b then Some (kinds.Insert (suc n), put) else None

    named : (b : Bool) → option_map (λ (x : StepKind × Configuration). x.1) (found b) ≡ Some first
        → first.mode ≡ c.mode
    named true s = ap (λ (x : Configuration). x.mode) (sym (some_is _ _ s))
    named false s = absurd (none_some _ s)

    by : (d : Mode) → c.mode ≡ d → (b : Bool) → is_input m.tokens (suc n) ≡ b
        → option_map (λ (x : StepKind × Configuration). x.1)
        (edited_in m (edits.Insert (suc n)) c c.mode) ≡ Some first → first.mode ≡ c.mode
    by Running e b i s =
        named (is_input m.tokens (suc n)) (ap (λ (d : Mode). option_map
        (λ (x : StepKind × Configuration). x.1) (edited_in m (edits.Insert (suc n)) c d)) (sym e) ∙ s)
    by Popping e b i s =
        named (is_input m.tokens (suc n)) (ap (λ (d : Mode). option_map
        (λ (x : StepKind × Configuration). x.1) (edited_in m (edits.Insert (suc n)) c d)) (sym e) ∙ s)
    by Accepted e b i s = absurd (none_some _ (ap (λ (d : Mode). option_map
        (λ (x : StepKind × Configuration). x.1) (edited_in m (edits.Insert (suc n)) c d)) (sym e) ∙ s))
    by Failed e b i s = absurd (none_some _ (ap (λ (d : Mode). option_map
        (λ (x : StepKind × Configuration). x.1) (edited_in m (edits.Insert (suc n)) c d)) (sym e) ∙ s))

-- where the parse doesn't go on, no token is expected
pub none_expected : (m : Machine) (c : Configuration) (token : ℕ) → c.mode ≢ Running
    → IsExpected m c token → ⊥
none_expected m c token o e =
    idle m e.first token e.first.mode refl
    (λ r. o (sym (next_mode m c e.first token c.mode refl e.given) ∙ r)) e.taken

-- the modes in which a parse doesn't go on
pub not_running : (mode : Mode)
    → (mode ≡ Popping) ⊎ ((mode ≡ Accepted) ⊎ (mode ≡ Failed)) → mode ≢ Running
not_running mode (inl e) r = let bad : Popping ≡ Running = sym e ∙ r in cc
not_running mode (inr (inl e)) r = let bad : Accepted ≡ Running = sym e ∙ r in cc
not_running mode (inr (inr e)) r = let bad : Failed ≡ Running = sym e ∙ r in cc
