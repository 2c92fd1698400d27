-- The step table, kind by kind: what each kind of step was made from, and what it leaves.
use Rattle.std.proofs.Common.{inl, inr, ℕ, ◌≡◌, ◌-◌, ◌==◌, Bool, true, false, if◌then◌else◌, List}
use Rattle.std.proofs.Common.{[], ◌∷◌, ◌++◌, length, take, reverse, refl, sym, ◌∙◌, ap, subst}
use Rattle.std.proofs.Common.{arith, Option, Some, None}
use Rattle.std.proofs.lemmas.List.{reverse-append, reverse-reverse, map-append, take-map, take_at}
use Rattle.std.proofs.lemmas.List.{length-map, length-append}
use Rattle.ysymbols.specs.Grammar.{error_token}
use Rattle.ymachine.specs.declared.machine.Mode.{Mode}
use Rattle.ymachine.specs.declared.machine.Mode.TheVariants.{Running, Popping, Accepted, Failed}
use Rattle.ymachine.specs.declared.machine.Edit.{Edit}
use Rattle.ymachine.specs.declared.machine.Edit.TheVariants as edits
use Rattle.ymachine.specs.declared.machine.StepKind.{StepKind}
use Rattle.ymachine.specs.declared.machine.StepKind.TheVariants as kinds
use Rattle.ymachine.specs.Machine.{Machine, Move, Shift, Reduce, Accept, Error, Entry}
use Rattle.ymachine.specs.Machine.{Configuration}
use Rattle.ymachine.specs.Machine.{symbols, lookahead, without_last, width, fail_step, shift_step}
use Rattle.ymachine.specs.Machine.{reduce_step}
use Rattle.ymachine.specs.Machine.{discard_step, detect_step, step_by, pop_step, recover_by, next}
use Rattle.ymachine.specs.Machine.{next_in}
use Rattle.ymachine.specs.Machine.{edited, edited_in, edited_rest}
use Rattle.ymachine.specs.Past.{Comes}
use Rattle.ytokens.specs.Symbols.{is_input}

pub some_is : {X : Type 0} {x y : X} → Some x ≡ Some y → x ≡ y
some_is {X = X} {x = x} e = ap (λ (o : Option X). elim o as (λ q. X) [ Some z ↦ z | None ↦ x ]) e

pub none_some : {X : Type 0} {x : X} → None ≡ Some x → ⊥
none_some {X = X} e =
    subst (λ (o : Option X). elim o as (λ q. Type 0) [ Some z ↦ ⊥ | None ↦ Unit {0} ]) e tt

-- What a step of the kind k from c to n was made from, and what it leaves.
pub data Stepped (m : Machine) (c : Configuration) (k : StepKind) (n : Configuration) : Type 0 where
  shifts : (token : ℕ × ℕ) (rest : List (ℕ × ℕ)) → c.mode ≡ Running
      → m.cell (symbols c.stack) token.0 ≡ Shift → c.rest ≡ token ∷ rest → k ≡ kinds.Shift token.0
      → symbols n.stack ≡ symbols c.stack ++ token.0 ∷ [] → n.rest ≡ rest → n.mode ≡ Running
      → Stepped m c k n
  reduces : (r : ℕ) → c.mode ≡ Running → m.cell (symbols c.stack) (lookahead c.rest) ≡ Reduce r
      → k ≡ kinds.Reduce r → symbols n.stack
      ≡ without_last (width m r) (symbols c.stack) ++ (m.rule r).left ∷ [] → n.rest ≡ c.rest
      → n.mode ≡ Running → Stepped m c k n
  accepts : c.mode ≡ Running → m.cell (symbols c.stack) (lookahead c.rest) ≡ Accept
      → k ≡ kinds.Accept → n.stack ≡ c.stack → n.rest ≡ c.rest → n.mode ≡ Accepted → Stepped m c k n
  fails : k ≡ kinds.Fail → n.stack ≡ c.stack → n.rest ≡ c.rest → n.mode ≡ Failed → Stepped m c k n
  detects : c.mode ≡ Running → m.cell (symbols c.stack) (lookahead c.rest) ≡ Error
      → k ≡ kinds.Detect → n.stack ≡ c.stack → n.rest ≡ c.rest → n.mode ≡ Popping → Stepped m c k n
  discards : (token : ℕ × ℕ) (rest : List (ℕ × ℕ)) → c.mode ≡ Running
      → m.cell (symbols c.stack) token.0 ≡ Error → c.rest ≡ token ∷ rest → k ≡ kinds.Discard token.0
      → n.stack ≡ c.stack → n.rest ≡ rest → n.mode ≡ Running → Stepped m c k n
  pops : (symbol : ℕ) → c.mode ≡ Popping → k ≡ kinds.Pop symbol
      → symbols c.stack ≡ symbols n.stack ++ symbol ∷ [] → n.rest ≡ c.rest → n.mode ≡ Popping
      → Stepped m c k n
  shifts_error : c.mode ≡ Popping → m.cell (symbols c.stack) error_token ≡ Shift
      → k ≡ kinds.ShiftError → symbols n.stack ≡ symbols c.stack ++ error_token ∷ []
      → n.rest ≡ c.rest → n.mode ≡ Running → Stepped m c k n
  inserts : (token : ℕ) → (c.mode ≡ Accepted → ⊥) → is_input m.tokens token ≡ true
      → k ≡ kinds.Insert token → n.stack ≡ c.stack → n.rest ≡ (token, 0) ∷ c.rest → n.mode ≡ c.mode
      → Stepped m c k n
  drops : (token : ℕ × ℕ) (rest : List (ℕ × ℕ)) → (c.mode ≡ Accepted → ⊥) → c.rest ≡ token ∷ rest
      → k ≡ kinds.Drop token.0 → n.stack ≡ c.stack → n.rest ≡ rest → n.mode ≡ c.mode
      → Stepped m c k n

abbrev symbol_in : Entry → ℕ
symbol_in e = e.symbol

abbrev kind_in : StepKind × Configuration → StepKind
kind_in z = z.0

abbrev stack_in : StepKind × Configuration → List Entry
stack_in z = z.1.stack

abbrev rest_in : StepKind × Configuration → List (ℕ × ℕ)
rest_in z = z.1.rest

abbrev mode_in : StepKind × Configuration → Mode
mode_in z = z.1.mode

-- whether a parse is neither accepted nor failed
abbrev is_going : Mode → Bool
is_going Running = true
is_going Popping = true
is_going Accepted = false
is_going Failed = false

-- the symbols of a stack without its last entries
pub symbols_without : (n : ℕ) (stack : List Entry)
    → symbols (without_last n stack) ≡ without_last n (symbols stack)
symbols_without n stack =
    sym (take-map symbol_in (length stack - n) stack)
    ∙ ap (λ j. take (j - n) (symbols stack)) (sym (length-map stack symbol_in))

-- a list without the part at its end
pub without_last_append : (xs ys : List ℕ) (n : ℕ) → n ≡ length ys → without_last n (xs ++ ys) ≡ xs
without_last_append xs ys n e =
    let l : length xs ≡ length (xs ++ ys) - n =
    (let a = length-append xs ys in omega (arith, a, e)) in
    take_at xs ys (length (xs ++ ys) - n) l

abbrev inserted_found : Bool → ℕ → Configuration → Option (StepKind × Configuration)
inserted_found b token c = if b then Some (
  kinds.Insert token,
  record c { rest = (token, 0) ∷ c.rest },
) else None

module _ (m : Machine) (c : Configuration) (k : StepKind) (n : Configuration) where
  by_failing : fail_step c ≡ (k, n) → Stepped m c k n
  by_failing s = let o = sym s in fails (ap kind_in o) (ap stack_in o) (ap rest_in o) (ap mode_in o)

  by_shift : (rest : List (ℕ × ℕ)) → c.mode ≡ Running
      → m.cell (symbols c.stack) (lookahead rest) ≡ Shift → c.rest ≡ rest → shift_step c rest ≡
      (k, n)
      → Stepped m c k n
  by_shift [] r h e s = by_failing s
  by_shift (t ∷ rest) r h e s =
      let o = sym s in
      shifts t rest r h e (ap kind_in o) (ap (λ z. symbols (stack_in z)) o
      ∙ map-append symbol_in c.stack _) (ap rest_in o) (ap mode_in o ∙ r)

  by_reduce : (r : ℕ) → c.mode ≡ Running → m.cell (symbols c.stack) (lookahead c.rest) ≡ Reduce r
      → reduce_step m c r ≡ (k, n) → Stepped m c k n
  by_reduce r d h s =
      let o = sym s in
      reduces r d h (ap kind_in o)
      (ap (λ z. symbols (stack_in z)) o ∙ (map-append symbol_in (without_last (width m r) c.stack) _
      ∙ ap (λ z. z ++ (m.rule r).left ∷ []) (symbols_without (width m r) c.stack)))
      (ap rest_in o) (ap mode_in o ∙ d)

  by_discard : (rest : List (ℕ × ℕ)) → c.mode ≡ Running
      → m.cell (symbols c.stack) (lookahead rest) ≡ Error → c.rest ≡ rest
      → discard_step c rest ≡ (k, n) → Stepped m c k n
  by_discard [] r h e s = by_failing s
  by_discard (t ∷ rest) r h e s = let o = sym s in
      discards t rest r h e (ap kind_in o) (ap stack_in o) (ap rest_in o) (ap mode_in o ∙ r)

  by_error : (b : Bool) → c.mode ≡ Running → m.cell (symbols c.stack) (lookahead c.rest) ≡ Error
      → (if b then discard_step c c.rest else detect_step c) ≡ (k, n) → Stepped m c k n
  by_error true r h s = by_discard c.rest r h refl s
  by_error false r h s = let o = sym s in
      detects r h (ap kind_in o) (ap stack_in o) (ap rest_in o) (ap mode_in o)

  by_running : (a : Move) → c.mode ≡ Running → m.cell (symbols c.stack) (lookahead c.rest) ≡ a
      → step_by m c a ≡ (k, n) → Stepped m c k n
  by_running Shift r h s = by_shift c.rest r h refl s
  by_running (Reduce q) r h s = by_reduce q r h s
  by_running Accept r h s = let o = sym s in
      accepts r h (ap kind_in o) (ap stack_in o) (ap rest_in o) (ap mode_in o)
  by_running Error r h s = by_error (c.counter == 3) r h s

  by_pop : (xs : List Entry) → c.mode ≡ Popping → reverse c.stack ≡ xs → pop_step c xs ≡ (k, n)
      → Stepped m c k n
  by_pop [] p e s = by_failing s
  by_pop (top ∷ below) p e s =
      let o = sym s in
      let f : c.stack ≡ reverse below ++ top ∷ [] =
      sym (reverse-reverse c.stack) ∙ (ap reverse e ∙ reverse-append (top ∷ []) below) in
      pops top.symbol p (ap kind_in o)
      (ap symbols f ∙ (map-append symbol_in (reverse below) (top ∷ [])
      ∙ ap (λ z. symbols z ++ top.symbol ∷ []) (sym (ap stack_in o))))
      (ap rest_in o) (ap mode_in o ∙ p)

  by_popping : (a : Move) → c.mode ≡ Popping → m.cell (symbols c.stack) error_token ≡ a
      → recover_by c a ≡ (k, n) → Stepped m c k n
  by_popping Shift p h s =
      let o = sym s in
      shifts_error p h (ap kind_in o) (ap (λ z. symbols (stack_in z)) o
      ∙ map-append symbol_in c.stack _) (ap rest_in o) (ap mode_in o)
  by_popping (Reduce q) p h s = by_pop (reverse c.stack) p refl s
  by_popping Accept p h s = by_pop (reverse c.stack) p refl s
  by_popping Error p h s = by_pop (reverse c.stack) p refl s

  by_mode : (d : Mode) → c.mode ≡ d → next_in m c d ≡ Some (k, n) → Stepped m c k n
  by_mode Running r s = by_running (m.cell (symbols c.stack) (lookahead c.rest)) r refl (some_is s)
  by_mode Popping r s = by_popping (m.cell (symbols c.stack) error_token) r refl (some_is s)
  by_mode Accepted r s = absurd (none_some s)
  by_mode Failed r s = absurd (none_some s)

  pub stepped : next m c ≡ Some (k, n) → Stepped m c k n
  unfolding next
  stepped s = by_mode c.mode refl s

  by_inserting : (token : ℕ) (b : Bool) → is_input m.tokens token ≡ b → (c.mode ≡ Accepted → ⊥)
      → inserted_found b token c ≡ Some (k, n) → Stepped m c k n
  by_inserting token true h d s = let o = sym (some_is s) in
      inserts token d h (ap kind_in o) (ap stack_in o) (ap rest_in o) (ap mode_in o)
  by_inserting token false h d s = absurd (none_some s)

  by_dropping : (rest : List (ℕ × ℕ)) → c.rest ≡ rest → (c.mode ≡ Accepted → ⊥)
      → edited_rest m edits.Drop c rest ≡ Some (k, n) → Stepped m c k n
  by_dropping [] e d s = absurd (none_some s)
  by_dropping (t ∷ rest) e d s = let o = sym (some_is s) in
      drops t rest d e (ap kind_in o) (ap stack_in o) (ap rest_in o) (ap mode_in o)

  by_editing : (edit : Edit) → (c.mode ≡ Accepted → ⊥) → edited_rest m edit c c.rest ≡ Some (k, n)
      → Stepped m c k n
  by_editing (edits.Insert token) d s = by_inserting token (is_input m.tokens token) refl d s
  by_editing edits.Drop d s = by_dropping c.rest refl d s

  not_accepted : (d : Mode) → c.mode ≡ d → is_going d ≡ true → c.mode ≡ Accepted → ⊥
  not_accepted d r g e = let bad : false ≡ true = ap is_going (sym e ∙ r) ∙ g in cc

  by_edit_in : (edit : Edit) (d : Mode) → c.mode ≡ d → edited_in m edit c d ≡ Some (k, n)
      → Stepped m c k n
  by_edit_in edit Running r s = by_editing edit (not_accepted Running r refl) s
  by_edit_in edit Popping r s = by_editing edit (not_accepted Popping r refl) s
  by_edit_in edit Accepted r s = absurd (none_some s)
  by_edit_in edit Failed r s = absurd (none_some s)

  by_edit : (edit : Edit) → edited m edit c ≡ Some (k, n) → Stepped m c k n
  unfolding edited
  by_edit edit s = by_edit_in edit c.mode refl s

  -- what came of a configuration was a step or an edit
  pub came : Comes (next m) (edited m) c k n → Stepped m c k n
  came (inl s) = stepped s
  came (inr e) = by_edit e.0 e.1
