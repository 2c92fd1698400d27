-- A step of a content shows the machine's step, keeps what holds of the content, and its change
-- leads back.
use Rattle.std.proofs.Common.{ℕ, zero, suc, ◌≡◌, ◌<◌, ◌≤◌, ◌+◌, ◌-◌, ◌==◌, Bool, true, false}
use Rattle.std.proofs.Common.{if◌then◌else◌, List, [], ◌∷◌, ◌++◌, Option, Some, None, length, take}
use Rattle.std.proofs.Common.{map, get_or, reverse, refl, sym, ◌∙◌, ap, subst, arith}
use Rattle.std.specs.Prelude.{IsSome, is_some, unwrap_or}
use Rattle.std.proofs.lemmas.Bool.{eqb-true}
use Rattle.std.proofs.lemmas.List.{map-append, take-map, reverse-append, reverse-reverse}
use Rattle.ytables.specs.declared.cell.Action.{Action}
use Rattle.ytables.specs.declared.cell.Action.TheVariants as actions
use Rattle.ytables.specs.Tables.{TablesValue as Tables}
use Rattle.ysymbols.specs.Grammar.{error_token}
use Rattle.ymachine.specs.declared.machine.Mode.{Mode}
use Rattle.ymachine.specs.declared.machine.Mode.TheVariants.{Running, Popping, Accepted, Failed}
use Rattle.ymachine.specs.declared.machine.Edit.{Edit}
use Rattle.ymachine.specs.declared.machine.Edit.TheVariants as edits
use Rattle.ymachine.specs.declared.machine.StepKind.{StepKind}
use Rattle.ymachine.specs.declared.machine.StepKind.TheVariants as kinds
use Rattle.ymachine.specs.declared.parts.StackEntry.{StackEntry}
use Rattle.ymachine.specs.declared.parts.Node.{Node}
use Rattle.ymachine.specs.declared.parts.Node.TheVariants as nodes
use Rattle.ymachine.specs.Machine.{Configuration, Entry, symbols}
use Rattle.ymachine.specs.Machine.{without_last, last_ones, Move, Shift, Reduce, Accept, Error}
use Rattle.ymachine.specs.Machine.{shift_step, discard_step, detect_step}
use Rattle.ymachine.specs.Machine.{step_by, pop_step}
use Rattle.ymachine.specs.Machine.{recover_by, next_in, next, edited_rest}
use Rattle.ymachine.specs.Machine.{edited_in}
use Rattle.ymachine.specs.Machine.{edited}
use Rattle.ymachine.specs.Rest.{ahead, is_left, place_left, without_first, with_insertion}
use Rattle.ymachine.specs.Tables.{goto_at, goto_from, cell_at, cell_in, rule_of, walk, state_after}
use Rattle.ytokens.specs.Symbols.{is_input, token_count}
use Rattle.ymachine.specs.MachineOver.{machine_over, move_of}
use Rattle.ymachine.specs.Sound.{Sound}
use Rattle.ymachine.specs.Machine as machine
use Rattle.ymachine.specs.Content.{Content, Place, entry, width_of, top_state, lead, top_of}
use Rattle.ymachine.specs.Content.{kind_running, kind_popping, kind_in, place_after, content_after}
use Rattle.ymachine.specs.Content.{one_step}
use Rattle.ymachine.specs.Content.{one_back, content_before, place_before, change_at, trees_over}
use Rattle.ymachine.specs.Content.{entry_view, state_from}
use Rattle.ymachine.specs.Content.{rest_of, configuration_of, edit_kind}
use Rattle.ymachine.proofs.Ends.{without_last-append, last_ones-append, both_ends, length-last_ones}
use Rattle.ymachine.proofs.Ends.{top_back}
use Rattle.ymachine.proofs.States.{leads_walk, leads_walk_to, leads-take, state_from-last}
use Rattle.ymachine.proofs.Rests.{left, none_left, ahead_is, left_by_ahead, taken_back}
use Rattle.ymachine.proofs.Rests.{inserted_back}
use Rattle.ymachine.proofs.Rests.{inserted_first, fits_taken, fits_inserted}
use Rattle.ymachine.proofs.Facts.{Facts, FactsOf, grow, fold, pop, stay, advance}
use Rattle.ymachine.proofs.Shown.{symbol_of, shown-symbols, shown-grown, shown-reduced, length-map}

-- what a step or an edit of this kind is to a content, where this is found of the machine
pub record Leads (p : Place) (found : Option (StepKind × Configuration)) (kind : StepKind) : Type 0
  where
    pub follows : found ≡ Some (kind, configuration_of (place_after kind p))
    pub facts : FactsOf (place_after kind p)
    pub back : place_before (change_at kind p.content) (place_after kind p) ≡ p

abbrev pub Moves : Place → StepKind → Type 0
Moves p kind = Leads p (next (machine_over p.tables) (configuration_of p)) kind

abbrev pub Changes : Place → Edit → StepKind → Type 0
Changes p edit kind = Leads p (edited (machine_over p.tables) edit (configuration_of p)) kind

some_of : (o : Option ℕ) → IsSome o → (q : ℕ) × (o ≡ Some q)
some_of None h = let bad : false ≡ true = h in cc
some_of (Some q) h = (q, refl)

walk-append : (t : Tables) (q : Option ℕ) (xs ys : List ℕ)
    → walk t q (xs ++ ys) ≡ walk t (walk t q xs) ys
walk-append t q [] ys = refl
walk-append t q (x ∷ xs) ys = walk-append t (goto_from t q x) xs ys

-- equal parts make equal configurations
pub same : (c d : Configuration) → c.stack ≡ d.stack → c.rest ≡ d.rest → c.counter ≡ d.counter
    → c.errors ≡ d.errors → c.mode ≡ d.mode → c ≡ d
same c d e f g h i = λ k.
    record { stack = e k; rest = f k; counter = g k; errors = h k; mode = i k }

same_content : (c d : Content) → c.stack ≡ d.stack → c.nodes ≡ d.nodes → c.children ≡ d.children
    → c.rest ≡ d.rest → c.counter ≡ d.counter → c.errors ≡ d.errors → c.mode ≡ d.mode
    → c.steps ≡ d.steps → c ≡ d
same_content c d a b e f g h i j = λ k. record {
  stack = a k;
  nodes = b k;
  children = e k;
  rest = f k;
  counter = g k;
  errors = h k;
  mode = i k;
  steps = j k;
}

-- the state of the stack is the one on top
at_top : (p : Place) → FactsOf p
    → state_after p.tables (map symbol_of p.content.stack) ≡ Some (top_state p.content.stack)
at_top p f = leads_walk p.tables 0 p.content.stack f.states

-- the state of the shown stack is that of the stack
pub shown_state : (p : Place) → FactsOf p
    → state_after p.tables (symbols (configuration_of p).stack) ≡ Some (top_state p.content.stack)
shown_state p f =
    ap (λ (l : List ℕ). state_after p.tables l)
    (shown-symbols (trees_over p.content.children p.content.nodes) p.content.stack)
    ∙ at_top p f

-- and that after its symbols up to an entry, with it, is the entry's
pub shown_state_at : (p : Place) → FactsOf p → (i : ℕ) → i < length p.content.stack
    → state_after p.tables (take (i + 1) (symbols (configuration_of p).stack))
    ≡ Some (get_or p.content.stack i (entry 0 0 0)).state
shown_state_at p f i l =
    let next : i + 1 ≡ suc i = omega arith in
    ap (λ (xs : List ℕ). state_after p.tables (take (i + 1) xs))
    (shown-symbols (trees_over p.content.children p.content.nodes) p.content.stack)
    ∙ leads_walk_to p.tables 0 (i + 1) p.content.stack (omega (arith, l)) f.states
    ∙ ap Some (ap (λ (n : ℕ). state_from 0 n p.content.stack) next
    ∙ state_from-last 0 i p.content.stack l)

module _ (p : Place) (s : Sound p.tables) (f : FactsOf p) where
  cell_is : (token : ℕ) → (machine_over p.tables).cell (symbols (configuration_of p).stack) token
      ≡ move_of (cell_at p.tables (top_state p.content.stack) token)
  unfolding machine_over
  cell_is token = ap (λ (q : Option ℕ). move_of (cell_in p.tables q token)) (shown_state p f)

  rule_is : (r : ℕ) → (machine_over p.tables).rule r ≡ rule_of p.tables r
  unfolding machine_over
  rule_is r = refl

  -- the machine's step by the cell of the state on top
  runs : (a : Action) → p.content.mode ≡ Running
      → cell_at p.tables (top_state p.content.stack) (ahead p.tokens p.content.rest) ≡ a
      → next (machine_over p.tables) (configuration_of p)
      ≡ Some (step_by (machine_over p.tables) (configuration_of p) (move_of a))
  unfolding next
  runs a m e =
      let c = configuration_of p in
      let m' = machine_over p.tables in
      ap (next_in m' c) m
      ∙ ap (λ (t : ℕ). let found : Option (StepKind × Configuration) =
      Some (step_by m' c (m'.cell (symbols c.stack) t)) in
      found) (ahead_is p.tokens p.content.rest)
      ∙ ap (λ (x : Move). let found : Option (StepKind × Configuration) = Some (step_by m' c x) in
      found) (cell_is (ahead p.tokens p.content.rest) ∙ ap move_of e)

  pops : (a : Action) → p.content.mode ≡ Popping
      → cell_at p.tables (top_state p.content.stack) error_token ≡ a
      → next (machine_over p.tables) (configuration_of p)
      ≡ Some (recover_by (configuration_of p) (move_of a))
  unfolding next
  pops a m e =
      let c = configuration_of p in
      let m' = machine_over p.tables in
      ap (next_in m' c) m
      ∙ ap (λ (x : Move). let found : Option (StepKind × Configuration) = Some (recover_by c x) in
      found) (cell_is error_token ∙ ap move_of e)

  -- what was before, from equal parts
  returned : (kind : StepKind)
      → one_back (change_at kind p.content)
      (content_before p.tables (change_at kind p.content) kind
      (one_step (content_after p.tables kind p.content)))
      ≡ p.content → place_before (change_at kind p.content) (place_after kind p) ≡ p
  returned kind e = ap (λ (c : Content). let q : Place =
      record { tables = p.tables; tokens = p.tokens; content = c } in q) e

  one_less : (n : ℕ) → (n + 1) - 1 ≡ n
  one_less n = omega arith

  -- ---- the eight kinds

  shifts : (to : ℕ) → p.content.mode ≡ Running
      → cell_at p.tables (top_state p.content.stack) (ahead p.tokens p.content.rest)
      ≡ actions.Shift to → Moves p (kinds.Shift (ahead p.tokens p.content.rest))
  shifts to m e =
      let c = p.content in
      let token = ahead p.tokens c.rest in
      let x = s.shift (map symbol_of c.stack) (top_state c.stack) token to (at_top p f) e in
      let inside = left_by_ahead p.tokens c.rest x.0 in
      let q = some_of (goto_at p.tables (top_state c.stack) token) x.1 in
      let leaf : Node = nodes.Leaf token (place_left c.rest) in
      let grown = grow p.tables p.tokens c.stack c.nodes c.children c.rest c.errors c.steps f token
      q.0 q.1 leaf refl in
      record {
        follows = runs (actions.Shift to) m e
            ∙ ap (λ (l : List (ℕ × ℕ)). let found : Option (StepKind × Configuration) =
            Some (shift_step (configuration_of p) l) in
            found) (left p.tokens p.content.rest inside)
            ∙ ap (λ (d : Configuration). let found : Option (StepKind × Configuration) =
            Some (kinds.Shift token, d) in found)
            (same _ _ (sym (shown-grown c.children c.nodes c.stack
            (lead p.tables (top_state c.stack) token) token leaf f.below)) refl refl refl refl);
        facts = advance p.tables p.tokens _ _ c.children c.rest c.errors (c.steps + 1) grown
            (without_first c.rest) (fits_taken p.tokens c.rest f.read inside);
        back = returned (kinds.Shift token)
            (same_content _ c (without_last-append c.stack _ 1 refl)
            (without_last-append c.nodes _ 1 refl) refl (taken_back p.tokens c.rest) refl refl refl
            (one_less c.steps));
      }

  reduces : (r : ℕ) → p.content.mode ≡ Running
      → cell_at p.tables (top_state p.content.stack) (ahead p.tokens p.content.rest)
      ≡ actions.Reduce r → Moves p (kinds.Reduce r)
  unfolding machine_over
  reduces r m e =
      let c = p.content in
      let w = width_of p.tables r in
      let left = (rule_of p.tables r).left in
      let x = s.reduce (map symbol_of c.stack) (top_state c.stack) (ahead p.tokens c.rest) r (at_top p f)
      e in
      let lengths = length-map symbol_of c.stack in
      let wide = x.1 in
      let fits : w ≤ length c.stack = omega (arith, wide, lengths) in
      let kept = without_last w c.stack in
      let below : without_last w (map symbol_of c.stack) ≡ map symbol_of kept =
      ap (λ (n : ℕ). take (n - w) (map symbol_of c.stack)) lengths
      ∙ take-map symbol_of (length c.stack - w) c.stack in
      let there : state_after p.tables (without_last w (map symbol_of c.stack) ++ left ∷ [])
      ≡ goto_at p.tables (top_state kept) left =
      ap (λ (l : List ℕ). state_after p.tables (l ++ left ∷ [])) below
      ∙ (walk-append p.tables (Some 0) (map symbol_of kept) (left ∷ [])
      ∙ ap (λ (q : Option ℕ). goto_from p.tables q left)
      (leads_walk p.tables 0 kept (leads-take p.tables 0 (length c.stack - w) c.stack
      f.states))) in
      let q = some_of (goto_at p.tables (top_state kept) left) (subst IsSome there x.2) in
      let wide_last = length-last_ones w c.stack fits in
      record {
        follows = runs (actions.Reduce r) m e
            ∙ ap (λ (d : Configuration). let found : Option (StepKind × Configuration) =
            Some (kinds.Reduce r, d) in found)
            (same _ _ (sym (shown-reduced c.children c.nodes c.stack
            (lead p.tables (top_state kept) left) left r w f.below f.fit fits)) refl refl refl
            refl);
        facts = fold p.tables p.tokens c.stack c.nodes c.children c.rest c.errors c.steps f left r w
            q.0 fits q.1;
        back = returned (kinds.Reduce r) (same_content _ c
            (ap (λ (l : List StackEntry). l ++ last_ones w (c.children ++ last_ones w c.stack))
            (without_last-append kept _ 1 refl)
            ∙ (ap (λ (l : List StackEntry). kept ++ l)
            (last_ones-append c.children (last_ones w c.stack) w (sym wide_last))
            ∙ both_ends w c.stack))
            (without_last-append c.nodes _ 1 refl)
            (without_last-append c.children (last_ones w c.stack) w (sym wide_last)) refl refl
            refl refl (one_less c.steps));
      }

  accepts : p.content.mode ≡ Running
      → cell_at p.tables (top_state p.content.stack) (ahead p.tokens p.content.rest)
      ≡ actions.Accept → Moves p kinds.Accept
  accepts m e =
      let c = p.content in
      record {
        follows = runs actions.Accept m e;
        facts = stay p.tables p.tokens c.stack c.nodes c.children c.rest c.errors c.steps f c.errors
            (omega arith);
        back = returned kinds.Accept (same_content _ c refl refl refl refl refl refl refl
            (one_less c.steps));
      }

  -- at an error, by the machine's own step there
  errs : p.content.mode ≡ Running
      → cell_at p.tables (top_state p.content.stack) (ahead p.tokens p.content.rest) ≡ actions.Error
      → (b : Bool) → (p.content.counter == 3) ≡ b
      → next (machine_over p.tables) (configuration_of p)
      ≡ Some (if b then discard_step (configuration_of p) (rest_of p.tokens p.content)
      else detect_step (configuration_of p))
  errs m e b h =
      runs actions.Error m e
      ∙ ap (λ (x : Bool). let found : Option (StepKind × Configuration) =
      Some (if x then discard_step (configuration_of p) (rest_of p.tokens p.content) else
      detect_step
      (configuration_of p)) in found) h

  detects : p.content.mode ≡ Running
      → cell_at p.tables (top_state p.content.stack) (ahead p.tokens p.content.rest) ≡ actions.Error
      → (p.content.counter == 3) ≡ false → Moves p kinds.Detect
  detects m e h =
      let c = p.content in
      record {
        follows = errs m e false h;
        facts = stay p.tables p.tokens c.stack c.nodes c.children c.rest c.errors c.steps f
            (if c.counter == 0 then c.errors + 1 else c.errors) (at_most (c.counter == 0));
        back = returned kinds.Detect (same_content _ c refl refl refl refl refl
            (unreported (c.counter == 0)) refl (one_less c.steps));
      }
    where
      at_most : (b : Bool) → (if b then p.content.errors + 1 else p.content.errors)
          ≤ p.content.errors + 1
      at_most true = omega arith
      at_most false = omega arith

      unreported : (b : Bool)
          → (if b then (if b then p.content.errors + 1 else p.content.errors)
          - 1 else (if b then p.content.errors + 1 else p.content.errors)) ≡ p.content.errors
      unreported true = omega arith
      unreported false = refl

  discards : p.content.mode ≡ Running
      → cell_at p.tables (top_state p.content.stack) (ahead p.tokens p.content.rest) ≡ actions.Error
      → (p.content.counter == 3) ≡ true → is_left p.tokens p.content.rest ≡ true
      → Moves p (kinds.Discard (ahead p.tokens p.content.rest))
  discards m e h inside =
      let c = p.content in
      record {
        follows = errs m e true h ∙ ap
            (λ (l : List (ℕ × ℕ)). let found : Option (StepKind × Configuration) =
            Some (discard_step (configuration_of p) l) in found)
            (left p.tokens p.content.rest inside);
        facts = advance p.tables p.tokens c.stack c.nodes c.children c.rest c.errors (c.steps + 1)
            (stay p.tables p.tokens c.stack c.nodes c.children c.rest c.errors c.steps f c.errors
            (omega arith)) (without_first c.rest) (fits_taken p.tokens c.rest f.read inside);
        back = returned (kinds.Discard (ahead p.tokens c.rest))
            (same_content _ c refl refl refl (taken_back p.tokens c.rest) refl refl refl
            (one_less c.steps));
      }

  fails : next (machine_over p.tables) (configuration_of p)
      ≡ Some (machine.fail_step (configuration_of p)) → Moves p kinds.Fail
  fails e =
      let c = p.content in
      record {
        follows = e;
        facts = stay p.tables p.tokens c.stack c.nodes c.children c.rest c.errors c.steps f c.errors
            (omega arith);
        back = returned kinds.Fail (same_content _ c refl refl refl refl refl refl refl
            (one_less c.steps));
      }

  error_shifts : (to : ℕ) → p.content.mode ≡ Popping
      → cell_at p.tables (top_state p.content.stack) error_token ≡ actions.Shift to
      → Moves p kinds.ShiftError
  error_shifts to m e =
      let c = p.content in
      let x = s.shift (map symbol_of c.stack) (top_state c.stack) error_token to (at_top p f) e in
      let q = some_of (goto_at p.tables (top_state c.stack) error_token) x.1 in
      let leaf : Node = nodes.ErrorLeaf in
      record {
        follows = pops (actions.Shift to) m e
            ∙ ap (λ (d : Configuration). let found : Option (StepKind × Configuration) =
            Some (kinds.ShiftError, d) in found)
            (same _ _ (sym (shown-grown c.children c.nodes c.stack
            (lead p.tables (top_state c.stack) error_token) error_token leaf f.below)) refl refl
            refl refl);
        facts = grow p.tables p.tokens c.stack c.nodes c.children c.rest c.errors c.steps f
            error_token q.0 q.1 leaf refl;
        back = returned kinds.ShiftError
            (same_content _ c (without_last-append c.stack _ 1 refl)
            (without_last-append c.nodes _ 1 refl) refl refl refl refl refl (one_less c.steps));
      }

  -- the shown stack, the top first
  shown_top : 0 < length p.content.stack
      → reverse (configuration_of p).stack
      ≡ entry_view (trees_over p.content.children p.content.nodes) (top_of p.content.stack)
      ∷ reverse (map (entry_view (trees_over p.content.children p.content.nodes))
      (without_last 1 p.content.stack))
  shown_top h =
      let c = p.content in
      let show = entry_view (trees_over c.children c.nodes) in
      ap (λ (l : List StackEntry). reverse (map show l)) (sym (top_back c.stack (entry 0 0 0) h))
      ∙ (ap reverse (map-append show (without_last 1 c.stack) (top_of c.stack ∷ []))
      ∙ reverse-append (map show (without_last 1 c.stack)) (show (top_of c.stack) ∷ []))

  drops : 0 < length p.content.stack
      → next (machine_over p.tables) (configuration_of p)
      ≡ Some (pop_step (configuration_of p) (reverse (configuration_of p).stack))
      → Moves p (kinds.Pop (top_of p.content.stack).symbol)
  drops h e =
      let c = p.content in
      let show = entry_view (trees_over c.children c.nodes) in
      record {
        follows = e
            ∙ ap (λ (l : List Entry). let found : Option (StepKind × Configuration) =
            Some (pop_step (configuration_of p) l) in found) (shown_top h)
            ∙ ap (λ (d : Configuration). let found : Option (StepKind × Configuration) =
            Some (kinds.Pop (top_of c.stack).symbol, d) in found)
            (same _ _ (reverse-reverse (map show (without_last 1 c.stack))) refl refl refl refl);
        facts = pop p.tables p.tokens c.stack c.nodes c.children c.rest c.errors c.steps f;
        back = returned (kinds.Pop (top_of c.stack).symbol)
            (same_content _ c (top_back c.stack (entry 0 0 0) h) refl refl refl refl refl refl
            (one_less c.steps));
      }

  -- a pop, or where the stack is empty the end
  pops_or_fails : next (machine_over p.tables) (configuration_of p)
      ≡ Some (pop_step (configuration_of p) (reverse (configuration_of p).stack)) → (b : Bool)
      → (length p.content.stack == 0) ≡ b
      → Moves p (if b then kinds.Fail else kinds.Pop (top_of p.content.stack).symbol)
  pops_or_fails e true h =
      let c = p.content in
      let n : c.stack ≡ [] = empty c.stack (eqb-true (length c.stack) 0 h) in
      fails (e ∙ ap (λ (l : List StackEntry). let found : Option (StepKind × Configuration) =
      Some (pop_step (configuration_of p)
      (reverse (map (entry_view (trees_over c.children c.nodes)) l))) in found) n)
    where
      empty : (l : List StackEntry) → length l ≡ 0 → l ≡ []
      empty [] i = refl
      empty (x ∷ l) i = absurd (omega (arith, i))
  pops_or_fails e false h = drops (positive (length p.content.stack) h) e
    where
      positive : (n : ℕ) → (n == 0) ≡ false → 0 < n
      positive zero i = let bad : true ≡ false = i in cc
      positive (suc n) i = omega arith

  discards_or_fails : p.content.mode ≡ Running
      → cell_at p.tables (top_state p.content.stack) (ahead p.tokens p.content.rest) ≡ actions.Error
      → (p.content.counter == 3) ≡ true → (b : Bool) → is_left p.tokens p.content.rest ≡ b
      → Moves p (if b then kinds.Discard (ahead p.tokens p.content.rest) else kinds.Fail)
  discards_or_fails m e h true i = discards m e h i
  discards_or_fails m e h false i =
      fails (errs m e true h
      ∙ ap (λ (l : List (ℕ × ℕ)). let found : Option (StepKind × Configuration) =
      Some (discard_step (configuration_of p) l) in found)
      (none_left p.tokens p.content.rest i))

  erring : p.content.mode ≡ Running
      → cell_at p.tables (top_state p.content.stack) (ahead p.tokens p.content.rest) ≡ actions.Error
      → (b : Bool) → (p.content.counter == 3) ≡ b
      → Moves p (if b then (if is_left p.tokens p.content.rest then kinds.Discard
      (ahead p.tokens p.content.rest) else kinds.Fail) else kinds.Detect)
  erring m e true h = discards_or_fails m e h (is_left p.tokens p.content.rest) refl
  erring m e false h = detects m e h

  running : p.content.mode ≡ Running → (a : Action)
      → cell_at p.tables (top_state p.content.stack) (ahead p.tokens p.content.rest) ≡ a
      → Moves p (kind_running a (ahead p.tokens p.content.rest) p.content.counter
      (is_left p.tokens p.content.rest))
  running m (actions.Shift to) e = shifts to m e
  running m (actions.Reduce r) e = reduces r m e
  running m actions.Accept e = accepts m e
  running m actions.Error e = erring m e (p.content.counter == 3) refl

  popping : p.content.mode ≡ Popping → (a : Action)
      → cell_at p.tables (top_state p.content.stack) error_token ≡ a
      → Moves p (kind_popping a p.content.stack)
  popping m (actions.Shift to) e = error_shifts to m e
  popping m (actions.Reduce r) e =
      pops_or_fails (pops (actions.Reduce r) m e) (length p.content.stack == 0) refl
  popping m actions.Accept e =
      pops_or_fails (pops actions.Accept m e) (length p.content.stack == 0) refl
  popping m actions.Error e =
      pops_or_fails (pops actions.Error m e) (length p.content.stack == 0) refl

  the_kind : {j k : StepKind} → Some j ≡ Some k → j ≡ k
  the_kind {j = j} e = ap (λ (o : Option StepKind). unwrap_or o j) e

  by_mode : (m : Mode) → p.content.mode ≡ m → (kind : StepKind)
      → kind_in p.tables p.tokens p.content m ≡ Some kind → Moves p kind
  by_mode Running h kind e =
      subst (Moves p) (the_kind e) (running h
      (cell_at p.tables (top_state p.content.stack) (ahead p.tokens p.content.rest)) refl)
  by_mode Popping h kind e =
      subst (Moves p) (the_kind e) (popping h
      (cell_at p.tables (top_state p.content.stack) error_token) refl)
  by_mode Accepted h kind e = let bad : true ≡ false = sym (ap is_some e) in cc
  by_mode Failed h kind e = let bad : true ≡ false = sym (ap is_some e) in cc

  -- the kind that is found by the state on top is that of the machine's step
  pub moves : (kind : StepKind) → kind_in p.tables p.tokens p.content p.content.mode ≡ Some kind
      → Moves p kind
  moves kind e = by_mode p.content.mode refl kind e

  stopped : (m : Mode) → p.content.mode ≡ m
      → next_in (machine_over p.tables) (configuration_of p) m ≡ None
      → next (machine_over p.tables) (configuration_of p) ≡ None
  unfolding next
  stopped m h e = ap (next_in (machine_over p.tables) (configuration_of p)) h ∙ e

  halts_in : (m : Mode) → p.content.mode ≡ m → kind_in p.tables p.tokens p.content m ≡ None
      → next (machine_over p.tables) (configuration_of p) ≡ None
  halts_in Running h e = let bad : true ≡ false = ap is_some e in cc
  halts_in Popping h e = let bad : true ≡ false = ap is_some e in cc
  halts_in Accepted h e = stopped Accepted h refl
  halts_in Failed h e = stopped Failed h refl

  pub halts : kind_in p.tables p.tokens p.content p.content.mode ≡ None
      → next (machine_over p.tables) (configuration_of p) ≡ None
  halts e = halts_in p.content.mode refl e

  -- ---- edits

  goes_on_by : (m : Mode) → p.content.mode ≡ m → (kind : StepKind)
      → kind_in p.tables p.tokens p.content m ≡ Some kind → (edit : Edit)
      → edited (machine_over p.tables) edit (configuration_of p)
      ≡ edited_rest (machine_over p.tables) edit (configuration_of p)
      (rest_of p.tokens p.content)
  unfolding edited
  goes_on_by Running h kind e edit =
      ap (edited_in (machine_over p.tables) edit (configuration_of p)) h
  goes_on_by Popping h kind e edit =
      ap (edited_in (machine_over p.tables) edit (configuration_of p)) h
  goes_on_by Accepted h kind e edit = let bad : true ≡ false = sym (ap is_some e) in cc
  goes_on_by Failed h kind e edit = let bad : true ≡ false = sym (ap is_some e) in cc

  -- where a step follows, an edit is one of the upcoming tokens
  goes_on : (kind : StepKind) → kind_in p.tables p.tokens p.content p.content.mode ≡ Some kind
      → (edit : Edit)
      → edited (machine_over p.tables) edit (configuration_of p)
      ≡ edited_rest (machine_over p.tables) edit (configuration_of p)
      (rest_of p.tokens p.content)
  goes_on kind e edit = goes_on_by p.content.mode refl kind e edit

  -- all but the upcoming tokens stays
  abbrev still : Facts p.tables p.tokens p.content.stack p.content.nodes p.content.children
      p.content.rest p.content.errors (p.content.steps + 1)
  still = stay p.tables p.tokens p.content.stack p.content.nodes p.content.children p.content.rest
      p.content.errors p.content.steps f p.content.errors (omega arith)

  -- an edit that is found has another kind
  edit_found : {o : Option StepKind} {kind : StepKind} (b : Bool)
      → (if b then o else None) ≡ Some kind → (b ≡ true) × (o ≡ Some kind)
  edit_found true e = (refl, e)
  edit_found false e = let bad : true ≡ false = sym (ap is_some e) in cc

  edit_lost : (j : StepKind) (b : Bool) → (if b then Some j else None) ≡ None → b ≡ false
  edit_lost j true e = let bad : true ≡ false = ap is_some e in cc
  edit_lost j false e = refl

  inserts : (kind : StepKind) → kind_in p.tables p.tokens p.content p.content.mode ≡ Some kind
      → (token : ℕ) → is_input (token_count p.tables.built.grammar) token ≡ true
      → Changes p (edits.Insert token) (kinds.Insert token)
  unfolding machine_over
  inserts kind e token h =
      let c = p.content in
      let shown = configuration_of p in
      record {
        follows = goes_on kind e (edits.Insert token)
            ∙ ap (λ (b : Bool). let found : Option (StepKind × Configuration) =
            if b then Some (
              kinds.Insert token,
              record shown { rest = (token, 0) ∷ rest_of p.tokens c },
            ) else None in found) h
            ∙ ap (λ (l : List (ℕ × ℕ)). let found : Option (StepKind × Configuration) =
            Some (kinds.Insert token, record shown { rest = l }) in
            found) (sym (inserted_first p.tokens token c.rest));
        facts = advance p.tables p.tokens c.stack c.nodes c.children c.rest c.errors (c.steps + 1)
            still (with_insertion token c.rest) (fits_inserted p.tokens token c.rest f.read);
        back = returned (kinds.Insert token)
            (same_content _ c refl refl refl (inserted_back token c.rest) refl refl refl
            (one_less c.steps));
      }

  takes_out : (kind : StepKind) → kind_in p.tables p.tokens p.content p.content.mode ≡ Some kind
      → is_left p.tokens p.content.rest ≡ true
      → Changes p edits.Drop (kinds.Drop (ahead p.tokens p.content.rest))
  takes_out kind e h =
      let c = p.content in
      record {
        follows = goes_on kind e edits.Drop
            ∙ ap (edited_rest (machine_over p.tables) edits.Drop (configuration_of p))
            (left p.tokens c.rest h);
        facts = advance p.tables p.tokens c.stack c.nodes c.children c.rest c.errors (c.steps + 1)
            still (without_first c.rest) (fits_taken p.tokens c.rest f.read h);
        back = returned (kinds.Drop (ahead p.tokens c.rest))
            (same_content _ c refl refl refl (taken_back p.tokens c.rest) refl refl refl
            (one_less c.steps));
      }

  -- the kind of an edit that is found is that of the machine's edit
  pub changes : (kind : StepKind) → kind_in p.tables p.tokens p.content p.content.mode ≡ Some kind
      → (edit : Edit) (found : StepKind) → edit_kind p.tables p.tokens p.content edit ≡ Some found
      → Changes p edit found
  changes kind e (edits.Insert token) found h =
      let x = edit_found (is_input (token_count p.tables.built.grammar) token) h in
      subst (Changes p (edits.Insert token)) (the_kind x.1) (inserts kind e token x.0)
  changes kind e edits.Drop found h =
      let x = edit_found (is_left p.tokens p.content.rest) h in
      subst (Changes p edits.Drop) (the_kind x.1) (takes_out kind e x.0)

  -- where none is found, the edit can't be made
  pub unchanged : (kind : StepKind) → kind_in p.tables p.tokens p.content p.content.mode ≡ Some kind
      → (edit : Edit) → edit_kind p.tables p.tokens p.content edit ≡ None
      → edited (machine_over p.tables) edit (configuration_of p) ≡ None
  unfolding machine_over
  unchanged kind e (edits.Insert token) h =
      goes_on kind e (edits.Insert token)
      ∙ ap (λ (b : Bool). let found : Option (StepKind × Configuration) =
      if b then Some (
        kinds.Insert token,
        record (configuration_of p) { rest = (token, 0) ∷ rest_of p.tokens p.content },
      ) else None
      in found) (edit_lost (kinds.Insert token)
      (is_input (token_count p.tables.built.grammar) token) h)
  unchanged kind e edits.Drop h =
      goes_on kind e edits.Drop ∙ ap
      (edited_rest (machine_over p.tables) edits.Drop (configuration_of p))
      (none_left p.tokens p.content.rest
      (edit_lost (kinds.Drop (ahead p.tokens p.content.rest)) (is_left p.tokens p.content.rest)
      h))

  unedited_by : (m : Mode) → p.content.mode ≡ m → (edit : Edit)
      → kind_in p.tables p.tokens p.content m ≡ None
      → edited (machine_over p.tables) edit (configuration_of p) ≡ None
  unfolding edited
  unedited_by Running h edit e = let bad : true ≡ false = ap is_some e in cc
  unedited_by Popping h edit e = let bad : true ≡ false = ap is_some e in cc
  unedited_by Accepted h edit e = ap (edited_in (machine_over p.tables) edit (configuration_of p)) h
  unedited_by Failed h edit e = ap (edited_in (machine_over p.tables) edit (configuration_of p)) h

  -- where no step follows, no edit can be made
  pub unmoving : (edit : Edit) → kind_in p.tables p.tokens p.content p.content.mode ≡ None
      → edited (machine_over p.tables) edit (configuration_of p) ≡ None
  unmoving edit e = unedited_by p.content.mode refl edit e
