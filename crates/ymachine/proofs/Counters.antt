-- The recovery counter of a history is at most 3.
use Rattle.std.proofs.Common.{inl, inr, ℕ, ◌≡◌, ◌⊎◌, ◌<◌, ◌≤◌, ◌==◌, Bool, true, false}
use Rattle.std.proofs.Common.{if◌then◌else◌, List, [], ◌∷◌, reverse, get_or, refl, sym, subst}
use Rattle.std.proofs.Common.{arith, Option, Some, None}
use Rattle.std.specs.List.{All}
use Rattle.std.proofs.lemmas.List.Elements.{All-cons, All-nil}
use Rattle.std.proofs.lemmas.Bool.{cases_lt}
use Rattle.std.proofs.lemmas.Grind.{not_there}
use Rattle.ysymbols.specs.Grammar.{error_token}
use Rattle.ytokens.specs.Symbols.{is_input}
use Rattle.ymachine.specs.declared.machine.Mode.{Mode}
use Rattle.ymachine.specs.declared.machine.Mode.TheVariants.{Running, Popping, Accepted, Failed}
use Rattle.ymachine.specs.declared.machine.Edit.{Edit}
use Rattle.ymachine.specs.declared.machine.Edit.TheVariants as edits
use Rattle.ymachine.specs.declared.machine.StepKind.{StepKind}
use Rattle.ymachine.specs.declared.machine.StepKind.TheVariants as kinds
use Rattle.ymachine.specs.Machine.{Machine, Move, Shift, Reduce, Accept, Error, Entry}
use Rattle.ymachine.specs.Machine.{Configuration}
use Rattle.ymachine.specs.Machine.{symbols, lookahead, shift_step, discard_step, detect_step}
use Rattle.ymachine.specs.Machine.{step_by, pop_step, recover_by, next, next_in, edited, edited_in}
use Rattle.ymachine.specs.Machine.{edited_rest}
use Rattle.ymachine.specs.Past.{Comes, LeadsTo}
use Rattle.ymachine.specs.History.{History, IsHistory, CountsToThree, first_configuration}

-- the counter of what a step leaves
abbrev counts : Option (StepKind × Configuration) → Type 0
counts None = Unit {0}
counts (Some step) = step.1.counter ≤ 3

abbrev step_counts : StepKind × Configuration → Type 0
step_counts step = step.1.counter ≤ 3

module _ (m : Machine) (c : Configuration) (l : c.counter ≤ 3) where
  by_shift : (rest : List (ℕ × ℕ)) → step_counts (shift_step c rest)
  by_shift [] = l
  by_shift (t ∷ rest) = omega (arith, l)

  by_discard : (rest : List (ℕ × ℕ)) → step_counts (discard_step c rest)
  by_discard [] = l
  by_discard (t ∷ rest) = l

  by_error : (b : Bool) → step_counts (if b then discard_step c c.rest else detect_step c)
  by_error true = by_discard c.rest
  by_error false = omega arith

  by_move : (a : Move) → step_counts (step_by m c a)
  by_move Shift = by_shift c.rest
  by_move (Reduce r) = l
  by_move Accept = l
  by_move Error = by_error (c.counter == 3)

  by_pop : (xs : List Entry) → step_counts (pop_step c xs)
  by_pop [] = l
  by_pop (top ∷ below) = l

  by_recovery : (a : Move) → step_counts (recover_by c a)
  by_recovery Shift = l
  by_recovery (Reduce r) = by_pop (reverse c.stack)
  by_recovery Accept = by_pop (reverse c.stack)
  by_recovery Error = by_pop (reverse c.stack)

  by_mode : (d : Mode) → counts (next_in m c d)
  by_mode Running = by_move (m.cell (symbols c.stack) (lookahead c.rest))
  by_mode Popping = by_recovery (m.cell (symbols c.stack) error_token)
  by_mode Accepted = tt
  by_mode Failed = tt

  by_insert : (token : ℕ) (b : Bool) → counts (if b then Some (
    kinds.Insert token,
    record c { rest = (token, 0) ∷ c.rest },
  ) else None)
  by_insert token true = l
  by_insert token false = tt

  by_edit : (edit : Edit) (rest : List (ℕ × ℕ)) → c.rest ≡ rest → counts (edited_rest m edit c rest)
  by_edit (edits.Insert token) rest e =
      subst (λ (r : List (ℕ × ℕ)). counts (edited_rest m (edits.Insert token) c r)) e
      (by_insert token (is_input m.tokens token))
  by_edit edits.Drop [] e = tt
  by_edit edits.Drop (t ∷ rest) e = l

  by_edit_mode : (edit : Edit) (d : Mode) → counts (edited_in m edit c d)
  by_edit_mode edit Running = by_edit edit c.rest refl
  by_edit_mode edit Popping = by_edit edit c.rest refl
  by_edit_mode edit Accepted = tt
  by_edit_mode edit Failed = tt

  by_step : counts (next m c)
  unfolding next
  by_step = by_mode c.mode

  by_change : (edit : Edit) → counts (edited m edit c)
  unfolding edited
  by_change edit = by_edit_mode edit c.mode

  kept : (kind : StepKind) (n : Configuration) → Comes (next m) (edited m) c kind n → n.counter ≤ 3
  kept kind n (inl s) = subst counts s by_step
  kept kind n (inr e) = subst counts e.1 (by_change e.0)

module _ (m : Machine) (first : Configuration) (l : first.counter ≤ 3) where
  now_counts : (now : Configuration) (earlier : List (StepKind × Configuration))
      → LeadsTo (next m) (edited m) first now earlier → now.counter ≤ 3
  now_counts now [] h = subst (λ (c : Configuration). c.counter ≤ 3) (sym h) l
  now_counts now (step ∷ earlier) h =
      kept m step.1 (now_counts step.1 earlier h.1) step.0 now h.0

  all_count : (now : Configuration) (earlier : List (StepKind × Configuration))
      → LeadsTo (next m) (edited m) first now earlier → All step_counts earlier
  all_count now [] h = All-nil step_counts
  all_count now (step ∷ earlier) h =
      All-cons step_counts step earlier (now_counts step.1 earlier h.1)
      (all_count step.1 earlier h.1)

pub counted : (m : Machine) (tokens : List ℕ) (h : History) → IsHistory m tokens h
    → CountsToThree h
counted m tokens h p = record {
  now = now_counts m (first_configuration tokens) (omega arith) h.now h.earlier p;
  earlier = all_count m (first_configuration tokens) (omega arith) h.now h.earlier p;
}

at_most : {P : Type 0} (n : ℕ) → ∥ P ∥₁ → (P → n ≤ 3) → n ≤ 3
at_most n t f = by (cases_lt 3 n)
  where
    by : (3 < n) ⊎ (n ≤ 3) → n ≤ 3
    by (inl over) = absurd (not_there t (λ p. let l = f p in omega (arith, l, over)))
    by (inr l) = l

-- of a history that is only known to be one
pub counted_merely : (m : Machine) (tokens : List ℕ) (h : History) → ∥ IsHistory m tokens h ∥₁
    → CountsToThree h
counted_merely m tokens h t = record {
  now = at_most h.now.counter t (λ p. (counted m tokens h p).now);
  earlier = λ k d l. at_most (get_or h.earlier k d).1.counter t
      (λ p. (counted m tokens h p).earlier k d l);
}
