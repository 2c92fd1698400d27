-- A grammar has one machine: its valid items and their merged lookaheads fix every cell.
use Rattle.std.proofs.Common.{ℕ, zero, suc, ◌≡◌, ◌<◌, ◌≤◌, ◌+◌, ◌↔◌, ◌⊎◌, inl, inr, Bool, true}
use Rattle.std.proofs.Common.{false, List, [], ◌∷◌, map, refl, sym, ◌∙◌, ap, arith, Option, Some}
use Rattle.std.proofs.Common.{None, if◌then◌else◌}
use Rattle.std.specs.Prelude.{IsTrue}
use Rattle.std.specs.List.{filter, list_any, range_with_len}
use Rattle.ysymbols.specs.Grammar.{GrammarValue, IsToken}
use Rattle.ylalr.specs.declared.items.Item.{Item}
use Rattle.ytables.specs.declared.cell.Action.{Action}
use Rattle.ytables.specs.Cell.{cell_of, common, is_filled, by_default}
use Rattle.ytables.specs.Tables.{has_before, ready_in, shift_by, class_in, cell_by, row_by}
use Rattle.ytables.specs.Tables.{default_by, tokens_of}
use Rattle.ymachine.specs.Machine.{Machine}
use Rattle.ymachine.specs.MachineOver.{move_of}
use Rattle.ymachine.specs.Headline.{IsStateOf, IsDead, move_by, IsMachineOf}
use Rattle.std.proofs.lemmas.Bool.{cases_lt}

same_bool : (a b : Bool) (P : Type 0) → IsTrue a ↔ P → IsTrue b ↔ P → a ≡ b
same_bool true true P f h = refl
same_bool true false P f h = sym (h.1 (f.0 refl))
same_bool false true P f h = f.1 (h.0 refl)
same_bool false false P f h = refl

same_filter : (p q : Item → Bool) → ((i : Item) → p i ≡ q i) → (xs : List Item)
    → filter p xs ≡ filter q xs
same_filter p q e [] = refl
same_filter p q e (x ∷ xs) =
    ap (λ b. if b then x ∷ filter p xs else filter p xs) (e x)
    ∙ ap (λ l. if q x then x ∷ l else l) (same_filter p q e xs)

-- maps that agree on the numbers listed
same_range : (f h : ℕ → Action) (n from : ℕ) → ((t : ℕ) → t < from + n → f t ≡ h t)
    → map f (range_with_len from n) ≡ map h (range_with_len from n)
same_range f h zero from e = refl
same_range f h (suc n) from e =
    ap (λ z. z ∷ map f (range_with_len (from + 1) n)) (e from (omega arith))
    ∙ ap (λ z. h from ∷ z) (same_range f h n (from + 1) (λ t l. e t (omega (arith, l))))

module _ (v : GrammarValue) (k : List Item) (one two : Item → ℕ → Bool) (same : (i : Item) (a : ℕ)
    → IsToken v.bare a → one i a ≡ two i a) where
  abbrev to : ℕ → Option ℕ
  to symbol = Some 0

  cells : (t : ℕ) → IsToken v.bare t → (cell_by v to one k t).action ≡ (cell_by v to two k t).action
  cells t l =
      ap (λ (items : List Item). (cell_of (class_in v t) (shift_by v.bare to k t)
      (map (λ (i : Item). i.rule) items)).action)
      (same_filter (λ i. one i t) (λ i. two i t) (λ i. same i t l) (ready_in v.bare k))

  rows : row_by v to one k ≡ row_by v to two k
  rows = same_range (λ t. (cell_by v to one k t).action) (λ t. (cell_by v to two k t).action)
      v.bare.tokens 0 (λ t l. cells t (omega (arith, l)))

  -- tests that agree give one move
  moves : (t : ℕ) → IsToken v.bare t → move_by v one k t ≡ move_by v two k t
  moves t l =
      ap (λ (row : List Action). move_of
      (by_default (if list_any (has_before v.bare k) (tokens_of v) then None else common
      (filter is_filled row)) (cell_by v to one k t).action)) rows
      ∙ ap (λ (a : Action). move_of (by_default (default_by v to two k) a)) (cells t l)

-- two machines of one grammar have the same cells
pub one_machine : (v : GrammarValue) (m n : Machine) → IsMachineOf v m → IsMachineOf v n
    → (stack : List ℕ) (t : ℕ) → m.cell stack t ≡ n.cell stack t
one_machine v m n f h stack t = by (f.state stack) (cases_lt t v.bare.tokens)
  where
    by : IsDead v.bare stack ⊎ ((k : List Item) × IsStateOf v.bare stack k)
        → (t < v.bare.tokens) ⊎ (v.bare.tokens ≤ t) → m.cell stack t ≡ n.cell stack t
    by (inl d) side = f.dead stack t d ∙ sym (h.dead stack t d)
    by (inr k) (inr l) = f.beyond stack t l ∙ sym (h.beyond stack t l)
    by (inr k) (inl l) =
        let a = f.cell stack k.0 t k.1 l in
        let b = h.cell stack k.0 t k.1 l in
        let same : (i : Item) (c : ℕ) → IsToken v.bare c → a.0 i c ≡ b.0 i c =
        λ i c z. same_bool (a.0 i c) (b.0 i c) _ (a.1 i c z) (b.1 i c z) in
        a.2 ∙ (moves v k.0 a.0 b.0 same t l ∙ sym b.2)
