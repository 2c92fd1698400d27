-- One turn more: a row that is entered, or left.
use Rattle.std.proofs.Common.{ℕ, suc, Bool, true, ◌≡◌, ◌<◌, ◌⊎◌, List, [], ◌∷◌, ◌++◌, length, map}
use Rattle.std.proofs.Common.{sym, ◌∙◌, ap, subst, inl, inr, arith}
use Rattle.std.proofs.Math.ListN.{set, length-set}
use Rattle.std.specs.List.{All, Contains}
use Rattle.std.specs.Prelude.{sum_by}
use Rattle.std.proofs.lemmas.List.Elements.{All-nil, All-cons, All-append, All-map, Contains-push}
use Rattle.std.proofs.lemmas.List.Elements.{Contains-push_cases, Contains-append_left}
use Rattle.std.proofs.lemmas.List.Elements.{Contains-append_right}
use Rattle.ybitsets.specs.declared.order.Turn.{Turn}
use Rattle.ybitsets.specs.declared.order.Turn.TheVariants.{Enter, Leave}
use Rattle.ybitsets.specs.Marks.{Has}
use Rattle.ybitsets.specs.Order.{AreTurns, row_of}
use Rattle.ybitsets.proofs.MarkSteps.{marked_cases}

last_turn : (P : Turn → Type 0) (t : List Turn) (x : Turn) → All P (t ++ x ∷ []) → P x
last_turn P [] x a = a 0 x (omega arith)
last_turn P (y ∷ t) x a = last_turn P t x (λ k d h. a (suc k) d (omega arith))

first_turns : (P : Turn → Type 0) (t : List Turn) (x : Turn) → All P (t ++ x ∷ []) → All P t
first_turns P [] x a = All-nil P
first_turns P (y ∷ t) x a = All-cons P y t (a 0 y (omega arith))
    (first_turns P t x (λ k d h. a (suc k) d (omega arith)))

-- the row of the turn that is taken
pub turn_below : (m : List Bool) (v t : List Turn) (x : Turn) (o : List ℕ) → v ≡ t ++ x ∷ [] →
    AreTurns m v o → row_of x < length m
turn_below m v t x o e a = last_turn (λ y. row_of y < length m) t x
    (subst (All (λ y. row_of y < length m)) e a.turns)

enter_leave : (p q : ℕ) → Enter p ≡ Leave q → ⊥
enter_leave p q e = absurd (cc)

leave_same : (p q : ℕ) → Leave p ≡ Leave q → p ≡ q
leave_same p q e = ap row_of e

-- a turn to enter a row that was seen
pub turns_skip : (m : List Bool) (v t : List Turn) (p : ℕ) (o : List ℕ) → v ≡ t ++ Enter p ∷ [] →
    AreTurns m v o → AreTurns m t o
turns_skip m v t p o e a = record {
  turns = first_turns (λ y. row_of y < length m) t (Enter p)
      (subst (All (λ y. row_of y < length m)) e a.turns);
  order = a.order;
  left = λ q h. go q (a.left q h);
}
  where
    two : (q : ℕ) → Contains t (Leave q) ⊎ (Enter p ≡ Leave q) → Contains o q ⊎ Contains t (Leave q)
    two q (inl c) = inr c
    two q (inr c) = absurd (enter_leave p q c)

    go : (q : ℕ) → Contains o q ⊎ Contains v (Leave q) → Contains o q ⊎ Contains t (Leave q)
    go q (inl c) = inl c
    go q (inr c) = two q (Contains-push_cases t (Enter p) (Leave q)
        (subst (λ xs. Contains xs (Leave q)) e c))

-- a row is entered
pub turns_enter : (m n : List Bool) (t w : List Turn) (p : ℕ) (to o : List ℕ) → p < length m →
    All (λ k. k < length m) to → n ≡ set m p true → w ≡ t ++ Leave p ∷ map Enter to →
    AreTurns m t o → AreTurns n w o
turns_enter m n t w p to o h l en ew a = record {
  turns = subst (λ k. All (λ y. row_of y < k) w) (sym sized) (subst (All (λ y. row_of y < length m))
      (sym ew) (All-append (λ y. row_of y < length m) t (Leave p ∷ map Enter to) a.turns
      (All-cons (λ y. row_of y < length m) (Leave p) (map Enter to) h
      (All-map (λ y. row_of y < length m) Enter to l))));
  order = subst (λ k. All (λ q. q < k) o) (sym sized) a.order;
  left = λ q k. go q (marked_cases m p q (subst (λ (x : List Bool). Has x q) en k));
}
  where
    sized : length n ≡ length m
    sized = ap (λ (x : List Bool). length x) en ∙ length-set m p true

    two : (q : ℕ) → Contains o q ⊎ Contains t (Leave q) → Contains o q ⊎ Contains w (Leave q)
    two q (inl c) = inl c
    two q (inr c) = inr (subst (λ xs. Contains xs (Leave q)) (sym ew)
        (Contains-append_left t (Leave p ∷ map Enter to) (Leave q) c))

    go : (q : ℕ) → (q ≡ p) ⊎ Has m q → Contains o q ⊎ Contains w (Leave q)
    go q (inl e) = inr (subst (λ xs. Contains xs (Leave q)) (sym ew)
        (Contains-append_right t (Leave p ∷ map Enter to) (Leave q)
        (0, omega arith, ap Leave (sym e))))
    go q (inr k) = two q (a.left q k)

-- a row is left
pub turns_leave : (m : List Bool) (v t : List Turn) (p : ℕ) (o u : List ℕ) → v ≡ t ++ Leave p ∷ [] →
    u ≡ o ++ p ∷ [] → AreTurns m v o → AreTurns m t u
turns_leave m v t p o u e eu a = record {
  turns = first_turns (λ y. row_of y < length m) t (Leave p)
      (subst (All (λ y. row_of y < length m)) e a.turns);
  order = subst (All (λ q. q < length m)) (sym eu)
      (All-append (λ q. q < length m) o (p ∷ []) a.order (All-cons (λ q. q < length m) p []
      (turn_below m v t (Leave p) o e a) (All-nil (λ q. q < length m))));
  left = λ q h. go q (a.left q h);
}
  where
    two : (q : ℕ) → Contains t (Leave q) ⊎ (Leave p ≡ Leave q) → Contains u q ⊎ Contains t (Leave q)
    two q (inl c) = inr c
    two q (inr c) = inl (subst (λ xs. Contains xs q) (sym eu) (subst (λ k. Contains (o ++ p ∷ []) k)
        (leave_same p q c) (Contains-push o p)))

    go : (q : ℕ) → Contains o q ⊎ Contains v (Leave q) → Contains u q ⊎ Contains t (Leave q)
    go q (inl c) = inl (subst (λ xs. Contains xs q) (sym eu) (Contains-append_left o (p ∷ []) q c))
    go q (inr c) = two q (Contains-push_cases t (Leave p) (Leave q)
        (subst (λ xs. Contains xs (Leave q)) e c))

-- no turn is left
pub turns_over : (m : List Bool) (t : List Turn) (o : List ℕ) (p : ℕ) → t ≡ [] → AreTurns m t o →
    Has m p → Contains o p
turns_over m t o p e a h = go (a.left p h)
  where
    go : Contains o p ⊎ Contains t (Leave p) → Contains o p
    go (inl c) = c
    go (inr c) = absurd (let z = subst (λ xs. Contains xs (Leave p)) e c in let k = z.1 in
        omega arith)

-- how many links there are
abbrev pub size_of : List (List ℕ) → ℕ
size_of l = sum_by (λ xs. length xs) l
