-- The lookaheads on numbered states: one row for each item of each state (Aho, Sethi, Ullman,
-- section 4.7).
use Rattle.std.specs.Prelude.{ℕ, suc, Bool, ◌≡◌, ◌≢◌, ◌<◌, ◌≤◌, List, [], ◌∷◌, ◌++◌, length}
use Rattle.std.specs.Prelude.{drop, Option, Some}
use Rattle.ysymbols.specs.Grammar.{ContextFree, left_of, body_of, end_token}
use Rattle.ysymbols.specs.Forms.{First}
use Rattle.ysymbols.specs.WellFormed.{WellFormed}
use Rattle.ylalr.specs.declared.items.Item.{Item}
use Rattle.ylalr.specs.declared.behind.Behind.{Behind}
use Rattle.ylalr.specs.declared.gotos.Goto.{Goto}
use Rattle.ybitsets.specs.Limits.{most_states}
use Rattle.ybitsets.specs.Rows.{BitRows, Holds, IsSized}
use Rattle.ylalr.specs.Behind.{IsBehind}
use Rattle.ylalr.specs.First.{IsNullable, IsFirst}
use Rattle.ylalr.specs.Sets.{step_of}
use Rattle.ylalr.specs.ItemRows.{ItemRows, AreItemRows, IsRowOf}
use Rattle.ylalr.specs.States.{StateLists, AreStates, RowsAre, start_item}

-- what the rules of lookaheads give on numbered states
pub data Spread (g : ContextFree) (to : ℕ → ℕ → Option ℕ) : ℕ → ℕ → ℕ → ℕ → Type 0 where
  starts : Spread g to 0 0 0 end_token
  closes : {q r d a s b : ℕ} {y : List ℕ} → Spread g to q r d a → drop d (body_of g r) ≡ left_of g
      s ∷ y → s < length g.rules → First g (y ++ a ∷ []) b → Spread g to q s 0 b
  moves : {q n r d a x : ℕ} {y : List ℕ} → Spread g to q r d a → drop d (body_of g r) ≡ x ∷ y →
      x ≢ end_token → to q x ≡ Some n → Spread g to n r (suc d) a

-- the rows are sound: each lookahead is one that the rules give
abbrev pub SoundLooks : ContextFree → (ℕ → ℕ → Option ℕ) → StateLists → ItemRows → BitRows → Type 0
SoundLooks g to s l m = (q : ℕ) (i : Item) (p a : ℕ) → IsRowOf s l q i p → Holds m p a →
    Spread g to q i.rule i.dot a

-- the first item has the end token
abbrev pub StartLooks : StateLists → ItemRows → BitRows → Type 0
StartLooks s l m = (p : ℕ) → IsRowOf s l 0 start_item p → Holds m p end_token

-- the closure rule adds nothing by the rule n from the item i of state q, at place p
abbrev pub ClosesBy : ContextFree → StateLists → ItemRows → BitRows → ℕ → Item → ℕ → ℕ → Type 0
ClosesBy g s l m q i p n =
    (y : List ℕ) (a b t : ℕ) → Holds m p a → drop i.dot (body_of g i.rule) ≡ left_of g n ∷ y →
    First g (y ++ a ∷ []) b → IsRowOf s l q (record { rule = n; dot = 0 }) t → Holds m t b

-- the closure rule adds nothing by any rule from there
abbrev pub ClosesAt : ContextFree → StateLists → ItemRows → BitRows → ℕ → Item → ℕ → Type 0
ClosesAt g s l m q i p = (n : ℕ) → n < length g.rules → ClosesBy g s l m q i p n

-- the goto rule adds nothing from there
abbrev pub MovesAt : ContextFree → (ℕ → ℕ → Option ℕ) → StateLists → ItemRows → BitRows → ℕ → Item →
    ℕ → Type 0
MovesAt g to s l m q i p =
    (x n : ℕ) (y : List ℕ) (a t : ℕ) → Holds m p a → drop i.dot (body_of g i.rule) ≡ x ∷ y →
    x ≢ end_token → to q x ≡ Some n → IsRowOf s l n (step_of i) t → Holds m t a

-- neither rule adds anything from the item i of state q, at place p
pub record RowClosed (g : ContextFree) (to : ℕ → ℕ → Option ℕ) (s : StateLists) (l : ItemRows)
    (m : BitRows) (q : ℕ) (i : Item) (p : ℕ) : Type 0 where
  pub closes : ClosesAt g s l m q i p
  pub moves : MovesAt g to s l m q i p

-- neither rule adds anything from any item of state q
abbrev pub StateClosed : ContextFree → (ℕ → ℕ → Option ℕ) → StateLists → ItemRows → BitRows → ℕ →
    Type 0
StateClosed g to s l m q = (i : Item) (p : ℕ) → IsRowOf s l q i p → RowClosed g to s l m q i p

-- the rows are closed: they have the end token, and no rule adds anything
pub record ClosedLooks (g : ContextFree) (to : ℕ → ℕ → Option ℕ) (s : StateLists) (l : ItemRows)
    (m : BitRows) : Type 0 where
  pub start : StartLooks s l m
  pub states : (q : ℕ) → q < length s.closures → StateClosed g to s l m q

-- what holds of all that the lookaheads are made from
pub record Fit (g : ContextFree) (nullable : List Bool) (first : BitRows) (behind : Behind)
    (s : StateLists) (rows : List (List Goto)) (l : ItemRows) : Type 0 where
  pub well_formed : WellFormed g
  pub marks : length nullable ≡ g.symbols
  pub nullable_exact : IsNullable g nullable
  pub first_sized : IsSized g.symbols g.tokens first
  pub first_exact : IsFirst g first
  pub behind_exact : IsBehind g nullable first behind
  pub states : AreStates g s
  pub few : length s.closures ≤ most_states
  pub counted : length rows ≡ length s.closures
  pub gotos : RowsAre g s (length s.closures) rows
  pub item_rows : AreItemRows g s l
