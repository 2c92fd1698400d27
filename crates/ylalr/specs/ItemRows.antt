-- The rows of the items of numbered states: in each state the items of one left side with the dot
-- at 0 share one, and items with equal symbols before the dot may.
use Rattle.std.specs.Prelude.{ℕ, ◌≡◌, ◌<◌, ◌≤◌, ◌+◌, ◌⊎◌, List, [], length, slice_index_or}
use Rattle.std.specs.Prelude.{slice_set, take, Option, Some, None, MatchOption}
use Rattle.ysymbols.specs.Grammar.{ContextFree, left_of, body_of}
use Rattle.ylalr.specs.declared.items.Item.{Item}
use Rattle.ybitsets.specs.Rows.{BitRows, Holds, IsSized}
use Rattle.ybitsets.specs.Limits.{most_rows}
use Rattle.ylalr.specs.States.{StateLists, set_at}

-- the rows of the items of each state, and how many rows there are
pub record ItemRows : Type 0 where
  pub rows : List (List ℕ)
  pub total : ℕ

-- the rows of the items of state q
abbrev pub rows_at : ItemRows → ℕ → List ℕ
rows_at l q = slice_index_or l.rows q []

-- by these lists the item i has the row p
pub record At (items : List Item) (rows : List ℕ) (i : Item) (p : ℕ) : Type 0 where
  pub index : ℕ
  pub within : index < length items
  pub here : slice_index_or items index i ≡ i
  pub row : p ≡ slice_index_or rows index 0

-- the items of one left side with the dot at 0
abbrev pub Starts : ContextFree → ℕ → Item → Type 0
Starts g s i = (i.dot ≡ 0) × (left_of g i.rule ≡ s)

-- the items i and k are of one left side and have equal symbols before the dot, so whatever prefix
-- gives a lookahead to one gives it to the other
pub record Shares (g : ContextFree) (i k : Item) : Type 0 where
  pub left : left_of g i.rule ≡ left_of g k.rule
  pub dot : i.dot ≡ k.dot
  pub before : take i.dot (body_of g i.rule) ≡ take k.dot (body_of g k.rule)

-- the rows of the items of one state: two items have one row only where they may share it, and
-- those of one left side with the dot at 0 do
pub record AreRows (g : ContextFree) (items : List Item) (rows : List ℕ) : Type 0 where
  pub sized : length rows ≡ length items
  pub apart : (i k : Item) (p : ℕ) → At items rows i p → At items rows k p → Shares g i k
  pub shared : (i k : Item) (p t : ℕ) → At items rows i p → At items rows k t → i.dot ≡ 0 →
      Starts g (left_of g i.rule) k → p ≡ t

-- the rows from first on and below end are those of these items
pub record FillRows (g : ContextFree) (items : List Item) (rows : List ℕ) (first end : ℕ) : Type 0
  where
    pub are : AreRows g items rows
    pub bounds : (i : Item) (p : ℕ) → At items rows i p → (first ≤ p) × (p < end)
    pub rising : first ≤ end
    pub short : end ≤ first + length items

-- by left side the row of its items with the dot at 0
pub record AreLefts (g : ContextFree) (items : List Item) (rows : List ℕ)
    (lefts : List (Option ℕ)) : Type 0 where
  pub sized : length lefts ≡ g.symbols
  pub found : (s p : ℕ) → slice_index_or lefts s None ≡ Some p → (i : Item) × At items rows i p ×
      Starts g s i
  pub every : (i : Item) (p : ℕ) → At items rows i p → i.dot ≡ 0 → slice_index_or lefts
      (left_of g i.rule) None ≡ Some p

-- the row of bits has each symbol that has a row
pub record HasUsed (lefts : List (Option ℕ)) (m : BitRows) : Type 0 where
  pub sized : IsSized 1 (length lefts) m
  pub empty : (s : ℕ) → (Holds m 0 s → ⊥) → slice_index_or lefts s None ≡ None

-- the item i gets the row p: that of its left side, or a fresh one, which the left side of an item
-- with the dot at 0 then has
abbrev pub TakesRow : ContextFree → Item → ℕ → List (Option ℕ) → List (Option ℕ) → ℕ → Type 0
TakesRow g i fresh old new p =
    ((i.dot ≡ 0) × (slice_index_or old (left_of g i.rule) None ≡ Some p) × (new ≡ old))
    ⊎ ((p ≡ fresh) × (((0 < i.dot) × (new ≡ old)) ⊎
    ((i.dot ≡ 0) × (slice_index_or old (left_of g i.rule) None ≡ None) ×
    (new ≡ slice_set old (left_of g i.rule) (Some fresh)))))

-- the item i may share the row p, which one of these items has
pub record HasTwin (g : ContextFree) (items : List Item) (rows : List ℕ) (i : Item) (p : ℕ) : Type 0
  where
    pub twin : Item
    pub at : At items rows twin p
    pub shares : Shares g twin i

-- the item i, after these, gets the row p: that of one of them, or one by its left side
abbrev pub TakesOne : ContextFree → List Item → List ℕ → Item → ℕ → List (Option ℕ) →
    List (Option ℕ) → ℕ → Type 0
TakesOne g items rows i fresh old new p =
    TakesRow g i fresh old new p ⊎ ((0 < i.dot) × (new ≡ old) × HasTwin g items rows i p)

-- p is the row of the item i of state q
pub record IsRowOf (s : StateLists) (l : ItemRows) (q : ℕ) (i : Item) (p : ℕ) : Type 0 where
  pub state : q < length s.closures
  pub at : At (set_at s.closures q) (rows_at l q) i p

-- the rows of the items of all states
pub record AreItemRows (g : ContextFree) (s : StateLists) (l : ItemRows) : Type 0 where
  pub sized : length l.rows ≡ length s.closures
  pub rows : (q : ℕ) → q < length s.closures → AreRows g (set_at s.closures q) (rows_at l q)
  pub below : (q : ℕ) (i : Item) (p : ℕ) → IsRowOf s l q i p → p < l.total
  pub apart : (q n : ℕ) (i k : Item) (p : ℕ) → IsRowOf s l q i p → IsRowOf s l n k p → q ≡ n
  pub small : l.total ≤ most_rows

-- the row of the item i of state q, or none where the state doesn't have it
abbrev pub IsItemRow : StateLists → ItemRows → ℕ → Item → Option ℕ → Type 0
IsItemRow s l q i o = MatchOption o ((p : ℕ) → IsRowOf s l q i p → ⊥) (λ p. IsRowOf s l q i p)
