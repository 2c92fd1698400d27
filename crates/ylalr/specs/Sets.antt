-- Sets of items without lookaheads: closure and goto (Aho, Sethi, Ullman, section 4.7).
use Rattle.std.specs.Prelude.{ℕ, suc, ◌≡◌, ◌≢◌, ◌<◌, ◌≤◌, ◌⊎◌, ◌↔◌, List, ◌∷◌, length}
use Rattle.std.specs.Prelude.{slice_index_or, drop, All, AllPairs}
use Rattle.std.specs.List.{Contains}
use Rattle.ysymbols.specs.Grammar.{ContextFree, left_of, body_of, end_token, longest_body}
use Rattle.ylalr.specs.declared.items.Item.{Item}
use Rattle.ybitsets.specs.Rows.{BitRows, Holds, IsSized}

-- the items that a set of items leads to at one prefix
pub data Closure (g : ContextFree) (K : ℕ → ℕ → Type 0) : ℕ → ℕ → Type 0 where
  given : {r d : ℕ} → K r d → Closure g K r d
  opened : {r d s : ℕ} {y : List ℕ} → Closure g K r d → drop d (body_of g r) ≡ left_of g s ∷ y →
      s < length g.rules → Closure g K s 0

-- the item (r, d) comes from K by a move of the dot over x
pub data Kernel (g : ContextFree) (K : ℕ → ℕ → Type 0) (x : ℕ) : ℕ → ℕ → Type 0 where
  moved : {r d : ℕ} {y : List ℕ} → K r d → drop d (body_of g r) ≡ x ∷ y → x ≢ end_token →
      Kernel g K x r (suc d)

-- the first item of rule 0
pub data Begin : ℕ → ℕ → Type 0 where
  begin : Begin 0 0

-- the items of a list, as a set
abbrev pub ItemsOf : List Item → ℕ → ℕ → Type 0
ItemsOf k r d = Contains k (record { rule = r; dot = d })

-- v has exactly the items that the items of k lead to at one prefix
abbrev pub IsClosure : ContextFree → List Item → List Item → Type 0
IsClosure g k v = (i : Item) → Contains v i ↔ Closure g (ItemsOf k) i.rule i.dot

-- k has exactly the items of v with the dot moved over x
abbrev pub IsAdvanced : ContextFree → List Item → ℕ → List Item → Type 0
IsAdvanced g v x k = (i : Item) → Contains k i ↔ Kernel g (ItemsOf v) x i.rule i.dot

-- a rule of the grammar, the dot in its body or at the end
abbrev pub IsWithin : ContextFree → Item → Type 0
IsWithin g i = (i.rule < length g.rules) × (i.dot ≤ length (body_of g i.rule))

-- each of the items is one
abbrev pub InRange : ContextFree → List Item → Type 0
InRange g k = All (λ i. IsWithin g i) k

-- by rule and then by dot
abbrev pub Before : Item → Item → Type 0
Before i j = (i.rule < j.rule) ⊎ ((i.rule ≡ j.rule) × (i.dot < j.dot))

-- each item comes before those after it
abbrev pub IsAscending : List Item → Type 0
IsAscending k = AllPairs Before k

-- the symbol s after a dot leads to the first item of rule r
pub data FirstRule (g : ContextFree) : ℕ → ℕ → Type 0 where
  itself : {s r : ℕ} → r < length g.rules → s ≡ left_of g r → FirstRule g s r
  through : {s t r n : ℕ} {y : List ℕ} → n < length g.rules → s ≡ left_of g n →
      body_of g n ≡ t ∷ y → FirstRule g t r → FirstRule g s r

-- an item of K has its dot before a symbol that leads to rule r
pub record LeadsTo (g : ContextFree) (K : ℕ → ℕ → Type 0) (r : ℕ) : Type 0 where
  pub rule : ℕ
  pub dot : ℕ
  pub symbol : ℕ
  pub rest : List ℕ
  pub item : K rule dot
  pub next : drop dot (body_of g rule) ≡ symbol ∷ rest
  pub first : FirstRule g symbol r

-- so many rows, with a column for each rule
abbrev pub HasRules : ContextFree → ℕ → BitRows → Type 0
HasRules g n m = IsSized n (length g.rules) m

-- a row for each symbol, and it has the rules that the symbol leads to
pub record AreFirstRules (g : ContextFree) (m : BitRows) : Type 0 where
  pub sized : HasRules g g.symbols m
  pub exact : (s r : ℕ) → Holds m s r ↔ FirstRule g s r

-- the row has the rules that the items of k lead to
abbrev pub Wants : ContextFree → List Item → BitRows → Type 0
Wants g k m = (r : ℕ) → Holds m 0 r ↔ LeadsTo g (ItemsOf k) r

-- the dot of i moves over x
abbrev pub Moves : ContextFree → Item → ℕ → Type 0
Moves g i x = (y : List ℕ) × (drop i.dot (body_of g i.rule) ≡ x ∷ y) × (x ≢ end_token)

-- the item with its dot moved
abbrev pub step_of : Item → Item
step_of i = record { rule = i.rule; dot = suc i.dot }

-- s stands after the dot
abbrev pub IsNext : ContextFree → Item → ℕ → Type 0
IsNext g i s = (s < g.symbols) ×
    (drop i.dot (body_of g i.rule) ≡ s ∷ drop (suc i.dot) (body_of g i.rule)) ×
    (i.dot < length (body_of g i.rule))

-- the dot moves over s, and stays within the longest body
abbrev pub IsMove : ContextFree → Item → ℕ → Type 0
IsMove g i s = (s < g.symbols) × Moves g i s × (i.dot < length (body_of g i.rule)) ×
    (i.dot < longest_body)

-- the item is at place k
abbrev pub IsAt : List Item → Item → ℕ → Type 0
IsAt w i k = (k < length w) × (slice_index_or w k i ≡ i)

-- w has the items of k, and the first items of the rules in the row
abbrev pub IsMerged : BitRows → List Item → List Item → Type 0
IsMerged m k w = (i : Item) → Contains w i ↔ (Contains k i ⊎ ((i.dot ≡ 0) × Holds m 0 i.rule))

-- w has the items of v, and the first items of those rules in the row that are from n on and below
-- z
abbrev pub AddsFirst : BitRows → ℕ → ℕ → List Item → List Item → Type 0
AddsFirst m n z v w = (i : Item) → Contains w i ↔ (Contains v i ⊎
    ((i.dot ≡ 0) × (n ≤ i.rule) × (i.rule < z) × Holds m 0 i.rule))
