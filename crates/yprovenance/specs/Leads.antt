-- Which items of a state lead to a symbol: those with the symbol after their dot, and those from
-- which the closure comes to such an item (Aho, Sethi, Ullman, section 4.7).
use Rattle.std.specs.Prelude.{ℕ, ◌≡◌, List, ◌∷◌, drop}
use Rattle.std.specs.List.{Contains}
use Rattle.ysymbols.specs.Grammar.{left_of, body_of}
use Rattle.ylalr.specs.declared.items.Item.{Item}
use Rattle.ylalr.specs.Collection.{Collection, bare_of, state_of}
use Rattle.ybitsets.specs.Rows.{BitRows, Holds}
use Rattle.ybitsets.specs.Links.{AreLinks, Link}
use Rattle.yprovenance.specs.Reasons.{Opens}

-- the item k of state q leads to the symbol x
pub data Leads (m : Collection) (q x : ℕ) : Item → Type 0 where
  next : {k : Item} {y : List ℕ} → Contains (state_of m q) k →
      drop k.dot (body_of (bare_of m) k.rule) ≡ x ∷ y → Leads m q x k
  opens : {k : Item} {s : ℕ} {y : List ℕ} → Opens m q k s y →
      Leads m q x (record { rule = s; dot = 0 }) → Leads m q x k

-- the item k has its dot at the beginning of a body that begins with p, and its left side is t
pub record IsOpening (m : Collection) (k : Item) (p t : ℕ) : Type 0 where
  pub rest : List ℕ
  pub first : k.dot ≡ 0
  pub left : t ≡ left_of (bare_of m) k.rule
  pub next : drop k.dot (body_of (bare_of m) k.rule) ≡ p ∷ rest

-- there is a link from each symbol that begins the body of an item of state q, with its dot there,
-- to the left side, and no other
pub record AreOpenings (m : Collection) (q : ℕ) (l : List (List ℕ)) : Type 0 where
  pub links : AreLinks (bare_of m).symbols l
  pub every : (k : Item) (p t : ℕ) → Contains (state_of m q) k → IsOpening m k p t → Link l p t
  pub only : (p t : ℕ) → Link l p t → (k : Item) × Contains (state_of m q) k × IsOpening m k p t

-- the symbol after the dot of the item k is one of those that the rows have
pub record IsAmong (m : Collection) (n : BitRows) (k : Item) : Type 0 where
  pub symbol : ℕ
  pub rest : List ℕ
  pub next : drop k.dot (body_of (bare_of m) k.rule) ≡ symbol ∷ rest
  pub held : Holds n symbol 0
