-- Valid items of prefixes, cores, merged lookaheads. A prefix is a list of symbols, the newest
-- first.
use Rattle.std.specs.Prelude.{ℕ, suc, ◌≡◌, ◌≢◌, ◌<◌, ◌≤◌, ◌↔◌, List, [], ◌∷◌, ◌++◌, length, drop}
use Rattle.std.specs.List.{Contains}
use Rattle.ylalr.specs.declared.items.Item.{Item}
use Rattle.ysymbols.specs.Grammar.{ContextFree, left_of, body_of, end_token}
use Rattle.ysymbols.specs.Forms.{First}

-- The item (rule r, dot d) is valid for a prefix with the lookahead a.
pub data Valid (g : ContextFree) : List ℕ → ℕ → ℕ → ℕ → Type 0 where
  start : Valid g [] 0 0 end_token
  closure : {p : List ℕ} {r d a s b : ℕ} {y : List ℕ} → Valid g p r d a →
      drop d (body_of g r) ≡ left_of g s ∷ y → s < length g.rules → First g (y ++ a ∷ []) b →
      Valid g p s 0 b
  move : {p : List ℕ} {r d a x : ℕ} {y : List ℕ} → Valid g p r d a → drop d (body_of g r) ≡ x ∷ y →
      x ≢ end_token → Valid g (x ∷ p) r (suc d) a

-- The item is in the core of the prefix.
abbrev pub InCore : ContextFree → List ℕ → Item → Type 0
InCore g p i = (a : ℕ) × Valid g p i.rule i.dot a

-- The list k has exactly the items of the core of the prefix p.
abbrev pub IsCore : ContextFree → List ℕ → List Item → Type 0
IsCore g p k = (i : Item) → Contains k i ↔ InCore g p i

-- The token a is a lookahead of the item i in the state k, for some prefix whose core is k.
pub record Lookahead (g : ContextFree) (k : List Item) (i : Item) (a : ℕ) : Type 0 where
  pub prefix : List ℕ
  pub core : IsCore g prefix k
  pub valid : Valid g prefix i.rule i.dot a

-- The first token from t on that is a lookahead of the item i in the state k is n; or there is
-- none, and n is the number of tokens.
pub record IsNextLook (g : ContextFree) (k : List Item) (i : Item) (t n : ℕ) : Type 0 where
  pub further : t ≤ n
  pub within : n ≤ g.tokens
  pub none : (a : ℕ) → t ≤ a → a < n → Lookahead g k i a → ⊥
  pub looks : n < g.tokens → Lookahead g k i n
