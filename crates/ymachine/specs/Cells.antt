-- What the cells of a machine have to do with the items of a grammar (Aho, Sethi and Ullman, 4.7:
-- viable prefixes and valid items).
use Rattle.std.specs.Prelude.{ℕ, ◌≡◌, ◌≢◌, ◌<◌, List, ◌∷◌, length, drop, reverse}
use Rattle.ysymbols.specs.Grammar.{ContextFree, rule_of, body_of, end_token}
use Rattle.ylalr.specs.Items.{Valid}
use Rattle.ymachine.specs.Machine.{Machine, Shift, Reduce, Accept}

-- An item valid for the prefix has its dot before the symbol x, which is not the end.
pub record Expects (g : ContextFree) (p : List ℕ) (x : ℕ) : Type 0 where
  pub rule : ℕ
  pub dot : ℕ
  pub ahead : ℕ
  pub rest : List ℕ
  pub valid : Valid g p rule dot ahead
  pub next : drop dot (body_of g rule) ≡ x ∷ rest
  pub inside : x ≢ end_token

-- The rule r, not the first, may end at the prefix p where the token a is ahead.
abbrev pub Ends : ContextFree → List ℕ → ℕ → ℕ → Type 0
Ends g p r a = (r ≢ 0) × Valid g p r (length (body_of g r)) a

-- The machine has the grammar's rules and tokens, and a cell says only what an item allows.
pub record IsSound (g : ContextFree) (m : Machine) : Type 0 where
  pub rule : (r : ℕ) → r < length g.rules → m.rule r ≡ rule_of g r
  pub tokens : m.tokens ≡ g.tokens
  pub shift : (stack : List ℕ) (t : ℕ) → m.cell stack t ≡ Shift → Expects g (reverse stack) t
  pub reduce : (stack : List ℕ) (t r : ℕ) → m.cell stack t ≡ Reduce r
      → (a : ℕ) × Ends g (reverse stack) r a
  pub accept : (stack : List ℕ) (t : ℕ) → m.cell stack t ≡ Accept
      → (t ≡ end_token) × (a : ℕ) × Valid g (reverse stack) 0 1 a
