-- The symbols that a body can begin with where marked ones may be passed over, and links from them
-- to left sides.
use Rattle.std.specs.Prelude.{ℕ, Bool, List, ◌≡◌, ◌<◌, ◌⊎◌, ◌↔◌, length, All, take, slice_index}
use Rattle.ysymbols.specs.Grammar.{ContextFree, left_of, body_of}
use Rattle.ybitsets.specs.Links.{AreLinks, Link}
use Rattle.ybitsets.specs.Marks.{Has}
use Rattle.ybitsets.specs.Rows.{BitRows, Holds}

-- s stands in the form, and all symbols before it are marked
pub record InFront (n : List Bool) (x : List ℕ) (s : ℕ) : Type 0 where
  pub place : ℕ
  pub within : place < length x
  pub before : All (Has n) (take place x)
  pub here : slice_index x place ≡ s

-- links to t were added from the symbols in front of the form x, and no others
abbrev pub AddsFront : List Bool → List ℕ → ℕ → List (List ℕ) → List (List ℕ) → Type 0
AddsFront n x to l v = (s t : ℕ) → Link v s t ↔ (Link l s t ⊎ ((t ≡ to) × InFront n x s))

-- t is the left side of a rule below k in front of whose body s stands
pub record Leads (g : ContextFree) (n : List Bool) (k s t : ℕ) : Type 0 where
  pub rule : ℕ
  pub below : rule < k
  pub left : t ≡ left_of g rule
  pub front : InFront n (body_of g rule) s

-- the links are those to the left sides of the rules below k
pub record AreFrontLinks (g : ContextFree) (n : List Bool) (k : ℕ) (l : List (List ℕ)) : Type 0
  where
    pub links : AreLinks g.symbols l
    pub exact : (s t : ℕ) → Link l s t ↔ Leads g n k s t

-- each number below k stands in its row, and no other does
abbrev pub HasEach : (ℕ → ℕ) → ℕ → BitRows → Type 0
HasEach row k m = (s c : ℕ) → Holds m s c ↔ ((c < k) × (s ≡ row c))
