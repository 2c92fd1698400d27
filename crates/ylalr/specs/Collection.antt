-- The collection of sets of items of a grammar, as the caller of `build` sees it (Aho, Sethi,
-- Ullman, section 4.7).
use Rattle.std.specs.Prelude.{ℕ, ◌≡◌, ◌<◌, ◌≤◌, ◌↔◌, Bool, List, [], ◌∷◌, length, slice_index_or}
use Rattle.std.specs.Prelude.{Option, MatchOption, IsTrue}
use Rattle.ysymbols.specs.Grammar.{ContextFree, GrammarValue}
use Rattle.ylalr.specs.declared.items.Item.{Item}
use Rattle.ylalr.specs.declared.gotos.Goto.{Goto}
use Rattle.ylalr.specs.Gotos.{goto_of, IsAscendingRow, IsFound, IsRowBelow}
use Rattle.ybitsets.specs.Limits.{most_states}
use Rattle.ylalr.specs.declared.fault.BuildFault.{BuildFault}
use Rattle.ylalr.specs.Items.{InCore, IsCore, Lookahead}
use Rattle.ylalr.specs.Sets.{IsAscending, InRange}

-- the whole grammar, the list of states, and the gotos of each state
pub record Collection : Type 0 where
  pub grammar : GrammarValue
  pub states : List (List Item)
  pub gotos : List (List Goto)

-- the bare grammar
abbrev pub bare_of : Collection → ContextFree
bare_of m = m.grammar.bare

-- the items of state q
abbrev pub state_of : Collection → ℕ → List Item
state_of m q = slice_index_or m.states q []

-- the goto from state q over x
abbrev pub goto_in : Collection → ℕ → ℕ → Option ℕ
goto_in m q x = goto_of m.gotos q x

-- The answer to a goto from state q over x: the state of each prefix followed by x, or none where
-- that core is empty.
abbrev pub IsGoto : Collection → ℕ → ℕ → Option ℕ → Type 0
IsGoto m q x to = (p : List ℕ) → IsCore (bare_of m) p (state_of m q) →
    MatchOption to ((i : Item) → InCore (bare_of m) (x ∷ p) i → ⊥) (λ n. (n < length m.states) ×
    IsCore (bare_of m) (x ∷ p) (state_of m n))

-- the gotos of state q
abbrev pub row_of : Collection → ℕ → List Goto
row_of m q = slice_index_or m.gotos q []

-- The list has each state, a core that is not empty, once; at most 16,384; and the gotos are right.
-- State 0 is that of the empty prefix, and each other has the next number when a goto first leads to
-- it. The gotos of each state are a list by symbol. So there is one collection of a grammar.
pub record HasStates (m : Collection) : Type 0 where
  pub first : IsCore (bare_of m) [] (state_of m 0)
  pub core : (q : ℕ) → q < length m.states → (p : List ℕ) × IsCore (bare_of m) p (state_of m q)
  pub filled : (q : ℕ) → q < length m.states → 0 < length (state_of m q)
  pub every : (p : List ℕ) (i : Item) → InCore (bare_of m) p i → (q : ℕ) × (q < length m.states) ×
      IsCore (bare_of m) p (state_of m q)
  pub once : (p : List ℕ) (q n : ℕ) → q < length m.states → n < length m.states →
      IsCore (bare_of m) p (state_of m q) → IsCore (bare_of m) p (state_of m n) → q ≡ n
  pub ordered : (q : ℕ) → q < length m.states → IsAscending (state_of m q)
  pub range : (q : ℕ) → q < length m.states → InRange (bare_of m) (state_of m q)
  pub few : length m.states ≤ most_states
  pub leads : (q x : ℕ) → q < length m.states → x < (bare_of m).symbols →
      IsGoto m q x (goto_in m q x)
  pub numbered : (n : ℕ) → 0 < n → n < length m.states → IsFound m.gotos n
  pub counted : length m.gotos ≡ length m.states
  pub sorted : (q : ℕ) → q < length m.states → IsAscendingRow (row_of m q)
  pub symbols : (q : ℕ) → q < length m.states → IsRowBelow (bare_of m).symbols (row_of m q)

-- The gotos and the lookaheads of a collection, as functions.
pub record Guide : Type 0 where
  pub to : ℕ → ℕ → Option ℕ
  pub looks : ℕ → Item → ℕ → Bool

-- The functions agree with the collection.
pub record IsGuide (m : Collection) (u : Guide) : Type 0 where
  pub to : (q x : ℕ) → q < length m.states → x < (bare_of m).symbols → IsGoto m q x (u.to q x)
  pub looks : (q : ℕ) (i : Item) (t : ℕ) → q < length m.states → t < (bare_of m).tokens →
      IsTrue (u.looks q i t) ↔ Lookahead (bare_of m) (state_of m q) i t

-- The grammar has more than 16,384 states: so many lists, each the core of a prefix, none empty, no
-- two of one prefix.
pub record TooMany (g : ContextFree) : Type 0 where
  pub states : List (List Item)
  pub many : most_states < length states
  pub core : (q : ℕ) → q < length states → (p : List ℕ) × IsCore g p (slice_index_or states q [])
  pub filled : (q : ℕ) → q < length states → 0 < length (slice_index_or states q [])
  pub once : (p : List ℕ) (q n : ℕ) → q < length states → n < length states →
      IsCore g p (slice_index_or states q []) → IsCore g p (slice_index_or states n []) → q ≡ n

-- If the fault says that there are too many states, then there are.
abbrev pub IsFault : ContextFree → BuildFault → Type 0
IsFault g e = e ≡ BuildFault.TooManySets → TooMany g
