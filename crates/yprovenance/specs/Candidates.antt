-- The candidates of a cell: its shift, and the rules whose complete items look at its token.
use Rattle.std.specs.Prelude.{ℕ, ◌<◌, ◌≤◌, ◌+◌, Bool, ◌&&◌, List, [], ◌∷◌, map, drop}
use Rattle.std.specs.Prelude.{Option, Some, None, if◌then◌else◌, slice_index_or, length}
use Rattle.ysymbols.specs.Grammar.{GrammarValue}
use Rattle.ylalr.specs.declared.items.Item.{Item}
use Rattle.ylalr.specs.Collection.{Collection, Guide, bare_of, state_of, goto_in}
use Rattle.ytables.specs.declared.class.Standing.{Standing}
use Rattle.ytables.specs.declared.cell.Action.{Action}
use Rattle.ytables.specs.Standing.{standing_of}
use Rattle.ytables.specs.Tables.{level_of, is_ready, shift_by}
use Rattle.yprovenance.specs.declared.candidates.Candidate.{Candidate}

-- how rule r stands to the token t of a grammar
abbrev pub standing_in : GrammarValue → ℕ → ℕ → Standing
standing_in v t r = standing_of (level_of v t) (slice_index_or v.rule_precedences r None)

-- the shift that is a candidate at the token t in state q, where one is
abbrev pub shift_in : Collection → ℕ → ℕ → Option Action
shift_in m q t = shift_by (bare_of m) (goto_in m q) (state_of m q) t

-- the item of state q is complete, and looks at the token t
abbrev pub is_candidate : Collection → Guide → ℕ → ℕ → Item → Bool
is_candidate m u q t i = is_ready (bare_of m) i && u.looks q i t

-- the candidate that the item at this index is
abbrev pub candidate_of : Collection → ℕ → ℕ → Item → Candidate
candidate_of m t index i = record {
  index = index;
  rule = i.rule;
  standing = standing_in m.grammar t i.rule;
}

-- the candidate at an index of state q, where this item there is one
abbrev pub candidate_by : Collection → Guide → ℕ → ℕ → ℕ → Item → Option Candidate
candidate_by m u q t index i =
    if is_candidate m u q t i then Some (candidate_of m t index i) else None

-- the candidates among these items, the first of which stands at this index
abbrev pub candidates_of : Collection → Guide → ℕ → ℕ → ℕ → List Item → List Candidate
candidates_of m u q t index [] = []
candidates_of m u q t index (i ∷ items) =
    if is_candidate m u q t i then candidate_of m t index i ∷ candidates_of m u q t (index + 1) items
    else candidates_of m u q t (index + 1) items

-- the candidates of state q at the token t from this index on, in the order of the items
abbrev pub candidates_in : Collection → Guide → ℕ → ℕ → ℕ → List Candidate
candidates_in m u q t index = candidates_of m u q t index (drop index (state_of m q))

-- the rules of candidates
abbrev pub rules_of : List Candidate → List ℕ
rules_of candidates = map (λ (c : Candidate). c.rule) candidates

-- the candidate stands in the state at the index or after it
pub record IsFurther (m : Collection) (q index : ℕ) (c : Candidate) : Type 0 where
  pub further : index ≤ c.index
  pub within : c.index < length (state_of m q)
