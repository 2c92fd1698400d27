-- The tallies of all cells of a state, item by item.
use Rattle.std.specs.Prelude.{ℕ, ◌≡◌, ◌<◌, ◌≤◌, Bool, List, length, Option, None, if◌then◌else◌}
use Rattle.std.specs.Prelude.{slice_index_or, ◌&&◌}
use Rattle.ysymbols.specs.declared.precedence.Precedence.{Precedence}
use Rattle.ysymbols.specs.Grammar.{GrammarValue}
use Rattle.ylalr.specs.declared.items.Item.{Item}
use Rattle.ylalr.specs.Collection.{Collection, Guide, state_of}
use Rattle.ytables.specs.declared.cell.Tally.{Tally}
use Rattle.ytables.specs.Cell.{class_of}
use Rattle.ytables.specs.Tables.{level_of, class_at, is_ready, rules_by}
use Rattle.ytables.specs.Tally.{no_tally, tally_more, IsTally}

-- what a rule is compared with at the token t, where it can be shifted or not
abbrev pub against : GrammarValue → Bool → ℕ → Option Precedence
against v shifts t = if shifts then level_of v t else None

-- the tally of state q at the token t against this precedence: that of the rules whose complete
-- items look at it
abbrev pub IsTallyBy : Collection → Guide → ℕ → Option Precedence → ℕ → Tally → Type 0
IsTallyBy m u q level t y = IsTally (class_at m.grammar level)
    (rules_by (λ i. is_ready m.grammar.bare i && u.looks q i t) (state_of m q)) y

-- the tally of state q at the token t, where it can be shifted or not
abbrev pub IsTallyAt : Collection → Guide → ℕ → Bool → ℕ → Tally → Type 0
IsTallyAt m u q shifts t y = IsTallyBy m u q (against m.grammar shifts t) t y

-- no count of these tallies is above n
abbrev pub AreSmall : ℕ → List Tally → Type 0
AreSmall n ys = (t : ℕ) → t < length ys → ((slice_index_or ys t no_tally).rests
    ≤ (slice_index_or ys t no_tally).all) × ((slice_index_or ys t no_tally).kept
    ≤ (slice_index_or ys t no_tally).all) × ((slice_index_or ys t no_tally).all ≤ n)

-- the tally at the token t, with one more rule, that of the item, where the item looks at t
abbrev pub added : Collection → Guide → ℕ → Item → List (Option Precedence) → List Tally → ℕ → Tally
added m u q i levels old t =
    if u.looks q i t then tally_more (slice_index_or old t no_tally) i.rule
    (class_of (slice_index_or levels t None) (slice_index_or m.grammar.rule_precedences i.rule None))
    else slice_index_or old t no_tally

-- each token that the item at the index looks at has one more rule in its tally, that of the item
abbrev pub AddsAt : Collection → Guide → ℕ → ℕ → List (Option Precedence) → List Tally →
    List Tally → Type 0
AddsAt m u q index levels old new = (d : Item) (t : ℕ) → t < length old →
    slice_index_or new t no_tally ≡
    added m u q (slice_index_or (state_of m q) index d) levels old t
