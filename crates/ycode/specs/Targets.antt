-- What the arrays have of gotos.
use Rattle.std.specs.Prelude.{ℕ, ◌≡◌, ◌+◌, ◌-◌, ◌<◌, List, [], length, map, Option, Some, None}
use Rattle.std.specs.Prelude.{if◌then◌else◌, nat_eq, slice_index, slice_index_or}
use Rattle.std.specs.List.{range_with_len}
use Rattle.ylalr.specs.Collection.{goto_in}
use Rattle.ytables.specs.Tables.{TablesValue}
use Rattle.ycode.specs.declared.entry.Entry.{Entry}
use Rattle.ycode.specs.Cells.{states_of, tokens_of, symbols_of}
use Rattle.ycode.specs.Combs.{AreAtMost}
use Rattle.ycode.specs.Entries.{entry_at, entries_for, EntriesAtMost}
use Rattle.ycode.specs.Usual.{most_usual}

-- the entry of a goto beside the usual target
abbrev pub beside : ℕ → Option ℕ → Option ℕ
beside usual None = None
beside usual (Some n) = if nat_eq usual n then None else Some n

-- for each state its goto over nonterminal x; the first nonterminal is 0
abbrev pub gotos_over : TablesValue → ℕ → List (Option ℕ)
gotos_over v x = map (λ q. goto_in v.built q (tokens_of v + x)) (range_with_len 0 (states_of v))

-- the target of each nonterminal to which most of its gotos lead
abbrev pub usual_targets : TablesValue → List ℕ
usual_targets v = map (λ x. most_usual (gotos_over v x))
    (range_with_len 0 (symbols_of v - tokens_of v))

-- the entries of the gotos over nonterminal x beside this usual target, at the columns of their states
abbrev pub goto_entries : TablesValue → ℕ → ℕ → List Entry
goto_entries v usual x = entries_for
    (λ q. beside usual (goto_in v.built q (tokens_of v + x))) (states_of v)

-- the lists have for each nonterminal its usual target, and for those below n their other gotos
pub record AreTargets (v : TablesValue) (n : ℕ) (usual : List ℕ) (rows : List (List Entry)) :
    Type 0 where
  pub count : tokens_of v + length usual ≡ symbols_of v
  pub made : length rows ≡ n
  pub below : AreAtMost (states_of v) usual
  pub entries : (q x : ℕ) → q < states_of v → x < n → entry_at (slice_index_or rows x []) q ≡
      beside (slice_index usual x) (goto_in v.built q (tokens_of v + x))
  pub most : (x : ℕ) → x < n → EntriesAtMost (states_of v) (slice_index_or rows x [])
  pub lists : (x : ℕ) → x < n → slice_index_or rows x [] ≡
      goto_entries v (slice_index usual x) x
  pub targets : usual ≡ usual_targets v
