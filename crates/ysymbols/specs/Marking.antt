-- Marking the symbols that can be reached, and those that derive a list of tokens, by worklists.
use Rattle.std.specs.Prelude.{ℕ, ◌≡◌, ◌<◌, ◌≤◌, ◌+◌, ◌⊎◌, Bool, true, false, cond, List, [], ◌∷◌}
use Rattle.std.specs.Prelude.{length, map, slice_index, slice_index_or, EachIndex, Vec}
use Rattle.std.specs.Global.{Global}
use Rattle.std.specs.List.{Contains}
use Rattle.ysymbols.specs.Grammar.{ContextFree, Production, RuleValue, blank, production_of}
use Rattle.ysymbols.specs.Forms.{Productive, IsReachable}

-- the bare grammar of rules by number
abbrev pub numbered_grammar : ℕ → ℕ → List RuleValue → ContextFree
numbered_grammar tokens symbols rules = record {
  tokens = tokens;
  symbols = symbols;
  rules = map production_of rules;
}

-- rule r by number, bare
abbrev pub rule_at : List RuleValue → ℕ → Production
rule_at rules r = slice_index_or (map production_of rules) r blank

-- each symbol of a rule is below the bound
pub record RuleIn (symbols : ℕ) (p : Production) : Type 0 where
  pub left : p.left < symbols
  pub body : EachIndex p.body (λ k. slice_index p.body k < symbols)

-- each symbol of every rule is below the bound
abbrev pub AreIn : ℕ → List RuleValue → Type 0
AreIn symbols rules = (r : ℕ) → r < length rules → RuleIn symbols (rule_at rules r)

abbrev pub IsMarked : List Bool → ℕ → Type 0
IsMarked m s = slice_index_or m s false ≡ true

abbrev pub IsUnmarked : List Bool → ℕ → Type 0
IsUnmarked m s = slice_index_or m s false ≡ false

-- how many are not marked
abbrev pub unmarked_count : List Bool → ℕ
unmarked_count [] = 0
unmarked_count (b ∷ m) = cond b 0 1 + unmarked_count m

-- marks of symbols; those marked since the start, in the order in which they were; and how many of
-- these are taken
pub record WorklistValue : Type 0 where
  pub marks : List Bool
  pub order : List ℕ
  pub taken : ℕ

-- s stands in the order, and is not taken yet
pub record IsWaiting (w : WorklistValue) (s : ℕ) : Type 0 where
  pub at : ℕ
  pub later : w.taken ≤ at
  pub within : at < length w.order
  pub there : slice_index w.order at ≡ s

-- the symbols of the order are marked, each once
pub record IsWorklist (w : WorklistValue) : Type 0 where
  pub marked : (k : ℕ) → k < length w.order → IsMarked w.marks (slice_index w.order k)
  pub few : length w.order + unmarked_count w.marks ≤ length w.marks
  pub within : w.taken ≤ length w.order

-- what is marked stays so
pub record Keeps (m m2 : List Bool) : Type 0 where
  pub sized : length m2 ≡ length m
  pub kept : (s : ℕ) → IsMarked m s → IsMarked m2 s

-- more are marked, and each that is new waits
pub record Grows (w v : WorklistValue) : Type 0 where
  pub keeps : Keeps w.marks v.marks
  pub taken : v.taken ≡ w.taken
  pub ahead : (s : ℕ) → IsWaiting w s → IsWaiting v s
  pub waits : (s : ℕ) → IsMarked v.marks s → IsMarked w.marks s ⊎ IsWaiting v s

-- a symbol that waits is taken, and each other one waits on
pub record Takes (w : WorklistValue) (s : ℕ) (v : WorklistValue) : Type 0 where
  pub marks : v.marks ≡ w.marks
  pub taken : v.taken ≡ w.taken + 1
  pub few : v.taken ≤ length v.marks
  pub marked : IsMarked w.marks s
  pub others : (t : ℕ) → IsWaiting w t → (t ≡ s) ⊎ IsWaiting v t

-- what stands before the dot of a body is marked
pub record DotFits (body : List ℕ) (m : List Bool) (dot : ℕ) : Type 0 where
  pub within : dot ≤ length body
  pub before : (k : ℕ) → k < dot → IsMarked m (slice_index body k)

-- the dot of every rule fits
pub record AreDots (rules : List RuleValue) (dots : List ℕ) (m : List Bool) : Type 0 where
  pub sized : length dots ≡ length rules
  pub fits : (r : ℕ) → r < length rules → DotFits (rule_at rules r).body m (slice_index dots r)

-- the left side of a rule, as a list of one symbol
abbrev pub left_side : Production → List ℕ
left_side p = p.left ∷ []

-- the right side of a rule: its body
abbrev pub right_side : Production → List ℕ
right_side p = p.body

-- a premise is not marked, or is still to be taken, or all conclusions are marked
pub data IsClosed (premises conclusions : List ℕ) (w : WorklistValue) : Type 0 where
  stuck : (k : ℕ) → k < length premises → IsUnmarked w.marks (slice_index premises k) →
      IsClosed premises conclusions w
  ahead : (k : ℕ) → k < length premises → IsWaiting w (slice_index premises k) →
      IsClosed premises conclusions w
  marked : EachIndex conclusions (λ k. IsMarked w.marks (slice_index conclusions k)) →
      IsClosed premises conclusions w

-- once the body of a rule is marked and taken, its left side is marked
abbrev pub IsSettled : Production → WorklistValue → Type 0
IsSettled p = IsClosed (right_side p) (left_side p)

-- once the left side of a rule is marked and taken, its body is marked
abbrev pub IsSpread : Production → WorklistValue → Type 0
IsSpread p = IsClosed (left_side p) (right_side p)

-- only symbols that derive a list of tokens are marked
abbrev pub OnlyProductive : ContextFree → List Bool → Type 0
OnlyProductive g m = (s : ℕ) → IsMarked m s → Productive g s

-- only symbols that can be reached are marked
abbrev pub OnlyReachable : ContextFree → List Bool → Type 0
OnlyReachable g m = (s : ℕ) → IsMarked m s → IsReachable g s

abbrev pub items_of : Vec ℕ Global → List ℕ
items_of v = v.items

-- lists of rules, one for each symbol
abbrev pub lists_of : Vec (Vec ℕ Global) Global → List (List ℕ)
lists_of v = map items_of v.items

abbrev pub list_at : List (List ℕ) → ℕ → List ℕ
list_at lists s = slice_index_or lists s []

-- r was added to the list of s
pub record IsFiled (s r : ℕ) (lists lists2 : List (List ℕ)) : Type 0 where
  pub sized : length lists2 ≡ length lists
  pub here : Contains (list_at lists2 s) r
  pub kept : (t q : ℕ) → Contains (list_at lists t) q → Contains (list_at lists2 t) q
  pub only : (t q : ℕ) → Contains (list_at lists2 t) q →
      Contains (list_at lists t) q ⊎ ((t ≡ s) × (q ≡ r))

-- r was added to the list of each of these symbols
pub record IsFiledEach (part : List ℕ) (r : ℕ) (lists lists2 : List (List ℕ)) : Type 0 where
  pub sized : length lists2 ≡ length lists
  pub here : EachIndex part (λ k. Contains (list_at lists2 (slice_index part k)) r)
  pub kept : (t q : ℕ) → Contains (list_at lists t) q → Contains (list_at lists2 t) q
  pub only : (t q : ℕ) → Contains (list_at lists2 t) q →
      Contains (list_at lists t) q ⊎ (Contains part t × (q ≡ r))

-- for each symbol the rules in front of the bound that have it in this part
pub record AreListed (part : Production → List ℕ) (rules : List RuleValue) (bound symbols : ℕ)
    (lists : List (List ℕ)) : Type 0 where
  pub sized : length lists ≡ symbols
  pub within : (s q : ℕ) → Contains (list_at lists s) q →
      (q < bound) × Contains (part (rule_at rules q)) s
  pub each : (r k : ℕ) → r < bound → k < length (part (rule_at rules r)) →
      Contains (list_at lists (slice_index (part (rule_at rules r)) k)) r

-- for each symbol the rules in whose body it stands
abbrev pub AreOccurrences : List RuleValue → ℕ → ℕ → List (List ℕ) → Type 0
AreOccurrences = AreListed right_side

-- for each symbol the rules of which it is the left side
abbrev pub AreByLeft : List RuleValue → ℕ → ℕ → List (List ℕ) → Type 0
AreByLeft = AreListed left_side
