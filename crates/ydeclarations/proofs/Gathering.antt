-- How far a pass over a list has come, which gathers what each element holds.
use Rattle.std.proofs.Common.{◌≡◌, ◌++◌, ℕ, List, map, drop}
use Rattle.std.specs.List.{flat_map}

-- what was found, and what the rest holds, is what the whole list holds
abbrev pub Gathers : {A B X Y : Type 0} → (A → B) → (Y → List B) → (X → Y) → (X → List A) →
    List A → List X → ℕ → Type 0
Gathers see named view held found xs i = record {
  names : map see found ++ flat_map named (map view (drop i xs)) ≡ flat_map named (map view xs);
  all : found ++ flat_map held (drop i xs) ≡ flat_map held xs;
}
