-- Rightmost derivations as lists of forms (Aho, Sethi and Ullman, 4.2), and what unwinding gives.
use Rattle.std.specs.Prelude.{ℕ, ◌≡◌, ◌≢◌, List, [], ◌∷◌}
use Rattle.std.specs.List.{All}
use Rattle.ysymbols.specs.Grammar.{ContextFree, IsToken, start_of, end_token}
use Rattle.ysymbols.specs.Forms.{IsRightmostRun, last_of}
use Rattle.ymachine.specs.declared.machine.Mode.TheVariants.{Accepted}
use Rattle.ymachine.specs.Machine.{Machine}
use Rattle.ymachine.specs.History.{History, IsHistory}
use Rattle.ymachine.specs.Unwinding.{NoErrors, NoEdits, forms_of, whole_input}

-- The forms begin with x and end with y, and each is made from the one before by a rule for its
-- last nonterminal.
abbrev pub IsRightmostDerivation : ContextFree → List ℕ → List (List ℕ) → List ℕ → Type 0
IsRightmostDerivation g x [] y = ⊥
IsRightmostDerivation g x (form ∷ more) y =
    (form ≡ x) × IsRightmostRun g form more × (last_of form more ≡ y)

-- the input: tokens of the grammar, none of them the end
abbrev pub AreInput : ContextFree → List ℕ → Type 0
AreInput g tokens = All (IsToken g) tokens × All (λ t. t ≢ end_token) tokens

-- Where a history of these tokens without error steps is accepted, its forms are a rightmost
-- derivation of the whole input from the start symbol. The whole input is these tokens with the
-- edits made; where none was made, it is these tokens.
abbrev pub UnwindsRight : ContextFree → Machine → List ℕ → History → Type 0
UnwindsRight g m tokens h =
    IsHistory m tokens h → NoErrors h.earlier → h.now.mode ≡ Accepted
    → IsRightmostDerivation g (start_of g ∷ []) (forms_of h) (whole_input h)
    × (NoEdits h.earlier → whole_input h ≡ tokens)
