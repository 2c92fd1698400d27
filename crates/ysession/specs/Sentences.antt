-- Sentences of a grammar, and what a verdict promises of them (Aho, Sethi and Ullman, 4.2 and 4.7:
-- sentences, rightmost derivations, the viable prefix property).
use Rattle.std.specs.Prelude.{ℕ, ◌≡◌, ◌+◌, ◌-◌, ◌<◌, ◌≤◌, List, [], ◌∷◌, ◌++◌, length, take}
use Rattle.std.specs.List.{All}
use Rattle.ysymbols.specs.Grammar.{ContextFree, IsToken, start_of}
use Rattle.ysymbols.specs.Derivation.{Derives}
use Rattle.ysymbols.specs.Forms.{IsRule}
use Rattle.ymachine.specs.Rightmost.{IsRightmostDerivation}
use Rattle.ymachine.specs.Past.{most_steps}
use Rattle.ysession.specs.declared.verdict.Verdict.{Verdict}
use Rattle.ysession.specs.declared.verdict.Verdict.TheVariants.{Accepted, Rejected, Limit}

-- a list of tokens that the start symbol derives
abbrev pub IsSentence : ContextFree → List ℕ → Type 0
IsSentence g w = All (IsToken g) w × Derives (IsRule g) (start_of g ∷ []) w

-- a list of tokens with which a sentence begins
abbrev pub BeginsSentence : ContextFree → List ℕ → Type 0
BeginsSentence g w = (more : List ℕ) × IsSentence g (w ++ more)

-- a rightmost derivation of w from the start symbol, as the list of its forms
abbrev pub Derivations : ContextFree → List ℕ → List (List ℕ) → Type 0
Derivations g w forms = IsRightmostDerivation g (start_of g ∷ []) forms w

-- how many steps a parse of w by the derivation with these forms takes: a shift for each token, a
-- reduction for each replacement, and the acceptance
abbrev pub steps_of : List ℕ → List (List ℕ) → ℕ
steps_of w forms = length w + (length forms - 1) + 1

-- Any tables: an accepted list is a sentence, and the position tells the length of one of its
-- rightmost derivations; what stands before the place of a rejection begins a sentence.
abbrev pub IsSoundOf : ContextFree → List ℕ → Verdict → Type 0
IsSoundOf g w (Accepted p) =
    IsSentence g w × ((forms : List (List ℕ)) × Derivations g w forms × (p ≡ steps_of w forms))
IsSoundOf g w (Rejected place) = BeginsSentence g (take (place - 1) w)
IsSoundOf g w Limit = Unit {0}

-- Where no cell has a choice: the tokens up to and with the place of a rejection begin no
-- sentence; at the place after the last token, the list is no sentence.
abbrev pub IsExactOf : ContextFree → List ℕ → Verdict → Type 0
IsExactOf g w (Rejected place) =
    (place ≤ length w → BeginsSentence g (take place w) → ⊥)
    × (place ≡ length w + 1 → IsSentence g w → ⊥)
IsExactOf g w _ = Unit {0}

-- Where no cell has a choice: a sentence has one rightmost derivation, and is accepted at the
-- position that it tells; where that is greater than positions may be, the limit comes first.
abbrev pub IsAnswered : ContextFree → List ℕ → Verdict → Type 0
IsAnswered g w v = IsSentence g w → (forms : List (List ℕ)) × Derivations g w forms
    × ((other : List (List ℕ)) → Derivations g w other → other ≡ forms)
    × (steps_of w forms ≤ most_steps → v ≡ Accepted (steps_of w forms))
    × (most_steps < steps_of w forms → v ≡ Limit)
