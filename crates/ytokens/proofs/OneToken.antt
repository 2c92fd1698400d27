-- Bytes of which exactly one token is read.
use Rattle.std.proofs.Common.{ℕ, zero, suc, ◌≡◌, nat_lt, Bool, true, false, if◌then◌else◌}
use Rattle.std.proofs.Common.{List, [], ◌∷◌, Option, Some, None, Result, Ok, Err}
use Rattle.std.proofs.Common.{refl, sym, ◌∙◌, subst}
use Rattle.ytokens.specs.TokensFile.{most_tokens}
use Rattle.ytokens.specs.declared.tokens.TokenFault.{TokenFault}
use Rattle.ytokens.specs.declared.tokens.TokenFault.TheVariants as faults
use Rattle.ytokens.specs.TokensFile.{Front, nothing, word, broken, Says, token, answer}
use Rattle.ytokens.specs.TokensFile.{by_name, says, with_token, Comes, Reads, Outcome}
use Rattle.ytokens.specs.Symbols.{is_input}
use Rattle.ytokens.proofs.OneOutcome.{one_coming, token_facts}

-- what an answer of one token says
one_named : (x : ℕ) (tokens place : ℕ) (found : Option ℕ) (after : List ℕ)
    → by_name tokens place found after ≡ answer (Ok (x ∷ [])) → ⊥
one_named x tokens place None after e = cc
one_named x tokens place (Some s) after e = by (is_input tokens s) e
  where
    by : (b : Bool) → (if b then token s after else answer (Err (faults.NotInput place)))
        ≡ answer (Ok (x ∷ [])) → ⊥
    by true h = cc
    by false h = cc

module _ (find : List ℕ → Option ℕ) (tokens : ℕ) where
  -- no front says so
  one_said : (x n : ℕ) (f : Front) → says find tokens n f ≡ answer (Ok (x ∷ [])) → ⊥
  one_said x n nothing e = cc
  one_said x n (word name rest) e = by (nat_lt n most_tokens) e
    where
      by : (b : Bool) → (if b then by_name tokens (suc n) (find name) rest
          else answer (Err faults.TooMany)) ≡ answer (Ok (x ∷ [])) → ⊥
      by true h = one_named x tokens (suc n) (find name) rest h
      by false h = cc
  one_said x n broken e = by (nat_lt n most_tokens) e
    where
      by : (b : Bool) → (if b then answer (Err (faults.BadLiteral (suc n)))
          else answer (Err faults.TooMany)) ≡ answer (Ok (x ∷ [])) → ⊥
      by true h = cc
      by false h = cc

  -- the parts of a reading of one token
  pub record One (n : ℕ) (bytes : List ℕ) (x : ℕ) : Type 0 where
    pub rest : List ℕ
    pub first : Comes find tokens n bytes (token x rest)
    pub last : Comes find tokens (suc n) rest (answer (Ok []))

  with_none : (s x : ℕ) (more : Result (List ℕ) TokenFault) → Ok (x ∷ []) ≡ with_token s more
      → (s ≡ x) × (more ≡ Ok [])
  with_none s x (Ok []) e = (cc, refl)
  with_none s x (Ok (y ∷ ys)) e = cc
  with_none s x (Err fault) e = cc

  with_some : (s : ℕ) (more : Result (List ℕ) TokenFault) → Ok [] ≡ with_token s more → ⊥
  with_some s (Ok xs) e = cc
  with_some s (Err fault) e = cc

  pub one_token : (k n : ℕ) (bytes : List ℕ) (x : ℕ)
      → Reads find tokens k n bytes (Ok (x ∷ [])) → One n bytes x
  one_token zero n bytes x (f, a, e) = absurd (one_said x n f e)
  one_token (suc zero) n bytes x (s, rest, more, a, b, e) =
      let (same, none) = with_none s x more e in
      record {
        rest = rest;
        first = subst (λ (y : ℕ). Comes find tokens n bytes (token y rest)) same a;
        last = subst (λ (r : Result (List ℕ) TokenFault). Comes find tokens (suc n) rest (answer r))
            none b;
      }
  one_token (suc (suc k)) n bytes x (s, rest, more, a, (t, tail, others, b, d, f), e) =
      let none = (with_none s x more e).1 in absurd (with_some t others (sym none ∙ f))

  -- what is read of one token and no more
  pub just_one : (bytes : List ℕ) (x : ℕ) (rest : List ℕ) → Comes find tokens 0 bytes (token x rest)
      → Comes find tokens 1 rest (answer (Ok [])) → Outcome find tokens 0 bytes (Ok (x ∷ []))
  just_one bytes x rest a b = (1, (x, rest, Ok [], a, b, refl))

  -- where something else comes first or second
  pub other_first : (bytes : List ℕ) (said : Says) (x : ℕ) → Comes find tokens 0 bytes said
      → ((rest : List ℕ) → said ≡ token x rest → ⊥) → Outcome find tokens 0 bytes (Ok (x ∷ [])) → ⊥
  other_first bytes said x a h (k, r) =
      let one = one_token k 0 bytes x r in
      h one.rest (one_coming find tokens 0 bytes said (token x one.rest) a one.first)

  pub other_second : (bytes : List ℕ) (y : ℕ) (rest : List ℕ) (said : Says) (x : ℕ)
      → Comes find tokens 0 bytes (token y rest) → Comes find tokens 1 rest said
      → (said ≡ answer (Ok []) → ⊥) → Outcome find tokens 0 bytes (Ok (x ∷ [])) → ⊥
  other_second bytes y rest said x a b h (k, r) =
      let one = one_token k 0 bytes x r in
      let same : token y rest ≡ token x one.rest =
      one_coming find tokens 0 bytes (token y rest) (token x one.rest) a one.first in
      let rest-is : rest ≡ one.rest = cc in
      h (one_coming find tokens 1 one.rest said (answer (Ok []))
      (subst (λ (l : List ℕ). Comes find tokens 1 l said) rest-is b) one.last)

  pub one_input : (bytes : List ℕ) (x : ℕ) → Outcome find tokens 0 bytes (Ok (x ∷ []))
      → is_input tokens x ≡ true
  one_input bytes x (k, r) =
      let one = one_token k 0 bytes x r in
      (token_facts find tokens 0 x bytes one.rest one.first).input
