-- Bytes that name exactly one token.
use Rattle.std.proofs.Common.{ℕ, ◌≡◌, Bool, true, false}
use Rattle.std.proofs.Common.{List, [], ◌∷◌, Option, Some, None, Ok, Err}
use Rattle.std.proofs.Common.{refl, sym, ◌∙◌}
use Rattle.ytokens.specs.TokensFile.{Front, nothing, word, broken, Says, token, answer}
use Rattle.ytokens.specs.TokensFile.{says, Comes, Outcome}
use Rattle.std.specs.Prelude.{IfSome, is_some}
use Rattle.ytokens.specs.Symbols.{is_input}
use Rattle.ymachine.specs.Machine.{Machine}
use Rattle.ymachine.specs.Spelling.{Spells}
use Rattle.ytokens.specs.TokensFile.{has_blank_end}
use Rattle.std.specs.Prelude.{◌||◌, ◌==◌, not}
use Rattle.std.proofs.Common.{◌++◌, ap, ap₂, arith}
use Rattle.std.proofs.lemmas.Bool.{eqb-true}
use Rattle.ylexemes.specs.declared.literal.Stage.TheVariants.{Opened}
use Rattle.ylexemes.specs.Stages.{Answer, found, stuck, short, scan}
use Rattle.ysymbols.specs.Names.{printed_literal}
use Rattle.ylexemes.proofs.Literals.{literal_of_scan, no_literal_of_scan}
use Rattle.ylexemes.specs.Bytes.{is_blank, all_pass, begins}
use Rattle.ytokens.specs.TokensFile.{is_word_byte, literal, run, FrontAt}
use Rattle.ytokens.specs.TokensFile.{FrontIs}
use Rattle.ymachine.specs.Spelling.{IsSpelled}
use Rattle.ymachine.proofs.Ends.{join}
use Rattle.ytokens.proofs.OneOutcome.{one_outcome, no_word}
use Rattle.ytokens.proofs.OneToken.{just_one, one_input, other_first, other_second}

-- what is read of bytes without a blank at their ends, as a machine has it
pub spelled : (m : Machine) (bytes : List ℕ) (o : Option ℕ) → has_blank_end bytes ≡ false
    → IfSome o (λ x. Outcome m.find m.tokens 0 bytes (Ok (x ∷ [])))
    → (is_some o ≡ false → (x : ℕ) → Outcome m.find m.tokens 0 bytes (Ok (x ∷ [])) → ⊥)
    → Spells m bytes o × IfSome o (λ x. is_input m.tokens x ≡ true)
spelled m bytes (Some x) h f n = ((h, f), one_input m.find m.tokens bytes x f)
spelled m bytes None h f n = (λ x s. n refl x s.1, tt)

-- ---- whether some bytes spell a token

-- what passes at the front, and what follows it
span : (p : ℕ → Bool) (bytes : List ℕ) → (a : List ℕ) × (b : List ℕ) × (bytes ≡ a ++ b)
    × (all_pass p a ≡ true) × (begins p b ≡ false)
span p [] = ([], [], refl, refl, refl)
span p (x ∷ xs) = by (p x) refl (span p xs)
  where
    by : (b : Bool) → p x ≡ b → ((a : List ℕ) × (c : List ℕ) × (xs ≡ a ++ c) × (all_pass p a ≡ true)
        × (begins p c ≡ false)) → (a : List ℕ) × (c : List ℕ) × (x ∷ xs ≡ a ++ c)
        × (all_pass p a ≡ true) × (begins p c ≡ false)
    by true e (a, c, w, i, n) = (x ∷ a, c, ap (λ (l : List ℕ). x ∷ l) w, join e i, n)
    by false e rest = ([], x ∷ xs, refl, refl, e)

-- what stands at a quote
at_quote : (bytes tail : List ℕ) → begins (λ b. b == 39) bytes ≡ true → bytes ≡ 39 ∷ tail
    → (a : Answer) → scan Opened tail ≡ a → (f : Front) × FrontAt bytes f
at_quote bytes tail q e (found v rest) h =
    (word (printed_literal v) rest, literal refl (literal_of_scan bytes tail rest v e h))
at_quote bytes tail q e stuck h =
    (broken, (q, no_word bytes q (no_literal_of_scan bytes tail stuck e h (λ v r x. cc))))
at_quote bytes tail q e short h =
    (broken, (q, no_word bytes q (no_literal_of_scan bytes tail short e h (λ v r x. cc))))

-- what stands where there is neither a blank nor a quote
at_word : (x : ℕ) (xs : List ℕ) → is_blank x ≡ false → (x == 39) ≡ false
    → (f : Front) × FrontAt (x ∷ xs) f
at_word x xs b q =
    let (name, rest, whole, each, end) = span is_word_byte xs in
    let good : is_word_byte x ≡ true = ap₂ (λ (c d : Bool). not (c || d)) b q in (
      word (x ∷ name) rest,
      run (ap (λ (l : List ℕ). x ∷ l) whole) (omega arith) (join good each) end,
    )

front_here : (here : List ℕ) → begins is_blank here ≡ false → (f : Front) × FrontAt here f
front_here [] n = (nothing, refl)
front_here (x ∷ xs) n = by (x == 39) refl
  where
    by : (b : Bool) → (x == 39) ≡ b → (f : Front) × FrontAt (x ∷ xs) f
    by true e =
        at_quote (x ∷ xs) xs e (ap (λ (y : ℕ). y ∷ xs) (eqb-true x 39 e)) (scan Opened xs) refl
    by false e = at_word x xs n e

front_behind : (bytes : List ℕ) → (f : Front) × FrontIs bytes f
front_behind bytes =
    let (gap, here, whole, blanks, none) = span is_blank bytes in
    let (f, stands) = front_here here none in (
      f,
      record {
        gap = gap;
        here = here;
        whole = whole;
        blanks = blanks;
        no_blank = none;
        stands = stands;
      },
    )

module _ (m : Machine) where
  said : (n : ℕ) (bytes : List ℕ) → (s : Says) × Comes m.find m.tokens n bytes s
  said n bytes = let (f, a) = front_behind bytes in (says m.find m.tokens n f, (f, a, refl))

  -- the bytes spell a token, or none
  pub spells_some : (bytes : List ℕ) → (o : Option ℕ) × Spells m bytes o
  spells_some bytes = by (has_blank_end bytes) refl
    where
      second : (x : ℕ) (rest : List ℕ) → has_blank_end bytes ≡ false
          → Comes m.find m.tokens 0 bytes (token x rest) → (s : Says)
          → Comes m.find m.tokens 1 rest s
          → (o : Option ℕ) × Spells m bytes o
      second x rest e a (answer (Ok [])) b =
          (Some x, (e, just_one m.find m.tokens bytes x rest a b))
      second x rest e a (answer (Ok (y ∷ ys))) b = (
        None,
        λ z sp. other_second m.find m.tokens bytes x rest (answer (Ok (y ∷ ys))) z a b
            (λ h. cc) sp.1,
      )
      second x rest e a (answer (Err f)) b = (
        None,
        λ z sp. other_second m.find m.tokens bytes x rest (answer (Err f)) z a b (λ h. cc)
            sp.1,
      )
      second x rest e a (token y tail) b = (
        None,
        λ z sp. other_second m.find m.tokens bytes x rest (token y tail) z a b (λ h. cc)
            sp.1,
      )

      first_says : has_blank_end bytes ≡ false → (s : Says) → Comes m.find m.tokens 0 bytes s
          → (o : Option ℕ) × Spells m bytes o
      first_says e (answer r) a =
          (None, λ z sp. other_first m.find m.tokens bytes (answer r) z a (λ rest h. cc) sp.1)
      first_says e (token x rest) a =
          let (s, b) = said 1 rest in second x rest e a s b

      by : (b : Bool) → has_blank_end bytes ≡ b → (o : Option ℕ) × Spells m bytes o
      by true e = (None, λ z sp. let bad : false ≡ true = sym sp.0 ∙ e in cc)
      by false e = let (s, a) = said 0 bytes in first_says e s a

  -- the bytes spell no other token
  pub one_spelled : (bytes : List ℕ) (x y : ℕ) → IsSpelled m bytes x → IsSpelled m bytes y → x ≡ y
  one_spelled bytes x y a b =
      let same : Ok (x ∷ []) ≡ Ok (y ∷ []) = one_outcome m.find m.tokens 0 bytes _ _ a.1 b.1 in cc
