-- The words of a tokens file: one answer for each file, and the steps of reading it.
use Rattle.std.proofs.Common.{ℕ, zero, suc, ◌≡◌, ◌<◌, ◌++◌, nat_lt, ◌==◌, ◌&&◌, Bool, true}
use Rattle.std.proofs.Common.{false, List, [], ◌∷◌, Option, Some, None, Result, Ok, Err, length}
use Rattle.std.proofs.Common.{refl, sym, ap, ◌∙◌, subst, arith, append_assoc, append-nil}
use Rattle.std.proofs.Common.{length-append, true≢false, if◌then◌else◌}
use Rattle.std.proofs.lemmas.Bool.{eqb-true, ltb-true}
use Rattle.ylexemes.specs.Lexemes.{LiteralAt}
use Rattle.ysymbols.specs.Names.{printed_literal}
use Rattle.ylexemes.proofs.Literals.{literal_shorter, one_literal, quote_first}
use Rattle.ysymbols.specs.Grammar.{GrammarValue}
use Rattle.ytokens.specs.TokensFile.{most_tokens}
use Rattle.ytokens.specs.declared.tokens.Tokens.{Tokens}
use Rattle.ytokens.specs.declared.tokens.TokenFault.{TokenFault}
use Rattle.ytokens.specs.declared.tokens.TokenFault.TheVariants as faults
use Rattle.std.specs.List.{All}
use Rattle.ylexemes.specs.Bytes.{is_blank, all_pass, begins}
use Rattle.ytokens.specs.TokensFile.{is_word_byte, WordAt, literal, run}
use Rattle.ytokens.specs.TokensFile.{Front, nothing, word, broken, FrontAt, FrontIs, Says, token}
use Rattle.ytokens.specs.TokensFile.{answer, by_name, says, with_token, Comes, Reads, Outcome}
use Rattle.ytokens.specs.Symbols.{symbol_named, is_input, token_count}
use Rattle.ytokens.specs.Reading.{TokensOf, Gives, Agrees}

pub and_true : (a b : Bool) → (a && b) ≡ true → (a ≡ true) × (b ≡ true)
and_true true b e = (refl, e)
and_true false b e = cc

-- a longest run is one
pub one_run : (p : ℕ → Bool) (x y r s : List ℕ) → x ++ r ≡ y ++ s → all_pass p x ≡ true
    → begins p r ≡ false → all_pass p y ≡ true → begins p s ≡ false → (x ≡ y) × (r ≡ s)
one_run p [] [] r s e a b c d = (refl, e)
one_run p [] (y ∷ ys) r s e a b c d =
    let t : p y ≡ true = (and_true (p y) (all_pass p ys) c).0 in
    let f : p y ≡ false = sym (ap (begins p) e) ∙ b in absurd (true≢false (sym t ∙ f))
one_run p (x ∷ xs) [] r s e a b c d =
    let t : p x ≡ true = (and_true (p x) (all_pass p xs) a).0 in
    let f : p x ≡ false = ap (begins p) e ∙ d in absurd (true≢false (sym t ∙ f))
one_run p (x ∷ xs) (y ∷ ys) r s e a b c d =
    let same : x ≡ y = cc in
    let rest : xs ++ r ≡ ys ++ s = cc in
    let (h, t) =
    one_run p xs ys r s rest (and_true (p x) (all_pass p xs) a).1 b
    (and_true (p y) (all_pass p ys) c).1 d in
    (ap (λ (l : List ℕ). x ∷ l) h ∙ ap (λ (z : ℕ). z ∷ ys) same, t)

-- a literal is no run
pub quote_run : (bytes tail name rest : List ℕ) → bytes ≡ 39 ∷ tail → bytes ≡ name ++ rest
    → 0 < length name → all_pass is_word_byte name ≡ true → ⊥
quote_run bytes tail [] rest e f h a = omega arith
quote_run bytes tail (b ∷ bs) rest e f h a =
    let same : b ≡ 39 = cc in
    let t : is_word_byte 39 ≡ true =
    sym (ap is_word_byte same) ∙ (and_true (is_word_byte b) (all_pass is_word_byte bs) a).0 in
    true≢false (sym t)

literal_run : (bytes n r m s : List ℕ) (v : ℕ) → LiteralAt bytes v r → bytes ≡ m ++ s → 0 < length m
    → all_pass is_word_byte m ≡ true → ⊥
literal_run bytes n r m s v a e f h = let (tail, first) = quote_first bytes r v a in
    quote_run bytes tail m s first e f h

pub one_word : (bytes n1 r1 n2 r2 : List ℕ) → WordAt bytes n1 r1 → WordAt bytes n2 r2
    → (n1 ≡ n2) × (r1 ≡ r2)
one_word bytes n1 r1 n2 r2 (literal {value = v} a b) (literal {value = w} c d) =
    let (same, rest) = one_literal bytes r1 r2 v w b d in
    (a ∙ ap printed_literal same ∙ sym c, rest)
one_word bytes n1 r1 n2 r2 (literal {value = v} a b) (run c d e f) =
    absurd (literal_run bytes n1 r1 n2 r2 v b c d e)
one_word bytes n1 r1 n2 r2 (run a b c d) (literal {value = w} e f) =
    absurd (literal_run bytes n2 r2 n1 r1 w f a b c)
one_word bytes n1 r1 n2 r2 (run a b c d) (run e f g h) =
    one_run is_word_byte n1 n2 r1 r2 (sym a ∙ e) c d g h

-- where no literal stands at a quote, no word does
pub no_word : (bytes : List ℕ) → begins (λ b. b == 39) bytes ≡ true
    → ((value : ℕ) (rest : List ℕ) → LiteralAt bytes value rest → ⊥)
    → (name rest : List ℕ) → WordAt bytes name rest → ⊥
no_word bytes q none name rest (literal {value = v} a b) = none v rest b
no_word [] q none name rest (run a b c d) = cc
no_word (x ∷ xs) q none name rest (run a b c d) =
    let same : x ≡ 39 = eqb-true x 39 q in
    quote_run (x ∷ xs) xs name rest (ap (λ (y : ℕ). y ∷ xs) same) a b c

-- a word takes a byte
pub word_some : (bytes name rest : List ℕ) → WordAt bytes name rest → length rest < length bytes
word_some bytes name rest (literal {value = v} a b) = literal_shorter bytes rest v b
word_some bytes name rest (run a b c d) = omega (arith, ap length a, length-append name rest, b)

pub one_front_here : (bytes : List ℕ) (f g : Front) → FrontAt bytes f → FrontAt bytes g → f ≡ g
one_front_here bytes nothing nothing a b = refl
one_front_here bytes nothing (word n r) a b = let h = word_some bytes n r b in
    absurd (omega (arith, ap length a))
one_front_here bytes nothing broken a b =
    absurd (true≢false (sym b.0 ∙ ap (begins (λ x. x == 39)) a))
one_front_here bytes (word n r) nothing a b = let h = word_some bytes n r a in
    absurd (omega (arith, ap length b))
one_front_here bytes (word n r) (word m s) a b = let (e, f) = one_word bytes n r m s a b in
    ap (λ (x : List ℕ). word x r) e ∙ ap (word m) f
one_front_here bytes (word n r) broken a b = absurd (b.1 n r a)
one_front_here bytes broken nothing a b =
    absurd (true≢false (sym a.0 ∙ ap (begins (λ x. x == 39)) b))
one_front_here bytes broken (word n r) a b = absurd (a.1 n r b)
one_front_here bytes broken broken a b = refl

pub one_front : (bytes : List ℕ) (f g : Front) → FrontIs bytes f → FrontIs bytes g → f ≡ g
one_front bytes f g a b =
    let (e, h) = one_run is_blank a.gap b.gap a.here b.here (sym a.whole
    ∙ b.whole) a.blanks a.no_blank b.blanks b.no_blank in
    one_front_here b.here f g (subst (λ (l : List ℕ). FrontAt l f) h a.stands) b.stands

module _ (find : List ℕ → Option ℕ) (tokens : ℕ) where
  pub one_coming : (n : ℕ) (bytes : List ℕ) (x y : Says) → Comes find tokens n bytes x
      → Comes find tokens n bytes y → x ≡ y
  one_coming n bytes x y (f, a, e) (g, b, h) =
      sym e ∙ ap (says find tokens n) (one_front bytes f g a b) ∙ h

  pub one_reading : (k j n : ℕ) (bytes : List ℕ) (r s : Result (List ℕ) TokenFault)
      → Reads find tokens k n bytes r → Reads find tokens j n bytes s → r ≡ s
  one_reading zero zero n bytes r s a b = let join : answer r ≡ answer s =
      one_coming n bytes _ _ a b in cc
  one_reading zero (suc j) n bytes r s a (x, rest, more, b, p, q) =
      let join : answer r ≡ token x rest = one_coming n bytes _ _ a b in cc
  one_reading (suc k) zero n bytes r s (x, rest, more, a, p, q) b =
      let join : token x rest ≡ answer s = one_coming n bytes _ _ a b in cc
  one_reading (suc k) (suc j) n bytes r s (x, rest, more, a, p, q) (y, tail, others, b, t, u) =
      let join : token x rest ≡ token y tail = one_coming n bytes _ _ a b in
      let x-is : x ≡ y = cc in
      let rest-is : rest ≡ tail = cc in
      let here : Reads find tokens k (suc n) tail more =
      subst (λ (l : List ℕ). Reads find tokens k (suc n) l more) rest-is p in
      let rest-same : more ≡ others = one_reading k j (suc n) tail more others here t in
      q ∙ ap (λ (z : ℕ). with_token z more) x-is ∙ ap (with_token y) rest-same ∙ sym u

  pub one_outcome : (n : ℕ) (bytes : List ℕ) (r s : Result (List ℕ) TokenFault)
      → Outcome find tokens n bytes r → Outcome find tokens n bytes s → r ≡ s
  one_outcome n bytes r s (k, a) (j, b) = one_reading k j n bytes r s a b

-- tokens that were read, before those of an answer
abbrev pub after_tokens : List ℕ → Result (List ℕ) TokenFault → Result (List ℕ) TokenFault
after_tokens symbols (Ok more) = Ok (symbols ++ more)
after_tokens symbols (Err fault) = Err fault

pub after_one : (symbols : List ℕ) (x : ℕ) (r : Result (List ℕ) TokenFault)
    → after_tokens symbols (with_token x r) ≡ after_tokens (symbols ++ x ∷ []) r
after_one symbols x (Ok more) = let ok : List ℕ → Result (List ℕ) TokenFault = λ l. Ok l in
    ap ok (sym (append_assoc symbols (x ∷ []) more))
after_one symbols x (Err fault) = refl

pub after_none : (symbols : List ℕ) → after_tokens symbols (Ok []) ≡ Ok symbols
after_none symbols = let ok : List ℕ → Result (List ℕ) TokenFault = λ l. Ok l in
    ap ok (append-nil symbols)

-- what was answered is what the file has, so what the file has is the answer
pub agrees : (t : GrammarValue) (bytes : List ℕ) (result : Result Tokens TokenFault)
    → Gives t bytes result → (r : Result (List ℕ) TokenFault) → TokensOf t bytes r → Agrees result r
agrees t bytes (Ok tokens) a r b = one_outcome (symbol_named t) (token_count t) 0 bytes r _ b a
agrees t bytes (Err (faults.Unknown place)) a r b =
    one_outcome (symbol_named t) (token_count t) 0 bytes r _ b a
agrees t bytes (Err (faults.NotInput place)) a r b =
    one_outcome (symbol_named t) (token_count t) 0 bytes r _ b a
agrees t bytes (Err faults.TooMany) a r b =
    one_outcome (symbol_named t) (token_count t) 0 bytes r _ b a
agrees t bytes (Err faults.Memory) a r b = tt
agrees t bytes (Err (faults.BadLiteral place)) a r b =
    one_outcome (symbol_named t) (token_count t) 0 bytes r _ b a

-- a fault other than no memory, which ends the file where it is read
pub gives_fault : (t : GrammarValue) (bytes : List ℕ) (fault : TokenFault)
    → TokensOf t bytes (Err fault) → Gives t bytes (Err fault)
gives_fault t bytes (faults.Unknown place) a = a
gives_fault t bytes (faults.NotInput place) a = a
gives_fault t bytes faults.TooMany a = a
gives_fault t bytes faults.Memory a = tt
gives_fault t bytes (faults.BadLiteral place) a = a

-- what is known of a token that comes next
pub record Token (tokens n x : ℕ) (bytes rest : List ℕ) : Type 0 where
  pub below : n < most_tokens
  pub input : is_input tokens x ≡ true
  pub shorter : length rest < length bytes

input_token : (tokens place x s : ℕ) (after rest : List ℕ) (b : Bool) → is_input tokens s ≡ b
    → (if b then token s after else answer (Err (faults.NotInput place))) ≡ token x rest
    → (is_input tokens x ≡ true) × (rest ≡ after)
input_token tokens place x s after rest true h e = let same : s ≡ x = cc in
    (ap (is_input tokens) (sym same) ∙ h, cc)
input_token tokens place x s after rest false h e = cc

pub named_token : (tokens place x : ℕ) (found : Option ℕ) (after rest : List ℕ)
    → by_name tokens place found after ≡ token x rest → (is_input tokens x ≡ true) × (rest ≡ after)
named_token tokens place x None after rest e = cc
named_token tokens place x (Some s) after rest e =
    input_token tokens place x s after rest (is_input tokens s) refl e

module _ (find : List ℕ → Option ℕ) (tokens : ℕ) where
  broken_token : (n x : ℕ) (bytes rest : List ℕ) (b : Bool)
      → (if b then answer (Err (faults.BadLiteral (suc n))) else answer (Err faults.TooMany))
      ≡ token x rest → Token tokens n x bytes rest
  broken_token n x bytes rest true e = cc
  broken_token n x bytes rest false e = cc

  word_token : (n x : ℕ) (bytes rest name after : List ℕ) → FrontIs bytes (word name after)
      → (b : Bool) → nat_lt n most_tokens ≡ b
      → (if b then by_name tokens (suc n) (find name) after else answer (Err faults.TooMany))
      ≡ token x rest → Token tokens n x bytes rest
  word_token n x bytes rest name after a true h e =
      let (input, same) = named_token tokens (suc n) x (find name) after rest e in
      let shorter = word_some a.here name after a.stands in
      record {
        below = ltb-true n most_tokens h;
        input = input;
        shorter =
            omega (arith, shorter, ap length a.whole, length-append a.gap a.here, ap length same);
      }
  word_token n x bytes rest name after a false h e = cc

  pub token_facts : (n x : ℕ) (bytes rest : List ℕ) → Comes find tokens n bytes (token x rest)
      → Token tokens n x bytes rest
  token_facts n x bytes rest (nothing, a, e) = cc
  token_facts n x bytes rest (broken, a, e) = broken_token n x bytes rest (nat_lt n most_tokens) e
  token_facts n x bytes rest (word name after, a, e) =
      word_token n x bytes rest name after a (nat_lt n most_tokens) refl e

pub all_push : (P : ℕ → Type 0) (xs : List ℕ) (x : ℕ) → All P xs → P x → All P (xs ++ x ∷ [])
all_push P [] x a p zero d h = p
all_push P [] x a p (suc k) d h = absurd (omega arith)
all_push P (y ∷ ys) x a p zero d h = a zero d (omega arith)
all_push P (y ∷ ys) x a p (suc k) d h =
    all_push P ys x (λ j e g. a (suc j) e (omega arith)) p k d (omega arith)
