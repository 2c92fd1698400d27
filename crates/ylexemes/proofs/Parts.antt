-- One part begins at a place.
use Rattle.std.proofs.Common.{ℕ, ◌≡◌, ◌≢◌, Bool, true, false, cond, ◌||◌, ◌⊎◌, inl, inr, eqb, List}
use Rattle.std.proofs.Common.{[], ◌∷◌, ◌++◌, length, get_or, Option, Some, None, refl, sym, ap, ◌∙◌}
use Rattle.std.proofs.Common.{subst, arith, append_assoc, append-nil}
use Rattle.std.proofs.lemmas.Bool.{eqb-false, and_parts, cond-true, cond-false}
use Rattle.std.proofs.lemmas.Bool.Decides.{nat_tests}
use Rattle.std.specs.Str.{bytes_eq}
use Rattle.ylexemes.specs.declared.kind.Sign.{Sign}
use Rattle.ylexemes.specs.declared.kind.Sign.TheVariants as sign
use Rattle.ylexemes.specs.Bytes.{is_blank, is_digit, is_name_start, is_name_byte, all_pass, begins}
use Rattle.ylexemes.specs.Bytes.{IsBetween}
use Rattle.ylexemes.specs.Lexemes.{Lexeme, name, c_identifier, literal, number, braced, code, fixed}
use Rattle.ylexemes.specs.Lexemes.{IsName}
use Rattle.ylexemes.specs.Lexemes.{IsNumber, IsLiteral, IsCIdentifier, Spells, spelling}
use Rattle.ylexemes.specs.Front.{Part, blank, comment, lexeme, IsPart, PartAt}
use Rattle.ylexemes.specs.Stages.{found}
use Rattle.ylexemes.specs.Views.{sign_of, word_of}
use Rattle.ylexemes.proofs.Runs.{heads_are, run_one, same_text, between_begins, between_one}
use Rattle.ylexemes.proofs.Gaps.{gap_first}
use Rattle.ylexemes.proofs.Literals.{literal_found}

-- ---- classes of bytes: the first byte of a part tells what it can be

pub data Class : Type 0 where
  blanks digits slashes letters quotes percents braces signs others : Class

abbrev pub is_sign : ℕ → Bool
is_sign b = eqb b 60 || eqb b 62 || eqb b 124 || eqb b 59

abbrev pub class : ℕ → Class
class b =
    cond (is_blank b) blanks (cond (is_digit b) digits
    (cond (eqb b 47) slashes (cond (is_name_start b) letters
    (cond (eqb b 39) quotes (cond (eqb b 37) percents
    (cond (eqb b 123) braces (cond (is_sign b) signs others)))))))

abbrev pub is_word : Sign → Bool
is_word sign.Less = false
is_word sign.Greater = false
is_word sign.Bar = false
is_word sign.Semicolon = false
is_word _ = true

abbrev pub lexeme_class : Lexeme → Class
lexeme_class (name n) = letters
lexeme_class (c_identifier n) = letters
lexeme_class (literal v) = quotes
lexeme_class (number ds) = digits
lexeme_class (braced t) = braces
lexeme_class code = percents
lexeme_class (fixed s) = cond (is_word s) percents signs

abbrev pub class_of : Part → Class
class_of blank = blanks
class_of comment = slashes
class_of (lexeme l) = lexeme_class l

pub letter_class : (b : ℕ) → is_name_start b ≡ true → class b ≡ letters
letter_class b h =
    let a : is_blank b ≡ false = grind (arith, nat_tests) in
    let d : is_digit b ≡ false = grind (arith, nat_tests) in
    let s : eqb b 47 ≡ false = grind (arith, nat_tests) in
    rw (a, d, s, h) refl

pub digit_class : (b : ℕ) → is_digit b ≡ true → class b ≡ digits
digit_class b h =
    let a : is_blank b ≡ false = grind (arith, nat_tests) in
    rw (a, h) refl

pub record Starts (c : Class) (t : List ℕ) : Type 0 where
  pub first : ℕ
  pub more : List ℕ
  pub whole : t ≡ first ∷ more
  pub classed : class first ≡ c

run_starts : (p : ℕ → Bool) (c : Class) → ((b : ℕ) → p b ≡ true → class b ≡ c) → (t : List ℕ) →
    begins p t ≡ true → Starts c t
run_starts p c f [] h = cc
run_starts p c f (b ∷ t) h = record { first = b; more = t; whole = refl; classed = f b h }

digits_start : (t : List ℕ) → IsNumber t → begins is_digit t ≡ true
digits_start [] h = let l = h.some in absurd (omega (arith, l))
digits_start (b ∷ t) h = (and_parts (is_digit b) (all_pass is_digit t) h.each).0

sign_starts : (s : Sign) → Starts (cond (is_word s) percents signs) (spelling s)
sign_starts sign.Mark = record { first = _; more = _; whole = refl; classed = refl }
sign_starts sign.Token = record { first = _; more = _; whole = refl; classed = refl }
sign_starts sign.Left = record { first = _; more = _; whole = refl; classed = refl }
sign_starts sign.Right = record { first = _; more = _; whole = refl; classed = refl }
sign_starts sign.Nonassoc = record { first = _; more = _; whole = refl; classed = refl }
sign_starts sign.Types = record { first = _; more = _; whole = refl; classed = refl }
sign_starts sign.Start = record { first = _; more = _; whole = refl; classed = refl }
sign_starts sign.Union = record { first = _; more = _; whole = refl; classed = refl }
sign_starts sign.Prec = record { first = _; more = _; whole = refl; classed = refl }
sign_starts sign.Less = record { first = _; more = _; whole = refl; classed = refl }
sign_starts sign.Greater = record { first = _; more = _; whole = refl; classed = refl }
sign_starts sign.Bar = record { first = _; more = _; whole = refl; classed = refl }
sign_starts sign.Semicolon = record { first = _; more = _; whole = refl; classed = refl }

c_identifier_begins : (n t : List ℕ) → IsCIdentifier n t → begins is_name_start t ≡ true
c_identifier_begins n t h = at n h.whole h.named.start
  where
    at : (n : List ℕ) → t ≡ n ++ h.gap ++ 58 ∷ [] → begins is_name_start n ≡ true →
        begins is_name_start t ≡ true
    at [] e s = cc
    at (b ∷ n) e s = ap (begins is_name_start) e ∙ s

pub starts : (p : Part) (t : List ℕ) → IsPart p t → Starts (class_of p) t
starts blank t (b, e, h) = record {
  first = b;
  more = [];
  whole = e;
  classed =
      cond-true (is_blank b) blanks _ h;
}
starts comment t h = let (more, w) = between_begins 47 42 42 47 t h in
    record { first = 47; more = 42 ∷ more; whole = w; classed = refl }
starts (lexeme (name n)) t (e, h) = run_starts is_name_start letters letter_class t
    (ap (begins is_name_start) e ∙ h.start)
starts (lexeme (c_identifier n)) t h = run_starts is_name_start letters letter_class t
    (c_identifier_begins n t h)
starts (lexeme (literal v)) t h = record {
  first = 39;
  more = h.body ++ 39 ∷ [];
  whole = h.whole;
  classed = refl;
}
starts (lexeme (number ds)) t (e, h) = run_starts is_digit digits digit_class t
    (ap (begins is_digit) e ∙ digits_start ds h)
starts (lexeme (braced a)) t (e, h) = record {
  first = 123;
  more = h.inside ++ 125 ∷ [];
  whole =
      e ∙ h.whole;
  classed = refl;
}
starts (lexeme code) t h = let (more, w) = between_begins 37 123 37 125 t h in
    record { first = 37; more = 123 ∷ more; whole = w; classed = refl }
starts (lexeme (fixed s)) t e = let h = sign_starts s in
    record { first = h.first; more = h.more; whole = e ∙ h.whole; classed = h.classed }

pub one_class : (p q : Part) (t u r s : List ℕ) → t ++ r ≡ u ++ s → IsPart p t → IsPart q u →
    class_of p ≡ class_of q
one_class p q t u r s e h k =
    let a = starts p t h in
    let b = starts q u k in
    let w : a.first ≡ b.first = heads_are a.first b.first (a.more ++ r) (b.more ++ s)
    (sym (ap (λ z. z ++ r) a.whole) ∙ e ∙ ap (λ z. z ++ s) b.whole) in
    sym a.classed ∙ ap class w ∙ b.classed

-- the class of the first byte there
pub class_at : (p : Part) (t r : List ℕ) (b : ℕ) (u : List ℕ) → t ++ r ≡ b ∷ u → IsPart p t →
    class b ≡ class_of p
class_at p t r b u e h =
    let a = starts p t h in
    let w : a.first ≡ b = heads_are a.first b (a.more ++ r) u
    (sym (ap (λ z. z ++ r) a.whole) ∙ e) in
    sym (ap class w) ∙ a.classed

pub not_sign : (c : Class) (s : Sign) → c ≢ percents → c ≢ signs → cond (is_word s) percents signs ≡
    c → ⊥
not_sign c s n m e = go (is_word s) refl
  where
    go : (t : Bool) → is_word s ≡ t → ⊥
    go true h = n (sym e ∙ cond-true (is_word s) percents signs h)
    go false h = m (sym e ∙ cond-false (is_word s) percents signs h)

-- ---- a text spells one lexeme

-- the lexeme with one spelling that bytes spell
abbrev sign_named : List ℕ → Option Sign
sign_named [] = None
sign_named (b ∷ w) = cond (eqb b 37) (cond (bytes_eq w (37 ∷ [])) (Some sign.Mark) (word_of w))
    (sign_of b)

named_back : (s : Sign) → sign_named (spelling s) ≡ Some s
named_back sign.Mark = refl
named_back _ = refl

pub spelling_one : (s z : Sign) → spelling s ≡ spelling z → s ≡ z
spelling_one s z e =
    let w : Some s ≡ Some z = sym (named_back s) ∙ ap sign_named e ∙ named_back z in cc

-- no percent word has a brace after its percent sign
pub no_brace : (s : Sign) → eqb (get_or (spelling s) 1 0) 123 ≡ false
no_brace sign.Mark = refl
no_brace sign.Token = refl
no_brace sign.Left = refl
no_brace sign.Right = refl
no_brace sign.Nonassoc = refl
no_brace sign.Types = refl
no_brace sign.Start = refl
no_brace sign.Union = refl
no_brace sign.Prec = refl
no_brace sign.Less = refl
no_brace sign.Greater = refl
no_brace sign.Bar = refl
no_brace sign.Semicolon = refl

all_pass_end : (p : ℕ → Bool) (x y : List ℕ) → all_pass p (x ++ y) ≡ true → all_pass p y ≡ true
all_pass_end p [] y h = h
all_pass_end p (b ∷ x) y h = all_pass_end p x y (and_parts (p b) (all_pass p (x ++ y)) h).1

name_or_c_identifier : (n m t : List ℕ) → t ≡ n → IsName n → IsCIdentifier m t → ⊥
name_or_c_identifier n m t e h k =
    let w = all_pass_end is_name_byte (m ++ k.gap) (58 ∷ [])
    (sym (ap (all_pass is_name_byte) (sym e ∙ k.whole)) ∙ h.each) in
    let z : false ≡ true = w in cc

c_identifier_one : (n m t : List ℕ) → IsCIdentifier n t → IsCIdentifier m t → n ≡ m
c_identifier_one n m t h k =
    run_one is_name_byte n m (h.gap ++ 58 ∷ []) (k.gap ++ 58 ∷ []) h.named.each k.named.each
    (gap_first h.gap [] h.skipped) (gap_first k.gap [] k.skipped)
    (sym (append_assoc n h.gap (58 ∷ [])) ∙ sym h.whole ∙ k.whole ∙ append_assoc m k.gap (58 ∷ []))

literal_one : (v w : ℕ) (t : List ℕ) → IsLiteral t v → IsLiteral t w → v ≡ w
literal_one v w t h k =
    let tail = h.body ++ 39 ∷ [] in
    let e : 39 ∷ tail ≡ t ++ [] = sym h.whole ∙ sym (append-nil t) in
    let f = literal_found t tail [] v h e in
    let g = literal_found t tail [] w k e in
    let z : found v [] ≡ found w [] = sym f ∙ g in cc

code_or_fixed : (s : Sign) (t : List ℕ) → IsBetween 37 123 37 125 t → t ≡ spelling s → ⊥
code_or_fixed s t h e =
    let (more, w) = between_begins 37 123 37 125 t h in
    eqb-false (get_or (spelling s) 1 0) 123 (no_brace s) (ap (λ z. get_or z 1 0) (sym e ∙ w))

spells_one : (l m : Lexeme) (t : List ℕ) → lexeme_class l ≡ lexeme_class m → Spells l t →
    Spells m t → l ≡ m
spells_one (name n) (name m) t c (e, h) (f, k) = ap name (sym e ∙ f)
spells_one (name n) (c_identifier m) t c (e, h) k = absurd (name_or_c_identifier n m t e h k)
spells_one (c_identifier n) (name m) t c h (e, k) = absurd (name_or_c_identifier m n t e k h)
spells_one (c_identifier n) (c_identifier m) t c h k = ap c_identifier (c_identifier_one n m t h k)
spells_one (literal v) (literal w) t c h k = ap literal (literal_one v w t h k)
spells_one (number d) (number e) t c (f, h) (g, k) = ap number (sym f ∙ g)
spells_one (braced a) (braced b) t c (f, h) (g, k) = ap braced (sym f ∙ g)
spells_one code code t c h k = refl
spells_one code (fixed s) t c h k = absurd (code_or_fixed s t h k)
spells_one (fixed s) code t c h k = absurd (code_or_fixed s t k h)
spells_one (fixed s) (fixed z) t c h k = ap fixed (spelling_one s z (sym h ∙ k))
spells_one (fixed s) (name n) t c h k = absurd (not_sign letters s (λ e. cc) (λ e. cc) c)
spells_one (fixed s) (c_identifier n) t c h k = absurd (not_sign letters s (λ e. cc) (λ e. cc) c)
spells_one (fixed s) (literal n) t c h k = absurd (not_sign quotes s (λ e. cc) (λ e. cc) c)
spells_one (fixed s) (number n) t c h k = absurd (not_sign digits s (λ e. cc) (λ e. cc) c)
spells_one (fixed s) (braced n) t c h k = absurd (not_sign braces s (λ e. cc) (λ e. cc) c)
spells_one (name n) (fixed s) t c h k = absurd (not_sign letters s (λ e. cc) (λ e. cc) (sym c))
spells_one (c_identifier n) (fixed s) t c h k =
    absurd (not_sign letters s (λ e. cc) (λ e. cc) (sym c))
spells_one (literal n) (fixed s) t c h k = absurd (not_sign quotes s (λ e. cc) (λ e. cc) (sym c))
spells_one (number n) (fixed s) t c h k = absurd (not_sign digits s (λ e. cc) (λ e. cc) (sym c))
spells_one (braced n) (fixed s) t c h k = absurd (not_sign braces s (λ e. cc) (λ e. cc) (sym c))
spells_one _ _ t c h k = cc

-- ---- one part begins at a place

pub record SamePart (p q : Part) (r s : List ℕ) : Type 0 where
  pub part : p ≡ q
  pub rest : r ≡ s

no_lexeme : (l : Lexeme) (c : Class) → (c ≡ blanks) ⊎ (c ≡ slashes) → c ≡ lexeme_class l → ⊥
no_lexeme (fixed s) c (inl e) f = not_sign c s (λ z. let w : blanks ≡ percents = sym e ∙ z in cc)
    (λ z. let w : blanks ≡ signs = sym e ∙ z in cc) (sym f)
no_lexeme (fixed s) c (inr e) f = not_sign c s (λ z. let w : slashes ≡ percents = sym e ∙ z in cc)
    (λ z. let w : slashes ≡ signs = sym e ∙ z in cc) (sym f)
no_lexeme (name n) c (inl e) f = let w : blanks ≡ letters = sym e ∙ f in cc
no_lexeme (name n) c (inr e) f = let w : slashes ≡ letters = sym e ∙ f in cc
no_lexeme (c_identifier n) c (inl e) f = let w : blanks ≡ letters = sym e ∙ f in cc
no_lexeme (c_identifier n) c (inr e) f = let w : slashes ≡ letters = sym e ∙ f in cc
no_lexeme (literal n) c (inl e) f = let w : blanks ≡ quotes = sym e ∙ f in cc
no_lexeme (literal n) c (inr e) f = let w : slashes ≡ quotes = sym e ∙ f in cc
no_lexeme (number n) c (inl e) f = let w : blanks ≡ digits = sym e ∙ f in cc
no_lexeme (number n) c (inr e) f = let w : slashes ≡ digits = sym e ∙ f in cc
no_lexeme (braced n) c (inl e) f = let w : blanks ≡ braces = sym e ∙ f in cc
no_lexeme (braced n) c (inr e) f = let w : slashes ≡ braces = sym e ∙ f in cc
no_lexeme code c (inl e) f = let w : blanks ≡ percents = sym e ∙ f in cc
no_lexeme code c (inr e) f = let w : slashes ≡ percents = sym e ∙ f in cc

pub no_blank_lexeme : (l : Lexeme) → blanks ≡ lexeme_class l → ⊥
no_blank_lexeme l e = no_lexeme l blanks (inl refl) e

pub no_slash_lexeme : (l : Lexeme) → slashes ≡ lexeme_class l → ⊥
no_slash_lexeme l e = no_lexeme l slashes (inr refl) e

pub one_part : (p q : Part) (bytes r s : List ℕ) → PartAt bytes p r → PartAt bytes q s →
    SamePart p q r s
one_part p q bytes r s a b = go p q (one_class p q a.text b.text r s (sym a.whole ∙ b.whole)
    a.spelled b.spelled) a b
  where
    joined : (t u : List ℕ) → bytes ≡ t ++ r → bytes ≡ u ++ s → t ++ r ≡ u ++ s
    joined t u e f = sym e ∙ f

    go : (p q : Part) → class_of p ≡ class_of q → PartAt bytes p r → PartAt bytes q s →
        SamePart p q r s
    go blank blank c a b =
        let (x, e, i) = a.spelled in
        let (y, f, j) = b.spelled in
        record {
          part = refl;
          rest = (same_text a.text b.text r s (ap length e ∙ sym (ap length f))
              (joined a.text b.text a.whole b.whole)).1;
        }
    go comment comment c a b = record {
      part = refl;
      rest =
          (between_one 47 42 42 47 a.text b.text r s a.spelled b.spelled
          (joined a.text b.text a.whole b.whole)).1;
    }
    go (lexeme l) (lexeme m) c a b =
        let x = a.longest m b.text s b.whole b.spelled in
        let y = b.longest l a.text r a.whole a.spelled in
        let w = same_text a.text b.text r s (omega (arith, x, y))
        (joined a.text b.text a.whole b.whole) in
        record {
          part = ap lexeme (spells_one l m b.text c (subst (Spells l) w.0 a.spelled)
              b.spelled);
          rest = w.1;
        }
    go blank comment c a b = cc
    go comment blank c a b = cc
    go blank (lexeme l) c a b = absurd (no_blank_lexeme l c)
    go comment (lexeme l) c a b = absurd (no_slash_lexeme l c)
    go (lexeme l) blank c a b = absurd (no_blank_lexeme l (sym c))
    go (lexeme l) comment c a b = absurd (no_slash_lexeme l (sym c))
