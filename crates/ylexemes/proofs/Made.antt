-- Which part stands at a place, from what its reader found there.
use Rattle.std.proofs.Common.{ℕ, suc, ◌≡◌, ◌≢◌, ◌≤◌, ◌<◌, ◌+◌, ◌-◌, Bool, true, false, cond, not}
use Rattle.std.proofs.Common.{◌&&◌, ◌||◌, get_or, ◌⊎◌, inl, inr, eqb, List, [], ◌∷◌, ◌++◌, length}
use Rattle.std.proofs.Common.{take, Option, Some, None, refl, sym, ap, ◌∙◌, subst, arith}
use Rattle.std.proofs.Common.{append_assoc, append-nil, length-append}
use Rattle.std.proofs.lemmas.Bool.{eqb-true, eqb-false, and_parts, or_parts, not-true, cond-true}
use Rattle.std.proofs.lemmas.Bool.{cond-false}
use Rattle.std.proofs.lemmas.List.{append_cancel_right, take_at}
use Rattle.std.proofs.lemmas.Slice.Eq.{bytes_eq-Decides}
use Rattle.std.specs.Str.{bytes_eq}
use Rattle.ylexemes.specs.declared.kept.Mode.TheVariants.{Outside}
use Rattle.ylexemes.specs.declared.kind.Sign.{Sign}
use Rattle.ylexemes.specs.declared.kind.Sign.TheVariants as sign
use Rattle.ylexemes.specs.declared.literal.Stage.TheVariants.{Opened}
use Rattle.ylexemes.specs.Bytes.{is_blank, is_digit, is_name_start, is_name_byte, all_pass, begins}
use Rattle.ylexemes.specs.Bytes.{IsBetween, IsComment}
use Rattle.ylexemes.specs.Lexemes.{Lexeme, name, c_identifier, literal, number, braced, code, fixed}
use Rattle.ylexemes.specs.Lexemes.{IsName}
use Rattle.ylexemes.specs.Lexemes.{IsCIdentifier, Spells, spelling}
use Rattle.ylexemes.specs.Front.{Part, blank, comment, lexeme, IsPart, IsPercentWord, PartAt}
use Rattle.ylexemes.specs.Front.{BeginsLiteral, Fault, unfinished, bad_literal, foreign, Opens}
use Rattle.ylexemes.specs.Front.{open_comment, open_code, open_braced, Quotes, IsLexical, FaultAt}
use Rattle.ylexemes.specs.Stages.{found, stuck, short, scan}
use Rattle.ylexemes.specs.Kept.{closes}
use Rattle.ylexemes.specs.Views.{pair_after, sign_of, word_of, is_other, is_lone, SkipsGap}
use Rattle.ylexemes.proofs.Runs.{heads_are, tails_are, run_one, run_le, same_text, between_after}
use Rattle.ylexemes.proofs.Runs.{between_begins, between_made, between_one}
use Rattle.ylexemes.proofs.Gaps.{gap_first, gap_one}
use Rattle.ylexemes.proofs.Literals.{literal_found, literal_spelled, stuck_begins_none}
use Rattle.ylexemes.proofs.Literals.{short_begins}
use Rattle.ylexemes.proofs.KeptTexts.{braced_found, braced_spelled}
use Rattle.ylexemes.proofs.Parts.{Class, blanks, digits, slashes, letters, quotes, percents, braces}
use Rattle.ylexemes.proofs.Parts.{signs, others, class, is_sign, is_word, lexeme_class, class_of}
use Rattle.ylexemes.proofs.Parts.{one_class, class_at, no_slash_lexeme}

-- ---- lexemes by class

data OfClass : Class → Lexeme → Type 0 where
  of_name : {n : List ℕ} → OfClass letters (name n)
  of_c_identifier : {n : List ℕ} → OfClass letters (c_identifier n)
  of_literal : {v : ℕ} → OfClass quotes (literal v)
  of_number : {ds : List ℕ} → OfClass digits (number ds)
  of_braced : {t : List ℕ} → OfClass braces (braced t)
  of_code : OfClass percents code
  of_word : {s : Sign} → is_word s ≡ true → OfClass percents (fixed s)
  of_sign : {s : Sign} → is_word s ≡ false → OfClass signs (fixed s)

of_class : (l : Lexeme) → OfClass (lexeme_class l) l
of_class (name n) = of_name
of_class (c_identifier n) = of_c_identifier
of_class (literal v) = of_literal
of_class (number ds) = of_number
of_class (braced t) = of_braced
of_class code = of_code
of_class (fixed s) = go (is_word s) refl
  where
    go : (t : Bool) → is_word s ≡ t → OfClass (cond (is_word s) percents signs) (fixed s)
    go true h = subst (λ c. OfClass c (fixed s)) (sym (cond-true (is_word s) percents signs h))
        (of_word h)
    go false h = subst (λ c. OfClass c (fixed s)) (sym (cond-false (is_word s) percents signs h))
        (of_sign h)

with_class : (l : Lexeme) (c : Class) → lexeme_class l ≡ c → OfClass c l
with_class l c e = subst (λ z. OfClass z l) e (of_class l)

-- a word of the table is the mark, or a percent sign and name bytes
word_shape : (s : Sign) → is_word s ≡ true → (s ≡ sign.Mark) ⊎
    ((v : List ℕ) × (spelling s ≡ 37 ∷ v) × (all_pass is_name_byte v ≡ true) ×
    (begins is_name_byte v ≡ true) × (word_of v ≡ Some s))
word_shape sign.Mark h = inl refl
word_shape sign.Token h = inr (_, refl, refl, refl, refl)
word_shape sign.Left h = inr (_, refl, refl, refl, refl)
word_shape sign.Right h = inr (_, refl, refl, refl, refl)
word_shape sign.Nonassoc h = inr (_, refl, refl, refl, refl)
word_shape sign.Types h = inr (_, refl, refl, refl, refl)
word_shape sign.Start h = inr (_, refl, refl, refl, refl)
word_shape sign.Union h = inr (_, refl, refl, refl, refl)
word_shape sign.Prec h = inr (_, refl, refl, refl, refl)
word_shape sign.Less h = cc
word_shape sign.Greater h = cc
word_shape sign.Bar h = cc
word_shape sign.Semicolon h = cc

short_sign : (s : Sign) → is_word s ≡ false → length (spelling s) ≤ 1
short_sign sign.Less h = omega arith
short_sign sign.Greater h = omega arith
short_sign sign.Bar h = omega arith
short_sign sign.Semicolon h = omega arith
short_sign sign.Mark h = cc
short_sign sign.Token h = cc
short_sign sign.Left h = cc
short_sign sign.Right h = cc
short_sign sign.Nonassoc h = cc
short_sign sign.Types h = cc
short_sign sign.Start h = cc
short_sign sign.Union h = cc
short_sign sign.Prec h = cc

-- ---- a part, from lexemes of its class alone

made : (bytes : List ℕ) (p : Part) (t r : List ℕ) → bytes ≡ t ++ r → IsPart p t
    → ((l : Lexeme) (longer after : List ℕ) → bytes ≡ longer ++ after →
    lexeme_class l ≡ class_of p → Spells l longer → length longer ≤ length t)
    → ((word after : List ℕ) → bytes ≡ (37 ∷ word) ++ after → all_pass is_name_byte word ≡ true →
    percents ≡ class_of p → length (37 ∷ word) ≤ length t)
    → PartAt bytes p r
made bytes p t r e h f g = record {
  text = t;
  whole = e;
  spelled = h;
  longest = λ l longer after w s. f l longer after w (one_class (lexeme l) p longer t after r
      (sym w ∙ e) s h) s;
  longest_word = λ longer after w k.
      let z : bytes ≡ (37 ∷ k.word) ++ after = w ∙ ap (λ y. y ++ after) k.whole in
      subst (λ y. length y ≤ length t) (sym k.whole)
      (g k.word after z k.each (class_at p t r 37 (k.word ++ after) (sym e ∙ z) h));
}

pub comment_part : (bytes more rest : List ℕ) → bytes ≡ 47 ∷ 42 ∷ more →
    pair_after 42 47 more ≡ Some rest → PartAt bytes comment rest
comment_part bytes more rest e h =
    let (t, w, c) = between_made 47 42 42 47 more rest h in
    made bytes comment t rest (e ∙ w) c (λ l longer after w c s. absurd (no_slash_lexeme l (sym c)))
    (λ word after w k c. cc)

run_some : (p : ℕ → Bool) (bytes run rest : List ℕ) → bytes ≡ run ++ rest → begins p rest ≡ false →
    begins p bytes ≡ true → (0 < length run) × (begins p run ≡ true)
run_some p bytes [] rest e stop h = let w : begins p bytes ≡ false = ap (begins p) e ∙ stop in cc
run_some p bytes (b ∷ run) rest e stop h = (omega arith, sym (ap (begins p) e) ∙ h)

pub number_part : (bytes run rest : List ℕ) → bytes ≡ run ++ rest → all_pass is_digit run ≡ true →
    begins is_digit rest ≡ false → begins is_digit bytes ≡ true → PartAt bytes (lexeme (number run))
    rest
number_part bytes run rest e each stop h =
    made bytes (lexeme (number run)) run rest e
    (refl, record { some = (run_some is_digit bytes run rest e stop h).0; each = each })
    (λ l longer after w c s. go l longer after w (with_class l digits c) s) (λ word after w k c. cc)
  where
    go : (l : Lexeme) (longer after : List ℕ) → bytes ≡ longer ++ after → OfClass digits l →
        Spells l longer → length longer ≤ length run
    go _ longer after w (of_number {ds = ds}) (f, n) = run_le is_digit run longer rest after stop
        (ap (all_pass is_digit) f ∙ n.each) (sym e ∙ w)

-- ---- signs

choose : {A P : Type 0} (b : Bool) (x y z : A) → cond b x y ≡ z → (b ≡ true → x ≡ z → P) →
    (b ≡ false → y ≡ z → P) → P
choose true x y z e f g = f refl e
choose false x y z e f g = g refl e

record IsSign (b : ℕ) (s : Sign) : Type 0 where
  spelled : b ∷ [] ≡ spelling s
  short : is_word s ≡ false

sign_is : (b : ℕ) (s : Sign) → sign_of b ≡ Some s → IsSign b s
sign_is b s e =
    choose (eqb b 60) (Some sign.Less) (cond (eqb b 62) (Some sign.Greater)
    (cond (eqb b 124) (Some sign.Bar) (cond (eqb b 59) (Some sign.Semicolon) None))) (Some s) e
    (λ t i. at 60 sign.Less (eqb-true b 60 t) (let z : sign.Less ≡ s = cc in z)
    (record { spelled = refl; short = refl }))
    (λ t i. choose (eqb b 62) (Some sign.Greater)
    (cond (eqb b 124) (Some sign.Bar) (cond (eqb b 59) (Some sign.Semicolon) None)) (Some s) i
    (λ t i. at 62 sign.Greater (eqb-true b 62 t) (let z : sign.Greater ≡ s = cc in z)
    (record { spelled = refl; short = refl }))
    (λ t i. choose (eqb b 124) (Some sign.Bar) (cond (eqb b 59) (Some sign.Semicolon) None)
    (Some s) i
    (λ t i. at 124 sign.Bar (eqb-true b 124 t) (let z : sign.Bar ≡ s = cc in z)
    (record { spelled = refl; short = refl }))
    (λ t i. choose (eqb b 59) (Some sign.Semicolon) None (Some s) i
    (λ t i. at 59 sign.Semicolon (eqb-true b 59 t) (let z : sign.Semicolon ≡ s = cc in z)
    (record { spelled = refl; short = refl }))
    (λ t i. absurd (let z : ⊥ = cc in z)))))
  where
    at : (n : ℕ) (z : Sign) → b ≡ n → z ≡ s → IsSign n z → IsSign b s
    at n z e f h = subst (λ y. IsSign b y) f (subst (λ y. IsSign y z) (sym e) h)

pub sign_part : (b : ℕ) (s : Sign) (rest : List ℕ) → sign_of b ≡ Some s → PartAt (b ∷ rest)
    (lexeme (fixed s)) rest
sign_part b s rest e =
    let h = sign_is b s e in
    let c : cond (is_word s) percents signs ≡ signs = cond-false (is_word s) percents signs
    h.short in
    made (b ∷ rest) (lexeme (fixed s)) (b ∷ []) rest refl h.spelled (λ l longer after w k i.
    go l longer (with_class l signs (k ∙ c)) i)
    (λ word after w k d. let z : percents ≡ signs = d ∙ c in cc)
  where
    go : (l : Lexeme) (longer : List ℕ) → OfClass signs l → Spells l longer → length longer ≤ 1
    go _ longer (of_sign {s = z} h) i = subst (λ y. length y ≤ 1) (sym i) (short_sign z h)

-- ---- literals and kept texts

pub literal_part : (bytes tail rest : List ℕ) (v : ℕ) → bytes ≡ 39 ∷ tail →
    scan Opened tail ≡ found v rest → PartAt bytes (lexeme (literal v)) rest
literal_part bytes tail rest v e h =
    let (t, w, i) = literal_spelled tail rest v h in
    made bytes (lexeme (literal v)) t rest (e ∙ w) i (λ l longer after u c s. go t l longer after u
    (e ∙ w) (with_class l quotes c) s) (λ word after w k c. cc)
  where
    go : (t : List ℕ) (l : Lexeme) (longer after : List ℕ) → bytes ≡ longer ++ after →
        bytes ≡ t ++ rest → OfClass quotes l → Spells l longer → length longer ≤ length t
    go t _ longer after u w (of_literal {v = x}) s =
        let f = literal_found longer tail after x s (sym e ∙ u) in
        let z : found x after ≡ found v rest = sym f ∙ h in
        let y : after ≡ rest = cc in
        let same : longer ≡ t = append_cancel_right longer t rest
        (ap (λ q. longer ++ q) (sym y) ∙ sym u ∙ w) in
        omega (arith, ap length same)

pub braced_part : (bytes tail rest : List ℕ) → bytes ≡ 123 ∷ tail → closes Outside 0 tail ≡ Some
    rest →
    PartAt bytes (lexeme (braced (take (length bytes - length rest) bytes))) rest
braced_part bytes tail rest e h =
    let (t, w, i) = braced_spelled tail rest h in
    let whole : bytes ≡ t ++ rest = e ∙ w in
    let long : length bytes ≡ length t + length rest = ap length whole ∙ length-append t rest in
    let n : length t ≡ length bytes - length rest = omega (arith, long) in
    let front : take (length bytes - length rest) bytes ≡ t = ap (take (length bytes - length rest))
    whole ∙ take_at t rest (length bytes - length rest) n in
    subst (λ z. PartAt bytes (lexeme (braced z)) rest) (sym front)
    (made bytes (lexeme (braced t)) t rest whole (refl, i) (λ l longer after u c s.
    go t l longer after u whole (with_class l braces c) s) (λ word after w k c. cc))
  where
    go : (t : List ℕ) (l : Lexeme) (longer after : List ℕ) → bytes ≡ longer ++ after →
        bytes ≡ t ++ rest → OfClass braces l → Spells l longer → length longer ≤ length t
    go t _ longer after u w (of_braced {t = x}) (f, s) =
        let k = braced_found x tail after s (sym e ∙ u ∙ ap (λ q. q ++ after) f) in
        let z : Some after ≡ Some rest = sym k ∙ h in
        let y : after ≡ rest = cc in
        let same : longer ≡ t = append_cancel_right longer t rest
        (ap (λ q. longer ++ q) (sym y) ∙ sym u ∙ w) in
        omega (arith, ap length same)

-- ---- percent signs

-- a word that isn't the mark has a name byte next to its percent sign
word_next : (s : Sign) (longer after more : List ℕ) (b : ℕ) → is_word s ≡ true →
    longer ≡ spelling s → longer ++ after ≡ 37 ∷ b ∷ more → is_name_byte b ≡ false → s ≡ sign.Mark
word_next s longer after more b h i e other = go (word_shape s h)
  where
    go : (s ≡ sign.Mark) ⊎ ((v : List ℕ) × (spelling s ≡ 37 ∷ v) ×
        (all_pass is_name_byte v ≡ true) × (begins is_name_byte v ≡ true) × (word_of v ≡ Some s)) →
        s ≡ sign.Mark
    go (inl m) = m
    go (inr ([], f, each, first, back)) = let z : false ≡ true = first in cc
    go (inr (c ∷ v, f, each, first, back)) =
        let w : 37 ∷ (c ∷ v ++ after) ≡ 37 ∷ b ∷ more = sym (ap (λ z. z ++ after) (i ∙ f)) ∙ e in
        let y : c ≡ b = heads_are c b (v ++ after) more
        (tails_are 37 37 (c ∷ v ++ after) (b ∷ more) w) in
        let z : true ≡ false = sym first ∙ ap is_name_byte y ∙ other in cc

-- a percent word before a byte that is no name byte
word_short : (word after more : List ℕ) (b : ℕ) → (37 ∷ word) ++ after ≡ 37 ∷ b ∷ more →
    all_pass is_name_byte word ≡ true → is_name_byte b ≡ false → length (37 ∷ word) ≤ 1
word_short [] after more b e each other = omega arith
word_short (c ∷ word) after more b e each other =
    let y : c ≡ b = heads_are c b (word ++ after) more (tails_are 37 37 (c ∷ word ++ after)
    (b ∷ more) e) in
    let f = (and_parts (is_name_byte c) (all_pass is_name_byte word) each).0 in
    let z : true ≡ false = sym f ∙ ap is_name_byte y ∙ other in absurd (let q : ⊥ = cc in q)

pub code_part : (bytes more rest : List ℕ) → bytes ≡ 37 ∷ 123 ∷ more → pair_after 37 125 more ≡ Some
    rest → PartAt bytes (lexeme code) rest
code_part bytes more rest e h =
    let (t, w, c) = between_made 37 123 37 125 more rest h in
    let (u, x) = between_begins 37 123 37 125 t c in
    let long : length t ≡ suc (suc (length u)) = ap length x in
    made bytes (lexeme code) t rest (e ∙ w) c (λ l longer after u k s. go t c l longer after u
    (e ∙ w) (with_class l percents k) s)
    (λ word after w k d. let z = word_short word after more 123 (sym w ∙ e) k refl in
    omega (arith, z, long))
  where
    go : (t : List ℕ) → IsBetween 37 123 37 125 t → (l : Lexeme) (longer after : List ℕ) →
        bytes ≡ longer ++ after → bytes ≡ t ++ rest → OfClass percents l → Spells l longer →
        length longer ≤ length t
    go t c _ longer after u w of_code s =
        omega (arith, ap length (between_one 37 123 37 125 longer t after rest s c (sym u ∙ w)).0)
    go t c _ longer after u w (of_word {s = z} k) s =
        let m = word_next z longer after more 123 k s (sym u ∙ e) refl in
        let f : 37 ∷ 37 ∷ after ≡ 37 ∷ 123 ∷ more = sym (ap (λ y. y ++ after) (s ∙ ap spelling m)) ∙
        sym u ∙ e in
        absurd (eqb-false 37 123 refl
        (heads_are 37 123 after more (tails_are 37 37 (37 ∷ after) (123 ∷ more) f)))

pub mark_part : (bytes rest : List ℕ) → bytes ≡ 37 ∷ 37 ∷ rest →
    PartAt bytes (lexeme (fixed sign.Mark)) rest
mark_part bytes rest e =
    made bytes (lexeme (fixed sign.Mark)) (37 ∷ 37 ∷ []) rest e refl (λ l longer after u k s.
    go l longer after u (with_class l percents k) s)
    (λ word after w k d. let z = word_short word after rest 37 (sym w ∙ e) k refl in
    omega (arith, z))
  where
    go : (l : Lexeme) (longer after : List ℕ) → bytes ≡ longer ++ after → OfClass percents l →
        Spells l longer → length longer ≤ 2
    go _ longer after u of_code s =
        let (more, x) = between_begins 37 123 37 125 longer s in
        let f : 37 ∷ 123 ∷ (more ++ after) ≡ 37 ∷ 37 ∷ rest = sym (ap (λ y. y ++ after) x) ∙ sym u ∙
        e in
        absurd (eqb-false 123 37 refl (heads_are 123 37 (more ++ after) rest
        (tails_are 37 37 (123 ∷ (more ++ after)) (37 ∷ rest) f)))
    go _ longer after u (of_word {s = z} k) s =
        let m = word_next z longer after rest 37 k s (sym u ∙ e) refl in
        let l : length longer ≡ 2 = ap length (s ∙ ap spelling m) in
        omega (arith, l)

record IsWord (w : List ℕ) (s : Sign) : Type 0 where
  spelled : 37 ∷ w ≡ spelling s
  long : is_word s ≡ true

word_is : (w : List ℕ) (s : Sign) → word_of w ≡ Some s → IsWord w s
word_is w s e =
    step sign.Token _ refl (record { spelled = refl; long = refl }) e (λ e.
    step sign.Left _ refl (record { spelled = refl; long = refl }) e (λ e.
    step sign.Right _ refl (record { spelled = refl; long = refl }) e (λ e.
    step sign.Nonassoc _ refl (record { spelled = refl; long = refl }) e (λ e.
    step sign.Types _ refl (record { spelled = refl; long = refl }) e (λ e.
    step sign.Start _ refl (record { spelled = refl; long = refl }) e (λ e.
    step sign.Union _ refl (record { spelled = refl; long = refl }) e (λ e.
    step sign.Prec _ refl (record { spelled = refl; long = refl }) e
    (λ e. absurd (let z : ⊥ = cc in z)))))))))
  where
    step : (z : Sign) (v : List ℕ) → 37 ∷ v ≡ spelling z → IsWord v z → {next : Option Sign} →
        cond (bytes_eq w v) (Some z) next ≡ Some s → (next ≡ Some s → IsWord w s) → IsWord w s
    step z v i h {next} e f =
        choose (bytes_eq w v) (Some z) next (Some s) e
        (λ t j. let y : z ≡ s = cc in
        subst (λ q. IsWord w q) y (subst (λ q. IsWord q z) (sym ((bytes_eq-Decides w v).0 t))
        h))
        (λ t j. f j)

-- neither the mark nor a code block begins here
pub record IsPlainPercent (bytes : List ℕ) : Type 0 where
  pub no_mark : (after : List ℕ) → bytes ≡ 37 ∷ 37 ∷ after → ⊥
  pub no_code : (after : List ℕ) → bytes ≡ 37 ∷ 123 ∷ after → ⊥

code_here : (bytes t after : List ℕ) → IsPlainPercent bytes → bytes ≡ t ++ after →
    IsBetween 37 123 37 125 t → ⊥
code_here bytes t after n e c =
    let (more, x) = between_begins 37 123 37 125 t c in
    n.no_code (more ++ after) (e ∙ ap (λ y. y ++ after) x)

pub word_part : (bytes w rest : List ℕ) (s : Sign) → IsPlainPercent bytes →
    bytes ≡ 37 ∷ (w ++ rest) → all_pass is_name_byte w ≡ true → begins is_name_byte rest ≡ false →
    word_of w ≡ Some s → PartAt bytes (lexeme (fixed s)) rest
word_part bytes w rest s n e each stop h =
    let i = word_is w s h in
    let c : cond (is_word s) percents signs ≡ percents = cond-true (is_word s) percents signs
    i.long in
    made bytes (lexeme (fixed s)) (37 ∷ w) rest e i.spelled (λ l longer after u k t.
    go l longer after u (with_class l percents (k ∙ c)) t)
    (λ word after u k d. let z = run_le is_name_byte w word rest after stop k
    (tails_are 37 37 (w ++ rest) (word ++ after) (sym e ∙ u)) in omega (arith, z))
  where
    long : (z : Sign) (longer after : List ℕ) → bytes ≡ longer ++ after → longer ≡ spelling z →
        (z ≡ sign.Mark) ⊎ ((v : List ℕ) × (spelling z ≡ 37 ∷ v) × (all_pass is_name_byte v ≡ true) ×
        (begins is_name_byte v ≡ true) × (word_of v ≡ Some z)) → length longer ≤ length (37 ∷ w)
    long z longer after u i (inl m) =
        absurd (n.no_mark after (u ∙ ap (λ y. y ++ after) (i ∙ ap spelling m)))
    long z longer after u i (inr (v, f, g, first, back)) =
        let x : bytes ≡ 37 ∷ (v ++ after) = u ∙ ap (λ y. y ++ after) (i ∙ f) in
        let l = run_le is_name_byte w v rest after stop g (tails_are 37 37 (w ++ rest) (v ++ after)
        (sym e ∙ x)) in
        let k : length longer ≡ suc (length v) = ap length (i ∙ f) in
        omega (arith, l, k)

    go : (l : Lexeme) (longer after : List ℕ) → bytes ≡ longer ++ after → OfClass percents l →
        Spells l longer → length longer ≤ length (37 ∷ w)
    go _ longer after u of_code t = absurd (code_here bytes longer after n u t)
    go _ longer after u (of_word {s = z} k) t = long z longer after u t (word_shape z k)

-- ---- faults

fault : (bytes : List ℕ) (b : ℕ) (tail : List ℕ) (f : Fault) → bytes ≡ b ∷ tail →
    ((p : Part) (r : List ℕ) → class b ≡ class_of p → PartAt bytes p r → ⊥) → IsLexical bytes f →
    FaultAt bytes f
fault bytes b tail f e n w =
    record {
      none = λ p r h. n p r (class_at p h.text r b tail (sym h.whole ∙ e) h.spelled) h;
      what = w;
    }

-- a part whose first byte is a slash is a comment
slash_part : (bytes : List ℕ) (p : Part) (r : List ℕ) → slashes ≡ class_of p → PartAt bytes p r →
    (t : List ℕ) × (bytes ≡ t ++ r) × IsComment t
slash_part bytes blank r c h = cc
slash_part bytes comment r c h = (h.text, h.whole, h.spelled)
slash_part bytes (lexeme l) r c h = absurd (no_slash_lexeme l c)

pub comment_open : (bytes more : List ℕ) → bytes ≡ 47 ∷ 42 ∷ more → pair_after 42 47 more ≡ None →
    FaultAt bytes unfinished
comment_open bytes more e h =
    fault bytes 47 (42 ∷ more) unfinished e
    (λ p r c a. let (t, w, i) = slash_part bytes p r c a in let z : None ≡ Some r =
    sym h ∙ between_after 47 42 42 47 t r more i (sym w ∙ e) in cc)
    (inl (open_comment e))

not_opens : (bytes tail : List ℕ) (b : ℕ) → bytes ≡ b ∷ tail → eqb b 123 ≡ false →
    ((after : List ℕ) → bytes ≡ 47 ∷ 42 ∷ after → ⊥) →
    ((after : List ℕ) → bytes ≡ 37 ∷ 123 ∷ after → ⊥) → Opens bytes → ⊥
not_opens bytes tail b e n f g (open_comment {after = a} w) = f a w
not_opens bytes tail b e n f g (open_code {after = a} w) = g a w
not_opens bytes tail b e n f g (open_braced {after = a} w) = eqb-false b 123 n
    (heads_are b 123 tail a (sym e ∙ w))

not_quotes : (bytes tail : List ℕ) (b : ℕ) → bytes ≡ b ∷ tail → eqb b 39 ≡ false → Quotes bytes → ⊥
not_quotes bytes tail b e n (a, w) = eqb-false b 39 n (heads_are b 39 tail a (sym e ∙ w))

some_bytes : (bytes tail : List ℕ) (b : ℕ) → bytes ≡ b ∷ tail → 0 < length bytes
some_bytes bytes tail b e = let l : length bytes ≡ suc (length tail) = ap length e in
    omega (arith, l)

pub slash_foreign : (bytes tail : List ℕ) → bytes ≡ 47 ∷ tail →
    ((after : List ℕ) → bytes ≡ 47 ∷ 42 ∷ after → ⊥) → FaultAt bytes foreign
slash_foreign bytes tail e n =
    fault bytes 47 tail foreign e
    (λ p r c a. let (t, w, i) = slash_part bytes p r c a in
    let (more, x) = between_begins 47 42 42 47 t i in n (more ++ r) (w ∙ ap (λ z. z ++ r) x)) (
      some_bytes bytes tail 47 e,
      not_opens bytes tail 47 e refl n
          (λ after w. eqb-false 47 37 refl (heads_are 47 37 tail (123 ∷ after) (sym e ∙ w))),
      not_quotes bytes tail 47 e refl,
    )

-- a part of another class is a lexeme
lexeme_part : (bytes : List ℕ) (p : Part) (r : List ℕ) (c : Class) → c ≢ blanks → c ≢ slashes →
    c ≡ class_of p → PartAt bytes p r → (l : Lexeme) × (t : List ℕ) × (bytes ≡ t ++ r) ×
    OfClass c l × Spells l t × ((longer after : List ℕ) → bytes ≡ longer ++ after →
    IsPercentWord longer → length longer ≤ length t)
lexeme_part bytes blank r c n m e h = absurd (n e)
lexeme_part bytes comment r c n m e h = absurd (m e)
lexeme_part bytes (lexeme l) r c n m e h = (
  l,
  h.text,
  h.whole,
  with_class l c (sym e),
  h.spelled,
  h.longest_word,
)

no_literal : (bytes tail : List ℕ) → bytes ≡ 39 ∷ tail →
    ((t r : List ℕ) (v : ℕ) → bytes ≡ t ++ r → Spells (literal v) t → ⊥) → (p : Part) (r : List ℕ) →
    quotes ≡ class_of p → PartAt bytes p r → ⊥
no_literal bytes tail e n p r c h =
    let (l, t, w, k, s, m) = lexeme_part bytes p r quotes (λ z. cc) (λ z. cc) c h in
    go l t w k s
  where
    go : (l : Lexeme) (t : List ℕ) → bytes ≡ t ++ r → OfClass quotes l → Spells l t → ⊥
    go _ t w (of_literal {v = v}) s = n t r v w s

pub literal_stuck : (bytes tail : List ℕ) → bytes ≡ 39 ∷ tail → scan Opened tail ≡ stuck →
    FaultAt bytes bad_literal
literal_stuck bytes tail e h =
    fault bytes 39 tail bad_literal e
    (no_literal bytes tail e (λ t r v w s. let z : stuck ≡ found v r = sym h ∙ literal_found t tail
    r v s (sym e ∙ w) in cc)) (
      (tail, e),
      λ (v, more, s). stuck_begins_none tail more (bytes ++ more) [] v h
          (ap (λ z. z ++ more) (sym e) ∙ sym (append-nil (bytes ++ more))) s,
    )

pub literal_short : (bytes tail : List ℕ) → bytes ≡ 39 ∷ tail → scan Opened tail ≡ short →
    FaultAt bytes unfinished
literal_short bytes tail e h =
    fault bytes 39 tail unfinished e
    (no_literal bytes tail e (λ t r v w s. let z : short ≡ found v r = sym h ∙ literal_found t tail
    r v s (sym e ∙ w) in cc))
    (inr ((tail, e), begins))
  where
    begins : BeginsLiteral bytes
    begins = let (v, more, s) = short_begins tail h in
        (v, more, subst (λ z. Spells (literal v) (z ++ more)) (sym e) s)

pub braced_open : (bytes tail : List ℕ) → bytes ≡ 123 ∷ tail → closes Outside 0 tail ≡ None →
    FaultAt bytes unfinished
braced_open bytes tail e h =
    fault bytes 123 tail unfinished e
    (λ p r c a. let (l, t, w, k, s, m) = lexeme_part bytes p r braces (λ z. cc) (λ z. cc) c a in
    go r l t w k s)
    (inl (open_braced e))
  where
    go : (r : List ℕ) (l : Lexeme) (t : List ℕ) → bytes ≡ t ++ r → OfClass braces l → Spells l t → ⊥
    go r _ t w (of_braced {t = x}) (f, s) = let z : None ≡ Some r = sym h ∙ braced_found x tail r s
        (sym e ∙ w ∙ ap (λ q. q ++ r) f) in cc

pub code_open : (bytes more : List ℕ) → bytes ≡ 37 ∷ 123 ∷ more → pair_after 37 125 more ≡ None →
    FaultAt bytes unfinished
code_open bytes more e h =
    fault bytes 37 (123 ∷ more) unfinished e
    (λ p r c a. let (l, t, w, k, s, m) = lexeme_part bytes p r percents (λ z. cc) (λ z. cc) c a in
    go r l t w k s)
    (inl (open_code e))
  where
    go : (r : List ℕ) (l : Lexeme) (t : List ℕ) → bytes ≡ t ++ r → OfClass percents l → Spells l t →
        ⊥
    go r _ t w of_code s = let z : None ≡ Some r = sym h ∙ between_after 37 123 37 125 t r more s
        (sym w ∙ e) in cc
    go r _ t w (of_word {s = z} k) s =
        let m = word_next z t r more 123 k s (sym w ∙ e) refl in
        let f : 37 ∷ 37 ∷ r ≡ 37 ∷ 123 ∷ more = sym (ap (λ y. y ++ r) (s ∙ ap spelling m)) ∙ sym w ∙
        e in
        eqb-false 37 123 refl (heads_are 37 123 r more (tails_are 37 37 (37 ∷ r) (123 ∷ more) f))

pub word_foreign : (bytes w rest : List ℕ) → IsPlainPercent bytes → bytes ≡ 37 ∷ (w ++ rest) →
    all_pass is_name_byte w ≡ true → begins is_name_byte rest ≡ false → word_of w ≡ None →
    FaultAt bytes foreign
word_foreign bytes w rest n e each stop h =
    fault bytes 37 (w ++ rest) foreign e
    (λ p r c a. let (l, t, x, k, s, m) = lexeme_part bytes p r percents (λ z. cc) (λ z. cc) c a in
    go r l t x k s m) (
      some_bytes bytes (w ++ rest) 37 e,
      not_opens bytes (w ++ rest) 37 e refl
          (λ after x. eqb-false 37 47 refl (heads_are 37 47 (w ++ rest) (42 ∷ after) (sym e ∙ x)))
          n.no_code,
      not_quotes bytes (w ++ rest) 37 e refl,
    )
  where
    known : (r : List ℕ) (z : Sign) (t : List ℕ) → bytes ≡ t ++ r → t ≡ spelling z →
        ((longer after : List ℕ) → bytes ≡ longer ++ after → IsPercentWord longer →
        length longer ≤ length t)
        → (z ≡ sign.Mark) ⊎ ((v : List ℕ) × (spelling z ≡ 37 ∷ v) ×
        (all_pass is_name_byte v ≡ true) × (begins is_name_byte v ≡ true) ×
        (word_of v ≡ Some z)) → ⊥
    known r z t x i m (inl q) = n.no_mark r (x ∙ ap (λ y. y ++ r) (i ∙ ap spelling q))
    known r z t x i m (inr (v, f, g, first, back)) =
        let y : bytes ≡ 37 ∷ (v ++ r) = x ∙ ap (λ y. y ++ r) (i ∙ f) in
        let same_tail : w ++ rest ≡ v ++ r = tails_are 37 37 (w ++ rest) (v ++ r) (sym e ∙ y) in
        let a = run_le is_name_byte w v rest r stop g same_tail in
        let b = m (37 ∷ w) rest e (record { word = w; whole = refl; each = each }) in
        let k : length t ≡ suc (length v) = ap length (i ∙ f) in
        let same = same_text w v rest r (omega (arith, a, b, k)) same_tail in
        let q : None ≡ Some z = sym h ∙ ap word_of same.0 ∙ back in cc

    go : (r : List ℕ) (l : Lexeme) (t : List ℕ) → bytes ≡ t ++ r → OfClass percents l → Spells l t →
        ((longer after : List ℕ) → bytes ≡ longer ++ after → IsPercentWord longer →
        length longer ≤ length t) → ⊥
    go r _ t x of_code s m = code_here bytes t r n x s
    go r _ t x (of_word {s = z} k) s m = known r z t x s m (word_shape z k)

no_other : (l : Lexeme) → OfClass others l → ⊥
no_other l h = elim h [ ]

pub byte_foreign : (b : ℕ) (tail : List ℕ) → class b ≡ others → FaultAt (b ∷ tail) foreign
byte_foreign b tail c =
    fault (b ∷ tail) b tail foreign refl
    (λ p r k a. let (l, t, x, o, s, m) = lexeme_part (b ∷ tail) p r others (λ z. cc) (λ z. cc)
    (sym c ∙ k) a in no_other l o)
    (omega arith, opens, quotes_not)
  where
    opens : Opens (b ∷ tail) → ⊥
    opens (open_comment {after = a} w) = let z : others ≡ slashes = sym c ∙ ap class
        (heads_are b 47 tail (42 ∷ a) w) in cc
    opens (open_code {after = a} w) = let z : others ≡ percents = sym c ∙ ap class
        (heads_are b 37 tail (123 ∷ a) w) in cc
    opens (open_braced {after = a} w) = let z : others ≡ braces = sym c ∙ ap class
        (heads_are b 123 tail a w) in cc

    quotes_not : Quotes (b ∷ tail) → ⊥
    quotes_not (a, w) = let z : others ≡ quotes = sym c ∙ ap class (heads_are b 39 tail a w) in cc

-- ---- names

pub record IsRun (bytes run rest : List ℕ) : Type 0 where
  pub whole : bytes ≡ run ++ rest
  pub each : all_pass is_name_byte run ≡ true
  pub stop : begins is_name_byte rest ≡ false
  pub start : begins is_name_start bytes ≡ true

start_is_byte : (b : ℕ) → is_name_start b ≡ true → is_name_byte b ≡ true
start_is_byte b h = ap (λ z. z || is_digit b) h

run_named : (bytes run rest : List ℕ) → IsRun bytes run rest → IsName run
run_named bytes [] rest h = absurd (none bytes h.whole h.start)
  where
    none : (bytes : List ℕ) → bytes ≡ [] ++ rest → begins is_name_start bytes ≡ true → ⊥
    none [] e s = let z : false ≡ true = s in cc
    none (b ∷ bs) e s = let z : false ≡ true = sym h.stop ∙ ap (begins is_name_byte)
        (sym e) ∙ start_is_byte b s in cc
run_named bytes (b ∷ run) rest h =
    record { start = sym (ap (begins is_name_start) h.whole) ∙ h.start; each = h.each }

-- a c_identifier there has the run as its name, and the gap that was skipped
c_identifier_there : (bytes run rest end m longer after : List ℕ) → IsRun bytes run rest →
    SkipsGap rest end → bytes ≡ longer ++ after → IsCIdentifier m longer → (end ≡ 58 ∷ after)
c_identifier_there bytes run rest end m longer after h g e k =
    let whole : bytes ≡ m ++ (k.gap ++ 58 ∷ after) = e ∙ ap (λ z. z ++ after) k.whole ∙ append_assoc
    (m ++ k.gap) (58 ∷ []) after ∙ append_assoc m k.gap (58 ∷ after) in
    let both : run ++ rest ≡ m ++ (k.gap ++ 58 ∷ after) = sym h.whole ∙ whole in
    let same : run ≡ m = run_one is_name_byte run m rest (k.gap ++ 58 ∷ after) h.each k.named.each
    h.stop (gap_first k.gap after k.skipped) both in
    let tail : rest ≡ k.gap ++ 58 ∷ after = append_cancel run m rest (k.gap ++ 58 ∷ after) same
    both in
    (gap_one g.gap k.gap end after g.skipped k.skipped g.no_blank g.no_comment
    (sym g.whole ∙ tail)).1
  where
    append_cancel : (a b x y : List ℕ) → a ≡ b → a ++ x ≡ b ++ y → x ≡ y
    append_cancel a b x y e f = (same_text a b x y (ap length e) f).1

pub name_part : (bytes run rest end : List ℕ) → IsRun bytes run rest → SkipsGap rest end →
    ((tail : List ℕ) → end ≡ 58 ∷ tail → ⊥) → PartAt bytes (lexeme (name run)) rest
name_part bytes run rest end h g n =
    made bytes (lexeme (name run)) run rest h.whole (refl, run_named bytes run rest h)
    (λ l longer after w c s. go l longer after w (with_class l letters c) s) (λ word after w k c.
    cc)
  where
    go : (l : Lexeme) (longer after : List ℕ) → bytes ≡ longer ++ after → OfClass letters l →
        Spells l longer → length longer ≤ length run
    go _ longer after w (of_name {n = m}) (f, k) = run_le is_name_byte run longer rest after h.stop
        (ap (all_pass is_name_byte) f ∙ k.each) (sym h.whole ∙ w)
    go _ longer after w (of_c_identifier {n = m}) k =
        absurd (n after (c_identifier_there bytes run rest end m longer after h g w k))

pub c_identifier_part : (bytes run rest end tail : List ℕ) → IsRun bytes run rest →
    SkipsGap rest end →
    end ≡ 58 ∷ tail → PartAt bytes (lexeme (c_identifier run)) tail
c_identifier_part bytes run rest end tail h g e =
    let text = run ++ g.gap ++ 58 ∷ [] in
    let whole : bytes ≡ text ++ tail = h.whole ∙ ap (λ z. run ++ z)
    (g.whole ∙ ap (λ z. g.gap ++ z) e) ∙ sym
    (append_assoc (run ++ g.gap) (58 ∷ []) tail ∙ append_assoc run g.gap (58 ∷ tail)) in
    made bytes (lexeme (c_identifier run)) text tail whole
    (record {
      gap = g.gap;
      whole = refl;
      named = run_named bytes run rest h;
      skipped =
          g.skipped;
    })
    (λ l longer after w c s. go text whole l longer after w (with_class l letters c) s)
    (λ word after w k c. cc)
  where
    go : (text : List ℕ) → bytes ≡ text ++ tail → (l : Lexeme) (longer after : List ℕ) →
        bytes ≡ longer ++ after → OfClass letters l → Spells l longer → length longer ≤ length text
    go text whole _ longer after w (of_name {n = m}) (f, k) =
        let a = run_le is_name_byte run longer rest after h.stop
        (ap (all_pass is_name_byte) f ∙ k.each) (sym h.whole ∙ w) in
        let b : length bytes ≡ length run + length rest = ap length h.whole ∙ length-append run
        rest in
        let c : length rest ≡ length g.gap + length end = ap length g.whole ∙ length-append g.gap
        end in
        let d : length end ≡ suc (length tail) = ap length e in
        let f : length bytes ≡ length text + length tail = ap length whole ∙ length-append text
        tail in
        omega (arith, a, b, c, d, f)
    go text whole _ longer after w (of_c_identifier {n = m}) k =
        let x : end ≡ 58 ∷ after = c_identifier_there bytes run rest end m longer after h g w k in
        let y : after ≡ tail = tails_are 58 58 after tail (sym x ∙ e) in
        let same : longer ≡ text = append_cancel_right longer text tail
        (ap (λ z. longer ++ z) (sym y) ∙ sym w ∙ whole) in
        omega (arith, ap length same)

-- ---- bytes that are lexemes by themselves

sign_none : (b : ℕ) → sign_of b ≡ None → is_sign b ≡ false
sign_none b e =
    choose (eqb b 60) (Some sign.Less) (cond (eqb b 62) (Some sign.Greater)
    (cond (eqb b 124) (Some sign.Bar) (cond (eqb b 59) (Some sign.Semicolon) None))) None e
    (λ t i. absurd (let z : ⊥ = cc in z))
    (λ t i. choose (eqb b 62) (Some sign.Greater)
    (cond (eqb b 124) (Some sign.Bar) (cond (eqb b 59) (Some sign.Semicolon) None)) None i
    (λ u j. absurd (let z : ⊥ = cc in z))
    (λ u j. choose (eqb b 124) (Some sign.Bar) (cond (eqb b 59) (Some sign.Semicolon) None) None j
    (λ v k. absurd (let z : ⊥ = cc in z))
    (λ v k. choose (eqb b 59) (Some sign.Semicolon) None None k
    (λ w l. absurd (let z : ⊥ = cc in z))
    (λ w l. rw (t, u, v, w) refl))))

lone_class : (b : ℕ) → is_lone b ≡ true → is_sign b ≡ false → class b ≡ others
lone_class b h s =
    let a = and_parts (is_other b && not (eqb b 39) && not (eqb b 37)) (not (eqb b 123)) h in
    let c = and_parts (is_other b && not (eqb b 39)) (not (eqb b 37)) a.0 in
    let d = and_parts (is_other b) (not (eqb b 39)) c.0 in
    let o = not-true (is_blank b || is_digit b || eqb b 47 || is_name_start b) d.0 in
    let p = or_parts (is_blank b || is_digit b || eqb b 47) (is_name_start b) o in
    let q = or_parts (is_blank b || is_digit b) (eqb b 47) p.0 in
    let r = or_parts (is_blank b) (is_digit b) q.0 in
    cond-false _ blanks _ r.0 ∙ cond-false _ digits _ r.1 ∙ cond-false _ slashes _ q.1 ∙ cond-false
    _ letters _ p.1
    ∙ cond-false _ quotes _ (not-true (eqb b 39) d.1) ∙ cond-false _ percents _
    (not-true (eqb b 37) c.1) ∙ cond-false _ braces _ (not-true (eqb b 123) a.1) ∙ cond-false _
    signs others s

pub other_foreign : (bytes : List ℕ) → begins is_lone bytes ≡ true → sign_of (get_or bytes 0 0) ≡
    None → FaultAt bytes foreign
other_foreign [] h e = cc
other_foreign (b ∷ tail) h e = byte_foreign b tail (lone_class b h (sign_none b e))
