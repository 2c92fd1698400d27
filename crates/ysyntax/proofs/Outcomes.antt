-- A file has one outcome.
use Rattle.std.proofs.Common.{ℕ, suc, ◌≡◌, ◌≤◌, ◌<◌, ◌+◌, Bool, true, false, cond, ◌⊎◌, inl, inr}
use Rattle.std.proofs.Common.{List, [], ◌∷◌, ◌++◌, length, Result, Ok, Err, refl, sym, ap, ◌∙◌}
use Rattle.std.proofs.Common.{subst, arith, append_assoc, append-nil, length-append}
use Rattle.std.proofs.lemmas.Bool.{eqb-false}
use Rattle.std.proofs.lemmas.List.{append_cancel_right, map-append}
use Rattle.ylexemes.specs.declared.kind.Sign.TheVariants as sign
use Rattle.ysyntax.specs.Syntax.{IsSpec, BeginsSpec}
use Rattle.ylexemes.specs.Lexemes.{Lexeme, fixed, kind_of}
use Rattle.ysyntax.specs.Lexer.{Cuts, lexemes, kinds}
use Rattle.ylexemes.specs.Front.{Part, blank, comment, lexeme, PartAt}
use Rattle.ysyntax.specs.Lexer.{is_mark, marks, ComesTo, IsCut, at_end, at_mark, SpellsSyntax}
use Rattle.ylexemes.specs.Front.{Fault, unfinished, bad_literal, foreign, syntax, Opens}
use Rattle.ylexemes.specs.Front.{open_comment, open_code, open_braced, Quotes, IsLexical, FaultAt}
use Rattle.ysyntax.specs.Lexer.{Refusal, refusal, newlines, IsLine, Stops, ended, marked}
use Rattle.ysyntax.specs.Lexer.{lexical, stray, early, Outcome}
use Rattle.ylexemes.proofs.Runs.{heads_are}
use Rattle.ylexemes.proofs.Parts.{starts, one_part}

-- ---- parts take bytes

pub part_shorter : (bytes : List ℕ) (p : Part) (r : List ℕ) → PartAt bytes p r →
    length r < length bytes
part_shorter bytes p r h =
    let s = starts p h.text h.spelled in
    let a : length bytes ≡ length h.text + length r = ap length h.whole ∙ length-append h.text r in
    let b : length h.text ≡ suc (length s.more) = ap length s.whole in
    omega (arith, a, b)

pub no_part_at_end : {bytes : List ℕ} {p : Part} {r : List ℕ} → bytes ≡ [] → PartAt bytes p r → ⊥
no_part_at_end {bytes} {p} {r} e h =
    let l = part_shorter bytes p r h in
    let z : length bytes ≡ 0 = ap length e in
    omega (arith, l, z)

pub no_fault_at_end : {bytes : List ℕ} {f : Fault} → bytes ≡ [] → FaultAt bytes f → ⊥
no_fault_at_end {bytes} {f} e h = go f h.what
  where
    go : (f : Fault) → IsLexical bytes f → ⊥
    go unfinished (inl (open_comment {after = a} w)) = let z : [] ≡ 47 ∷ 42 ∷ a = sym e ∙ w in cc
    go unfinished (inl (open_code {after = a} w)) = let z : [] ≡ 37 ∷ 123 ∷ a = sym e ∙ w in cc
    go unfinished (inl (open_braced {after = a} w)) = let z : [] ≡ 123 ∷ a = sym e ∙ w in cc
    go unfinished (inr ((a, w), b)) = let z : [] ≡ 39 ∷ a = sym e ∙ w in cc
    go bad_literal ((a, w), b) = let z : [] ≡ 39 ∷ a = sym e ∙ w in cc
    go foreign (l, o, q) = let z : length bytes ≡ 0 = ap length e in omega (arith, l, z)
    go syntax w = w

-- ---- one fault at a place

opens_or_quotes : {bytes : List ℕ} → Opens bytes → Quotes bytes → ⊥
opens_or_quotes {bytes} (open_comment {after = a} w) (b, v) = eqb-false 47 39 refl
    (heads_are 47 39 (42 ∷ a) b (sym w ∙ v))
opens_or_quotes {bytes} (open_code {after = a} w) (b, v) = eqb-false 37 39 refl
    (heads_are 37 39 (123 ∷ a) b (sym w ∙ v))
opens_or_quotes {bytes} (open_braced {after = a} w) (b, v) = eqb-false 123 39 refl
    (heads_are 123 39 a b (sym w ∙ v))

lexical_one : (bytes : List ℕ) (f g : Fault) → IsLexical bytes f → IsLexical bytes g → f ≡ g
lexical_one bytes unfinished unfinished h k = refl
lexical_one bytes bad_literal bad_literal h k = refl
lexical_one bytes foreign foreign h k = refl
lexical_one bytes unfinished bad_literal (inl o) (q, n) = absurd (opens_or_quotes o q)
lexical_one bytes unfinished bad_literal (inr (p, b)) (q, n) = absurd (n b)
lexical_one bytes unfinished foreign (inl o) (l, n, m) = absurd (n o)
lexical_one bytes unfinished foreign (inr (q, b)) (l, n, m) = absurd (m q)
lexical_one bytes bad_literal unfinished (q, n) (inl o) = absurd (opens_or_quotes o q)
lexical_one bytes bad_literal unfinished (q, n) (inr (p, b)) = absurd (n b)
lexical_one bytes bad_literal foreign (q, n) (l, a, m) = absurd (m q)
lexical_one bytes foreign unfinished (l, n, m) (inl o) = absurd (n o)
lexical_one bytes foreign unfinished (l, n, m) (inr (q, b)) = absurd (m q)
lexical_one bytes foreign bad_literal (l, n, m) (q, b) = absurd (m q)
lexical_one bytes syntax g h k = absurd h
lexical_one bytes unfinished syntax h k = absurd k
lexical_one bytes bad_literal syntax h k = absurd k
lexical_one bytes foreign syntax h k = absurd k

-- ---- lists of lexemes

pub lexemes_append : (ps qs : List Part) → lexemes (ps ++ qs) ≡ lexemes ps ++ lexemes qs
lexemes_append [] qs = refl
lexemes_append (blank ∷ ps) qs = lexemes_append ps qs
lexemes_append (comment ∷ ps) qs = lexemes_append ps qs
lexemes_append (lexeme l ∷ ps) qs = ap (λ z. l ∷ z) (lexemes_append ps qs)

pub marks_append : (a b : List Lexeme) → marks (a ++ b) ≡ marks a + marks b
marks_append [] b = let e : marks b ≡ 0 + marks b = omega arith in e
marks_append (l ∷ a) b = go (is_mark (kind_of l)) (marks_append a b)
  where
    go : (t : Bool) → marks (a ++ b) ≡ marks a + marks b → cond t (suc (marks (a ++ b)))
        (marks (a ++ b)) ≡ cond t (suc (marks a)) (marks a) + marks b
    go true h = omega (arith, h)
    go false h = h

pub kinds_append : (a b : List Lexeme) → kinds (a ++ b) ≡ kinds a ++ kinds b
kinds_append a b = map-append kind_of a b

pub begins_front : (a b : List Lexeme) → BeginsSpec (kinds (a ++ b)) → BeginsSpec (kinds a)
begins_front a b (more, h) = (
  kinds b ++ more,
  subst IsSpec (ap (λ z. z ++ more) (kinds_append a b) ∙ append_assoc (kinds a)
      (kinds b) more) h,
)

pub whole_begins : (ls : List Lexeme) → IsSpec (kinds ls) → BeginsSpec (kinds ls)
whole_begins ls h = ([], subst IsSpec (sym (append-nil (kinds ls))) h)

-- ---- readings agree

record GoesOn (ps : List Part) (r : List ℕ) (qs : List Part) (s : List ℕ) : Type 0 where
  more : List Part
  whole : qs ≡ ps ++ more
  cut : Cuts r more s

agree : (ps qs : List Part) (bytes r s : List ℕ) → Cuts bytes ps r → Cuts bytes qs s →
    GoesOn ps r qs s ⊎ GoesOn qs s ps r
agree [] qs bytes r s e k =
    inl (record { more = qs; whole = refl; cut = subst (λ z. Cuts z qs s) e k })
agree (p ∷ ps) [] bytes r s h e =
    inr (record { more = p ∷ ps; whole = refl; cut = subst (λ z. Cuts z (p ∷ ps) r) e h })
agree (p ∷ ps) (q ∷ qs) bytes r s (m, a, h) (n, b, k) =
    let same = one_part p q bytes m n a b in
    join same.part (agree ps qs m r s h (subst (λ z. Cuts z qs s) (sym same.rest) k))
  where
    join : p ≡ q → GoesOn ps r qs s ⊎ GoesOn qs s ps r → GoesOn (p ∷ ps) r (q ∷ qs) s ⊎
        GoesOn (q ∷ qs) s (p ∷ ps) r
    join e (inl g) = let w = g.whole in inl (record { more = g.more; whole = cc; cut = g.cut })
    join e (inr g) = let w = g.whole in inr (record { more = g.more; whole = cc; cut = g.cut })

pub cut_before : (ps : List Part) (bytes rest : List ℕ) → Cuts bytes ps rest → (before : List ℕ) ×
    (bytes ≡ before ++ rest)
cut_before [] bytes rest e = ([], e)
cut_before (p ∷ ps) bytes rest (m, a, h) =
    let (b, e) = cut_before ps m rest h in
    (a.text ++ b, a.whole ∙ ap (λ z. a.text ++ z) e ∙ sym (append_assoc a.text b rest))

line_one : (bytes rest : List ℕ) (n m : ℕ) → IsLine bytes rest n → IsLine bytes rest m → n ≡ m
line_one bytes rest n m h k =
    let e : h.before ≡ k.before = append_cancel_right h.before k.before rest
    (sym h.whole ∙ k.whole) in
    h.counted ∙ ap (λ z. newlines z + 1) e ∙ sym k.counted

-- ---- why reading stops

-- no part follows where reading stops
stopped : (ls : List Lexeme) (rest m : List ℕ) (line : ℕ) (result : Result (List Lexeme) Refusal)
    (p : Part) (more : List Part) → Stops ls rest line result → PartAt rest p m
    → marks (ls ++ lexemes (p ∷ more)) ≤ 1 → BeginsSpec (kinds (ls ++ lexemes (p ∷ more))) → ⊥
stopped ls rest m line _ p more (ended e h) at few begun = no_part_at_end e at
stopped ls rest m line _ p more (early e h) at few begun = no_part_at_end e at
stopped ls rest m line _ p more (lexical f) at few begun = f.none p m at
stopped ls rest m line _ p more (marked {after = after} mark one h) at few begun =
    let same = one_part p (lexeme (fixed sign.Mark)) rest m after at mark in
    let w : lexemes (p ∷ more) ≡ fixed sign.Mark ∷ lexemes more = ap (λ q. lexemes (q ∷ more))
    same.part in
    let a = marks_append ls (lexemes (p ∷ more)) in
    let b : marks (lexemes (p ∷ more)) ≡ suc (marks (lexemes more)) = ap marks w in
    omega (arith, a, b, one, few)
stopped ls rest m line _ p more (stray {l = l} {after = after} there none) at few begun =
    let same = one_part p (lexeme l) rest m after at there in
    let w : ls ++ lexemes (p ∷ more) ≡ (ls ++ l ∷ []) ++ lexemes more =
    ap (λ q. ls ++ lexemes (q ∷ more)) same.part ∙ sym
    (append_assoc ls (l ∷ []) (lexemes more)) in
    none (begins_front (ls ++ l ∷ []) (lexemes more) (subst (λ z. BeginsSpec (kinds z)) w begun))

mark_begins : (ls : List Lexeme) (l : Lexeme) → lexeme l ≡ lexeme (fixed sign.Mark) →
    IsSpec (kinds (ls ++ fixed sign.Mark ∷ [])) → (BeginsSpec (kinds (ls ++ l ∷ [])) → ⊥) → ⊥
mark_begins ls l e h none =
    let w : fixed sign.Mark ≡ l = cc in
    none (subst (λ z. BeginsSpec (kinds (ls ++ z ∷ []))) w
    (whole_begins (ls ++ fixed sign.Mark ∷ []) h))

-- one reason at one place
same_place : (ls : List Lexeme) (rest : List ℕ) (line : ℕ) (a b : Result (List Lexeme) Refusal) →
    Stops ls rest line a → Stops ls rest line b → a ≡ b
same_place ls rest line _ _ (ended e h) (ended f k) = refl
same_place ls rest line _ _ (ended e h) (marked m i k) = absurd (no_part_at_end e m)
same_place ls rest line _ _ (ended e h) (lexical k) = absurd (no_fault_at_end e k)
same_place ls rest line _ _ (ended e h) (stray m n) = absurd (no_part_at_end e m)
same_place ls rest line _ _ (ended e h) (early f n) = absurd (n h)
same_place ls rest line _ _ (marked m i k) (ended e h) = absurd (no_part_at_end e m)
same_place ls rest line _ _ (marked m i k) (marked n j l) = refl
same_place ls rest line _ _ (marked {after = after} m i k) (lexical f) =
    absurd (f.none (lexeme (fixed sign.Mark)) after m)
same_place ls rest line _ _ (marked {after = r} m i k) (stray {l = l} {after = s} n none) =
    absurd (mark_begins ls l (one_part (lexeme l) (lexeme (fixed sign.Mark)) rest s r n m).part k
    none)
same_place ls rest line _ _ (marked m i k) (early e n) = absurd (no_part_at_end e m)
same_place ls rest line _ _ (lexical k) (ended e h) = absurd (no_fault_at_end e k)
same_place ls rest line _ _ (lexical f) (marked {after = after} m i k) =
    absurd (f.none (lexeme (fixed sign.Mark)) after m)
same_place ls rest line _ _ (lexical {fault = f} h) (lexical {fault = g} k) =
    ap (λ z. Err (refusal z line)) (lexical_one rest f g h.what k.what)
same_place ls rest line _ _ (lexical f) (stray {l = l} {after = after} m n) =
    absurd (f.none (lexeme l) after m)
same_place ls rest line _ _ (lexical f) (early e n) = absurd (no_fault_at_end e f)
same_place ls rest line _ _ (stray m n) (ended e h) = absurd (no_part_at_end e m)
same_place ls rest line _ _ (stray {l = l} {after = s} n none) (marked {after = r} m i k) =
    absurd (mark_begins ls l (one_part (lexeme l) (lexeme (fixed sign.Mark)) rest s r n m).part k
    none)
same_place ls rest line _ _ (stray {l = l} {after = after} m n) (lexical f) =
    absurd (f.none (lexeme l) after m)
same_place ls rest line _ _ (stray m n) (stray i j) = refl
same_place ls rest line _ _ (stray m n) (early e h) = absurd (no_part_at_end e m)
same_place ls rest line _ _ (early f n) (ended e h) = absurd (n h)
same_place ls rest line _ _ (early e n) (marked m i k) = absurd (no_part_at_end e m)
same_place ls rest line _ _ (early e n) (lexical f) = absurd (no_fault_at_end e f)
same_place ls rest line _ _ (early e h) (stray m n) = absurd (no_part_at_end e m)
same_place ls rest line _ _ (early e h) (early f k) = refl

-- where one list of parts goes on from the other's place, it doesn't
together : (bytes : List ℕ) (a b : Result (List Lexeme) Refusal) (x : Outcome bytes a)
    (y : Outcome bytes b) → GoesOn x.comes.parts x.rest y.comes.parts y.rest → a ≡ b
together bytes a b x y g = go g.more g.whole g.cut
  where
    read : (more : List Part) → y.comes.parts ≡ x.comes.parts ++ more →
        y.before ≡ x.before ++ lexemes more
    read more e = sym y.comes.read ∙ ap lexemes e ∙ lexemes_append x.comes.parts more ∙ ap
        (λ z. z ++ lexemes more) x.comes.read

    go : (more : List Part) → y.comes.parts ≡ x.comes.parts ++ more → Cuts x.rest more y.rest →
        a ≡ b
    go [] e c =
        let same : y.before ≡ x.before = read [] e ∙ append-nil x.before in
        let line : y.line ≡ x.line = line_one bytes y.rest y.line x.line y.here
        (subst (λ z. IsLine bytes z x.line) c x.here) in
        let s1 = subst (λ z. Stops z y.rest y.line b) same y.stops in
        let s2 = subst (λ z. Stops x.before z y.line b) (sym c) s1 in
        let s3 = subst (λ z. Stops x.before x.rest z b) line s2 in
        same_place x.before x.rest x.line a b x.stops s3
    go (p ∷ more) e (m, at, c) =
        let same : y.before ≡ x.before ++ lexemes (p ∷ more) = read (p ∷ more) e in
        absurd (stopped x.before x.rest m x.line a p more x.stops at
        (subst (λ z. marks z ≤ 1) same y.comes.unfinished)
        (subst (λ z. BeginsSpec (kinds z)) same y.begun))

pub one_outcome : (bytes : List ℕ) (a b : Result (List Lexeme) Refusal) → Outcome bytes a →
    Outcome bytes b → a ≡ b
one_outcome bytes a b x y = go (agree x.comes.parts y.comes.parts bytes x.rest y.rest x.comes.cut
    y.comes.cut)
  where
    go : GoesOn x.comes.parts x.rest y.comes.parts y.rest ⊎
        GoesOn y.comes.parts y.rest x.comes.parts x.rest → a ≡ b
    go (inl g) = together bytes a b x y g
    go (inr g) = sym (together bytes b a y x g)

-- ---- spelling and outcome

pub outcome_spells : (bytes : List ℕ) (ls : List Lexeme) → Outcome bytes (Ok ls) →
    SpellsSyntax bytes ls
outcome_spells bytes ls o = go ls o.stops
  where
    go : (ls : List Lexeme) → Stops o.before o.rest o.line (Ok ls) → SpellsSyntax bytes ls
    go _ (ended e h) = record {
      cut = at_end (subst (λ z. ComesTo bytes o.before z) e o.comes);
      derived = h;
    }
    go _ (marked m i h) = record { cut = at_mark o.comes i m; derived = h }

line_at : (bytes rest : List ℕ) (ls : List Lexeme) → ComesTo bytes ls rest →
    (line : ℕ) × IsLine bytes rest line
line_at bytes rest ls c =
    let (b, e) = cut_before c.parts bytes rest c.cut in
    (newlines b + 1, record { before = b; whole = e; counted = refl })

pub spells_outcome : (bytes : List ℕ) (ls : List Lexeme) → SpellsSyntax bytes ls →
    Outcome bytes (Ok ls)
spells_outcome bytes ls s = go ls s.cut s.derived
  where
    go : (ls : List Lexeme) → IsCut bytes ls → IsSpec (kinds ls) → Outcome bytes (Ok ls)
    go _ (at_end {ls = ls} c) h =
        let (n, l) = line_at bytes [] ls c in
        record {
          before = ls;
          rest = [];
          line = n;
          comes = c;
          begun = whole_begins ls h;
          here = l;
          stops = ended refl h;
        }
    go _ (at_mark {ls = ls} {before = before} c i m) h =
        let (n, l) = line_at bytes before ls c in
        record {
          before = ls;
          rest = before;
          line = n;
          comes = c;
          begun = begins_front ls
              (fixed sign.Mark ∷ []) (whole_begins (ls ++ fixed sign.Mark ∷ []) h);
          here = l;
          stops =
              marked m i h;
        }
