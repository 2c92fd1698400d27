-- Blanks and comments before a lexeme: only one gap ends where they do.
use Rattle.std.proofs.Common.{ℕ, ◌≡◌, true, false, List, [], ◌∷◌, ◌++◌, refl, sym, ap, ◌∙◌, subst}
use Rattle.std.proofs.Common.{arith, append_assoc, append-nil}
use Rattle.std.proofs.lemmas.Bool.{eqb-false}
use Rattle.std.proofs.lemmas.Bool.Decides.{nat_tests}
use Rattle.ylexemes.specs.Bytes.{is_blank, is_name_byte, begins, IsComment, IsGap, nothing, blank}
use Rattle.ylexemes.specs.Bytes.{comment}
use Rattle.ylexemes.proofs.Runs.{heads_are, tails_are, between_one, between_begins}

pub blank_is_no_name : (b : ℕ) → is_blank b ≡ true → is_name_byte b ≡ false
blank_is_no_name b h = grind (arith, nat_tests)

pub gap_join : (g h : List ℕ) → IsGap g → IsGap h → IsGap (g ++ h)
gap_join _ h nothing q = q
gap_join _ h (blank {b = b} {gap = g} e p) q = blank e (gap_join g h p q)
gap_join _ h (comment {text = t} {gap = g} c p) q = subst IsGap (sym (append_assoc t g h))
    (comment c (gap_join g h p q))

-- no name byte follows a name that a gap and a colon follow
pub gap_first : (g s : List ℕ) → IsGap g → begins is_name_byte (g ++ 58 ∷ s) ≡ false
gap_first _ s nothing = refl
gap_first _ s (blank {b = b} {gap = g} e p) = blank_is_no_name b e
gap_first _ s (comment {text = t} {gap = g} c p) =
    let (more, w) = between_begins 47 42 42 47 t c in
    ap (λ z. begins is_name_byte ((z ++ g) ++ 58 ∷ s)) w

pub gap_one : (g h x s : List ℕ) → IsGap g → IsGap h → begins is_blank x ≡ false →
    ((text after : List ℕ) → IsComment text → x ≡ text ++ after → ⊥) → g ++ x ≡ h ++ 58 ∷ s →
    (g ≡ h) × (x ≡ 58 ∷ s)
gap_one _ _ x s nothing nothing nb nc e = (refl, e)
gap_one _ _ x s nothing (blank {b = b} {gap = h} hb p) nb nc e =
    let w : begins is_blank x ≡ is_blank b = ap (begins is_blank) e in
    let v : false ≡ true = sym nb ∙ w ∙ hb in absurd (let z : ⊥ = cc in z)
gap_one _ _ x s nothing (comment {text = t} {gap = h} c p) nb nc e =
    absurd (nc t (h ++ 58 ∷ s) c (e ∙ append_assoc t h (58 ∷ s)))
gap_one _ _ x s (blank {b = b} {gap = g} hb p) nothing nb nc e =
    let k : b ≡ 58 = heads_are b 58 (g ++ x) s e in
    let v : false ≡ true = sym (ap is_blank k) ∙ hb in absurd (let z : ⊥ = cc in z)
gap_one _ _ x s (blank {b = b} {gap = g} hb p) (blank {b = c} {gap = h} hc q) nb nc e =
    let k : b ≡ c = heads_are b c (g ++ x) (h ++ 58 ∷ s) e in
    let r = gap_one g h x s p q nb nc (tails_are b c (g ++ x) (h ++ 58 ∷ s) e) in
    let r0 : g ≡ h = r.0 in
    (cc, r.1)
gap_one _ _ x s (blank {b = b} {gap = g} hb p) (comment {text = t} {gap = h} c q) nb nc e =
    let (more, w) = between_begins 47 42 42 47 t c in
    let k : b ≡ 47 = heads_are b 47 (g ++ x) ((42 ∷ more ++ h) ++ 58 ∷ s)
    (e ∙ ap (λ z. (z ++ h) ++ 58 ∷ s) w) in
    let v : false ≡ true = sym (ap is_blank k) ∙ hb in absurd (let z : ⊥ = cc in z)
gap_one _ _ x s (comment {text = t} {gap = g} c p) nothing nb nc e =
    let (more, w) = between_begins 47 42 42 47 t c in
    absurd (eqb-false 47 58 refl (heads_are 47 58 ((42 ∷ more ++ g) ++ x) s
    (sym (ap (λ z. (z ++ g) ++ x) w) ∙ e)))
gap_one _ _ x s (comment {text = t} {gap = g} c p) (blank {b = b} {gap = h} hb q) nb nc e =
    let (more, w) = between_begins 47 42 42 47 t c in
    let k : 47 ≡ b = heads_are 47 b ((42 ∷ more ++ g) ++ x) (h ++ 58 ∷ s)
    (sym (ap (λ z. (z ++ g) ++ x) w) ∙ e) in
    let v : false ≡ true = ap is_blank k ∙ hb in absurd (let z : ⊥ = cc in z)
gap_one _ _ x s (comment {text = t} {gap = g} c p) (comment {text = u} {gap = h} d q) nb nc e =
    let b = between_one 47 42 42 47 t u (g ++ x) (h ++ 58 ∷ s) c d
    (sym (append_assoc t g x) ∙ e ∙ append_assoc u h (58 ∷ s)) in
    let r = gap_one g h x s p q nb nc b.1 in
    let b0 : t ≡ u = b.0 in
    let r0 : g ≡ h = r.0 in
    (cc, r.1)

-- the bytes are blanks and comments up to the rest
pub record GapSoFar (bytes rest : List ℕ) : Type 0 where
  pub gap : List ℕ
  pub whole : bytes ≡ gap ++ rest
  pub skipped : IsGap gap

pub gap_none : (bytes : List ℕ) → GapSoFar bytes bytes
gap_none bytes = record { gap = []; whole = refl; skipped = nothing }

pub gap_blank : (bytes rest tail : List ℕ) (b : ℕ) → GapSoFar bytes rest → rest ≡ b ∷ tail →
    is_blank b ≡ true → GapSoFar bytes tail
gap_blank bytes rest tail b g e h = record {
  gap = g.gap ++ b ∷ [];
  whole = g.whole ∙ ap (λ z. g.gap ++ z) e ∙ sym (append_assoc g.gap (b ∷ []) tail);
  skipped = gap_join g.gap (b ∷ []) g.skipped (blank h nothing);
}

pub gap_comment : (bytes rest tail text : List ℕ) → GapSoFar bytes rest → IsComment text →
    rest ≡ text ++ tail → GapSoFar bytes tail
gap_comment bytes rest tail text g c e = record {
  gap = g.gap ++ (text ++ []);
  whole = g.whole ∙ ap (λ z. g.gap ++ z) (e ∙ ap (λ z. z ++ tail) (sym (append-nil text))) ∙ sym
      (append_assoc g.gap (text ++ []) tail);
  skipped = gap_join g.gap (text ++ []) g.skipped (comment c nothing);
}
