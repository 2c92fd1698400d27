-- The first byte of bytes, and what follows it.
use Rattle.std.proofs.Common.{ℕ, ◌≡◌, ◌<◌, Bool, true, false, eqb, List, [], ◌∷◌, ◌++◌, length}
use Rattle.std.proofs.Common.{drop, get_or, Option, Some, None, MatchOption, Bor, sym, ap, ◌∙◌}
use Rattle.std.proofs.Common.{arith}
use Rattle.std.proofs.lemmas.Bool.{eqb-true, eqb-false}
use Rattle.ylexemes.specs.Bytes.{begins, IsComment}
use Rattle.ylexemes.specs.Views.{pair_after, slice_of}
use Rattle.ylexemes.proofs.Runs.{between_after, between_made}

pub first_is : (n : ℕ) (bytes tail : List ℕ) → begins (λ b. eqb b n) bytes ≡ true →
    tail ≡ drop 1 bytes → bytes ≡ n ∷ tail
first_is n [] tail h e = cc
first_is n (b ∷ bytes) tail h e = let w : b ≡ n = eqb-true b n h in cc

pub c_identifier_is : (bytes tail : List ℕ) → 0 < length bytes → tail ≡ drop 1 bytes →
    bytes ≡ get_or bytes 0 0 ∷ tail
c_identifier_is [] tail h e = absurd (omega arith)
c_identifier_is (b ∷ bytes) tail h e = ap (λ z. b ∷ z) (sym e)

pub some_length : (bytes : List ℕ) (r : Bool) → r ≡ eqb (length bytes) 0 → r ≡ false →
    0 < length bytes
some_length bytes r e f = let w = eqb-false (length bytes) 0 (sym e ∙ f) in omega (arith, w)

pub comment_answer : (bytes more : List ℕ) (o : Option (Bor (List ℕ))) → bytes ≡ 47 ∷ 42 ∷ more →
    slice_of o ≡ pair_after 42 47 more
    → MatchOption o ((text rest : List ℕ) → IsComment text → bytes ≡ text ++ rest → ⊥) (λ rest.
    (text : List ℕ) × IsComment text × (bytes ≡ text ++ rest.now))
comment_answer bytes more None e h = λ text rest c w. let z : None ≡ Some rest =
    h ∙ between_after 47 42 42 47 text rest more c (sym w ∙ e) in cc
comment_answer bytes more (Some r) e h = let (t, w, c) = between_made 47 42 42 47 more r.now
    (sym h) in (t, c, e ∙ w)
