-- The first tokens of a form followed by one token, from the marks and rows of its symbols.
use Rattle.std.proofs.Common.{ℕ, suc, Bool, ◌≡◌, ◌<◌, List, [], ◌∷◌, ◌++◌, length, get_or, take}
use Rattle.std.proofs.Common.{drop, refl, sym, ap, subst, inl, inr, ◌⊎◌, arith}
use Rattle.std.specs.List.{All}
use Rattle.std.proofs.lemmas.List.Elements.{All-nil, All-cons}
use Rattle.ysymbols.specs.Grammar.{ContextFree, IsToken}
use Rattle.ysymbols.specs.Forms.{First}
use Rattle.ysymbols.specs.WellFormed.{WellFormed}
use Rattle.ylalr.specs.Behind.{FormHas}
use Rattle.ybitsets.specs.Marks.{Has}
use Rattle.ybitsets.specs.Rows.{BitRows, Holds}
use Rattle.ylalr.specs.First.{IsNullable, IsFirst}
use Rattle.ylalr.proofs.Vanish.{more, nullable_from_vanishes}
use Rattle.ylalr.proofs.Begins.{Begins, here, over, into, begins_append, begins_past, begins_split}
use Rattle.ylalr.proofs.Begins.{begins_from_first, first_is}
use Rattle.ylalr.proofs.FirstSteps.{marked_form, form_marked, lr0, token_first}

has : {g : ContextFree} {t : ℕ} (n : List Bool) (m : BitRows) {x : List ℕ} → IsNullable g n →
    IsFirst g m → IsToken g t → Begins g t x → FormHas n m x t
has {g = g} {t = t} n m h f k here = record {
  place = 0;
  within = omega arith;
  before =
      All-nil (Has n);
  there = (f t t).1 (token_first g t k);
}
has n m h f k (over {s = s} {x = x} v b) =
    let w = has n m h f k b in
    record {
      place = suc w.place;
      within = (let l = w.within in omega (arith, l));
      before = All-cons (Has n) s (take w.place x) ((h s).1 (nullable_from_vanishes v)) w.before;
      there = w.there;
    }
has {g = g} {t = t} n m h f k (into {s = s} r w e b) =
    record {
      place = 0;
      within = omega arith;
      before = All-nil (Has n);
      there =
          (f s t).1 (first_is g t (s ∷ []) k (into r w e b));
    }

token_begins : {g : ContextFree} {t a : ℕ} → WellFormed g → IsToken g a → Begins g t (a ∷ []) →
    t ≡ a
token_begins w k here = refl
token_begins w k (over (more r h e v z) b) = let l = w.nonterminal r h in absurd (omega arith)
token_begins w k (into r h e b) = let l = w.nonterminal r h in absurd (omega arith)

module _ (g : ContextFree) (w : WellFormed g) (n : List Bool) (m : BitRows) (h : IsNullable g n)
    (f : IsFirst g m) (x : List ℕ) (a b : ℕ) (ka : IsToken g a) (kb : IsToken g b) where
  pub found_first : (k : ℕ) → k < length x → All (Has n) (take k x) → Holds m (get_or x k 0) b →
      First g (x ++ a ∷ []) b
  found_first k l p v =
      let z : Begins g b (take k x ++ get_or x k 0 ∷ drop (suc k) x) =
      begins_past (marked_form g n h (take k x) p) (get_or x k 0 ∷ drop (suc k) x)
      (begins_append (begins_from_first ((f (get_or x k 0) b).0 v)) (drop (suc k) x)) in
      first_is g b (x ++ a ∷ []) kb (begins_append (subst (Begins g b) (sym (lr0 x k l)) z)
      (a ∷ []))

  pub cases : First g (x ++ a ∷ []) b → FormHas n m x b ⊎ (All (Has n) x × (b ≡ a))
  cases c = elim (begins_split x (a ∷ []) (begins_from_first c)) as (λ q. FormHas n m x b ⊎
      (All (Has n) x × (b ≡ a))) [
        | inl y ↦ inl (has n m h f kb y)
        | inr y ↦ inr (form_marked n h y.0, token_begins w ka y.1)
      ]

  pub last_first : All (Has n) x → a ≡ b → First g (x ++ a ∷ []) b
  last_first p e =
      first_is g b (x ++ a ∷ []) kb (begins_past (marked_form g n h x p) (a ∷ [])
      (subst (λ t. Begins g t (a ∷ [])) e here))

pub whole : (P : ℕ → Type 0) (x : List ℕ) (k : ℕ) → k ≡ length x → All P (take k x) → All P x
whole P x k e h = subst (All P) (all x) (subst (λ n. All P (take n x)) e h)
  where
    all : (x : List ℕ) → take (length x) x ≡ x
    all [] = refl
    all (s ∷ x) = ap (λ y. s ∷ y) (all x)
