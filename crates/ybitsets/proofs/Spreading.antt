-- Rows that are being spread: what they have reaches them, and each row waits or has given.
use Rattle.std.proofs.Common.{ℕ, zero, suc, Bool, true, false, ◌≡◌, ◌≢◌, ◌<◌, ◌≤◌, ◌+◌, ◌*◌, ◌⊎◌}
use Rattle.std.proofs.Common.{◌↔◌, List, [], ◌∷◌}
use Rattle.std.proofs.Common.{◌++◌, length, get_or, take, refl, sym, ◌∙◌, ap, subst, inl, inr}
use Rattle.std.proofs.Common.{arith, get_or-set_same, get_or-set_other}
use Rattle.std.proofs.Math.ListN.{set, length-set}
use Rattle.std.specs.List.{Contains}
use Rattle.std.proofs.lemmas.List.Elements.{Contains-push, Contains-push_cases}
use Rattle.std.proofs.lemmas.List.Elements.{Contains-append_left}
use Rattle.ybitsets.specs.Rows.{BitRows, Holds, IsSized, room, AddsFrom}
use Rattle.ybitsets.specs.Marks.{Has}
use Rattle.ybitsets.specs.Waiting.{waiting_in}
use Rattle.ybitsets.specs.Links.{AreLinks, Reaches, given, passed, PassesOn, IsSpread}
use Rattle.ybitsets.specs.Spread.{SameRow, Gives}
use Rattle.ybitsets.proofs.WaitingSteps.{marked_still, nearer}
use Rattle.std.proofs.lemmas.Bool.{cases_eq}

pub record Spreading (l : List (List ℕ)) (m n : BitRows) (w : List Bool) : Type 0 where
  pub sized : IsSized m.height m.width n
  pub marks : length w ≡ m.height
  pub sound : (r c : ℕ) → Holds n r c → Reaches l m r c
  pub kept : (r c : ℕ) → Holds m r c → Holds n r c
  pub waits : (p : ℕ) → p < m.height → PassesOn l n p ⊎ Has w p

-- no row has given yet
pub spreading_none : (l : List (List ℕ)) (m : BitRows) (w : List Bool) → length w ≡ m.height →
    ((p : ℕ) → p < m.height → Has w p) → Spreading l m m w
spreading_none l m w e every = record {
  sized = record { rows = refl; columns = refl };
  marks = e;
  sound = λ r c h. given h;
  kept = λ r c h. h;
  waits = λ p h. inr (every p h);
}

-- the row in front has given
pub spreading_give : (l : List (List ℕ)) (m n o : BitRows) (v w x : List Bool) (p : ℕ) →
    Spreading l m n v → w ≡ set v p false →
    Gives (get_or l p []) p n w o x → Spreading l m o x
spreading_give l m n o v w x p s ew g = record {
  sized = record {
    rows = g.sized.rows ∙ s.sized.rows;
    columns = g.sized.columns ∙ s.sized.columns;
  };
  marks = g.marks ∙ ap (λ (y : List Bool). length y) ew ∙ length-set v p false ∙ s.marks;
  sound = sound;
  kept = λ r c h. (g.adds r c).1 (inl (s.kept r c h));
  waits = λ r h. waits r (cases_eq r p) (s.waits r h) (g.waits r);
}
  where
    sound : (r c : ℕ) → Holds o r c → Reaches l m r c
    sound r c h = go ((g.adds r c).0 h)
      where
        go : Holds n r c ⊎ (Contains (get_or l p []) r × Holds n p c) → Reaches l m r c
        go (inl k) = s.sound r c k
        go (inr k) = passed (s.sound p c k.1) k.0

    old : (c : ℕ) → Holds o p c → Holds n p c
    old c h = go ((g.adds p c).0 h)
      where
        go : Holds n p c ⊎ (Contains (get_or l p []) p × Holds n p c) → Holds n p c
        go (inl k) = k
        go (inr k) = k.1

    given_on : PassesOn l o p
    given_on t c k h = (g.adds t c).1 (inr (k, old c h))

    waits : (r : ℕ) → (r ≡ p) ⊎ (r ≢ p) → PassesOn l n r ⊎ Has v r → SameRow n o r ⊎
        Has x r → PassesOn l o r ⊎ Has x r
    waits r (inl q) a b = inl (subst (PassesOn l o) (sym q) given_on)
    waits r (inr q) a (inr b) = inr b
    waits r (inr q) (inl a) (inl b) = inl (λ t c k h. (g.adds t c).1 (inl (a t c k (b c h))))
    waits r (inr q) (inr a) (inl b) =
        inr (g.kept r (subst (λ (y : List Bool). Has y r) (sym ew) (marked_still v p r q a)))

-- no row waits
pub spreading_end : (l : List (List ℕ)) (m n : BitRows) (w : List Bool) → Spreading l m n w →
    ((p : ℕ) → Has w p → ⊥) → IsSpread l m n
spreading_end l m n w s e r c = (s.sound r c, back)
  where
    go : {r c : ℕ} → Reaches l m r c → Holds n r c
    go (given h) = s.kept _ _ h
    go (passed {p = p} {t = t} {c = c} z k) = let h = go z in
        on (s.waits p (subst (λ i. p < i) s.sized.rows h.row)) t c k h
      where
        on : PassesOn l n p ⊎ Has w p → PassesOn l n p
        on (inl a) = a
        on (inr a) = absurd (e p a)

    back : Reaches l m r c → Holds n r c
    back z = go z

-- one more row got what row p has
adds_push : (to : List ℕ) (p t : ℕ) (m n o : BitRows) →
    ((r c : ℕ) → Holds n r c ↔ (Holds m r c ⊎ (Contains to r × Holds m p c))) → AddsFrom n o t n p →
    (r c : ℕ) → Holds o r c ↔ (Holds m r c ⊎ (Contains (to ++ t ∷ []) r × Holds m p c))
adds_push to p t m n o a b r c = (down, up)
  where
    own : Holds m p c ⊎ (Contains to p × Holds m p c) → Holds m p c
    own (inl h) = h
    own (inr h) = h.1

    old : Holds m r c ⊎ (Contains to r × Holds m p c) → Holds m r c ⊎
        (Contains (to ++ t ∷ []) r × Holds m p c)
    old (inl h) = inl h
    old (inr h) = inr (Contains-append_left to (t ∷ []) r h.0, h.1)

    down : Holds o r c → Holds m r c ⊎ (Contains (to ++ t ∷ []) r × Holds m p c)
    down h = go ((b r c).0 h)
      where
        go : Holds n r c ⊎ ((r ≡ t) × Holds n p c) → Holds m r c ⊎
            (Contains (to ++ t ∷ []) r × Holds m p c)
        go (inl k) = old ((a r c).0 k)
        go (inr k) = inr (
          subst (λ i. Contains (to ++ t ∷ []) i) (sym k.0) (Contains-push to t),
          own ((a p c).0 k.1),
        )

    up : Holds m r c ⊎ (Contains (to ++ t ∷ []) r × Holds m p c) → Holds o r c
    up (inl h) = (b r c).1 (inl ((a r c).1 (inl h)))
    up (inr h) = go (Contains-push_cases to t r h.0)
      where
        go : Contains to r ⊎ (t ≡ r) → Holds o r c
        go (inl k) = (b r c).1 (inl ((a r c).1 (inr (k, h.1))))
        go (inr k) = (b r c).1 (inr (sym k, (a p c).1 (inl h.1)))

pub gives_same : (to : List ℕ) (p t : ℕ) (m n o : BitRows) (v w x : List Bool) → Gives to p m v n w →
    AddsFrom n o t n p → o ≡ n → x ≡ w → Gives (to ++ t ∷ []) p m v o x
gives_same to p t m n o v w x g a eo ex = subst (λ (y : List Bool). Gives (to ++ t ∷ []) p m v o y)
    (sym ex) (record {
      sized = subst (IsSized m.height m.width) (sym eo) g.sized;
      marks = g.marks;
      adds = λ r c. adds_push to p t m n o g.adds a r c;
      waits = λ r. subst (λ (y : BitRows). SameRow m y r ⊎ Has w r) (sym eo) (g.waits r);
      kept = g.kept;
      fewer = subst (λ (y : BitRows). room y ≤ room m) (sym eo) g.fewer;
      calm = subst (λ (y : BitRows). (room y < room m) ⊎ (w ≡ v)) (sym eo) g.calm;
    })

-- row t grew, and waits
pub gives_grew : (to : List ℕ) (p t : ℕ) (m n o : BitRows) (v w x : List Bool) → Gives to p m v n w →
    AddsFrom n o t n p → IsSized n.height n.width o → room o < room n →
    x ≡ set w t true → t < length w → Gives (to ++ t ∷ []) p m v o x
gives_grew to p t m n o v w x g a es less ex h = record {
  sized = record { rows = es.rows ∙ g.sized.rows; columns = es.columns ∙ g.sized.columns };
  marks = ap (λ (y : List Bool). length y) ex ∙ length-set w t true ∙ g.marks;
  adds = λ r c. adds_push to p t m n o g.adds a r c;
  waits = λ r. waits r (cases_eq r t) (g.waits r);
  kept = λ r z. kept r (cases_eq r t) (g.kept r z);
  fewer = (let y = g.fewer in omega arith);
  calm = inl (let y = g.fewer in omega arith);
}
  where
    there : Has x t
    there = subst (λ (y : List Bool). Has y t) (sym ex) (get_or-set_same w t true false h)

    kept : (r : ℕ) → (r ≡ t) ⊎ (r ≢ t) → Has w r → Has x r
    kept r (inl q) z = subst (Has x) (sym q) there
    kept r (inr q) z = subst (λ (y : List Bool). Has y r) (sym ex)
        (get_or-set_other w t r true false q ∙ z)

    same : (r c : ℕ) → r ≢ t → Holds o r c → Holds n r c
    same r c q h = go ((a r c).0 h)
      where
        go : Holds n r c ⊎ ((r ≡ t) × Holds n p c) → Holds n r c
        go (inl k) = k
        go (inr k) = absurd (q k.0)

    waits : (r : ℕ) → (r ≡ t) ⊎ (r ≢ t) → SameRow m n r ⊎ Has w r → SameRow m o r ⊎
        Has x r
    waits r (inl q) b = inr (subst (Has x) (sym q) there)
    waits r (inr q) (inl b) = inl (λ c h. b c (same r c q h))
    waits r (inr q) (inr b) = inr (kept r (inr q) b)

-- taking a row that waits, and having it give, brings the end nearer
pub spread_nearer : (l : List (List ℕ)) (n o : BitRows) (v w x : List Bool) (p : ℕ) → Has v p →
    w ≡ set v p false → Gives (get_or l p []) p n w o x →
    room o * (length x + 1) + waiting_in x < room n * (length v + 1) + waiting_in v
spread_nearer l n o v w x p h ew g = nearer (room n) (room o) v w x p h ew g.marks g.fewer g.calm

pub linked_at : (n : ℕ) (l : List (List ℕ)) (p k : ℕ) (xs : List ℕ) → AreLinks n l →
    xs ≡ get_or l p [] → k < length xs → get_or xs k 0 < n
linked_at n l p k xs a e h = a.within p (get_or xs k 0) (subst (λ ys. Contains ys (get_or xs k 0)) e
    (k, h, default xs k (get_or xs k 0) 0 h))
  where
    default : (xs : List ℕ) (k d e : ℕ) → k < length xs → get_or xs k d ≡ get_or xs k e
    default [] k d e h = absurd (omega arith)
    default (x ∷ xs) zero d e h = refl
    default (x ∷ xs) (suc k) d e h = default xs k d e (omega arith)

pub take_all : (xs : List ℕ) (k : ℕ) → length xs ≤ k → take k xs ≡ xs
take_all [] zero h = refl
take_all [] (suc k) h = refl
take_all (x ∷ xs) zero h = absurd (omega arith)
take_all (x ∷ xs) (suc k) h = ap (λ ys. x ∷ ys) (take_all xs k (omega arith))
