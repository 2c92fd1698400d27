-- Lists of rules, one for each symbol.
use Rattle.std.proofs.Common.{ℕ, zero, suc, ◌≡◌, ◌≢◌, ◌<◌, ◌+◌, ◌⊎◌, List, [], ◌∷◌, ◌++◌, length}
use Rattle.std.proofs.Common.{get_or, slice_index, refl, sym, ◌∙◌, ap, subst, inl, inr, arith}
use Rattle.std.proofs.Common.{rules, get_or-set_other, get_or-set_same}
use Rattle.std.proofs.Common.{Vec}
use Rattle.std.specs.Global.{Global}
use Rattle.std.proofs.lemmas.List.{length-map}
use Rattle.std.proofs.Math.ListN.{set, length-set}
use Rattle.std.specs.List.{Contains}
use Rattle.std.proofs.lemmas.List.Elements.{Contains-append_left, Contains-push, Contains-get_or}
use Rattle.std.proofs.lemmas.List.Elements.{Contains-push_cases}
use Rattle.ysymbols.specs.Grammar.{Production, RuleValue}
use Rattle.ysymbols.specs.Marking.{IsFiled, IsFiledEach, AreListed, items_of, list_at, lists_of}
use Rattle.ysymbols.specs.Marking.{rule_at}
use Rattle.ysymbols.proofs.MarkingSteps.{alone}
use Rattle.ysymbols.proofs.Numbers.{below_or_last}
use Rattle.std.proofs.lemmas.Bool.{cases_eq}

at_other : (ls : List (List ℕ)) (s t : ℕ) (l : List ℕ) → t ≢ s → get_or (set ls s l) t [] ≡ get_or
    ls t []
at_other ls s t l n = get_or-set_other ls s t l [] n

at_same : (ls : List (List ℕ)) (s t : ℕ) (l : List ℕ) → s < length ls → t ≡ s →
    get_or (set ls s l) t [] ≡ l
at_same ls s t l h e = ap (λ (u : ℕ). get_or (set ls s l) u []) e ∙ get_or-set_same ls s l [] h

kept_by : (ls : List (List ℕ)) (s r t q : ℕ) → s < length ls → (t ≡ s) ⊎
    (t ≢ s) → Contains (get_or ls t []) q →
    Contains (get_or (set ls s (get_or ls s [] ++ r ∷ [])) t []) q
kept_by ls s r t q h (inl e) k = subst (λ (x : List ℕ). Contains x q)
    (sym (at_same ls s t (get_or ls s [] ++ r ∷ []) h e)) (Contains-append_left (get_or ls s [])
    (r ∷ []) q (subst (λ (u : ℕ). Contains (get_or ls u []) q) e k))
kept_by ls s r t q h (inr n) k = subst (λ (x : List ℕ). Contains x q)
    (sym (at_other ls s t (get_or ls s [] ++ r ∷ []) n)) k

pushed : (ls : List (List ℕ)) (s r t q : ℕ) → t ≡ s → Contains (get_or ls s []) q ⊎
    (r ≡ q) → Contains (get_or ls t []) q ⊎ ((t ≡ s) × (q ≡ r))
pushed ls s r t q e (inl c) = inl (subst (λ (u : ℕ). Contains (get_or ls u []) q) (sym e) c)
pushed ls s r t q e (inr d) = inr (e, sym d)

only_by : (ls : List (List ℕ)) (s r t q : ℕ) → s < length ls → (t ≡ s) ⊎
    (t ≢ s) → Contains (get_or (set ls s (get_or ls s [] ++ r ∷ [])) t []) q →
    Contains (get_or ls t []) q ⊎ ((t ≡ s) × (q ≡ r))
only_by ls s r t q h (inl e) k = pushed ls s r t q e (Contains-push_cases (get_or ls s []) r q
    (subst (λ (x : List ℕ). Contains x q) (at_same ls s t (get_or ls s [] ++ r ∷ []) h e) k))
only_by ls s r t q h (inr n) k =
    inl (subst (λ (x : List ℕ). Contains x q) (at_other ls s t (get_or ls s [] ++ r ∷ []) n) k)

pub filed : (ls : List (List ℕ)) (s r : ℕ) → s < length ls → IsFiled s r ls
    (set ls s (get_or ls s [] ++ r ∷ []))
filed ls s r h = record {
  sized = length-set ls s (get_or ls s [] ++ r ∷ []);
  here = subst (λ (x : List ℕ). Contains x r)
      (sym (at_same ls s s (get_or ls s [] ++ r ∷ []) h refl)) (Contains-push (get_or ls s []) r);
  kept = λ t q k. kept_by ls s r t q h (cases_eq t s) k;
  only = λ t q k. only_by ls s r t q h (cases_eq t s) k;
}

none_in : (q : ℕ) → Contains [] q → ⊥
none_in q (k, h, e) = omega arith

each_only : (ls : List (List ℕ)) (ls0 : List (List ℕ)) (body : List ℕ) (r t q s : ℕ) →
    Contains body s →
    (Contains (list_at ls t) q → Contains (list_at ls0 t) q ⊎ (Contains body t × (q ≡ r))) →
    Contains (list_at ls t) q ⊎ ((t ≡ s) × (q ≡ r)) →
    Contains (list_at ls0 t) q ⊎ (Contains body t × (q ≡ r))
each_only ls ls0 body r t q s m f (inl c) = f c
each_only ls ls0 body r t q s m f (inr e) = inr (subst (Contains body) (sym e.0) m, e.1)

here_by : (body : List ℕ) (r i s k : ℕ) (ls2 : List (List ℕ)) → s ≡ get_or body i 0 →
    Contains (list_at ls2 s) r → (k ≡ i) → Contains (list_at ls2 (get_or body k 0)) r
here_by body r i s k ls2 e c h = subst (λ (u : ℕ). Contains (list_at ls2 u) r)
    (e ∙ ap (λ (j : ℕ). get_or body j 0) (sym h)) c

-- the rule was added to the lists of the first symbols of the body
pub record FiledSoFar (body : List ℕ) (i r : ℕ) (lists lists2 : List (List ℕ)) : Type 0 where
  pub sized : length lists2 ≡ length lists
  pub here : (k : ℕ) → k < i → Contains (list_at lists2 (slice_index body k)) r
  pub kept : (t q : ℕ) → Contains (list_at lists t) q → Contains (list_at lists2 t) q
  pub only : (t q : ℕ) → Contains (list_at lists2 t) q →
      Contains (list_at lists t) q ⊎ (Contains body t × (q ≡ r))

filed_here : (body : List ℕ) (i r s : ℕ) (ls0 ls ls2 : List (List ℕ)) → s ≡ slice_index body i →
    FiledSoFar body i r ls0 ls → IsFiled s r ls ls2 → (k : ℕ) → (k < i) ⊎
    (k ≡ i) → Contains (list_at ls2 (slice_index body k)) r
filed_here body i r s ls0 ls ls2 e f g k (inl h) = g.kept (slice_index body k) r (f.here k h)
filed_here body i r s ls0 ls ls2 e f g k (inr h) = here_by body r i s k ls2 e g.here h

pub filed_more : (body : List ℕ) (i r s : ℕ) (ls0 ls ls2 : List (List ℕ)) → i < length body →
    s ≡ slice_index body i → FiledSoFar body i r ls0 ls → IsFiled s r ls ls2 →
    FiledSoFar body (i + 1) r ls0 ls2
filed_more body i r s ls0 ls ls2 l e f g = record {
  sized = g.sized ∙ f.sized;
  here = λ k h. filed_here body i r s ls0 ls ls2 e f g k (below_or_last k i h);
  kept = λ t q k. g.kept t q (f.kept t q k);
  only = λ t q k. each_only ls ls0 body r t q s
      (subst (Contains body) (sym e) (Contains-get_or body i 0 l)) (f.only t q) (g.only t q k);
}

alone_only : (ls : List (List ℕ)) (r t q s : ℕ) → Contains (list_at ls t) q ⊎
    ((t ≡ s) × (q ≡ r)) → Contains (list_at ls t) q ⊎ (Contains (s ∷ []) t × (q ≡ r))
alone_only ls r t q s (inl c) = inl c
alone_only ls r t q s (inr e) =
    inr (subst (Contains (s ∷ [])) (sym e.0) (Contains-get_or (s ∷ []) 0 0 (omega arith)), e.1)

-- one symbol as a part
pub filed_alone : {s r : ℕ} {ls ls2 : List (List ℕ)} → IsFiled s r ls ls2 →
    IsFiledEach (s ∷ []) r ls ls2
filed_alone {s = s} {r = r} {ls = ls} {ls2 = ls2} f = record {
  sized = f.sized;
  here = alone (λ t. Contains (list_at ls2 t) r) s f.here;
  kept = f.kept;
  only = λ t q k. alone_only ls r t q s (f.only t q k);
}

pub listed_none : {part : Production → List ℕ} (rules : List RuleValue) (n : ℕ)
    (ls : List (List ℕ)) → length ls ≡ n → ((s : ℕ) → list_at ls s ≡ []) →
    AreListed part rules 0 n ls
listed_none rules n ls e f = record {
  sized = e;
  within = λ s q c. absurd (none_in q (subst (λ (x : List ℕ). Contains x q) (f s) c));
  each = λ r k h l. absurd (omega arith);
}

-- so are the lists that the code has
pub started : {part : Production → List ℕ} (rules : List RuleValue) (n : ℕ)
    (lists : Vec (Vec ℕ Global) Global) → length lists.items ≡ n →
    ((s : ℕ) → list_at (lists_of lists) s ≡ []) →
    record { sized : length lists.items ≡ n; filed : AreListed part rules 0 n (lists_of lists) }
started rules n lists e f = record {
  sized = e;
  filed = listed_none rules n (lists_of lists) (length-map lists.items items_of ∙ e) f;
}

below_next : (q r : ℕ) → (q < r) ⊎ (q ≡ r) → q < r + 1
below_next q r (inl h) = omega arith
below_next q r (inr h) = omega arith

module _ {part : Production → List ℕ} (rules : List RuleValue) (r n : ℕ) (body : List ℕ)
    (ls ls2 : List (List ℕ)) (e : body ≡ part (rule_at rules r))
    (o : AreListed part rules r n ls) (f : IsFiledEach body r ls ls2) where
  within_next : (s q : ℕ) → Contains (list_at ls s) q ⊎ (Contains body s × (q ≡ r)) →
      (q < r + 1) × Contains (part (rule_at rules q)) s
  within_next s q (inl c) = let p = o.within s q c in (below_next q r (inl p.0), p.1)
  within_next s q (inr p) = (
    below_next q r (inr p.1),
    subst (λ (u : ℕ). Contains (part (rule_at rules u)) s) (sym p.1)
        (subst (λ (x : List ℕ). Contains x s) e p.0),
  )

  each_next : (q k : ℕ) → (q < r) ⊎ (q ≡ r) → k < length (part (rule_at rules q)) →
      Contains (list_at ls2 (slice_index (part (rule_at rules q)) k)) q
  each_next q k (inl h) l = f.kept (slice_index (part (rule_at rules q)) k) q (o.each q k h l)
  each_next q k (inr h) l =
      subst (λ (u : ℕ). k < length (part (rule_at rules u)) →
      Contains (list_at ls2 (slice_index (part (rule_at rules u)) k)) u) (sym h)
      (λ j. subst (λ (x : List ℕ). k < length x → Contains (list_at ls2 (slice_index x k)) r) e
      (f.here k) j) l

  pub listed_more : AreListed part rules (r + 1) n ls2
  listed_more = record {
    sized = f.sized ∙ o.sized;
    within = λ s q c. within_next s q (f.only s q c);
    each = λ q k h l. each_next q k (below_or_last q r h) l;
  }

pub pushed_empty : (ls : List (List ℕ)) (s : ℕ) → ((t : ℕ) → get_or ls t [] ≡ []) →
    get_or (ls ++ [] ∷ []) s [] ≡ []
pushed_empty [] zero f = refl
pushed_empty [] (suc s) f = refl
pushed_empty (l ∷ ls) zero f = f 0
pushed_empty (l ∷ ls) (suc s) f = pushed_empty ls s (λ t. f (suc t))
