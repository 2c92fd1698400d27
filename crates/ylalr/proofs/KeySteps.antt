-- Kernels as keys: what a map has of them, once one more is added.
use Rattle.std.proofs.Common.{ℕ, suc, Bool, true, false, ◌≡◌, ◌<◌, ◌+◌, ◌&&◌, nat_eq, ◌⊎◌, inl, inr}
use Rattle.std.proofs.Common.{List, [], ◌∷◌, ◌++◌, length, refl, sym, ◌∙◌, ap, subst}
use Rattle.std.proofs.Common.{arith, Option, Some, None, Decides, MatchOption, IfSome, IfNone}
use Rattle.std.proofs.lemmas.Bool.Decides.{nat_tests}
use Rattle.std.proofs.lemmas.Slice.Eq.{slice_eq-Decides}
use Rattle.std.specs.Global.{Vec}
use Rattle.std.specs.HashMap.{HashMap, UpdatesBy, get_by}
use Rattle.std.specs.Map.{KeepsOthers}
use Rattle.ylalr.specs.declared.items.Item.{Item}
use Rattle.ylalr.specs.States.{AreNumbered, IsKernelAt, Lacks, kernels_of, same_items, set_at}
use Rattle.ylalr.proofs.StateSteps.{push_old, push_new, push_length}

same_item : (a b : Item) → (nat_eq a.rule b.rule && nat_eq a.dot b.dot) ≡ true → a ≡ b
same_item a b h =
    let x : a.rule ≡ b.rule = grind (arith, nat_tests) in
    let y : a.dot ≡ b.dot = grind (arith, nat_tests) in
    λ i. record { rule = x i; dot = y i }

tests_same : (a b : Item) → a ≡ b → (nat_eq a.rule b.rule && nat_eq a.dot b.dot) ≡ true
tests_same a b e =
    let x : a.rule ≡ b.rule = ap (λ (t : Item). t.rule) e in
    let y : a.dot ≡ b.dot = ap (λ (t : Item). t.dot) e in
    grind (arith, nat_tests)

pub item_decides : (a b : Item) → Decides (nat_eq a.rule b.rule && nat_eq a.dot b.dot) (a ≡ b)
item_decides a b = (same_item a b, tests_same a b)

items_decide : (xs ys : List Item) → Decides (same_items xs ys) (xs ≡ ys)
items_decide xs ys = slice_eq-Decides item_decides xs ys (same_items xs ys) refl

pub kernels_length : (vs : List (Vec Item)) → length (kernels_of vs) ≡ length vs
kernels_length [] = refl
kernels_length (v ∷ vs) = ap (λ n. suc n) (kernels_length vs)

pub kernels_push : (vs : List (Vec Item)) (v : Vec Item) →
    kernels_of (vs ++ v ∷ []) ≡ kernels_of vs ++ v.items ∷ []
kernels_push [] v = refl
kernels_push (x ∷ vs) v = ap (λ ks. x.items ∷ ks) (kernels_push vs v)

-- whether two keys have the same items
abbrev pub same_keys : Vec Item → Vec Item → Bool
same_keys a b = same_items a.items b.items

equal_or : (xs ys : List Item) → (xs ≡ ys) ⊎ (same_items xs ys ≡ false)
equal_or xs ys = go (same_items xs ys) refl
  where
    go : (b : Bool) → same_items xs ys ≡ b → (xs ≡ ys) ⊎ (same_items xs ys ≡ false)
    go true e = inl ((items_decide xs ys).0 e)
    go false e = inr e

differs : (xs ys : List Item) → (xs ≡ ys → ⊥) → same_items xs ys ≡ false
differs xs ys f = go (equal_or xs ys)
  where
    go : (xs ≡ ys) ⊎ (same_items xs ys ≡ false) → same_items xs ys ≡ false
    go (inl e) = absurd (f e)
    go (inr e) = e

not_same : (xs ys : List Item) → same_items xs ys ≡ false → xs ≡ ys → ⊥
not_same xs ys f e = (let t = (items_decide xs ys).1 e in cc)

-- what a kernel finds, once another one is put in
kept_number : {S : Type 0} (m w : HashMap (Vec Item) ℕ S) (k : Vec Item) (q : List Item) →
    KeepsOthers same_keys (same_keys k) m.entries w.entries → (k.items ≡ q → ⊥) →
    get_by (λ v. same_items q v.items) w ≡ get_by (λ v. same_items q v.items) m
unfolding KeepsOthers
kept_number m w k q keeps f = keeps (λ v. same_items q v.items)
    (λ x y t. ap (λ (xs : List Item). same_items xs y.items) ((items_decide q x.items).0 t))
    (λ x t. differs q x.items (λ e. f ((items_decide k.items x.items).0 t ∙ sym e)))

last_is : (ks : List (List Item)) (k : List Item) → IsKernelAt (ks ++ k ∷ []) k (length ks)
last_is ks k = (
  (let l = push_length ks k in omega arith),
  push_new ks k [] (length ks) refl,
)

grown_number : (ks : List (List Item)) (k q : List Item) (o : Option ℕ) → (k ≡ q → ⊥) →
    MatchOption o (Lacks ks q) (IsKernelAt ks q) →
    MatchOption o (Lacks (ks ++ k ∷ []) q) (IsKernelAt (ks ++ k ∷ []) q)
grown_number ks k q (Some n) f h = (
  (let l = push_length ks k in let m = h.0 in omega arith),
  push_old ks k [] n h.0 ∙ h.1,
)
grown_number ks k q None f h = λ n l e. go n e (below_or_last n (length ks)
    (subst (λ c. n < c) (push_length ks k) l))
  where
    below_or_last : (a b : ℕ) → a < b + 1 → (a < b) ⊎ (a ≡ b)
    below_or_last a b h = grind (arith)

    go : (n : ℕ) → set_at (ks ++ k ∷ []) n ≡ q → (n < length ks) ⊎ (n ≡ length ks) → ⊥
    go n e (inl l) = h n l (sym (push_old ks k [] n l) ∙ e)
    go n e (inr l) = f (sym (push_new ks k [] n l) ∙ e)

-- what is found at a number, where one was found
pub some_at : (o : Option ℕ) (A : Type 0) (P : ℕ → Type 0) → MatchOption o A P → IfSome o P
some_at None A P h = tt
some_at (Some n) A P h = h

-- what holds where nothing was found
pub none_there : (o : Option ℕ) (A : Type 0) (P : ℕ → Type 0) → MatchOption o A P → IfNone o A
none_there None A P h = h
none_there (Some n) A P h = tt

-- a map that has the numbers of kernels, once the next one is put in
pub numbered_more : {S : Type 0} (ks : List (List Item)) (m w : HashMap (Vec Item) ℕ S)
    (v : Vec Item) (k : List Item) → v.items ≡ k → AreNumbered ks m →
    UpdatesBy same_keys (same_keys v) m w (Some (length ks)) → AreNumbered (ks ++ k ∷ []) w
numbered_more ks m w v k is h u q = go (equal_or k q)
  where
    Here : List Item → Type 0
    Here p = MatchOption (get_by (λ x. same_items p x.items) w) (Lacks (ks ++ k ∷ []) p)
        (IsKernelAt (ks ++ k ∷ []) p)

    go : (k ≡ q) ⊎ (same_items k q ≡ false) → Here q
    go (inl e) = subst Here e (subst (λ (o : Option ℕ). MatchOption o (Lacks (ks ++ k ∷ []) k)
        (IsKernelAt (ks ++ k ∷ []) k)) (sym (subst (λ (p : List Item).
        get_by (λ x. same_items p x.items) w ≡ Some (length ks)) is u.1)) (last_is ks k))
    go (inr e) =
        let apart : k ≡ q → ⊥ = not_same k q e in
        subst (λ (o : Option ℕ). MatchOption o (Lacks (ks ++ k ∷ []) q)
        (IsKernelAt (ks ++ k ∷ []) q)) (sym (kept_number m w v q u.3 (λ e. apart (sym is ∙ e))))
        (grown_number ks k q (get_by (λ x. same_items q x.items) m) apart (h q))
