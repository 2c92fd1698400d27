-- Names in a table.
use Rattle.std.proofs.Common.{ℕ, suc, ◌⊎◌, inl, inr, Bool, true, false, ◌≡◌, ◌≤◌, ◌<◌}
use Rattle.std.proofs.Common.{subst, arith, ◌||◌, cond, List, [], ◌∷◌, ◌++◌, length}
use Rattle.std.proofs.Common.{Some, None, refl, sym, ◌∙◌, ap, is_some, nat_eq, nat_lt, unwrap_or}
use Rattle.std.specs.Str.{bytes_eq}
use Rattle.std.specs.Cmp.Lexicographic.{pointwise, nat_list_eq_equiv, same_text, other_text}
use Rattle.std.proofs.lemmas.List.Folds.{list_any-append}
use Rattle.std.specs.Global.{Vec}
use Rattle.std.specs.HashMap.{HashMap, UpdatesBy, get_by}
use Rattle.std.specs.Map.{KeepsOthers}
use Rattle.ysymbols.specs.Names.{Name, find_in, is_among, with_name, with_names, number_in}
use Rattle.ysymbols.specs.NameTexts.{texts_of, IsNumbered}

pub false_true : false ≡ true → ⊥
false_true h = grind (arith)

pub or_left : (a b : Bool) → a ≡ true → (a || b) ≡ true
or_left true b h = refl
or_left false b h = absurd (false_true h)

pub or_right : (a b : Bool) → b ≡ true → (a || b) ≡ true
or_right true b h = refl
or_right false b h = h

pub number_le : (q : Name) (ns : List Name) → number_in ns q ≤ length ns
number_le q [] = omega arith
number_le q (n ∷ ns) = one (bytes_eq q n) (number_in ns q) (length ns) (number_le q ns)
  where
    one : (b : Bool) (k m : ℕ) → k ≤ m → cond b 0 (suc k) ≤ suc m
    one true k m h = omega arith
    one false k m h = omega arith

pub already : (ns : List Name) (q : Name) → is_among ns q ≡ true → with_name ns q ≡ ns
already ns q f = ap (λ b. cond b ns (ns ++ q ∷ [])) f

same_or : (a b : Name) → (a ≡ b) ⊎ (bytes_eq a b ≡ false)
same_or a b = go (bytes_eq a b) refl
  where
    go : (r : Bool) → bytes_eq a b ≡ r → (a ≡ b) ⊎ (bytes_eq a b ≡ false)
    go true e = inl (same_text a b (sym e))
    go false e = inr e

pub eq_self : (a : Name) → bytes_eq a a ≡ true
eq_self a = go (bytes_eq a a) refl
  where
    go : (r : Bool) → bytes_eq a a ≡ r → bytes_eq a a ≡ true
    go true e = e
    go false e = absurd (other_text a a (sym e) refl)

-- what is among the names, once one more is with_name
pub among_noted : (ns : List Name) (m n : Name) → is_among (with_name ns m) n ≡
    (is_among ns n || bytes_eq n m)
among_noted ns m n = go (is_among ns m) refl
  where
    or_false : (a b : Bool) → b ≡ false → a ≡ (a || b)
    or_false true b e = refl
    or_false false b e = sym e

    or_last : (b : Bool) → (b || false) ≡ b
    or_last true = refl
    or_last false = refl

    held : (n ≡ m) ⊎ (bytes_eq n m ≡ false) → is_among ns m ≡ true → is_among ns n ≡
        (is_among ns n || bytes_eq n m)
    held (inl e) f = ap (is_among ns) e ∙ f ∙ sym
        (ap (λ b. b || bytes_eq n m) (ap (is_among ns) e ∙ f))
    held (inr e) f = or_false (is_among ns n) (bytes_eq n m) e

    go : (r : Bool) → is_among ns m ≡ r → is_among (cond (is_among ns m) ns (ns ++ m ∷ [])) n ≡
        (is_among ns n || bytes_eq n m)
    go true e = rw e (held (same_or n m) e)
    go false e = rw e (list_any-append (bytes_eq n) ns (m ∷ []) ∙ ap (λ b. is_among ns n || b)
        (or_last (bytes_eq n m)))

pub among_all : (ns ms : List Name) (n : Name) → is_among (with_names ns ms) n ≡
    (is_among ns n || is_among ms n)
among_all ns [] n = or_nothing (is_among ns n)
  where
    or_nothing : (b : Bool) → b ≡ (b || false)
    or_nothing true = refl
    or_nothing false = refl
among_all ns (m ∷ ms) n = among_all (with_name ns m) ms n ∙ ap (λ b. b || is_among ms n)
    (among_noted ns m n) ∙ or_assoc (is_among ns n) (bytes_eq n m) (is_among ms n)
  where
    or_assoc : (a b c : Bool) → ((a || b) || c) ≡ (a || (b || c))
    or_assoc true b c = refl
    or_assoc false b c = refl

pub all_append : (ns xs ys : List Name) → with_names ns (xs ++ ys) ≡ with_names (with_names ns xs)
    ys
all_append ns [] ys = refl
all_append ns (x ∷ xs) ys = all_append (with_name ns x) xs ys

pub among_number : (ns : List Name) (n : Name) → is_among ns n ≡ true → number_in ns n < length ns
among_number [] n h = absurd (false_true h)
among_number (m ∷ ns) n h = go (bytes_eq n m) refl (among_number ns n) h
  where
    go : (b : Bool) → bytes_eq n m ≡ b → (is_among ns n ≡ true → number_in ns n < length ns) →
        (bytes_eq n m || is_among ns n) ≡ true → cond (bytes_eq n m) 0 (suc (number_in ns n)) < suc
        (length ns)
    go true q again k = rw q (omega arith)
    go false q again k =
        let r : number_in ns n < length ns = again (subst (λ c. (c || is_among ns n) ≡ true) q k) in
        rw q (omega arith)

pub number_among : (ns : List Name) (n : Name) → number_in ns n < length ns → is_among ns n ≡ true
number_among [] n h = absurd (omega arith)
number_among (m ∷ ns) n h = go (bytes_eq n m) refl (number_among ns n) h
  where
    go : (b : Bool) → bytes_eq n m ≡ b → (number_in ns n < length ns → is_among ns n ≡ true) →
        cond (bytes_eq n m) 0 (suc (number_in ns n)) < suc (length ns) →
        (bytes_eq n m || is_among ns n) ≡ true
    go true q again k = or_left (bytes_eq n m) (is_among ns n) q
    go false q again k = or_right (bytes_eq n m) (is_among ns n)
        (again (let r : suc (number_in ns n) < suc (length ns) =
        subst (λ c. cond c 0 (suc (number_in ns n)) < suc (length ns)) q k in omega arith))

-- where a name is not there, its number is how many there are
absent_number : (ns : List Name) (n : Name) → is_among ns n ≡ false → number_in ns n ≡ length ns
absent_number ns n f = at_most (number_in ns n) (length ns) (number_le n ns)
    (λ l. false_true (sym f ∙ number_among ns n l))
  where
    at_most : (a b : ℕ) → a ≤ b → (a < b → ⊥) → a ≡ b
    at_most a b h k = go (nat_lt a b) refl
      where
        go : (r : Bool) → nat_lt a b ≡ r → a ≡ b
        go true e = absurd (k (grind (arith, e)))
        go false e = grind (arith, e, h)

-- whether a name is found
pub found_among : (ns : List Name) (n : Name) → is_some (find_in ns n) ≡ is_among ns n
found_among ns n = go (is_among ns n)
  where
    go : (b : Bool) → is_some (cond b (Some (number_in ns n)) None) ≡ b
    go true = refl
    go false = refl

-- the number of a name that is found, or how many there are
pub found_number : (ns : List Name) (n : Name) → unwrap_or (find_in ns n) (length ns) ≡ number_in ns n
found_number ns n = go (is_among ns n) refl
  where
    go : (b : Bool) → is_among ns n ≡ b →
        unwrap_or (cond (is_among ns n) (Some (number_in ns n)) None) (length ns) ≡ number_in ns n
    go true e = rw e refl
    go false e = rw e (sym (absent_number ns n e))

last_number : (ns : List Name) (n : Name) → is_among ns n ≡ false →
    number_in (ns ++ n ∷ []) n ≡ length ns
last_number [] n f = rw (eq_self n) refl
last_number (m ∷ ns) n f = go (bytes_eq n m) refl f (last_number ns n)
  where
    go : (b : Bool) → bytes_eq n m ≡ b → (bytes_eq n m || is_among ns n) ≡ false →
        (is_among ns n ≡ false → number_in (ns ++ n ∷ []) n ≡ length ns) →
        cond (bytes_eq n m) 0 (suc (number_in (ns ++ n ∷ []) n)) ≡ suc (length ns)
    go true e g again = absurd (false_true (sym g ∙ or_left (bytes_eq n m) (is_among ns n) e))
    go false e g again = rw e (ap (λ k. suc k)
        (again (subst (λ b. (b || is_among ns n) ≡ false) e g)))

earlier_number : (ns : List Name) (n q : Name) → is_among ns q ≡ true →
    number_in (ns ++ n ∷ []) q ≡ number_in ns q
earlier_number [] n q t = absurd (false_true t)
earlier_number (m ∷ ns) n q t = go (bytes_eq q m) refl t (earlier_number ns n q)
  where
    go : (b : Bool) → bytes_eq q m ≡ b → (bytes_eq q m || is_among ns q) ≡ true →
        (is_among ns q ≡ true → number_in (ns ++ n ∷ []) q ≡ number_in ns q) →
        cond (bytes_eq q m) 0 (suc (number_in (ns ++ n ∷ []) q)) ≡
        cond (bytes_eq q m) 0 (suc (number_in ns q))
    go true e g again = rw e refl
    go false e g again = rw e (ap (λ k. suc k)
        (again (subst (λ b. (b || is_among ns q) ≡ true) e g)))

among_last : (ns : List Name) (n q : Name) →
    is_among (ns ++ n ∷ []) q ≡ (is_among ns q || (bytes_eq q n || false))
among_last ns n q = list_any-append (bytes_eq q) ns (n ∷ [])

-- the last of the names, where it was not among the others
last_found : (ns : List Name) (n : Name) → is_among ns n ≡ false →
    find_in (ns ++ n ∷ []) n ≡ Some (length ns)
last_found ns n f =
    let here : is_among (ns ++ n ∷ []) n ≡ true = among_last ns n n ∙ or_right (is_among ns n)
    (bytes_eq n n || false) (or_left (bytes_eq n n) false (eq_self n)) in
    ap (λ b. cond b (Some (number_in (ns ++ n ∷ []) n)) None) here
    ∙ ap (λ k. Some k) (last_number ns n f)

-- another name is found as before
other_found : (ns : List Name) (n q : Name) → bytes_eq q n ≡ false →
    find_in (ns ++ n ∷ []) q ≡ find_in ns q
other_found ns n q f =
    let same : is_among (ns ++ n ∷ []) q ≡ is_among ns q = among_last ns n q
    ∙ ap (λ b. is_among ns q || (b || false)) f ∙ or_nothing (is_among ns q) in
    ap (λ b. cond b (Some (number_in (ns ++ n ∷ []) q)) None) same ∙ go (is_among ns q) refl
  where
    or_nothing : (b : Bool) → (b || false) ≡ b
    or_nothing true = refl
    or_nothing false = refl

    go : (b : Bool) → is_among ns q ≡ b →
        cond (is_among ns q) (Some (number_in (ns ++ n ∷ []) q)) None ≡
        cond (is_among ns q) (Some (number_in ns q)) None
    go true e = ap (λ k. cond (is_among ns q) (Some k) None) (earlier_number ns n q e)
    go false e = rw e refl

abbrev pub texts_equal : Vec ℕ → Vec ℕ → Bool
texts_equal a b = pointwise nat_eq a.items b.items

-- what a key that tells others apart finds, once one of those is put in
kept_lookup : {S : Type 0} (m w : HashMap (Vec ℕ) ℕ S) (k : Vec ℕ) (q : Name) →
    KeepsOthers texts_equal (texts_equal k) m.entries w.entries → bytes_eq k.items q ≡ false →
    get_by (λ x. bytes_eq q x.items) w ≡ get_by (λ x. bytes_eq q x.items) m
unfolding KeepsOthers
kept_lookup m w k q keeps f = keeps (λ x. bytes_eq q x.items)
    (λ x y t. nat_list_eq_equiv.congr q x.items y.items t)
    (λ x t. nat_list_eq_equiv.symm q x.items ∙ sym (nat_list_eq_equiv.congr k.items x.items q t) ∙ f)

-- a map that has the numbers of names, once the next one is put in
pub numbered_more : {S : Type 0} (ns : List Name) (m w : HashMap (Vec ℕ) ℕ S) (k : Vec ℕ) (n : Name) →
    k.items ≡ n → IsNumbered ns m → is_among ns n ≡ false →
    UpdatesBy texts_equal (texts_equal k) m w (Some (length ns)) → IsNumbered (ns ++ n ∷ []) w
numbered_more ns m w k n is h f u q = go (same_or q n)
  where
    go : (q ≡ n) ⊎ (bytes_eq q n ≡ false) →
        get_by (λ x. bytes_eq q x.items) w ≡ find_in (ns ++ n ∷ []) q
    go (inl e) = subst (λ (p : Name). get_by (λ x. bytes_eq p x.items) w ≡ find_in (ns ++ n ∷ []) p)
        (sym e) (subst (λ (p : Name). get_by (λ x. bytes_eq p x.items) w ≡ Some (length ns)) is u.1
        ∙ sym (last_found ns n f))
    go (inr e) = kept_lookup m w k q u.3
        (nat_list_eq_equiv.symm k.items q ∙ ap (bytes_eq q) is ∙ e)
        ∙ h q ∙ sym (other_found ns n q e)

pub length_texts : (vs : List (Vec ℕ)) → length (texts_of vs) ≡ length vs
length_texts [] = refl
length_texts (v ∷ vs) = ap (λ n. suc n) (length_texts vs)

-- the texts with one more
pub texts_push : (vs : List (Vec ℕ)) (v : Vec ℕ) → texts_of (vs ++ v ∷ []) ≡ texts_of vs ++ v.items ∷ []
texts_push [] v = refl
texts_push (x ∷ vs) v = ap (λ ts. x.items ∷ ts) (texts_push vs v)
