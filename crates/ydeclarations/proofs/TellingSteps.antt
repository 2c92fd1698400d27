-- What the listings say of a token, listing by listing.
use Rattle.std.proofs.Common.{ℕ, suc, Bool, true, false, cond, ◌≡◌, ◌<◌, ◌≤◌, List, [], ◌∷◌}
use Rattle.std.proofs.Common.{◌++◌, length, Option, Some, None, refl, sym, ◌∙◌, ap, subst, arith}
use Rattle.std.proofs.Common.{get_or, get_or-set_other, get_or-set_same, length-set}
use Rattle.std.proofs.Common.{is_some, map, drop, ◌+◌}
use Rattle.std.proofs.lemmas.List.{drop_more, get_or_read}
use Rattle.ydeclarations.specs.declared.outline.Listed.{Listed}
use Rattle.ydeclarations.specs.Outline.{listed_view}
use Rattle.std.proofs.Math.ListN.{set}
use Rattle.std.specs.Str.{bytes_eq}
use Rattle.std.specs.Cmp.Lexicographic.{same_text, other_text}
use Rattle.ydeclarations.specs.Elaboration.{Listing, listed_name, option_list, said_of}
use Rattle.ysymbols.specs.Names.{Name, number_in}
use Rattle.ydeclarations.specs.Printed.{printed_name}
use Rattle.ydeclarations.specs.Told.{SoFar, SaidTwice}
use Rattle.ysymbols.proofs.NameSteps.{eq_self, false_true}

-- a name stands at its number
pub number_at : (ns : List Name) (n d : Name) → number_in ns n < length ns →
    get_or ns (number_in ns n) d ≡ n
number_at [] n d h = absurd (omega arith)
number_at (m ∷ ns) n d h = go (bytes_eq n m) refl h (λ k. number_at ns n d k)
  where
    go : (b : Bool) → bytes_eq n m ≡ b → cond (bytes_eq n m) 0 (suc (number_in ns n)) < suc
        (length ns) → (number_in ns n < length ns → get_or ns (number_in ns n) d ≡ n) →
        get_or (m ∷ ns) (cond (bytes_eq n m) 0 (suc (number_in ns n))) d ≡ n
    go true e k again = rw e (sym (same_text n m (sym e)))
    go false e k again = rw e (again (let j : suc (number_in ns n) < suc (length ns) =
        subst (λ b. cond b 0 (suc (number_in ns n)) < suc (length ns)) e k in omega arith))

pub same_number : (ns : List Name) (n m : Name) → number_in ns n < length ns →
    number_in ns n ≡ number_in ns m → n ≡ m
same_number ns n m h e = sym (number_at ns n [] h) ∙ ap (λ k. get_or ns k []) e ∙ number_at ns m []
    (subst (λ k. k < length ns) e h)

pub other_name : (n m : Name) → (n ≡ m → ⊥) → bytes_eq n m ≡ false
other_name n m h = go (bytes_eq n m) refl
  where
    go : (b : Bool) → bytes_eq n m ≡ b → bytes_eq n m ≡ false
    go true e = absurd (h (same_text n m (sym e)))
    go false e = e

module _ {A : Type 0} (f : Listing → Option A) where
  -- nothing more is said
  pub skips : (ns : List Name) (table : List (Option A)) (l : Listing) (rest whole : List Listing) →
      f l ≡ None → SoFar f ns table (l ∷ rest) whole → SoFar f ns table rest whole
  skips ns table l rest whole e s = record {
    each = s.each;
    said = λ n h. ap (λ (xs : List A). option_list (get_or table (number_in ns n) None) ++ xs)
        (sym (nothing n)) ∙ s.said n h;
  }
    where
      empty : (b : Bool) (o : Option A) → o ≡ None → cond b (option_list o) [] ≡ []
      empty true o h = ap option_list h
      empty false o h = refl

      nothing : (n : Name) → said_of f (l ∷ rest) n ≡ said_of f rest n
      nothing n = ap (λ (xs : List A). xs ++ said_of f rest n) (empty (bytes_eq n (printed_name
          l.who))
          (f l) e)

  -- what is said of a name that isn't there
  pub passes : (ns : List Name) (table : List (Option A)) (l : Listing)
      (rest whole : List Listing) → length ns ≤ number_in ns (listed_name l) → SoFar f ns table
      (l ∷ rest) whole → SoFar f ns table rest whole
  passes ns table l rest whole far s = record {
    each = s.each;
    said = λ n h. ap (λ (xs : List A). option_list (get_or table (number_in ns n) None) ++ xs)
        (sym (ap (λ b. cond b (option_list (f l)) [] ++ said_of f rest n)
        (other_name n (printed_name l.who)
        (λ e. absurd (let a : number_in ns (printed_name l.who) < length ns =
        subst (λ m. number_in ns m < length ns) e h in omega arith))))) ∙ s.said n h;
  }

  told : (l : Listing) (rest : List Listing) (n : Name) (v : A) (b : Bool) → f l ≡ Some v →
      bytes_eq n (printed_name l.who) ≡ b → said_of f (l ∷ rest) n ≡ cond b (v ∷ []) [] ++ said_of f
      rest
      n
  told l rest n v b e q = ap (λ (o : Option A). cond (bytes_eq n (printed_name l.who)) (option_list
      o)
      [] ++ said_of f rest n) e ∙ ap (λ c. cond c (v ∷ []) [] ++ said_of f rest n) q

  -- one thing is said of a token
  pub says : (ns : List Name) (table : List (Option A)) (l : Listing) (rest whole : List Listing)
      (v : A) (k : ℕ) → f l ≡ Some v → k ≡ number_in ns (listed_name l) → k < length table →
      get_or table k None ≡ None → SoFar f ns table (l ∷ rest) whole →
      SoFar f ns (set table k (Some v)) rest whole
  says ns table l rest whole v k e hk hl free s = record {
    each = length-set table k (Some v) ∙ s.each;
    said = λ n h. here n h (bytes_eq n (printed_name l.who)) refl ∙ s.said n h;
  }
    where
      here : (n : Name) → number_in ns n < length ns → (b : Bool) → bytes_eq n (printed_name l.who)
          ≡ b →
          option_list (get_or (set table k (Some v)) (number_in ns n) None) ++ said_of f rest n ≡
          option_list (get_or table (number_in ns n) None) ++ said_of f (l ∷ rest) n
      here n h true q =
          let i : number_in ns n ≡ k = ap (number_in ns) (same_text n (printed_name l.who) (sym q))
          ∙ sym
          hk in
          ap (λ (o : Option A). option_list o ++ said_of f rest n)
          (ap (λ j. get_or (set table k (Some v)) j None) i ∙ get_or-set_same table k
          (Some v) None hl)
          ∙ sym (ap (λ (o : Option A). option_list o ++ said_of f (l ∷ rest) n)
          (ap (λ j. get_or table j None) i ∙ free) ∙ told l rest n v true e q)
      here n h false q =
          let i : number_in ns n ≡ k → ⊥ = λ j. other_text n (printed_name l.who) (sym q)
          (same_number ns n (printed_name l.who) h (j ∙ hk)) in
          ap (λ (o : Option A). option_list o ++ said_of f rest n)
          (get_or-set_other table k (number_in ns n) (Some v) None i)
          ∙ sym (ap (λ (xs : List A). option_list (get_or table (number_in ns n) None) ++ xs)
          (told l rest n v false e q))

  -- a second thing is said of a token
  pub twice : (ns : List Name) (table : List (Option A)) (l : Listing) (rest whole : List Listing)
      (u v : A) (k : ℕ) → f l ≡ Some v → k ≡ number_in ns (listed_name l) → k < length table →
      get_or table k None ≡ Some u → SoFar f ns table (l ∷ rest) whole → SaidTwice f whole
  twice ns table l rest whole u v k e hk hl held s =
      let n : Name = printed_name l.who in
      let h : number_in ns n < length ns = subst (λ m. number_in ns n < m) s.each
      (subst (λ j. j < length table) hk hl) in
      let w : u ∷ (v ∷ said_of f rest n) ≡ said_of f whole n =
      sym (ap (λ (o : Option A). option_list o ++ said_of f (l ∷ rest) n)
      (ap (λ j. get_or table j None) (sym hk) ∙ held) ∙ ap (λ (xs : List A). u ∷ xs)
      (told l rest n v true e (eq_self n))) ∙ s.said n h in
      (n, subst (λ (xs : List A). 2 ≤ length xs) w (omega arith))

  -- the same, for a place in a list of the code
  pub skips_at : (d : Listed) (ns : List Name) (table : List (Option A)) (xs : List Listed) (i : ℕ)
      (whole : List Listing) → i < length xs → f (listed_view (get_or xs i d)) ≡ None →
      SoFar f ns table (map listed_view (drop i xs)) whole → SoFar f ns table
      (map listed_view (drop (i + 1) xs)) whole
  skips_at d ns table xs i whole h e s = skips ns table (listed_view (get_or xs i d))
      (map listed_view (drop (i + 1) xs)) whole e
      (subst (λ (ys : List Listed). SoFar f ns table (map listed_view ys) whole)
      (drop_more xs i d h) s)

  pub passes_at : (d : Listed) (ns : List Name) (table : List (Option A)) (xs : List Listed) (i : ℕ)
      (whole : List Listing) (k : ℕ) → i < length xs → k ≡ number_in ns
      (listed_name (listed_view (get_or xs i d))) → length table ≤ k → SoFar f ns table
      (map listed_view (drop i xs)) whole → SoFar f ns table (map listed_view (drop (i + 1) xs))
      whole
  passes_at d ns table xs i whole k h hk far s = passes ns table (listed_view (get_or xs i d))
      (map listed_view (drop (i + 1) xs)) whole
      (subst (λ m. m ≤ number_in ns (listed_name (listed_view (get_or xs i d)))) s.each
      (subst (λ j. length table ≤ j) hk far))
      (subst (λ (ys : List Listed). SoFar f ns table (map listed_view ys) whole)
      (drop_more xs i d h) s)

  pub says_at : (d : Listed) (ns : List Name) (table : List (Option A)) (xs : List Listed) (i : ℕ)
      (whole : List Listing) (v : A) (k : ℕ) → i < length xs → f (listed_view (get_or xs i d)) ≡
      Some v → k ≡ number_in ns (listed_name (listed_view (get_or xs i d))) → k < length table →
      get_or table k None ≡ None → SoFar f ns table (map listed_view (drop i xs)) whole →
      SoFar f ns (set table k (Some v)) (map listed_view (drop (i + 1) xs)) whole
  says_at d ns table xs i whole v k h e hk hl free s = says ns table (listed_view (get_or xs i d))
      (map listed_view (drop (i + 1) xs)) whole v k e hk hl free
      (subst (λ (ys : List Listed). SoFar f ns table (map listed_view ys) whole)
      (drop_more xs i d h) s)

  pub twice_at : (d : Listed) (ns : List Name) (table : List (Option A)) (xs : List Listed) (i : ℕ)
      (whole : List Listing) (v : A) (k : ℕ) (x : Option A) (b : Bool) → i < length xs →
      f (listed_view (get_or xs i d)) ≡ Some v →
      k ≡ number_in ns (listed_name (listed_view (get_or xs i d))) → k < length table →
      x ≡ get_or table k x → b ≡ is_some x → b ≡ true →
      SoFar f ns table (map listed_view (drop i xs)) whole → SaidTwice f whole
  twice_at d ns table xs i whole v k x b h e hk hl r q t s = go x q
      (sym (get_or_read table k x hl r None))
    where
      go : (o : Option A) → b ≡ is_some o → get_or table k None ≡ o → SaidTwice f whole
      go (Some u) q a = twice ns table (listed_view (get_or xs i d))
          (map listed_view (drop (i + 1) xs)) whole u v k e hk hl a
          (subst (λ (ys : List Listed). SoFar f ns table (map listed_view ys) whole)
          (drop_more xs i d h) s)
      go None q a = absurd (false_true (sym q ∙ t))

pub is_none : {A : Type 0} (o : Option A) → is_some o ≡ false → o ≡ None
is_none None h = refl
is_none (Some x) h = absurd (false_true (sym h))
