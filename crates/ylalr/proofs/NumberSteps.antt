-- States have the order in which gotos find them: one goto more in a row, and one row more.
use Rattle.std.proofs.Common.{ℕ, ◌≡◌, ◌≢◌, ◌<◌, ◌≤◌, ◌⊎◌, List, [], ◌∷◌, ◌++◌, length}
use Rattle.std.proofs.Common.{refl, sym, ◌∙◌, subst, inl, inr, arith, Some, None}
use Rattle.std.proofs.lemmas.Bool.{cases_lt}
use Rattle.std.proofs.lemmas.List.{get_or_past}
use Rattle.ysymbols.proofs.Numbers.{below_or_last}
use Rattle.ylalr.specs.declared.gotos.Goto.{Goto}
use Rattle.ylalr.specs.Gotos.{lookup, goto_of, IsEarlier, IsFound, IsRowBelow}
use Rattle.ylalr.specs.States.{IsNextOf, IsFoundIn, Finds}
use Rattle.ylalr.proofs.GotoSteps.{lookup_none, lookup_other, lookup_new}
use Rattle.ylalr.proofs.StateSteps.{push_old, push_new, push_length}

-- ---- a row

pub finds_more : (row : List Goto) (a b c : ℕ) → c ≡ b → Finds row a b → Finds row a c
finds_more row a b c e f = subst (Finds row a) (sym e) f

-- a row has gotos over its own symbols alone
pub over_below : (row : List Goto) (n x k : ℕ) → IsRowBelow n row → lookup row x ≡ Some k → x < n
over_below row n x k f e = go (cases_lt x n)
  where
    go : (x < n) ⊎ (n ≤ x) → x < n
    go (inl l) = l
    go (inr l) =
        let z : lookup row x ≡ None = lookup_none row x (λ j d h. (let y = f j d h in omega arith))
        in absurd (cc)

module _ (row : List Goto) (a b x n : ℕ) (below : IsRowBelow x row) (f : Finds row a b) where
  -- the row with one goto more
  abbrev longer : List Goto
  longer = row ++ record { symbol = x; state = n } ∷ []

  old_goto : (y k : ℕ) → y ≢ x → lookup longer y ≡ Some k → lookup row y ≡ Some k
  old_goto y k d e = sym (lookup_other row (record { symbol = x; state = n }) y
      (λ q. d (sym q))) ∙ e

  kept_goto : (y k : ℕ) → lookup row y ≡ Some k → lookup longer y ≡ Some k
  kept_goto y k e = lookup_other row (record { symbol = x; state = n }) y
      (let l = over_below row x y k below e in omega arith) ∙ e

  new_goto : lookup longer x ≡ Some n
  new_goto = lookup_new row (record { symbol = x; state = n }) x below refl

  -- what was found is found by the same goto
  found_before : (k : ℕ) → IsFoundIn row k → IsFoundIn longer k
  found_before k i = record {
    symbol = i.symbol;
    leads = kept_goto i.symbol k i.leads;
    first = λ y j h e. i.first y j h (old_goto y j
        (let l = over_below row x i.symbol k below i.leads in omega arith) e);
  }

  found_now : n ≡ b → IsFoundIn longer n
  found_now q = record {
    symbol = x;
    leads = new_goto;
    first = λ y j h e. (let l = f.within y j (old_goto y j (omega arith) e) in omega arith);
  }

  within_longer : (c : ℕ) → b ≤ c → n < c → (y k : ℕ) → lookup longer y ≡ Some k → k < c
  within_longer c h l y k e = go (cases_lt y x)
    where
      go : (y < x) ⊎ (x ≤ y) → k < c
      go (inl z) = let i = f.within y k (old_goto y k (omega arith) e) in omega arith
      go (inr z) = at (cases_lt x y)
        where
          at : (x < y) ⊎ (y ≤ x) → k < c
          at (inl w) = let i = f.within y k (old_goto y k (omega arith) e) in omega arith
          at (inr w) =
              let same : y ≡ x = omega arith in
              let z = subst (λ t. lookup longer t ≡ Some k) same e in
              let is : n ≡ k = (let w = new_goto in cc) in omega arith

  pub finds_push : (c : ℕ) → IsNextOf b n c → Finds longer a c
  finds_push c (inl h) = record {
    within = within_longer c (let q = h.1 in omega arith) (let l = h.0 in let q = h.1 in omega arith);
    found = λ k l m. found_before k (f.found k l (let q = h.1 in omega arith));
  }
  finds_push c (inr h) = record {
    within = within_longer c (let q = h.1 in omega arith) (let l = h.0 in let q = h.1 in omega arith);
    found = λ k l m. go k l (below_or_last k b (subst (λ t. k < t) h.1 m));
  }
    where
      go : (k : ℕ) → a ≤ k → (k < b) ⊎ (k ≡ b) → IsFoundIn longer k
      go k l (inl z) = found_before k (f.found k l z)
      go k l (inr z) = subst (IsFoundIn longer) (h.0 ∙ sym z) (found_now h.0)

-- ---- all rows

-- a goto is one of a row
goto_row : (xs : List (List Goto)) (q x k : ℕ) → goto_of xs q x ≡ Some k → q < length xs
goto_row xs q x k e = go (cases_lt q (length xs))
  where
    go : (q < length xs) ⊎ (length xs ≤ q) → q < length xs
    go (inl l) = l
    go (inr l) =
        let z : lookup [] x ≡ Some k = subst (λ row. lookup row x ≡ Some k) (get_or_past xs q [] l) e in
        absurd (cc)

module _ (xs : List (List Goto)) (o : List Goto) (a b : ℕ) (short : length xs < a) (le : a ≤ b)
    (within : (q x k : ℕ) → goto_of xs q x ≡ Some k → k < a)
    (found : (k : ℕ) → 0 < k → k < a → IsFound xs k) (f : Finds o a b) where
  -- the rows with one more
  abbrev more : List (List Goto)
  more = xs ++ o ∷ []

  old_row : (q x k : ℕ) → q < length xs → goto_of more q x ≡ Some k → goto_of xs q x ≡ Some k
  old_row q x k h e = subst (λ row. lookup row x ≡ Some k) (push_old xs o [] q h) e

  new_row : (q x k : ℕ) → q ≡ length xs → goto_of more q x ≡ Some k → lookup o x ≡ Some k
  new_row q x k h e = subst (λ row. lookup row x ≡ Some k) (push_new xs o [] q h) e

  pub within_push : (q x k : ℕ) → goto_of more q x ≡ Some k → k < b
  within_push q x k e = go (below_or_last q (length xs)
      (subst (λ t. q < t) (push_length xs o) (goto_row more q x k e)))
    where
      go : (q < length xs) ⊎ (q ≡ length xs) → k < b
      go (inl h) = let l = within q x k (old_row q x k h e) in omega arith
      go (inr h) = f.within x k (new_row q x k h e)

  kept_found : (k : ℕ) → IsFound xs k → IsFound more k
  kept_found k i = record {
    state = i.state;
    symbol = i.symbol;
    before = i.before;
    leads = subst (λ row. lookup row i.symbol ≡ Some k) (sym (push_old xs o [] i.state here))
        i.leads;
    first = λ q x j h e. i.first q x j h (old_row q x j (earlier q x h) e);
  }
    where
      here : i.state < length xs
      here = goto_row xs i.state i.symbol k i.leads

      earlier : (q x : ℕ) → IsEarlier q x i.state i.symbol → q < length xs
      earlier q x (inl h) = let l = here in omega arith
      earlier q x (inr h) = let l = here in let e = h.0 in omega arith

  new_found : (k : ℕ) → a ≤ k → IsFoundIn o k → IsFound more k
  new_found k l i = record {
    state = length xs;
    symbol = i.symbol;
    before = omega arith;
    leads = subst (λ row. lookup row i.symbol ≡ Some k)
        (sym (push_new xs o [] (length xs) refl)) i.leads;
    first = first;
  }
    where
      first : (q x j : ℕ) → IsEarlier q x (length xs) i.symbol → goto_of more q x ≡ Some j → j < k
      first q x j (inl h) e = let z = within q x j (old_row q x j h e) in omega arith
      first q x j (inr h) e = i.first x j h.1 (new_row q x j h.0 e)

  pub found_push : (k : ℕ) → 0 < k → k < b → IsFound more k
  found_push k p h = go (cases_lt k a)
    where
      go : (k < a) ⊎ (a ≤ k) → IsFound more k
      go (inl l) = kept_found k (found k p l)
      go (inr l) = new_found k l (f.found k l h)
