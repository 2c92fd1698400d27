-- Gotos: one more in a row, one more row, and rows that stay right when states are added.
use Rattle.std.proofs.Common.{ℕ, ◌≡◌, ◌≢◌, ◌<◌, ◌≤◌, ◌+◌, ◌⊎◌, ◌==◌, List, [], ◌∷◌, ◌++◌, length}
use Rattle.std.proofs.Common.{refl, sym, ◌∙◌, ap, subst, inl, inr, arith, Option, Some}
use Rattle.std.proofs.Common.{None, if◌then◌else◌}
use Rattle.std.specs.List.{All}
use Rattle.std.proofs.lemmas.Bool.Decides.{nat_tests}
use Rattle.std.proofs.lemmas.List.Elements.{All-push, All-head, All-tail}
use Rattle.std.proofs.lemmas.List.Quantifiers.{all_pairs_push}
use Rattle.ysymbols.specs.Grammar.{ContextFree}
use Rattle.ysymbols.specs.WellFormed.{WellFormed}
use Rattle.ylalr.specs.declared.items.Item.{Item}
use Rattle.ylalr.specs.declared.gotos.Goto.{Goto}
use Rattle.ylalr.specs.Sets.{Kernel, ItemsOf, IsAdvanced}
use Rattle.ylalr.specs.Gotos.{lookup, IsAscendingRow}
use Rattle.ylalr.specs.States.{StateLists, set_at, AreStates, Extends, MayJoin, IsKernel, GotoIs}
use Rattle.ylalr.proofs.Cores.{may_join, moved_dot}
use Rattle.ysymbols.proofs.Numbers.{below_or_last}
use Rattle.std.proofs.lemmas.Bool.{cases_lt}

pub goto_kept : (g : ContextFree) (s t : StateLists) (q x : ℕ) (to : Option ℕ) → Extends s t →
    q < length s.closures → GotoIs g s q x to → GotoIs g t q x to
goto_kept g s t q x None e h z =
    λ r d m. z r d (subst (λ v. Kernel g (ItemsOf v) x r d) (e.closures q h) m)
goto_kept g s t q x (Some n) e h z = (
  (let l = e.longer in let k = z.0 in omega arith),
  subst (λ v. IsAdvanced g v x (set_at t.kernels n)) (sym (e.closures q h))
      (subst (λ k. IsAdvanced g (set_at s.closures q) x k) (sym (e.kernels n z.0)) z.1),
)

pub joins : (g : ContextFree) → WellFormed g → (s : StateLists) (q x : ℕ) (k : List Item) →
    AreStates g s → q < length s.closures → IsKernel g (set_at s.closures q) x k → 0 < length k →
    MayJoin g k
joins g f s q x k are h i n = record {
  order = i.order;
  range = i.range;
  filled = n;
  moved = moved_dot g (set_at s.closures q) x k i.advanced;
  core = may_join g f (set_at s.kernels q) (set_at s.closures q) x k (are.each q h) i.advanced;
}

pub goto_none : (g : ContextFree) (s : StateLists) (q x : ℕ) (k : List Item) →
    IsAdvanced g (set_at s.closures q) x k → length k ≡ 0 → GotoIs g s q x None
goto_none g s q x k a e = λ r d m. (let c = (a (record { rule = r; dot = d })).1 m in let h = c.1 in
    omega arith)

pub goto_some : (g : ContextFree) (s t : StateLists) (q x n : ℕ) (k : List Item) →
    IsAdvanced g (set_at s.closures q) x k → Extends s t → q < length s.closures →
    n < length t.closures → set_at t.kernels n ≡ k → GotoIs g t q x (Some n)
goto_some g s t q x n k a e h l z = (
  l,
  subst (λ v. IsAdvanced g v x (set_at t.kernels n)) (sym (e.closures q h))
      (subst (λ j. IsAdvanced g (set_at s.closures q) x j) (sym z) a),
)

test_other : {X : Type 0} (a b : ℕ) (x y : X) → a ≢ b → (if a == b then x else y) ≡ y
test_other a b x y n = grind (arith, nat_tests)

test_same : {X : Type 0} (a b : ℕ) (x y : X) → a ≡ b → (if a == b then x else y) ≡ x
test_same a b x y n = grind (arith, nat_tests)

pub lookup_other : (row : List Goto) (t : Goto) (x : ℕ) → t.symbol ≢ x →
    lookup (row ++ t ∷ []) x ≡ lookup row x
lookup_other [] t x n = test_other t.symbol x (Some t.state) None n
lookup_other (a ∷ row) t x n = ap (λ (o : Option ℕ). if a.symbol == x then Some a.state else o)
    (lookup_other row t x n)

pub lookup_new : (row : List Goto) (t : Goto) (x : ℕ) → All (λ a. a.symbol < x) row → t.symbol ≡ x →
    lookup (row ++ t ∷ []) x ≡ Some t.state
lookup_new [] t x f e = test_same t.symbol x (Some t.state) None e
lookup_new (a ∷ row) t x f e =
    let l = All-head (λ (b : Goto). b.symbol < x) a row f in
    test_other a.symbol x (Some a.state) (lookup (row ++ t ∷ []) x) (omega arith) ∙ lookup_new row t
    x (All-tail (λ (b : Goto). b.symbol < x) a row f) e

pub lookup_none : (row : List Goto) (x : ℕ) → All (λ a. a.symbol < x) row → lookup row x ≡ None
lookup_none [] x f = refl
lookup_none (a ∷ row) x f =
    let l = All-head (λ (b : Goto). b.symbol < x) a row f in
    test_other a.symbol x (Some a.state) (lookup row x) (omega arith) ∙ lookup_none row x
    (All-tail (λ (b : Goto). b.symbol < x) a row f)

-- the gotos of state q over the symbols below n
pub record Rowing (g : ContextFree) (s : StateLists) (q n : ℕ) (row : List Goto) : Type 0 where
  pub gotos : (x : ℕ) → x < n → GotoIs g s q x (lookup row x)
  pub below : All (λ a. a.symbol < n) row
  pub order : IsAscendingRow row

pub rowing_kept : (g : ContextFree) (s t : StateLists) (q n : ℕ) (row : List Goto) → Extends s t →
    q < length s.closures → Rowing g s q n row → Rowing g t q n row
rowing_kept g s t q n row e h r = record {
  gotos = λ x l. goto_kept g s t q x (lookup row x) e h
      (r.gotos x l);
  below = r.below;
  order = r.order;
}

lower : (n : ℕ) {m : ℕ} (row : List Goto) → n ≤ m → All (λ (a : Goto). a.symbol < n) row →
    All (λ (a : Goto). a.symbol < m) row
lower n row le f k d h = let l = f k d h in omega arith

wider : (n : ℕ) (row : List Goto) → All (λ (a : Goto). a.symbol < n) row →
    All (λ (a : Goto). a.symbol < n + 1) row
wider n row f k d h = let l = f k d h in omega arith

pub rowing_skip : (g : ContextFree) (s : StateLists) (q n m : ℕ) (row : List Goto) → n ≤ m →
    ((x : ℕ) → n ≤ x → x < m → GotoIs g s q x None) → Rowing g s q n row → Rowing g s q m row
rowing_skip g s q n m row le z r = record {
  gotos = λ x h. go x h (cases_lt x n);
  below =
      lower n row le r.below;
  order = r.order;
}
  where
    go : (x : ℕ) → x < m → (x < n) ⊎ (n ≤ x) → GotoIs g s q x (lookup row x)
    go x h (inl l) = r.gotos x l
    go x h (inr l) = subst (GotoIs g s q x) (sym (lookup_none row x (lower n row l r.below)))
        (z x l h)

pub rowing_push : (g : ContextFree) (s : StateLists) (q n m : ℕ) (row : List Goto) → GotoIs g s q n
    (Some m) → Rowing g s q n row → Rowing g s q (n + 1)
    (row ++ record { symbol = n; state = m } ∷ [])
rowing_push g s q n m row z r = record {
  gotos = λ x h. go x (below_or_last x n h);
  below = All-push (λ (a : Goto). a.symbol < n + 1) row (record { symbol = n; state = m })
      (wider n row r.below) (omega arith);
  order = all_pairs_push (λ (a b : Goto). a.symbol < b.symbol) row
      (record { symbol = n; state = m }) r.order r.below;
}
  where
    t : Goto
    t = record { symbol = n; state = m }

    go : (x : ℕ) → (x < n) ⊎ (x ≡ n) → GotoIs g s q x
        (lookup (row ++ record { symbol = n; state = m } ∷ []) x)
    go x (inl l) = subst (GotoIs g s q x)
        (sym (lookup_other row (record { symbol = n; state = m }) x (omega arith))) (r.gotos x l)
    go x (inr e) = subst (λ y. GotoIs g s q y (lookup (row ++ record { symbol = n; state = m } ∷ [])
        y)) (sym e) (subst (GotoIs g s q n)
        (sym (lookup_new row (record { symbol = n; state = m }) n r.below refl)) z)
