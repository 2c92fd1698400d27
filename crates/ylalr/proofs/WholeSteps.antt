-- What the caller of the automaton learns, from the invariants of its parts.
use Rattle.std.proofs.Common.{ℕ, zero, suc, Bool, true, false, ◌≡◌, ◌<◌, ◌≤◌, ◌+◌, ◌%◌, ◌⊎◌, ◌↔◌}
use Rattle.std.proofs.Common.{◌&&◌, ◌||◌, nat_eq, nat_lt, List, [], ◌∷◌, length, get_or, refl, ap}
use Rattle.std.proofs.Common.{subst, inl, inr, arith, Option, Some, None, IsTrue}
use Rattle.std.specs.List.{Contains}
use Rattle.std.specs.Int.{bit_at}
use Rattle.std.proofs.lemmas.Bool.Decides.{nat_tests}
use Rattle.std.proofs.lemmas.List.Elements.{Contains-get_or}
use Rattle.ysymbols.specs.Grammar.{ContextFree, GrammarValue}
use Rattle.ysymbols.specs.WellFormed.{WellFormed}
use Rattle.ylalr.specs.declared.items.Item.{Item}
use Rattle.ylalr.specs.declared.gotos.Goto.{Goto}
use Rattle.ylalr.specs.Gotos.{goto_of}
use Rattle.ybitsets.specs.Rows.{BitRows, Holds, word_of}
use Rattle.ylalr.specs.Items.{Lookahead}
use Rattle.ylalr.specs.Sets.{given, IsClosure}
use Rattle.ylalr.specs.States.{StateLists, set_at, start_item, AreStates, IsState, GotoIs}
use Rattle.ylalr.specs.States.{Overflows, RowsAre}
use Rattle.ylalr.specs.Looks.{SoundLooks, ClosedLooks}
use Rattle.ylalr.specs.ItemRows.{ItemRows, IsRowOf, rows_at}
use Rattle.ylalr.specs.Collection.{HasStates, IsGoto, Guide, IsGuide, TooMany}
use Rattle.ybitsets.specs.Limits.{most_states}
use Rattle.ylalr.proofs.Cores.{every, once, core_start, core_goto, source_item}
use Rattle.ylalr.proofs.LookSteps.{looks_exact, looks_none}
use Rattle.std.proofs.lemmas.Bool.{or_cases}

contains_filled : (k : List Item) (i : Item) → Contains k i → 0 < length k
contains_filled k i c = let h = c.1 in omega arith

state_filled : (g : ContextFree) (k w : List Item) → IsState g k w → 0 < length w
state_filled g k w s =
    let i : Item = get_or k 0 start_item in
    contains_filled w i ((s.closure i).1 (given (Contains-get_or k 0 start_item s.filled)))

module _ (v : GrammarValue) (f : WellFormed v.bare) (t : StateLists) (rows : List (List Goto))
    (are : AreStates v.bare t) (gotos : (q x : ℕ) → q < length t.closures → x < v.bare.symbols →
    GotoIs v.bare t q x (goto_of rows q x)) where
  goto_at : (q x : ℕ) (o : Option ℕ) → GotoIs v.bare t q x o →
      IsGoto (record { grammar = v; states = t.closures; gotos = rows }) q x o
  goto_at q x None z p c = λ i w. source_item v.bare f p (set_at t.closures q) x i c w z
  goto_at q x (Some n) z p c = (
    z.0,
    core_goto v.bare f p (set_at t.closures q) x (set_at t.kernels n) (set_at t.closures n)
        c z.1 (are.each n z.0).closure,
  )

  pub goto_is : (q x : ℕ) → q < length t.closures → x < v.bare.symbols →
      IsGoto (record { grammar = v; states = t.closures; gotos = rows }) q x (goto_of rows q x)
  goto_is q x h l = goto_at q x (goto_of rows q x) (gotos q x h l)

-- states and gotos, as callers see them
pub has_states : (v : GrammarValue) → WellFormed v.bare → (t : StateLists)
    (rows : List (List Goto)) → AreStates v.bare t → RowsAre v.bare t (length t.closures) rows →
    length rows ≡ length t.closures → length t.closures ≤ most_states →
    HasStates (record { grammar = v; states = t.closures; gotos = rows })
has_states v f t rows are r counted few = record {
  first = core_start v.bare f (set_at t.closures 0)
      (subst (λ k. IsClosure v.bare k (set_at t.closures 0)) are.first
      (are.each 0 are.some).closure);
  core = λ q h. (are.each q h).core;
  filled = λ q h. state_filled v.bare (set_at t.kernels q) (set_at t.closures q) (are.each q h);
  every = λ p i c. every v.bare f t (goto_of rows) are (λ q x h l. r.gotos q h x l) p i c;
  once = λ p q n a b c e. once v.bare t are p q n a b c e;
  ordered = λ q h. (are.each q h).order;
  range = λ q h. (are.each q h).range;
  few = few;
  leads = λ q x h l. goto_is v f t rows are (λ q x h l. r.gotos q h x l) q x h l;
  numbered = r.found;
  counted = counted;
  sorted = r.order;
  symbols = r.symbols;
}

pub too_many : (g : ContextFree) → Overflows g → TooMany g
too_many g o = record {
  states = o.0.closures;
  many = o.2;
  core = λ q h. (o.1.each q h).core;
  filled = λ q h. state_filled g (set_at o.0.kernels q) (set_at o.0.closures q) (o.1.each q h);
  once = λ p q n a b c e. once g o.0 o.1 p q n a b c e;
}

-- the lookaheads as a test
row_test : BitRows → ℕ → ℕ → Bool
row_test m p t = nat_lt p m.height && (nat_lt t m.width && nat_eq (bit_at (word_of m p t) (t % 64))
    1)

item_test : Item → Item → Bool
item_test i j = nat_eq i.rule j.rule && nat_eq i.dot j.dot

looks_in : BitRows → (ℕ → ℕ) → List Item → ℕ → Item → ℕ → Bool
looks_in m f [] p i t = false
looks_in m f (j ∷ xs) p i t = (item_test j i && row_test m (f p) t) || looks_in m f xs (p + 1) i t

row_from : (m : BitRows) (p t : ℕ) → row_test m p t ≡ true → Holds m p t
unfolding row_test
row_from m p t e = record {
  row = grind (arith, nat_tests);
  column = grind (arith, nat_tests);
  bit =
      grind (arith, nat_tests);
}

row_to : (m : BitRows) (p t : ℕ) → Holds m p t → row_test m p t ≡ true
unfolding row_test
row_to m p t h = let a = h.row in let b = h.column in let c = h.bit in grind (arith, nat_tests)

item_from : (i j : Item) → item_test i j ≡ true → i ≡ j
unfolding item_test
item_from i j e =
    let x : i.rule ≡ j.rule = grind (arith, nat_tests) in
    let y : i.dot ≡ j.dot = grind (arith, nat_tests) in
    λ k. record { rule = x k; dot = y k }

item_to : (i j : Item) → i ≡ j → item_test i j ≡ true
unfolding item_test
item_to i j e =
    let x : i.rule ≡ j.rule = ap (λ (t : Item). t.rule) e in
    let y : i.dot ≡ j.dot = ap (λ (t : Item). t.dot) e in
    grind (arith, nat_tests)

and_cases : (a b : Bool) → (a && b) ≡ true → (a ≡ true) × (b ≡ true)
and_cases true b e = (refl, e)
and_cases false b e = absurd (cc)

or_left : (a b : Bool) → a ≡ true → (a || b) ≡ true
or_left true b e = refl
or_left false b e = absurd (cc)

or_right : (a b : Bool) → b ≡ true → (a || b) ≡ true
or_right true b e = refl
or_right false b e = e

and_both : (a b : Bool) → a ≡ true → b ≡ true → (a && b) ≡ true
and_both true b e h = h
and_both false b e h = absurd (cc)

in_from : (m : BitRows) (f : ℕ → ℕ) (xs : List Item) (p : ℕ) (i : Item) (t : ℕ) →
    looks_in m f xs p i t ≡ true → (k : ℕ) × (k < length xs) × (get_or xs k i ≡ i) ×
    Holds m (f (p + k)) t
unfolding looks_in
in_from m f [] p i t e = absurd (cc)
in_from m f (j ∷ xs) p i t e = go (or_cases (item_test j i && row_test m (f p) t)
    (looks_in m f xs (p + 1) i t) e) (λ h. in_from m f xs (p + 1) i t h)
  where
    go : ((item_test j i && row_test m (f p) t) ≡ true) ⊎ (looks_in m f xs (p + 1) i t ≡ true) →
        (looks_in m f xs (p + 1) i t ≡ true → (k : ℕ) × (k < length xs) × (get_or xs k i ≡ i) ×
        Holds m (f (p + 1 + k)) t) → (k : ℕ) × (k < length (j ∷ xs)) × (get_or (j ∷ xs) k i ≡ i) ×
        Holds m (f (p + k)) t
    go (inl h) c = let z = and_cases (item_test j i) (row_test m (f p) t) h in (
      0,
      omega arith,
      item_from j i z.0,
      (let e0 : p ≡ p + 0 = omega arith in
          subst (λ r. Holds m (f r) t) e0 (row_from m (f p) t z.1)),
    )
    go (inr h) c = let z = c h in (
      suc z.0,
      (let l = z.1 in omega (arith, l)),
      z.2,
      (let e0 : p + 1 + z.0 ≡ p + suc z.0 = omega arith in subst (λ r. Holds m (f r) t) e0 z.3),
    )

in_to : (m : BitRows) (f : ℕ → ℕ) (xs : List Item) (p : ℕ) (i : Item) (t k : ℕ) → k < length xs →
    get_or xs k i ≡ i → Holds m (f (p + k)) t → looks_in m f xs p i t ≡ true
unfolding looks_in
in_to m f [] p i t k h e z = absurd (omega arith)
in_to m f (j ∷ xs) p i t zero h e z = or_left (item_test j i && row_test m (f p) t)
    (looks_in m f xs (p + 1) i t) (and_both (item_test j i) (row_test m (f p) t) (item_to j i e)
    (row_to m (f p) t (let e0 : p + 0 ≡ p = omega arith in subst (λ r. Holds m (f r) t) e0 z)))
in_to m f (j ∷ xs) p i t (suc k) h e z = or_right (item_test j i && row_test m (f p) t)
    (looks_in m f xs (p + 1) i t) (in_to m f xs (p + 1) i t k (omega arith) e
    (let e0 : p + suc k ≡ p + 1 + k = omega arith in subst (λ r. Holds m (f r) t) e0 z))

looks_of : StateLists → ItemRows → BitRows → ℕ → Item → ℕ → Bool
looks_of s l m q i t = looks_in m (λ k. get_or (rows_at l q) k 0) (set_at s.closures q) 0 i t

-- where the item stands in its state, its row
placed : (s : StateLists) (l : ItemRows) (q : ℕ) (i : Item) → q < length s.closures →
    (c : Contains (set_at s.closures q) i) → IsRowOf s l q i (get_or (rows_at l q) c.0 0)
placed s l q i h c = record {
  state = h;
  at = record {
    index = c.0;
    within = c.1;
    here = c.2;
    row =
        refl;
  };
}

module _ (v : GrammarValue) (f : WellFormed v.bare) (t : StateLists) (rows : List (List Goto))
    (are : AreStates v.bare t) (gotos : (q x : ℕ) → q < length t.closures → x < v.bare.symbols →
    GotoIs v.bare t q x (goto_of rows q x)) (l : ItemRows) (m : BitRows)
    (sound : SoundLooks v.bare (goto_of rows) t l m)
    (shut : ClosedLooks v.bare (goto_of rows) t l m) where
  looks_test : (q : ℕ) (i : Item) (a : ℕ) → q < length t.closures → IsTrue (looks_of t l m q i a) ↔
      Lookahead v.bare (set_at t.closures q) i a
  unfolding looks_of
  looks_test q i a h = (
    (λ e. (let z = in_from m (λ k. get_or (rows_at l q) k 0) (set_at t.closures q) 0 i a e in
        let c : Contains (set_at t.closures q) i = (z.0, z.1, z.2) in
        let e0 : 0 + z.0 ≡ z.0 = omega arith in
        (looks_exact v.bare f t (goto_of rows) are gotos l m shut sound q i
        (get_or (rows_at l q) z.0 0) a (placed t l q i h c)).0
        (subst (λ k. Holds m (get_or (rows_at l q) k 0) a) e0 z.3))),
    (λ w. (let c = (w.core i).1 (a, w.valid) in
        let e0 : c.0 ≡ 0 + c.0 = omega arith in
        in_to m (λ k. get_or (rows_at l q) k 0) (set_at t.closures q) 0 i a c.0 c.1 c.2
        (subst (λ k. Holds m (get_or (rows_at l q) k 0) a) e0
        ((looks_exact v.bare f t (goto_of rows) are gotos l m shut sound q i
        (get_or (rows_at l q) c.0 0) a (placed t l q i h c)).1 w)))),
  )

  pub guide_of : (u : Guide) × IsGuide (record { grammar = v; states = t.closures; gotos = rows }) u
  guide_of = (
    record { to = goto_of rows; looks = looks_of t l m },
    record {
      to = λ q x h k. goto_is v f t rows are gotos q x h k;
      looks =
          λ q i a h k. looks_test q i a h;
    },
  )

  pub looks_at : (q : ℕ) (i : Item) (p a : ℕ) → IsRowOf t l q i p → Holds m p a ↔ Lookahead v.bare
      (set_at t.closures q) i a
  looks_at q i p a ip = looks_exact v.bare f t (goto_of rows) are gotos l m shut sound q i p a ip

  pub looks_absent : (q : ℕ) (i : Item) (a : ℕ) → q < length t.closures →
      ((p : ℕ) → IsRowOf t l q i p → ⊥) → Lookahead v.bare (set_at t.closures q) i a → ⊥
  looks_absent q i a h none = looks_none v.bare (set_at t.closures q) i a
      (λ c. none (get_or (rows_at l q) c.0 0) (placed t l q i h c))
