-- One more item in the tallies of a state.
use Rattle.std.proofs.Common.{ℕ, ◌≡◌, ◌+◌, ◌<◌, ◌≤◌, Bool, true, false, ◌&&◌, List, [], length}
use Rattle.std.proofs.Common.{take}
use Rattle.std.proofs.Common.{take_all}
use Rattle.std.proofs.Common.{get_or, refl, sym, ap, ◌∙◌, subst, arith, Option, None, if◌then◌else◌}
use Rattle.std.proofs.Common.{not}
use Rattle.std.proofs.lemmas.List.{length-map}
use Rattle.std.proofs.lemmas.List.Sums.{length-filter, count_by-le-length}
use Rattle.std.specs.List.{filter}
use Rattle.ysymbols.specs.declared.precedence.Precedence.{Precedence}
use Rattle.ysymbols.specs.Grammar.{ContextFree, most_rules}
use Rattle.ylalr.specs.declared.items.Item.{Item}
use Rattle.ylalr.specs.Collection.{Collection, Guide, IsGuide, state_of}
use Rattle.ylalr.specs.Sets.{IsAscending, InRange}
use Rattle.ytables.specs.declared.class.Class.{Class}
use Rattle.ytables.specs.declared.cell.Tally.{Tally}
use Rattle.ytables.specs.Cell.{is_rest, is_lose}
use Rattle.ytables.specs.Cell.{class_of}
use Rattle.ytables.specs.Tables.{is_ready, ready_in, rules_by, class_at}
use Rattle.ytables.specs.Tally.{IsTally, tally_more, no_tally}
use Rattle.ytables.specs.Tallies.{AreSmall, AddsAt, IsTallyBy}
use Rattle.ytables.proofs.RowSteps.{tally_skip, tally_take, tally_room, rules_ready}
use Rattle.ytables.proofs.RowSteps.{few_ready}

and_false : (a : Bool) → (a && false) ≡ false
and_false true = refl
and_false false = refl

module _ (g : ContextFree) (look : Item → Bool) (class : ℕ → Class) (items : List Item) (n : ℕ)
    (d : Item) (y : Tally) (h : n < length items)
    (t : IsTally class (rules_by (λ i. is_ready g i && look i) (take n items)) y) where
  -- an item that isn't complete adds nothing
  pub passed : is_ready g (get_or items n d) ≡ false →
      IsTally class (rules_by (λ i. is_ready g i && look i) (take (n + 1) items)) y
  passed e = tally_skip class (λ i. is_ready g i && look i) items n d y h t
      (ap (λ b. b && look (get_or items n d)) e)

  -- one that is adds its rule where it looks
  pub counted : is_ready g (get_or items n d) ≡ true →
      IsTally class (rules_by (λ i. is_ready g i && look i) (take (n + 1) items))
      (if look (get_or items n d) then tally_more y (get_or items n d).rule
      (class (get_or items n d).rule) else y)
  counted e = go (look (get_or items n d)) refl
    where
      go : (b : Bool) → look (get_or items n d) ≡ b →
          IsTally class (rules_by (λ i. is_ready g i && look i) (take (n + 1) items))
          (if b then tally_more y (get_or items n d).rule (class (get_or items n d).rule) else y)
      go true l = tally_take class (λ i. is_ready g i && look i) items n d y h t
          (ap (λ b. b && look (get_or items n d)) e ∙ l)
      go false l = tally_skip class (λ i. is_ready g i && look i) items n d y h t
          (ap (λ b. is_ready g (get_or items n d) && b) l ∙ and_false
          (is_ready g (get_or items n d)))

-- its counts stay small
pub small_more : (b : Bool) (y : Tally) (r n : ℕ) (k : Class) →
    (y.rests ≤ y.all) × (y.kept ≤ y.all) × (y.all ≤ n) → (y' : Tally) →
    y' ≡ (if b then tally_more y r k else y) →
    (y'.rests ≤ y'.all) × (y'.kept ≤ y'.all) × (y'.all ≤ n + 1)
small_more b y r n k s y' e =
    subst (λ (x : Tally). (x.rests ≤ x.all) × (x.kept ≤ x.all) × (x.all ≤ n + 1)) (sym e) (go b)
  where
    go : (b : Bool) → ((if b then tally_more y r k else y).rests ≤
        (if b then tally_more y r k else y).all) × ((if b then tally_more y r k else y).kept ≤
        (if b then tally_more y r k else y).all) × ((if b then tally_more y r k else y).all ≤ n + 1)
    go true = tally_room y r n k s.0 s.1 s.2
    go false = let a = s.2 in (s.0, s.1, omega (arith, a))

-- no tally has more rules than the state has complete items
pub few_rules : (g : ContextFree) (look : Item → Bool) (class : ℕ → Class) (k : List Item)
    (y : Tally) → IsTally class (rules_by (λ i. is_ready g i && look i) k) y →
    (y.all ≤ length (ready_in g k)) × (y.rests ≤ y.all) × (y.kept ≤ y.all)
few_rules g look class k y t =
    let rules = rules_by (λ i. is_ready g i && look i) k in
    let same : rules ≡ rules_by look (ready_in g k) = rules_ready g look k k refl in
    let all : y.all ≡ length (filter look (ready_in g k)) = t.all ∙ ap length same ∙ length-map
    (filter look (ready_in g k)) (λ (i : Item). i.rule) in
    let few : length (filter look (ready_in g k)) ≤ length (ready_in g k) =
    (let a = length-filter look (ready_in g k) in
    let b = count_by-le-length look (ready_in g k) in omega (arith, a, b)) in
    let rests : y.rests ≤ length rules = (let a = t.rests in
    let b = count_by-le-length (λ r. is_rest (class r)) rules in omega (arith, a, b)) in
    let kept : y.kept ≤ length rules = (let a = t.kept in
    let b = length-filter (λ r. not (is_lose (class r))) rules in
    let e = count_by-le-length (λ r. not (is_lose (class r))) rules in omega (arith, a, b, e)) in
    let whole = t.all in
    (omega (arith, all, few), omega (arith, rests, whole), omega (arith, kept, whole))

-- the tallies after the first n items of the state
pub record Tallied (m : Collection) (q n : ℕ) (levels : List (Option Precedence))
    (ys : List Tally) : Type 0 where
  pub len : length ys ≡ length levels
  pub small : AreSmall n ys
  pub tallies : (u : Guide) → IsGuide m u → (t : ℕ) → t < length levels →
      IsTally (class_at m.grammar (get_or levels t None))
      (rules_by (λ i. is_ready m.grammar.bare i && u.looks q i t) (take n (state_of m q)))
      (get_or ys t no_tally)

-- before the first item no tally has a rule
pub tallied_none : (m : Collection) (q : ℕ) (levels : List (Option Precedence)) (ys : List Tally) →
    length ys ≡ length levels → ((t : ℕ) → t < length ys → get_or ys t no_tally ≡ no_tally) →
    Tallied m q 0 levels ys
tallied_none m q levels ys len e = record {
  len = len;
  small = λ t l. subst (λ (y : Tally). (y.rests ≤ y.all) × (y.kept ≤ y.all) × (y.all ≤ 0))
      (sym (e t l)) (omega arith, omega arith, omega arith);
  tallies = λ u g t l.
      subst (λ (y : Tally). IsTally (class_at m.grammar (get_or levels t None)) [] y)
      (sym (e t (subst (λ x. t < x) (sym len) l))) (record {
        banned = refl;
        beaten = refl;
        rests = refl;
        kept = refl;
        first = refl;
        all = refl;
      });
}

-- the next item is complete
pub tallied_yes : (m : Collection) (q n : ℕ) (d : Item) (levels : List (Option Precedence))
    (old new : List Tally) → n < length (state_of m q) →
    is_ready m.grammar.bare (get_or (state_of m q) n d) ≡ true → length new ≡ length old →
    ((u : Guide) → IsGuide m u → AddsAt m u q n levels old new) →
    ((u : Guide) × IsGuide m u) → Tallied m q n levels old → Tallied m q (n + 1) levels new
tallied_yes m q n d levels old new h e len adds guide inv = record {
  len = len ∙ inv.len;
  small = λ t l.
      let k : t < length old = subst (λ x. t < x) len l in
      small_more (guide.0.looks q (get_or (state_of m q) n d) t) (get_or old t no_tally)
      (get_or (state_of m q) n d).rule n (class_of (get_or levels t None)
      (get_or m.grammar.rule_precedences (get_or (state_of m q) n d).rule None))
      (inv.small t k) (get_or new t no_tally) (adds guide.0 guide.1 d t k);
  tallies = λ u g t l.
      let k : t < length old = subst (λ x. t < x) (sym inv.len) l in
      subst (IsTally (class_at m.grammar (get_or levels t None))
      (rules_by (λ j. is_ready m.grammar.bare j && u.looks q j t) (take (n + 1) (state_of m q))))
      (sym (adds u g d t k)) (counted m.grammar.bare (λ j. u.looks q j t)
      (class_at m.grammar (get_or levels t None)) (state_of m q) n d (get_or old t no_tally) h
      (inv.tallies u g t l) e);
}

-- it isn't
pub tallied_no : (m : Collection) (q n : ℕ) (d : Item) (levels : List (Option Precedence))
    (ys : List Tally) → n < length (state_of m q) →
    is_ready m.grammar.bare (get_or (state_of m q) n d) ≡ false →
    Tallied m q n levels ys → Tallied m q (n + 1) levels ys
tallied_no m q n d levels ys h e inv = record {
  len = inv.len;
  small = λ t l. let s = inv.small t l in let a = s.2 in (s.0, s.1, omega (arith, a));
  tallies = λ u g t l.
      passed m.grammar.bare (λ j. u.looks q j t) (class_at m.grammar (get_or levels t None))
      (state_of m q) n d (get_or ys t no_tally) h (inv.tallies u g t l) e;
}

module _ (m : Collection) (q n : ℕ) (levels : List (Option Precedence)) (ys : List Tally)
    (h : length (state_of m q) ≤ n) (inv : Tallied m q n levels ys) where
  -- all items of the state
  pub tallied_all : (u : Guide) → IsGuide m u → (t : ℕ) → t < length levels →
      IsTallyBy m u q (get_or levels t None) t (get_or ys t no_tally)
  tallied_all u g t l = subst (λ (xs : List Item).
      IsTally (class_at m.grammar (get_or levels t None))
      (rules_by (λ j. is_ready m.grammar.bare j && u.looks q j t) xs) (get_or ys t no_tally))
      (take_all n (state_of m q) h) (inv.tallies u g t l)

  pub tallied_few : InRange m.grammar.bare (state_of m q) → IsAscending (state_of m q) →
      length m.grammar.bare.rules ≤ most_rules → ((u : Guide) × IsGuide m u) →
      AreSmall most_rules ys
  tallied_few range order few guide = λ t l.
      let k : t < length levels = subst (λ x. t < x) inv.len l in
      let r = few_rules m.grammar.bare (λ j. guide.0.looks q j t)
      (class_at m.grammar (get_or levels t None)) (state_of m q) (get_or ys t no_tally)
      (tallied_all guide.0 guide.1 t k) in
      let a = r.0 in
      let b = few_ready m.grammar.bare (state_of m q) range order in
      (r.1, r.2, omega (arith, a, b, few))
