-- Tables of one collection have the same arrays.
use Rattle.std.proofs.Common.{ℕ, zero, suc, ◌≡◌, ◌+◌, ◌<◌, ◌≤◌, ◌&&◌, ◌||◌, ◌++◌, List, [], ◌∷◌}
use Rattle.std.proofs.Common.{map, refl, sym, ◌∙◌, ap, subst, arith, if◌then◌else◌, Bool, not}
use Rattle.std.proofs.Common.{nat_eq, Option, Some, None}
use Rattle.std.specs.Prelude.{is_some, unwrap_or, length}
use Rattle.std.specs.List.{flat_map, fold, list_all, range_with_len}
use Rattle.ysymbols.specs.Grammar.{error_token}
use Rattle.ylalr.specs.Collection.{Collection, Guide, IsGuide}
use Rattle.ytables.specs.declared.cell.Action.{Action}
use Rattle.ytables.specs.Cell.{is_reduce}
use Rattle.ytables.specs.Tables.{TablesValue, AreTables, action_at, action_in, default_at}
use Rattle.ytables.specs.Tables.{default_in}
use Rattle.yprovenance.specs.Candidates.{shift_in}
use Rattle.ycode.specs.declared.policy.Policy.{Policy}
use Rattle.ycode.specs.declared.policy.Policy.TheVariants.{Consistent, Lone, Sole, Most}
use Rattle.ycode.specs.Bits.{SetsValue, bytes_for, number_of, with_set}
use Rattle.ycode.specs.Cells.{span_of, number_for, wanted_at, usual_rule}
use Rattle.ycode.specs.Cells.{set_in, with_set_in, first_set, sets_to, set_number}
use Rattle.ycode.specs.Entries.{entry_for, entries_for}
use Rattle.ycode.specs.Layout.{comb_for}
use Rattle.ycode.specs.Policies.{act_at, always_at, always_by, filled_by, is_shift, permits}
use Rattle.ycode.specs.Policies.{permitted, rule_for, stays_error}
use Rattle.ycode.specs.States.{states_of, tokens_of, rules_of, is_error, is_refused, rule_in}
use Rattle.ycode.specs.States.{reductions_in}
use Rattle.ycode.specs.Usual.{commonest, most_usual}
use Rattle.ycode.specs.Whole.{code_for, action_rows}

-- ---- lists by number

map_alike : {A : Type 0} (f g : ℕ → A) (a n : ℕ) → ((k : ℕ) → k < a + n → f k ≡ g k) →
    map f (range_with_len a n) ≡ map g (range_with_len a n)
map_alike f g a zero h = refl
map_alike f g a (suc n) h =
    let rest = map_alike f g (a + 1) n (λ k l. h k (omega arith)) in
    let first = h a (omega arith) in
    λ i. first i ∷ rest i

flat_alike : {A : Type 0} (f g : ℕ → List A) (a n : ℕ) → ((k : ℕ) → k < a + n → f k ≡ g k) →
    flat_map f (range_with_len a n) ≡ flat_map g (range_with_len a n)
flat_alike f g a zero h = refl
flat_alike f g a (suc n) h =
    let rest = flat_alike f g (a + 1) n (λ k l. h k (omega arith)) in
    let first = h a (omega arith) in
    λ i. first i ++ rest i

fold_alike : {B : Type 0} (f g : B → ℕ → B) (b : B) (a n : ℕ) →
    ((c : B) (k : ℕ) → k < a + n → f c k ≡ g c k) →
    fold f b (range_with_len a n) ≡ fold g b (range_with_len a n)
fold_alike f g b a zero h = refl
fold_alike f g b a (suc n) h =
    ap (λ c. fold f c (range_with_len (a + 1) n)) (h b a (omega arith)) ∙
    fold_alike f g (g b a) (a + 1) n (λ c k l. h c k (omega arith))

all_alike : (f g : ℕ → Bool) (a n : ℕ) → ((k : ℕ) → k < a + n → f k ≡ g k) →
    list_all f (range_with_len a n) ≡ list_all g (range_with_len a n)
all_alike f g a zero h = refl
all_alike f g a (suc n) h =
    let rest = all_alike f g (a + 1) n (λ k l. h k (omega arith)) in
    let first = h a (omega arith) in
    λ i. first i && rest i

map_below : {A : Type 0} (f g : ℕ → A) (n : ℕ) → ((k : ℕ) → k < n → f k ≡ g k) →
    map f (range_with_len 0 n) ≡ map g (range_with_len 0 n)
map_below f g n h = map_alike f g 0 n (λ k l. h k (omega arith))

flat_below : {A : Type 0} (f g : ℕ → List A) (n : ℕ) → ((k : ℕ) → k < n → f k ≡ g k) →
    flat_map f (range_with_len 0 n) ≡ flat_map g (range_with_len 0 n)
flat_below f g n h = flat_alike f g 0 n (λ k l. h k (omega arith))

-- ---- tables of one collection

-- these tables, over another collection
abbrev over : Collection → TablesValue → TablesValue
over m w = record {
  built = m;
  actions = w.actions;
  defaults = w.defaults;
  shift_reduce = w.shift_reduce;
  reduce_reduce = w.reduce_reduce;
  choice = w.choice;
}

-- the actions and default rules are the same
record AreAlike (v w : TablesValue) : Type 0 where
  action : (q t : ℕ) → q < states_of v → t < tokens_of v → action_at v q t ≡ action_at w q t
  default : (q : ℕ) → q < states_of v → default_at v q ≡ default_at w q

-- tests of the numbers below n
all_below : (f g : ℕ → Bool) (n : ℕ) → ((k : ℕ) → k < n → f k ≡ g k) →
    list_all f (range_with_len 0 n) ≡ list_all g (range_with_len 0 n)
all_below f g n h = all_alike f g 0 n (λ k l. h k (omega arith))

module _ (p : Policy) (v w : TablesValue) (h : AreAlike v w) where
  -- the other tables, over the collection of the first
  abbrev u : TablesValue
  u = over v.built w

  reductions_alike : (q : ℕ) → q < states_of v → reductions_in v q ≡ reductions_in u q
  reductions_alike q l = map_below (λ t. rule_in (action_at v q t)) (λ t. rule_in (action_at u q t))
      (tokens_of v) (λ t k. ap rule_in (h.action q t l k))

  refused_alike : (q t : ℕ) → q < states_of v → t < tokens_of v →
      is_refused v q t ≡ is_refused u q t
  refused_alike q t l k = ap (λ (x : Action). is_error x && is_some (shift_in v.built q t))
      (h.action q t l k)

  permits_alike : (o : Policy) (q r t : ℕ) → q < states_of v → t < tokens_of v →
      permits o v q r t ≡ permits o u q r t
  permits_alike Consistent q r t l k = ap (is_reduce r) (h.action q t l k)
  permits_alike Lone q r t l k =
      let a = h.action q t l k in
      λ i. is_reduce r (a i) || (is_error (a i) && not (is_error (a i) &&
      is_some (shift_in v.built q t)))
  permits_alike Sole q r t l k =
      let a = h.action q t l k in
      λ i. is_reduce r (a i) || is_error (a i)
  permits_alike Most q r t l k =
      let a = h.action q t l k in
      λ i. not (nat_eq t error_token && is_shift (a i))

  permitted_alike : (o : Policy) (q : ℕ) (c : Option ℕ) → q < states_of v →
      permitted o v q c ≡ permitted o u q c
  permitted_alike o q None l = refl
  permitted_alike o q (Some r) l = ap (λ (b : Bool). if b then Some r else None)
      (all_below (permits o v q r) (permits o u q r) (tokens_of v)
      (λ t k. permits_alike o q r t l k))

  common_alike : (o : Policy) (q : ℕ) → q < states_of v →
      permitted o v q (commonest (rules_of v) (reductions_in v q)) ≡
      permitted o u q (commonest (rules_of u) (reductions_in u q))
  common_alike o q l = permitted_alike o q (commonest (rules_of v) (reductions_in v q)) l ∙
      ap (λ (x : List (Option ℕ)). permitted o u q (commonest (rules_of v) x))
      (reductions_alike q l)

  rule_alike : (o : Policy) (q : ℕ) → q < states_of v → rule_for o v q ≡ rule_for o u q
  rule_alike Consistent q l = h.default q l
  rule_alike Lone q l = common_alike Lone q l
  rule_alike Sole q l = common_alike Sole q l
  rule_alike Most q l = common_alike Most q l

  stays_alike : (o : Policy) (q t : ℕ) → q < states_of v → t < tokens_of v →
      stays_error o v q t ≡ stays_error o u q t
  stays_alike Consistent q t l k = refused_alike q t l k
  stays_alike Lone q t l k = refused_alike q t l k
  stays_alike Sole q t l k = refl
  stays_alike Most q t l k = refused_alike q t l k

  act_alike : (q t : ℕ) → q < states_of v → t < tokens_of v → act_at p v q t ≡ act_at p u q t
  act_alike q t l k =
      let s = stays_alike p q t l k in
      let r = rule_alike p q l in
      let a = h.action q t l k in
      λ i. filled_by (s i) (r i) (a i)

  always_by_alike : (q : ℕ) (c : Option ℕ) → q < states_of v → always_by p v q c ≡ always_by p u q c
  always_by_alike q None l = refl
  always_by_alike q (Some r) l = ap (λ (b : Bool). if b then Some r else None)
      (all_below (λ t. is_reduce r (act_at p v q t)) (λ t. is_reduce r (act_at p u q t))
      (tokens_of v) (λ t k. ap (is_reduce r) (act_alike q t l k)))

  always_alike : (q : ℕ) → q < states_of v → always_at p v q ≡ always_at p u q
  always_alike q l = always_by_alike q (rule_for p v q) l ∙ ap (always_by p u q) (rule_alike p q l)

  usual_alike : (q : ℕ) → q < states_of v → usual_rule p v q ≡ usual_rule p u q
  usual_alike q l =
      let d = rule_alike p q l in
      let r = reductions_alike q l in
      λ i. unwrap_or (d i) (most_usual (r i))

  wanted_alike : (q t : ℕ) → q < states_of v → t < tokens_of v →
      wanted_at p v (usual_rule p v q) q t ≡ wanted_at p u (usual_rule p u q) q t
  wanted_alike q t l k =
      let r = usual_alike q l in
      let a = act_alike q t l k in
      λ i. number_for (states_of v) (rules_of v) (r i)
      (is_error (a i) && is_some (shift_in v.built q t)) (a i)

  entries_alike : (q : ℕ) → q < states_of v →
      entries_for (wanted_at p v (usual_rule p v q) q) (tokens_of v) ≡
      entries_for (wanted_at p u (usual_rule p u q) q) (tokens_of u)
  entries_alike q l = flat_below (λ t. entry_for t (wanted_at p v (usual_rule p v q) q t))
      (λ t. entry_for t (wanted_at p u (usual_rule p u q) q t)) (tokens_of v)
      (λ t k. ap (entry_for t) (wanted_alike q t l k))

  rows_alike : action_rows p v ≡ action_rows p u
  rows_alike = map_below (λ q. entries_for (wanted_at p v (usual_rule p v q) q) (tokens_of v))
      (λ q. entries_for (wanted_at p u (usual_rule p u q) q) (tokens_of u)) (states_of v)
      entries_alike

  set_alike : (q : ℕ) → q < states_of v → set_in p v q ≡ set_in p u q
  set_alike q l =
      let r = usual_alike q l in
      let d = rule_alike p q l in
      let m = map_below (λ t. is_reduce (usual_rule p v q) (act_at p v q t))
      (λ t. is_reduce (usual_rule p u q) (act_at p u q t)) (tokens_of v)
      (λ t k. (let a = act_alike q t l k in λ i. is_reduce (r i) (a i))) in
      λ i. bytes_for (span_of v) (m i ++ is_some (d i) ∷ [])

  with_set_alike : (s : SetsValue) (q : ℕ) → q < states_of v →
      with_set_in p v s q ≡ with_set_in p u s q
  with_set_alike s q l =
      let d = always_alike q l in
      let x = set_alike q l in
      λ i. if is_some (d i) then s else with_set s (x i)

  sets_alike : (n : ℕ) → n ≤ states_of v → sets_to p v n ≡ sets_to p u n
  sets_alike n l = fold_alike (with_set_in p v) (with_set_in p u) (first_set v) 0 n
      (λ s q k. with_set_alike s q (omega arith))

  set_number_alike : (q : ℕ) → q < states_of v →
      set_number p v (sets_to p v (q + 1)) q ≡ set_number p u (sets_to p u (q + 1)) q
  set_number_alike q l =
      let d = always_alike q l in
      let x = set_alike q l in
      let s = sets_alike (q + 1) (omega arith) in
      λ i. if is_some (d i) then 0 else number_of (s i) (x i)

  code_alike : code_for p v ≡ code_for p u
  unfolding code_for
  code_alike =
      let rows = rows_alike in
      let usual = map_below (usual_rule p v) (usual_rule p u) (states_of v) usual_alike in
      let sets = map_below (λ q. set_number p v (sets_to p v (q + 1)) q)
      (λ q. set_number p u (sets_to p u (q + 1)) q) (states_of v) set_number_alike in
      let bits = sets_alike (states_of v) (omega arith) in
      λ i. record {
        states = (code_for p v).states;
        rules = (code_for p v).rules;
        tokens = (code_for p v).tokens;
        actions = comb_for (tokens_of v + 1) (rows i);
        usual = usual i;
        sets = sets i;
        span = (code_for p v).span;
        bits = (bits i).bytes;
        gotos = (code_for p v).gotos;
        targets = (code_for p v).targets;
        symbols = (code_for p v).symbols;
        lengths = (code_for p v).lengths;
        lefts = (code_for p v).lefts;
        numbers = (code_for p v).numbers;
      }

-- right tables of one collection have the same arrays
pub one_code : (p : Policy) (v w : TablesValue) → v.built ≡ w.built → AreTables v → AreTables w → (u : Guide) →
    IsGuide v.built u → code_for p v ≡ code_for p w
one_code p v w e a b u g =
    let x = a u g in
    let y = b u (subst (λ m. IsGuide m u) e g) in
    let there : (q : ℕ) → q < states_of v → q < states_of w =
    (λ q l. subst (λ (m : Collection). q < length m.states) e l) in
    let token : (t : ℕ) → t < tokens_of v → t < tokens_of w =
    (λ t k. subst (λ (m : Collection). t < m.grammar.bare.tokens) e k) in
    code_alike p v w (record {
      action = λ q t l k. x.rows.action q t l k ∙ ap (λ m. action_in m u q t) e ∙
          sym (y.rows.action q t (there q l) (token t k));
      default = λ q l. x.rows.default q l ∙ ap (λ m. default_in m u q) e ∙
          sym (y.rows.default q (there q l));
    }) ∙ (λ i. code_for p (over (e i) w))
