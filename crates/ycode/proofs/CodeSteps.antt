-- The arrays of a parser, of what they were made.
use Rattle.std.proofs.Common.{ℕ, ◌≡◌, ◌+◌, ◌*◌, ◌^◌, ◌<◌, ◌≤◌, ◌⊎◌, inl, inr, List, length, ap, ◌∙◌}
use Rattle.std.proofs.Common.{Bool, true, Option}
use Rattle.std.proofs.Common.{false, sym, subst, nat_lt, if◌then◌else◌}
use Rattle.std.proofs.Common.{arith, slice_index}
use Rattle.std.proofs.lemmas.List.{get_or_past}
use Rattle.std.proofs.lemmas.List.Elements.{All-get_or}
use Rattle.ysymbols.specs.Grammar.{left_of, body_of, most_symbols}
use Rattle.ybitsets.specs.Limits.{most_states}
use Rattle.ysymbols.specs.WellFormed.{WellFormed}
use Rattle.ylalr.specs.declared.items.Item.{Item}
use Rattle.ylalr.specs.Collection.{HasStates, state_of}
use Rattle.ytables.specs.declared.cell.Action.TheVariants.{Error}
use Rattle.ytables.specs.Tables.{TablesValue, action_at}
use Rattle.ycode.specs.declared.code.Code.{Code}
use Rattle.ycode.specs.declared.comb.Comb.{Comb}
use Rattle.ycode.specs.declared.entry.Entry.{Entry}
use Rattle.ycode.specs.declared.policy.Policy.{Policy}
use Rattle.ycode.specs.declared.policy.Policy.TheVariants.{Consistent}
use Rattle.ycode.specs.declared.sizes.Sizes.{Sizes}
use Rattle.ycode.specs.Bits.{bit_of, SetsValue, IsSets}
use Rattle.ycode.specs.Cells.{states_of, tokens_of, symbols_of, rules_of, AreSizes, AreCells}
use Rattle.ycode.specs.Cells.{AreSets}
use Rattle.ycode.specs.Cells.{Fits}
use Rattle.ycode.specs.Combs.{held, HasRows, AreAtMost}
use Rattle.ycode.specs.Policies.{act_at, always_at, filled_by, rule_for, stays_error}
use Rattle.ycode.specs.Reading.{done_by, is_explicit, read_action, read_default}
use Rattle.ycode.specs.Reads.{Reads, IsExact, IsInside, AreShort, AreSmall}
use Rattle.ycode.specs.Symbols.{StandsBefore}
use Rattle.ycode.specs.Targets.{AreTargets}
use Rattle.ycode.specs.Translation.{TranslatesTo, translated}
use Rattle.ycode.proofs.ReadSteps.{places_small, action_is, refusal_is, default_is, action_inside}
use Rattle.ycode.proofs.ReadSteps.{bits_inside, usual_most, sets_most, goto_is, goto_inside}
use Rattle.ycode.proofs.ReadSteps.{none_is, goto_in_range}
use Rattle.ycode.proofs.CellSteps.{goto_below}
use Rattle.ycode.proofs.PolicySteps.{act_fits, always_acts, exact_acts, exact_always, filled_kept}
use Rattle.ycode.proofs.PackingSteps.{less_or_not}
use Rattle.ycode.proofs.SymbolSteps.{symbol_is, symbol_small}

module _ (p : Policy) (v : TablesValue) (z : Sizes) (a : AreSizes v z) (usual sets : List ℕ) (s : SetsValue)
    (rows : List (List Entry)) (c1 : Comb) (cells : AreCells p v (states_of v) usual sets s rows)
    (b : AreSets p v (states_of v) s) (i : IsSets s) (h1 : HasRows rows (tokens_of v + 1) c1)
    (tu : List ℕ) (trows : List (List Entry)) (c2 : Comb)
    (t : AreTargets v (length tu) tu trows) (h2 : HasRows trows (states_of v) c2)
    (symbols lengths lefts numbers : List ℕ) (hs : HasStates v.built)
    (sl : length symbols ≡ states_of v) (se : (q : ℕ) → q < states_of v →
    StandsBefore v.built.grammar.bare (state_of v.built q) (slice_index symbols q)) (n r k : ℕ)
    (en : n ≡ states_of v) (er : r ≡ rules_of v)
    (ek : k ≡ tokens_of v) where
  abbrev the_code : Code
  the_code = record {
    states = n;
    rules = r;
    tokens = k;
    actions = c1;
    usual = usual;
    sets = sets;
    span = s.span;
    bits = s.bytes;
    gotos = c2;
    targets = tu;
    symbols = symbols;
    lengths = lengths;
    lefts = lefts;
    numbers = numbers;
  }

  action_read : (q x : ℕ) → q < states_of v → x < tokens_of v →
      read_action the_code q x ≡ act_at p v q x
  action_read q x l m =
      ap (λ y. done_by y r (slice_index usual q)
      (bit_of s.bytes (slice_index sets q * s.span) x) (held c1 q x)) en
      ∙ (ap (λ y. done_by (states_of v) y (slice_index usual q)
      (bit_of s.bytes (slice_index sets q * s.span) x) (held c1 q x)) er
      ∙ action_is v z a p usual sets s rows c1 cells h1 q x l m)

  none_read : (q : ℕ) → q < states_of v →
      read_action the_code q (tokens_of v) ≡ filled_by false (rule_for p v q) Error
  none_read q l =
      ap (λ y. done_by y r (slice_index usual q)
      (bit_of s.bytes (slice_index sets q * s.span) (tokens_of v)) (held c1 q (tokens_of v))) en
      ∙ (ap (λ y. done_by (states_of v) y (slice_index usual q)
      (bit_of s.bytes (slice_index sets q * s.span) (tokens_of v)) (held c1 q (tokens_of v))) er
      ∙ none_is v z a p usual sets s rows c1 cells h1 q l)

  default_read : (q : ℕ) → q < states_of v → read_default the_code q ≡ always_at p v q
  default_read = default_is v z a p usual sets s rows c1 cells h1

  -- without default reductions
  exact : p ≡ Consistent → IsExact v the_code
  exact e = record {
    action = λ q x l m. action_read q x l m ∙
        (ap (λ (y : Policy). act_at y v q x) e ∙ exact_acts v q x);
    default = λ q l. default_read q l ∙
        (ap (λ (y : Policy). always_at y v q) e ∙ exact_always v q);
    none = λ q l d. none_read q l ∙
        (ap (λ (y : Policy). filled_by false (rule_for y v q) Error) e ∙
        ap (λ (o : Option ℕ). filled_by false o Error) d);
  }

  module _ (le : (x : ℕ) → x < rules_of v → slice_index lengths x ≡
      length (body_of v.built.grammar.bare x))
      (fe : (x : ℕ) → x < rules_of v → tokens_of v + slice_index lefts x ≡
      left_of v.built.grammar.bare x)
      (tr : TranslatesTo (tokens_of v) v.built.grammar.numbers (tokens_of v) numbers) where
    pub reads : Reads p v the_code
    reads = record {
      states = en;
      rules = er;
      tokens = ek;
      action = action_read;
      none = none_read;
      default = default_read;
      refusal = λ q x l m. ap (λ y. is_explicit (y + r) (held c1 q x)) en
          ∙ (ap (λ y. is_explicit (states_of v + y) (held c1 q x)) er
          ∙ refusal_is v z a p usual sets s rows c1 cells h1 q x l m);
      kept = λ q x l m f. action_read q x l m ∙
          filled_kept (stays_error p v q x) (rule_for p v q) (action_at v q x) f;
      always = λ q x k l m e. action_read q x l m ∙
          always_acts p v q x k (sym (default_read q l) ∙ e) m;
      exact = exact;
      goto = goto_is v z a tu trows c2 t h2;
      symbol = λ q x m l b e. symbol_is v.built q x m (slice_index symbols m) hs l b e
          (se m (goto_below v.built q x m hs l b e));
      body = le;
      left = fe;
      token = λ x m l e. ap (λ y. translated y numbers m) ek ∙ tr.token x m l e;
      other = λ m f. ap (λ y. translated y numbers m) ek ∙ tr.other m f;
    }

  pub inside : WellFormed v.built.grammar.bare → (length lengths ≡ rules_of v) →
      (length lefts ≡ rules_of v) → ((x : ℕ) → x < rules_of v →
      tokens_of v + slice_index lefts x ≡ left_of v.built.grammar.bare x) →
      AreAtMost (tokens_of v) numbers → IsInside v the_code
  inside w ll fl fe ns = record {
    states = (
      h1.count ∙ cells.counts.2,
      cells.counts.0,
      cells.counts.1,
    );
    symbols = sl;
    rules = (ll, fl);
    targets = (
      t.count,
      let e = t.count in let f = h2.count in let k = t.made in
          omega (arith, e, f, k),
    );
    cells = (h1.beside, h2.beside);
    action = action_inside v z a p usual sets s rows c1 cells h1;
    bits = bits_inside v z a p usual sets s rows c1 cells h1 b i;
    goto = goto_inside v z a tu trows c2 t h2;
    next = λ q x l m. subst (Fits (states_of v) (rules_of v)) (sym (action_read q x l m))
        (act_fits v z a q l p x m);
    to = goto_in_range v z a tu trows c2 t h2;
    usual = λ q l. (cells.rules q l).rule;
    left = λ x l. (let e = fe x l in let f = w.left x l in omega (arith, e, f));
    token = λ m. token m (nat_lt m (length numbers));
  }
    where
      token : (m : ℕ) (y : Bool) → (if y then slice_index numbers m else k) ≤ tokens_of v
      token m true = ns m
      token m false = omega (arith, ek)

  byte : (x : ℕ) → slice_index s.bytes x ≤ 255
  byte x = go (less x)
    where
      less : (x : ℕ) → (x < length s.bytes) ⊎ (length s.bytes ≤ x)
      less x = grind arith

      go : (x < length s.bytes) ⊎ (length s.bytes ≤ x) → slice_index s.bytes x ≤ 255
      go (inl l) = let e = All-get_or (λ b. b < 256) s.bytes x 0 l i.small in omega (arith, e)
      go (inr l) = let e = get_or_past s.bytes x 0 l in omega (arith, e)

  -- each number of a list is small where those of rules are
  by_rule : (xs : List ℕ) (m : ℕ) → length xs ≡ rules_of v →
      ((x : ℕ) → x < rules_of v → slice_index xs x ≤ m) → AreAtMost m xs
  by_rule xs m e f x = go (less x)
    where
      less : (x : ℕ) → (x < length xs) ⊎ (length xs ≤ x)
      less x = grind arith

      go : (x < length xs) ⊎ (length xs ≤ x) → slice_index xs x ≤ m
      go (inl l) = f x (omega (arith, e, l))
      go (inr l) = let d = get_or_past xs x 0 l in omega (arith, d)

  product : (a b m n : ℕ) → a ≤ m → b ≤ n → a * b ≤ m * n
  product a b m n h k = grind (arith, h, k)

  few_states : states_of v ≤ most_states
  few_states = let e = a.few_states in let f = a.states in omega (arith, e, f)

  few_symbols : symbols_of v ≤ most_symbols
  few_symbols = let e = a.few_symbols in let f = a.symbols in omega (arith, e, f)

  fewer_tokens : tokens_of v < symbols_of v
  fewer_tokens = let e = a.some_nonterminals in let f = a.symbols in let g = a.tokens in
      omega (arith, e, f, g)

  few_cells : length rows * (tokens_of v + 1) ≤ most_states * most_symbols
  few_cells = product (length rows) (tokens_of v + 1) most_states most_symbols
      (let e = cells.counts.2 in let f = few_states in omega (arith, e, f))
      (let e = fewer_tokens in let f = few_symbols in omega (arith, e, f))

  few_gotos : length trows * states_of v ≤ most_states * most_symbols
  few_gotos = let e = product (length trows) (states_of v) most_symbols most_states
      (let e = t.made in let f = t.count in let g = few_symbols in omega (arith, e, f, g))
      few_states in omega (arith, e)

  short : length numbers ≤ 2 ^ 32 → AreShort v the_code
  short few =
      let states = few_states in
      let symbols_few = few_symbols in
      let tokens = fewer_tokens in
      let cells1 = few_cells in
      let cells2 = few_gotos in
      let span : s.span ≤ 1024 = let e = b.span in omega (arith, e, tokens, symbols_few) in
      let sets_few = product s.count s.span (most_states + 1) 1024
      (let e = b.few in omega (arith, e, states)) span in
      record {
        states = states;
        rules = let e = a.few_rules in let f = a.rules in omega (arith, e, f);
        symbols = symbols_few;
        checks = (
          let e = h1.short in omega (arith, e, cells1),
          let e = h2.short in omega (arith, e, cells2),
        );
        values = (
          let e = h1.short in let f = h1.even in omega (arith, e, f, cells1),
          let e = h2.short in let f = h2.even in omega (arith, e, f, cells2),
        );
        span = span;
        bits = let e = i.sized in omega (arith, e, sets_few);
        numbers = few;
      }

  pub small : WellFormed v.built.grammar.bare → (length lengths ≡ rules_of v) →
      (length lefts ≡ rules_of v) → ((x : ℕ) → x < rules_of v → slice_index lengths x ≡
      length (body_of v.built.grammar.bare x)) → ((x : ℕ) → x < rules_of v →
      tokens_of v + slice_index lefts x ≡ left_of v.built.grammar.bare x) →
      AreAtMost (states_of v + rules_of v) c1.values → AreAtMost (states_of v) c2.values →
      AreAtMost (tokens_of v) numbers → length numbers ≤ 2 ^ 32 → AreSmall v the_code
  small w ll fl le fe v1 v2 ns few = record {
    short = short few;
    rows = (
      places_small (tokens_of v + 1) rows c1 few_cells (omega arith) h1,
      places_small (states_of v) trows c2 few_gotos
          (let e = a.some_states in let f = a.states in omega (arith, e, f)) h2,
    );
    checks = (h1.checks, h2.checks);
    values = (v1, v2);
    usual = usual_most v z a p usual sets s rows c1 cells h1;
    sets = sets_most v z a p usual sets s rows c1 cells h1 b;
    bits = byte;
    targets = t.below;
    symbols = λ x. go x (less_or_not x (length symbols));
    rules = (
      by_rule lengths 255 ll (λ x l. (let e = le x l in let f = w.short x l in
          omega (arith, e, f))),
      by_rule lefts (symbols_of v) fl (λ x l. (let e = fe x l in let f = w.left x l in
          omega (arith, e, f))),
    );
    numbers = ns;
  }
    where
      go : (x : ℕ) → (x < length symbols) ⊎ (length symbols ≤ x) →
          slice_index symbols x ≤ symbols_of v
      go x (inl l) =
          let q : x < states_of v = omega (arith, l, sl) in
          symbol_small v.built.grammar.bare (state_of v.built x) (slice_index symbols x) w
          (λ i c. subst (λ (j : Item). j.rule < length v.built.grammar.bare.rules) c.2
          (hs.range x q c.0 i c.1).0) (se x q)
      go x (inr l) = let d = get_or_past symbols x 0 l in omega (arith, d)
