use Rattle.std.proofs.Common.{ℕ, ◌≡◌, ◌+◌, ◌<◌, ◌∙◌, List, length, sym, ap, subst}
use Rattle.std.proofs.Common.{slice_index}
use Rattle.ysymbols.specs.Grammar.{GrammarValue, body_of, left_of}
use Rattle.ysymbols.specs.WellFormed.{WellFormed}
use Rattle.ylalr.specs.Collection.{Collection, HasStates}
use Rattle.ycode.specs.declared.entry.Entry.{Entry}
use Rattle.ycode.specs.Cells.{states_of, tokens_of, rules_of}
use Rattle.ycode.specs.Combs.{HasRows, AreAtMost}
use Rattle.ycode.specs.Entries.{NumbersAtMost}
use Rattle.ycode.specs.Translation.{TranslatesTo, tokens_for}
use Rattle.ycode.specs.Layout.{comb_for}
use Rattle.ycode.proofs.ReadSteps.{values_most, targets_most}
use Rattle.ycode.proofs.CodeSteps.{reads, inside, small}
use Rattle.ycode.proofs.WholeSteps.{code_is}
use Rattle.ycode.proofs.code.code_of.Goals as goal

pub returns : goal.returns
returns c =
    let v = c.args.tables.now in
    let p = c.args.policy in
    let z = c.sizes_of-sizes.result in
    let a = c.sizes_of-sizes.ensures in
    let cells = c.in_ok-cells.cells in
    let tg = c.in_ok-targets.targets in
    let t = c.in_ok-targets.ensures in
    let ce = c.in_ok-cells.ensures.cells in
    let be = c.in_ok-cells.ensures.sets in
    let c1 = c.in_ok-comb_of.field-0 in
    let c2 = c.in_ok-comb_of-2.field-0 in
    let symbols = c.in_ok-symbols_of.field-0 in
    let lengths = c.in_ok-lengths_of.field-0 in
    let lefts = c.in_ok-lefts_of.field-0 in
    let numbers = c.in_ok-translation.field-0 in
    let i = c.span.ensures.valid in
    let h1 : HasRows cells.rows.items (tokens_of v + 1) c1 =
    subst (λ (w : ℕ). HasRows cells.rows.items (w + 1) c1) a.tokens
    (subst (λ (rows : List (List Entry)). HasRows rows (z.tokens + 1) c1) c.deref.ensures.value
    c.in_ok-comb_of.ensures.rows) in
    let h2 : HasRows tg.rows.items (states_of v) c2 =
    subst (λ (w : ℕ). HasRows tg.rows.items w c2) a.states
    (subst (λ (rows : List (List Entry)). HasRows rows z.states c2)
    c.deref-2.ensures.value c.in_ok-comb_of-2.ensures.rows) in
    let v1 : AreAtMost (states_of v + rules_of v) c1.values =
    c.in_ok-comb_of.ensures.values (states_of v + rules_of v)
    (subst (λ (rows : List (List Entry)). NumbersAtMost (states_of v + rules_of v) rows)
    (sym c.deref.ensures.value)
    (values_most v z a p cells.usual.items cells.sets.items cells.known cells.rows.items c1 ce h1)) in
    let v2 : AreAtMost (states_of v) c2.values =
    c.in_ok-comb_of-2.ensures.values (states_of v)
    (subst (λ (rows : List (List Entry)). NumbersAtMost (states_of v) rows)
    (sym c.deref-2.ensures.value)
    (targets_most v z a tg.usual.items tg.rows.items c2 t h2)) in
    let same = c.automaton-automaton.ensures.value in
    let hs : HasStates v.built = subst HasStates same c.states-guide.ensures.states in
    let g : c.grammar-grammar.result.now ≡ v.built.grammar = c.grammar-grammar.ensures ∙
    ap (λ (m : Collection). m.grammar) same in
    let w : WellFormed v.built.grammar.bare = subst (λ (x : GrammarValue). WellFormed x.bare) g
    c.symbols-well_formed.ensures.well_formed in
    let ll : length lengths ≡ rules_of v = c.in_ok-lengths_of.ensures.len ∙
    ap (λ (x : GrammarValue). length x.bare.rules) g in
    let le : (r : ℕ) → r < rules_of v → slice_index lengths r ≡
    length (body_of v.built.grammar.bare r) =
    subst (λ (x : GrammarValue). (r : ℕ) → r < length x.bare.rules → slice_index lengths r ≡
    length (body_of x.bare r)) g c.in_ok-lengths_of.ensures.lengths in
    let fl : length lefts ≡ rules_of v = c.in_ok-lefts_of.ensures.len ∙
    ap (λ (x : GrammarValue). length x.bare.rules) g in
    let fe : (r : ℕ) → r < rules_of v → tokens_of v + slice_index lefts r ≡
    left_of v.built.grammar.bare r =
    subst (λ (k : ℕ). (r : ℕ) → r < rules_of v → k + slice_index lefts r ≡
    left_of v.built.grammar.bare r) a.tokens
    (subst (λ (x : GrammarValue). (r : ℕ) → r < length x.bare.rules →
    z.tokens + slice_index lefts r ≡ left_of x.bare r) g c.in_ok-lefts_of.ensures.lefts) in
    let tr : TranslatesTo (tokens_of v) v.built.grammar.numbers (tokens_of v) numbers =
    subst (λ (k : ℕ). TranslatesTo k v.built.grammar.numbers k numbers) a.tokens
    (subst (λ (x : GrammarValue). TranslatesTo z.tokens x.numbers z.tokens numbers) g
    c.in_ok-translation.ensures.translates) in
    let ns : AreAtMost (tokens_of v) numbers = subst (λ (k : ℕ). AreAtMost k numbers) a.tokens
    c.in_ok-translation.ensures.most in
    let e1 : c1 ≡ comb_for (tokens_of v + 1) cells.rows.items =
    c.in_ok-comb_of.ensures.exact ∙
    (ap (λ (rows : List (List Entry)). comb_for (z.tokens + 1) rows) c.deref.ensures.value ∙
    ap (λ (w : ℕ). comb_for (w + 1) cells.rows.items) a.tokens) in
    let e2 : c2 ≡ comb_for (states_of v) tg.rows.items =
    c.in_ok-comb_of-2.ensures.exact ∙
    (ap (λ (rows : List (List Entry)). comb_for z.states rows)
    c.deref-2.ensures.value ∙ ap (λ (w : ℕ). comb_for w tg.rows.items) a.states) in
    let ne : numbers ≡ tokens_for v.built.grammar.numbers =
    c.in_ok-translation.ensures.list ∙ ap (λ (x : GrammarValue). tokens_for x.numbers) g in
    rw (
      c.of.ensures,
      c.of-2.ensures,
      c.span.ensures.value,
      c.of-3.ensures ∙ c.into_bytes.ensures,
      c.of-4.ensures,
    ) record {
      value = code_is p v cells.usual.items cells.sets.items cells.known cells.rows.items ce be
          tg.usual.items tg.rows.items t c1 c2 e1 e2 z.states z.rules z.tokens a.states a.rules
          a.tokens symbols lengths lefts numbers c.in_ok-symbols_of.ensures.list ll le fl fe ne;
      says = record {
        reads = reads p v z a cells.usual.items cells.sets.items cells.known cells.rows.items c1 ce be i
            h1 tg.usual.items tg.rows.items c2 t h2 symbols lengths lefts numbers hs
            c.in_ok-symbols_of.ensures.len c.in_ok-symbols_of.ensures.symbols z.states z.rules
            z.tokens
            a.states a.rules a.tokens le fe tr;
        inside = inside p v z a cells.usual.items cells.sets.items cells.known cells.rows.items c1 ce be
            i h1 tg.usual.items tg.rows.items c2 t h2 symbols lengths lefts numbers hs
            c.in_ok-symbols_of.ensures.len c.in_ok-symbols_of.ensures.symbols z.states z.rules
            z.tokens
            a.states a.rules a.tokens w ll fl fe ns;
        small = small p v z a cells.usual.items cells.sets.items cells.known cells.rows.items c1 ce be
            i h1 tg.usual.items tg.rows.items c2 t h2 symbols lengths lefts numbers hs
            c.in_ok-symbols_of.ensures.len c.in_ok-symbols_of.ensures.symbols z.states z.rules
            z.tokens
            a.states a.rules a.tokens w ll fl le fe v1 v2 ns c.in_ok-translation.ensures.few;
      };
    }
