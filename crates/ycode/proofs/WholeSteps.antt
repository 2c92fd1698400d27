-- The arrays of a parser are those of the definition.
use Rattle.std.proofs.Common.{ℕ, ◌≡◌, ◌+◌, ◌-◌, ◌<◌, ◌∙◌, List, [], length, map, ap, arith}
use Rattle.std.proofs.Common.{slice_index}
use Rattle.std.specs.List.{range_with_len}
use Rattle.std.proofs.lemmas.List.FromFn.{fill_by_all, get_or-map-range_with_len}
use Rattle.ysymbols.specs.Grammar.{left_of, body_of}
use Rattle.ylalr.specs.Collection.{state_of}
use Rattle.ytables.specs.Tables.{TablesValue}
use Rattle.ycode.specs.declared.comb.Comb.{Comb}
use Rattle.ycode.specs.declared.entry.Entry.{Entry}
use Rattle.ycode.specs.declared.policy.Policy.{Policy}
use Rattle.ycode.specs.Bits.{SetsValue}
use Rattle.ycode.specs.Cells.{states_of, tokens_of, symbols_of, rules_of, wanted_at, usual_rule}
use Rattle.ycode.specs.Cells.{set_number, sets_to, AreCells, AreSets}
use Rattle.ycode.specs.Entries.{entries_for}
use Rattle.ycode.specs.Layout.{comb_for}
use Rattle.ycode.specs.Symbols.{symbol_for}
use Rattle.ycode.specs.Targets.{AreTargets, gotos_over, goto_entries}
use Rattle.ycode.specs.Translation.{tokens_for}
use Rattle.ycode.specs.Usual.{most_usual}
use Rattle.ycode.specs.Whole.{code_for, action_rows, goto_rows, states_in}

module _ (p : Policy) (v : TablesValue) (usual sets : List ℕ) (s : SetsValue) (rows : List (List Entry))
    (cells : AreCells p v (states_of v) usual sets s rows) where
  usual_is : usual ≡ map (usual_rule p v) (states_in v)
  usual_is = fill_by_all (usual_rule p v) usual (states_of v) 0 cells.counts.0
      (λ q l. (cells.rules q l).is)

  sets_are : sets ≡ map (λ q. set_number p v (sets_to p v (q + 1)) q) (states_in v)
  sets_are = fill_by_all (λ q. set_number p v (sets_to p v (q + 1)) q) sets (states_of v) 0
      cells.counts.1 cells.numbers

  rows_are : rows ≡ action_rows p v
  rows_are = fill_by_all (λ q. entries_for (wanted_at p v (usual_rule p v q) q) (tokens_of v)) rows
      (states_of v) [] cells.counts.2 (λ q l. cells.lists q l ∙
      ap (λ (x : ℕ). entries_for (wanted_at p v x q) (tokens_of v)) (cells.rules q l).is)

  module _ (b : AreSets p v (states_of v) s) (tu : List ℕ) (trows : List (List Entry))
      (t : AreTargets v (length tu) tu trows) (c1 c2 : Comb)
      (e1 : c1 ≡ comb_for (tokens_of v + 1) rows)
      (e2 : c2 ≡ comb_for (states_of v) trows) (n r k : ℕ) (en : n ≡ states_of v)
      (er : r ≡ rules_of v) (ek : k ≡ tokens_of v) (symbols lengths lefts numbers : List ℕ)
      (se : symbols ≡ map (λ q. symbol_for v.built.grammar.bare (state_of v.built q)) (states_in v))
      (ll : length lengths ≡ rules_of v) (le : (x : ℕ) → x < rules_of v →
      slice_index lengths x ≡ length (body_of v.built.grammar.bare x))
      (fl : length lefts ≡ rules_of v) (fe : (x : ℕ) → x < rules_of v →
      tokens_of v + slice_index lefts x ≡ left_of v.built.grammar.bare x)
      (ne : numbers ≡ tokens_for v.built.grammar.numbers) where
    target_is : (x : ℕ) → x < symbols_of v - tokens_of v →
        slice_index tu x ≡ most_usual (gotos_over v x)
    target_is x l = ap (λ (u : List ℕ). slice_index u x) t.targets ∙
        get_or-map-range_with_len (λ (k : ℕ). most_usual (gotos_over v k)) 0
        (symbols_of v - tokens_of v) x x 0 l (omega arith)

    trows_are : trows ≡ goto_rows v
    trows_are = fill_by_all (λ x. goto_entries v (most_usual (gotos_over v x)) x) trows
        (symbols_of v - tokens_of v) []
        (let e = t.made in let f = t.count in omega (arith, e, f))
        (λ x l. t.lists x (let f = t.count in omega (arith, f, l)) ∙
        ap (λ (u : ℕ). goto_entries v u x) (target_is x l))

    actions_are : c1 ≡ comb_for (tokens_of v + 1) (action_rows p v)
    actions_are = e1 ∙ ap (comb_for (tokens_of v + 1)) rows_are

    gotos_are : c2 ≡ comb_for (states_of v) (goto_rows v)
    gotos_are = e2 ∙ ap (comb_for (states_of v)) trows_are

    bits_are : s.bytes ≡ (sets_to p v (states_of v)).bytes
    bits_are = ap (λ (x : SetsValue). x.bytes) b.are

    lengths_are : lengths ≡ map (λ x. length (body_of v.built.grammar.bare x))
        (range_with_len 0 (rules_of v))
    lengths_are = fill_by_all (λ x. length (body_of v.built.grammar.bare x)) lengths (rules_of v) 0
        ll le

    lefts_are : lefts ≡ map (λ x. left_of v.built.grammar.bare x - tokens_of v)
        (range_with_len 0 (rules_of v))
    lefts_are = fill_by_all (λ x. left_of v.built.grammar.bare x - tokens_of v) lefts (rules_of v) 0
        fl (λ x l. (let e = fe x l in omega (arith, e)))

    pub code_is : record {
      states = n;
      rules = r;
      tokens = k;
      actions = c1;
      usual = usual;
      sets = sets;
      span = s.span;
      bits = s.bytes;
      gotos = c2;
      targets = tu;
      symbols = symbols;
      lengths = lengths;
      lefts = lefts;
      numbers = numbers;
    } ≡ code_for p v
    unfolding code_for
    code_is = λ i. record {
      states = en i;
      rules = er i;
      tokens = ek i;
      actions = actions_are i;
      usual = usual_is i;
      sets = sets_are i;
      span = b.span i;
      bits = bits_are i;
      gotos = gotos_are i;
      targets = t.targets i;
      symbols = se i;
      lengths = lengths_are i;
      lefts = lefts_are i;
      numbers = ne i;
    }
