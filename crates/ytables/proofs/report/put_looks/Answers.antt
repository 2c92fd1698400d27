use Rattle.std.proofs.Common.{ℕ, ◌≡◌, ◌+◌, ◌<◌, List, true, flat_map, get_or, sym, ap, ◌∙◌, subst}
use Rattle.std.proofs.Common.{arith, false}
use Rattle.std.specs.List.{range_with_len}
use Rattle.ysymbols.specs.Grammar.{GrammarValue}
use Rattle.ylalr.specs.declared.items.Item.{Item}
use Rattle.ylalr.specs.Items.{IsNextLook}
use Rattle.ylalr.specs.Collection.{Collection, bare_of, state_of}
use Rattle.ylink.specs.Sends.{Sends}
use Rattle.ylink.proofs.Sent.{Sends-nothing}
use Rattle.ytables.specs.Report.{look_text}
use Rattle.ylink.proofs.Ranges.{range_cut, range_sent}
use Rattle.ytables.proofs.LookSteps.{next_said, next_looks, look_said}
use Rattle.ytables.proofs.report.put_looks.Goals as goal

pub loop-t-init : goal.loop-t-init
loop-t-init g c =
    let v = c.args.tables.now in
    let q = c.args.q in
    let item : Item → Item = λ d. get_or (state_of v.built q) c.args.index d in
    let next : (d : Item) → IsNextLook (bare_of v.built) (state_of v.built q) (item d) 0
    c.next_look-t.result =
    rw (c.automaton-automaton.ensures.value) at c.next_look-t.ensures in
    record {
      within = (next (record { rule = 0; dot = 0 })).within;
      looks = λ u h d s. next_looks v u h q (item d) c.requires.state 0 c.next_look-t.result (next d)
          s;
      sent = λ u h d. subst (λ (l : List ℕ). Sends g.W.Write.contents c.args.link.now
          c.args.link.now true l) (sym (next_said v u h q (item d) c.requires.state 0
          c.next_look-t.result (next d))) (Sends-nothing g.W.Write.contents c.args.link.now);
    }

pub returns-in_err-put_name : goal.returns-in_err-put_name
returns-in_err-put_name g c = λ u h d.
    let v = c.args.tables.now in
    let q = c.args.q in
    let t = c.loop-t.t in
    let item : Item = get_or (state_of v.built q) c.args.index d in
    let n : c.token_count-tokens.result ≡ v.built.grammar.bare.tokens =
    c.token_count-tokens.ensures ∙ ap (λ (x : GrammarValue). x.bare.tokens) c.grammar-grammar.ensures
    ∙ ap (λ (m : Collection). m.grammar.bare.tokens) c.automaton-automaton.ensures.value in
    let inside : t < v.built.grammar.bare.tokens =
    subst (λ k. t < k) n c.loop-t-test.true in
    range_cut g.W.Write.contents (look_text v u q item) 0 _ _ _ _ _ t t c.from_residual.ensures inside
    (omega arith) (c.loop-t.invariant.sent u h d)
    (subst (λ (l : List ℕ). Sends g.W.Write.contents c.loop-t.link c.put_name.new.link false l)
    (look_said v u h q item c.requires.state t (c.loop-t.invariant.looks u h d inside))
    (rw (c.grammar-grammar.ensures, c.automaton-automaton.ensures.value) at
    c.in_err-put_name.ensures))

pub loop-t-preserved : goal.loop-t-preserved
loop-t-preserved g c =
    let v = c.args.tables.now in
    let q = c.args.q in
    let t = c.loop-t.t in
    let after = c.next_look-t-in-loop-t.result in
    let item : Item → Item = λ d. get_or (state_of v.built q) c.args.index d in
    let n : c.token_count-tokens.result ≡ v.built.grammar.bare.tokens =
    c.token_count-tokens.ensures ∙ ap (λ (x : GrammarValue). x.bare.tokens) c.grammar-grammar.ensures
    ∙ ap (λ (m : Collection). m.grammar.bare.tokens) c.automaton-automaton.ensures.value in
    let inside : t < v.built.grammar.bare.tokens =
    subst (λ k. t < k) n c.loop-t-test.true in
    let next : (d : Item) → IsNextLook (bare_of v.built) (state_of v.built q) (item d) (t + 1) after
    = rw (c.automaton-automaton.ensures.value) at c.next_look-t-in-loop-t.ensures in
    record {
      within = (next (record { rule = 0; dot = 0 })).within;
      looks = λ u h d s. next_looks v u h q (item d) c.requires.state (t + 1) after (next d) s;
      sent = λ u h d. subst (λ (l : List ℕ). Sends g.W.Write.contents c.args.link.now
          c.put_name.new.link true l) (sym (next_said v u h q (item d) c.requires.state (t + 1) after
          (next d))) (range_sent g.W.Write.contents (look_text v u q (item d)) 0 _ _ _ t t
          (omega arith) (c.loop-t.invariant.sent u h d)
          (subst (λ (l : List ℕ). Sends g.W.Write.contents c.loop-t.link c.put_name.new.link true l)
          (look_said v u h q (item d) c.requires.state t (c.loop-t.invariant.looks u h d inside))
          (rw (c.grammar-grammar.ensures, c.automaton-automaton.ensures.value) at
          c.in_ok-put_name.ensures)));
    }

pub returns : goal.returns
returns g c = λ u h d.
    let v = c.args.tables.now in
    let item : Item = get_or (state_of v.built c.args.q) c.args.index d in
    let n : c.token_count-tokens.result ≡ v.built.grammar.bare.tokens =
    c.token_count-tokens.ensures ∙ ap (λ (x : GrammarValue). x.bare.tokens) c.grammar-grammar.ensures
    ∙ ap (λ (m : Collection). m.grammar.bare.tokens) c.automaton-automaton.ensures.value in
    let out : c.loop-t.t ≡ v.built.grammar.bare.tokens =
    (let a = c.loop-t-test.false in let b = c.loop-t.invariant.within in omega (arith, n, a, b)) in
    subst (λ k. Sends g.W.Write.contents c.args.link.now c.loop-t.link true
    (flat_map (look_text v u c.args.q item) (range_with_len 0 k))) out
    (c.loop-t.invariant.sent u h d)

pub loop-t-smaller : goal.loop-t-smaller
loop-t-smaller g c =
    let v = c.args.tables.now in
    let q = c.args.q in
    let z : Item = record { rule = 0; dot = 0 } in
    let n : c.token_count-tokens.result ≡ v.built.grammar.bare.tokens =
    c.token_count-tokens.ensures ∙ ap (λ (x : GrammarValue). x.bare.tokens) c.grammar-grammar.ensures
    ∙ ap (λ (m : Collection). m.grammar.bare.tokens) c.automaton-automaton.ensures.value in
    let next : IsNextLook (bare_of v.built) (state_of v.built q)
    (get_or (state_of v.built q) c.args.index z) (c.loop-t.t + 1) c.next_look-t-in-loop-t.result =
    (rw (c.automaton-automaton.ensures.value) at c.next_look-t-in-loop-t.ensures) z in
    let far = next.further in
    let inside = c.loop-t-test.true in
    omega (arith, n, far, inside)
