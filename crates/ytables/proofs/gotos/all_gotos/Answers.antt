use Rattle.std.proofs.Common.{ℕ, ◌≡◌, ◌<◌, ◌+◌, length, get_or, None, ap, ◌∙◌}
use Rattle.std.proofs.Common.{arith}
use Rattle.ylalr.specs.Collection.{goto_in}
use Rattle.ytables.proofs.GotoSteps.{gotos_step, tokens_by}
use Rattle.ytables.proofs.gotos.all_gotos.Goals as goal

pub loop-q-preserved : goal.loop-q-preserved
loop-q-preserved c =
    let m = c.args.automaton.now in
    let q = c.loop-q.q in
    let inv = c.loop-q.invariant in
    let row = c.in_ok-row.row.items in
    let tokens = tokens_by c.token_count-tokens.ensures c.grammar-grammar.ensures in
    let pushed = rw c.deref.ensures.value at c.in_ok-push.ensures in
    let wide = inv.width in
    let len = c.in_ok-row.ensures.len in
    let here : (x : ℕ) → x < length row → get_or row x None ≡ goto_in m q
    (m.grammar.bare.tokens + x) = λ x l. c.in_ok-row.ensures.gotos x l ∙ ap
    (λ t. goto_in m q (t + x)) tokens in
    record {
      count = pushed.count ∙ ap (λ n. n + 1) inv.count;
      width = ap (λ w. w + c.token_count-tokens.result) pushed.width ∙ inv.width;
      gotos = gotos_step m q c.loop-q.gotos c.push.new.self row inv.count
          (omega (arith, wide, tokens)) (omega (arith, wide, len)) pushed here inv.gotos;
    }
