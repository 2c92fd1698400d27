use Rattle.std.proofs.Common.{ℕ, ◌≤◌, ◌+◌, Option, IfSome, subst}
use Rattle.ycode.specs.Cells.{wanted_at, states_of, rules_of}
use Rattle.ycode.proofs.EntrySteps.{entries_more, rest_more, most_more, entries_for_more}
use Rattle.ycode.proofs.cells.entries_of.Goals as goal

pub loop-t-preserved : goal.loop-t-preserved
loop-t-preserved c =
    let v = c.args.tables.now in
    let p = c.args.policy in
    let t = c.loop-t.t in
    let old = c.loop-t.entries in
    let new = c.push_number.new.entries in
    let number = c.wanted_at-number.result in
    let inv = c.loop-t.invariant in
    let adds = c.in_ok-push_number.ensures in
    record {
      entries = entries_more old new t number adds inv.rest
          (λ s. wanted_at p v c.args.usual c.args.q s) c.wanted_at-number.ensures.value inv.entries;
      rest = rest_more old new t number adds inv.rest;
      most = most_more old new t number adds inv.rest (states_of v + rules_of v)
          (λ k e. subst (λ (o : Option ℕ). IfSome o (λ n. n ≤ states_of v + rules_of v)) e
          c.wanted_at-number.ensures.most) inv.most;
      list = entries_for_more (λ s. wanted_at p v c.args.usual c.args.q s) old new t number adds
          c.wanted_at-number.ensures.value inv.list;
    }
