use Rattle.std.proofs.Common.{subst}
use Rattle.ybitsets.specs.Marks.{Has}
use Rattle.ylalr.proofs.FrontSteps.{first_rules_spread}
use Rattle.ybitsets.proofs.Growth.{sized_then}
use Rattle.ybitsets.proofs.MarkSteps.{none_marked}
use Rattle.ylalr.proofs.first_rules.first_rules.Goals as goal

pub returns : goal.returns
returns c =
    let m = c.in_ok-rows.ensures in
    let o = c.in_ok-spread.ensures in
    record {
      sized = sized_then m.sized o.sized;
      exact = first_rules_spread c.args.grammar.now.bare c.in_ok-none.none c.in_ok-links.links
          c.in_ok-rows.rows c.spread.new.rows (λ s h. none_marked c.symbols.result s
          (subst (λ n. Has n s) c.in_ok-none.ensures h)) c.in_ok-links.ensures m.own o.exact;
    }
