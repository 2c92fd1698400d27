use Rattle.std.proofs.Common.{◌≡◌, ◌∙◌, ℕ, length, subst, arith}
use Rattle.ysymbols.specs.Marking.{AreOccurrences, lists_of}
use Rattle.ysymbols.proofs.FilingSteps.{listed_more, started}
use Rattle.ysymbols.proofs.occurrences.occurrences.Goals as goal

pub loop-r-init : goal.loop-r-init
loop-r-init c = started c.args.rules.now c.args.symbols c.in_ok-lists.lists
    c.in_ok-lists.ensures.sized c.in_ok-lists.ensures.empty

pub loop-r-preserved : goal.loop-r-preserved
loop-r-preserved c = record {
  sized = c.in_ok-file_body.ensures.sized ∙ c.loop-r.invariant.sized;
  filed = listed_more c.args.rules.now c.loop-r.r c.args.symbols c.body_at.result.now
      (lists_of c.loop-r.lists) (lists_of c.file_body.new.lists) c.body_at.ensures
      c.loop-r.invariant.filed c.in_ok-file_body.ensures.filed;
}

pub returns : goal.returns
returns c =
    let e : c.loop-r.r ≡ length c.args.rules.now = omega arith in
    subst (λ (b : ℕ). AreOccurrences c.args.rules.now b c.args.symbols (lists_of c.loop-r.lists)) e
    c.loop-r.invariant.filed
