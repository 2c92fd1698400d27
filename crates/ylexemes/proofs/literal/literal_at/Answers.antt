use Rattle.std.proofs.Common.{rules, sym}
use Rattle.ylexemes.proofs.Literals.{literal_of_scan, no_literal_of_scan, quoted_front}
use Rattle.ylexemes.proofs.literal.literal_at.Goals as goal

pub returns-in-Found : goal.returns-in-Found
returns-in-Found c =
    literal_of_scan c.args.bytes.now c.split_at.result.1.now c.in-Found.rest.now c.in-Found.value
    (quoted_front c.args.bytes.now c.split_at.result.1.now (search rules) (search rules)
    c.split_at.ensures.back) (sym c.in-Found.ensures)

pub returns-in-Stuck : goal.returns-in-Stuck
returns-in-Stuck c =
    no_literal_of_scan c.args.bytes.now c.split_at.result.1.now _
    (quoted_front c.args.bytes.now c.split_at.result.1.now (search rules) (search rules)
    c.split_at.ensures.back) (sym c.in-Stuck.ensures) (λ v r e. cc)

pub returns-in-Short : goal.returns-in-Short
returns-in-Short c =
    no_literal_of_scan c.args.bytes.now c.split_at.result.1.now _
    (quoted_front c.args.bytes.now c.split_at.result.1.now (search rules) (search rules)
    c.split_at.ensures.back) (sym c.in-Short.ensures) (λ v r e. cc)
