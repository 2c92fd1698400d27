use Rattle.std.proofs.Common.{List, ℕ, arith}
use Rattle.ysyntax.specs.declared.tree.BodyPart.{BodyPart}
use Rattle.ysymbols.specs.Names.{number_in}
use Rattle.ygrammar.specs.Numbered.{inner_numbers}
use Rattle.ygrammar.proofs.InnerSteps.{inner_all, inner_pushed, next_pushed, part_room}
use Rattle.ygrammar.proofs.InnerSteps.{symbols_all, symbols_pushed}
use Rattle.ygrammar.proofs.rules.number_body.Goals as goal

pub loop-item-preserved : goal.loop-item-preserved
loop-item-preserved c =
    let cs : List BodyPart = c.args.items.now in
    let i = c.loop-item.item-index in
    let ns : List (List ℕ) = c.args.names.now in
    let added = c.in_ok-push.ensures in
    record {
      rules = inner_pushed (inner_numbers ns) cs i _ _ _ _ _ _ c.loop-item-test.true added.next
          added.rules c.loop-item.invariant.rules;
      symbols = symbols_pushed (number_in ns) cs i _ _ _ _ _ _ c.loop-item-test.true added.next
          added.symbols c.loop-item.invariant.symbols;
      next = next_pushed cs i _ _ _ _ c.loop-item-test.true added.next
          c.loop-item.invariant.next;
    }

pub push-requires : goal.push-requires
push-requires c = part_room c.args.items.now c.loop-item.item-index _ _ _ _ c.loop-item-test.true
    c.loop-item.invariant.next c.requires

pub returns-clause-rules : goal.returns-clause-rules
returns-clause-rules c = inner_all (inner_numbers c.args.names.now) c.args.items.now
    c.loop-item.item-index _ _ _ (omega arith) c.loop-item.invariant.rules

pub returns-clause-symbols : goal.returns-clause-symbols
returns-clause-symbols c = symbols_all (number_in c.args.names.now) c.args.items.now
    c.loop-item.item-index _ _ _ (omega arith) c.loop-item.invariant.symbols
