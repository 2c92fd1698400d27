use Rattle.std.proofs.Common.{arith}
use Rattle.ygrammar.proofs.InnerSteps.{rule_text_room}
use Rattle.ygrammar.proofs.rules.intern_lefts.Goals as goal

pub intern_inner-requires : goal.intern_inner-requires
intern_inner-requires c = rule_text_room c.args.rule_texts.now
    c.loop-rule_text.rule_text-index _ _ _ _ _ c.rule_text-item.is (omega arith)
    c.final_parts.ensures.items c.loop-rule_text.invariant.counted c.requires
