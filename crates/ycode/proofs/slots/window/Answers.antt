use Rattle.ycode.proofs.SlotSteps.{window_bit}
use Rattle.ycode.proofs.slots.window.Goals as goal

pub returns : goal.returns
returns c = λ i l e. window_bit c.args.words.now c.args.at c.word_at.result c.word_at-high.result i l
    c.word_at.ensures.value c.word_at-high.ensures.value c.word_at.ensures.small e
