use Rattle.std.proofs.Common.{ℕ, ◌*◌, ◌/◌, ◌%◌, ◌^◌, ◌<◌, List, length, set, ap, arith}
use Rattle.std.proofs.Common.{bit_or}
use Rattle.std.proofs.lemmas.List.{get_or_read}
use Rattle.ycode.proofs.SlotSteps.{mark_is}
use Rattle.ycode.proofs.slots.mark.Goals as goal

pub returns : goal.returns
returns c =
    let at = c.args.at in
    let W = c.grow.new.words in
    let x = c.index_mut.result.now in
    let l : at / 64 < length W.items = (let e = c.in_ok-grow.ensures.count in let k = W.ok.0 in
    omega (arith, e, k)) in
    let bits : ℕ → List ℕ = λ (y : ℕ). set W.items (at / 64)
    (bit_or y ((1 * 2 ^ (at % 64)) % 2 ^ 64)) in
    mark_is c.args.words.now.items W.items (bits x) at c.in_ok-grow.ensures.same l
    (ap bits (get_or_read W.items (at / 64) x l c.index_mut.ensures.value 0))
