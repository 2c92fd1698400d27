use Rattle.std.proofs.Common.{ℕ, ◌+◌, ◌∙◌, Bool, sym, arith, false, slice_index_or}
use Rattle.ycode.proofs.BitSteps.{bits_set, bits_skip, small_set, small_skip}
use Rattle.ycode.proofs.BitSteps.{sum_set, sum_skip}
use Rattle.ycode.proofs.sets.byte_of.Goals as goal
use Rattle.ycode.proofs.sets.byte_of.Goals.{then-is_member, else-is_member}

pub loop-k-preserved : goal.loop-k-preserved
loop-k-preserved c =
    let f : ℕ → Bool = λ (i : ℕ). slice_index_or c.args.members.now (c.args.at + i) false in
    let inv = c.loop-k.invariant in
    let k = c.loop-k.k in
    let byte = c.loop-k.byte in
    elim c.if-is_member.branch [
      | then-is_member w ↦
          (let h = sym c.is_member.ensures ∙ w.if-is_member.true in
          record {
            bits = bits_set byte c.if-is_member.byte k f inv.small (omega arith) inv.bits w.byte-is
                h;
            small = small_set byte c.if-is_member.byte k f inv.small (omega arith) inv.bits
                w.byte-is;
            sum = sum_set byte c.if-is_member.byte k f inv.small (omega arith) inv.bits inv.sum
                w.byte-is h;
          })
      | else-is_member w ↦
          (let h = sym c.is_member.ensures ∙ w.if-is_member.false in
          rw w.byte-is record {
            bits = bits_skip byte byte k f inv.small (omega arith) inv.bits h;
            small = small_skip byte byte k f inv.small (omega arith) inv.bits;
            sum = sum_skip byte byte k f inv.small (omega arith) inv.bits inv.sum h;
          })
    ]
