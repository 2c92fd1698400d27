use Rattle.std.proofs.Common.{ℕ, ◌≡◌, ◌<◌, ◌+◌, ◌^◌, nat_eq, false, slice_index_or}
use Rattle.std.specs.Int.{bit_at}
use Rattle.ycode.proofs.BitSteps.{sum_to}
use Rattle.ycode.proofs.sets.byte_of.Given as goal

abbrev pub invariant-loop-k : goal.invariant-loop-k
invariant-loop-k l = record {
  bits : (i : ℕ) → i < l.k → nat_eq (bit_at l.byte i) 1 ≡ slice_index_or l.members (l.at + i) false;
  small : l.byte < 2 ^ l.k;
  sum : l.byte ≡ sum_to (λ i. slice_index_or l.members (l.at + i) false) l.k;
}
