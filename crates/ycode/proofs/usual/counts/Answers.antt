use Rattle.std.proofs.Common.{ℕ, ◌≡◌, ◌<◌, ◌+◌, ◌∙◌, List, None, Some, length, get_or, set, ap, sym}
use Rattle.std.proofs.Common.{arith, slice_index, take, Vec, Global, Option}
use Rattle.std.proofs.lemmas.List.{get_or_read, length-set, take_all}
use Rattle.std.proofs.lemmas.List.FromFn.{fill_by_all}
use Rattle.ycode.specs.Usual.{count_of}
use Rattle.ycode.proofs.UsualSteps.{counts_skip, counts_more, counts_few, none_there}
use Rattle.ycode.proofs.usual.counts.Goals.{in-Some, in_default}
use Rattle.ycode.proofs.usual.counts.Goals as goal

pub loop-i-preserved : goal.loop-i-preserved
loop-i-preserved c =
    let xs = c.args.values.now in
    let i = c.loop-i.i in
    let cs = c.loop-i.counts.items in
    let inv = c.loop-i.invariant in
    let t = c.loop-i-test.true in
    elim c.match-values-i.branch [
      | in-Some w ↦
          (
          let n = w.in-Some.n in
          let x = w.index_mut.result.now in
          let b = c.requires i n w.in-Some.is in
          let l : n < length cs = (let e = inv.len in omega (arith, b, e)) in
          let read = get_or_read cs n x l w.index_mut.ensures.value 0 in
          let cs' = c.match-values-i.counts.items in
          let e : cs' ≡ set cs n (slice_index cs n + 1) =
          ap (λ (v : Vec ℕ Global). v.items) w.counts-is ∙ ap (λ (y : ℕ). set cs n (y + 1)) read in
          let m : slice_index cs n ≡ count_of (take i xs) (Some n) = inv.counts n b in
          record {
            len = ap (λ (y : List ℕ). length y) e ∙ (length-set cs n (slice_index cs n + 1) ∙
                inv.len);
            counts = λ k h. counts_more xs i t n cs cs' w.in-Some.is l e m k (inv.counts k h);
            few = λ k. counts_few xs i t n cs cs' w.in-Some.is l e m k i (inv.few k);
          })
      | in_default w ↦
          (let none : get_or xs i None ≡ None = none_there xs i w.in_default.not-Some in
          rw w.counts-is record {
            len = inv.len;
            counts = λ k h. inv.counts k h ∙ sym (counts_skip xs i t k none);
            few = λ k. (let f = inv.few k in omega (arith, f));
          })
    ]

pub returns : goal.returns
returns c =
    let xs = c.args.values.now in
    let inv = c.loop-i.invariant in
    fill_by_all (λ (n : ℕ). count_of xs (Some n)) c.loop-i.counts.items c.args.bound 0 inv.len
    (λ k l. inv.counts k l ∙ ap (λ (x : List (Option ℕ)). count_of x (Some k))
    (take_all c.loop-i.i xs c.loop-i-test.false))
