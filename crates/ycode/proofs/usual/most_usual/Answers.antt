use Rattle.std.proofs.Common.{ℕ, ◌≡◌, ◌<◌, ◌+◌, ◌∙◌, List, None, Some, length, get_or, set, ap}
use Rattle.std.proofs.Common.{sym}
use Rattle.std.proofs.Common.{arith, slice_index, replicate, take, Vec, Global}
use Rattle.ycode.specs.Usual.{count_of}
use Rattle.std.proofs.lemmas.List.{get_or_read, length-replicate, length-set}
use Rattle.ycode.proofs.UsualSteps.{best_none, best_skips, counts_skip, counts_more, counts_few}
use Rattle.ycode.proofs.UsualSteps.{best_taken, best_kept, best_of_all, zeros, none_there}
use Rattle.ycode.proofs.usual.most_usual.Goals.{in-Some+then-index, in-Some+else-index, in_default}
use Rattle.ycode.proofs.usual.most_usual.Goals as goal

pub loop-i-init : goal.loop-i-init
loop-i-init c =
    let b = c.args.bound in
    let e : c.in_ok-counts.counts.items ≡ replicate b 0 =
    c.in_ok-counts.ensures.items_if_clones_equal (λ y h. h) in
    let zero : (n : ℕ) → slice_index c.in_ok-counts.counts.items n ≡ 0 = λ (n : ℕ).
    ap (λ (x : List ℕ). slice_index x n) e ∙ zeros b n in
    record {
      len = ap (λ (x : List ℕ). length x) e ∙ length-replicate b 0;
      below = λ l. l;
      most = omega arith;
      counts = λ n l. zero n;
      few = λ n. (let z = zero n in omega (arith, z));
      best = best_none c.args.values.now (slice_index c.in_ok-counts.counts.items 0) (zero 0);
    }

pub loop-i-preserved : goal.loop-i-preserved
loop-i-preserved c =
    let xs = c.args.values.now in
    let i = c.loop-i.i in
    let cs = c.loop-i.counts.items in
    let u = c.loop-i.usual in
    let inv = c.loop-i.invariant in
    let t = c.loop-i-test.true in
    elim c.match-values-i.branch [
      | in-Some+then-index w ↦
          (
          let n = w.in-Some.n in
          let x = w.index_mut.result.now in
          let b = c.requires i n w.in-Some.is in
          let l : n < length cs = (let e = inv.len in omega (arith, b, e)) in
          let read = get_or_read cs n x l w.index_mut.ensures.value 0 in
          let cs' = c.match-values-i.counts.items in
          let e : cs' ≡ set cs n (slice_index cs n + 1) =
          ap (λ (v : Vec ℕ Global). v.items) w.counts-is ∙ ap (λ (y : ℕ). set cs n (y + 1)) read in
          let m : slice_index cs n ≡ count_of (take i xs) (Some n) = inv.counts n b in
          let len : length cs' ≡ c.args.bound = ap (λ (y : List ℕ). length y) e ∙
          (length-set cs n (slice_index cs n + 1) ∙ inv.len) in
          let u_low : u < length cs = (let k = inv.below (omega (arith, b)) in
          let z = inv.len in omega (arith, k, z)) in
          let made : set cs n (x + 1) ≡ cs' = sym (ap (λ (v : Vec ℕ Global). v.items) w.counts-is) in
          let at_u : w.index.result.now ≡ slice_index cs' u =
          get_or_read (set cs n (x + 1)) u w.index.result.now
          (let z = length-set cs n (x + 1) in omega (arith, z, u_low)) w.index.ensures 0 ∙
          ap (λ (y : List ℕ). slice_index y u) made in
          let at_n : w.index-in-Some.result.now ≡ slice_index cs' n =
          get_or_read (set cs n (x + 1)) n w.index-in-Some.result.now
          (let z = length-set cs n (x + 1) in omega (arith, z, l)) w.index-in-Some.ensures 0 ∙
          ap (λ (y : List ℕ). slice_index y n) made in
          rw w.usual-is record {
            len = len;
            below = λ z. b;
            most = omega (arith, b);
            counts = λ k h. counts_more xs i t n cs cs' w.in-Some.is l e m k (inv.counts k h);
            few = λ k. counts_few xs i t n cs cs' w.in-Some.is l e m k i (inv.few k);
            best = best_taken xs i t n cs cs' w.in-Some.is l e m u
                (let z = w.if-index.true in omega (arith, z, at_u, at_n)) inv.best;
          })
      | in-Some+else-index w ↦
          (
          let n = w.in-Some.n in
          let x = w.index_mut.result.now in
          let b = c.requires i n w.in-Some.is in
          let l : n < length cs = (let e = inv.len in omega (arith, b, e)) in
          let read = get_or_read cs n x l w.index_mut.ensures.value 0 in
          let cs' = c.match-values-i.counts.items in
          let e : cs' ≡ set cs n (slice_index cs n + 1) =
          ap (λ (v : Vec ℕ Global). v.items) w.counts-is ∙ ap (λ (y : ℕ). set cs n (y + 1)) read in
          let m : slice_index cs n ≡ count_of (take i xs) (Some n) = inv.counts n b in
          let len : length cs' ≡ c.args.bound = ap (λ (y : List ℕ). length y) e ∙
          (length-set cs n (slice_index cs n + 1) ∙ inv.len) in
          let u_low : u < length cs = (let k = inv.below (omega (arith, b)) in
          let z = inv.len in omega (arith, k, z)) in
          let made : set cs n (x + 1) ≡ cs' = sym (ap (λ (v : Vec ℕ Global). v.items) w.counts-is) in
          let at_u : w.index.result.now ≡ slice_index cs' u =
          get_or_read (set cs n (x + 1)) u w.index.result.now
          (let z = length-set cs n (x + 1) in omega (arith, z, u_low)) w.index.ensures 0 ∙
          ap (λ (y : List ℕ). slice_index y u) made in
          let at_n : w.index-in-Some.result.now ≡ slice_index cs' n =
          get_or_read (set cs n (x + 1)) n w.index-in-Some.result.now
          (let z = length-set cs n (x + 1) in omega (arith, z, l)) w.index-in-Some.ensures 0 ∙
          ap (λ (y : List ℕ). slice_index y n) made in
          rw w.usual-is record {
            len = len;
            below = inv.below;
            most = inv.most;
            counts = λ k h. counts_more xs i t n cs cs' w.in-Some.is l e m k (inv.counts k h);
            few = λ k. counts_few xs i t n cs cs' w.in-Some.is l e m k i (inv.few k);
            best = best_kept xs i t n cs cs' w.in-Some.is l e m u
                (let z = w.if-index.false in omega (arith, z, at_u, at_n)) inv.best;
          })
      | in_default w ↦
          (let none : get_or xs i None ≡ None = none_there xs i w.in_default.not-Some in
          rw (w.counts-is, w.usual-is) record {
            len = inv.len;
            below = inv.below;
            most = inv.most;
            counts = λ k h. inv.counts k h ∙ sym (counts_skip xs i t k none);
            few = λ k. (let f = inv.few k in omega (arith, f));
            best = best_skips xs i t u (slice_index cs u) none inv.best;
          })
    ]

pub overflow_add-index_mut : goal.overflow_add-index_mut
overflow_add-index_mut c =
    let cs = c.loop-i.counts.items in
    let n = c.in-Some.n in
    let b = c.requires c.loop-i.i n c.in-Some.is in
    let l : n < length cs = (let e = c.loop-i.invariant.len in omega (arith, b, e)) in
    let read = get_or_read cs n c.index_mut.result.now l c.index_mut.ensures.value 0 in
    let f = c.loop-i.invariant.few n in omega (arith, read, f)

pub returns-clause-value : goal.returns-clause-value
returns-clause-value c = best_of_all c.args.values.now c.loop-i.i c.loop-i.usual
    (slice_index c.loop-i.counts.items c.loop-i.usual) c.loop-i-test.false c.loop-i.invariant.best
