use Rattle.std.proofs.Common.{ℕ, ◌≡◌, ◌+◌, ◌<◌, List, [], ◌∷◌, subst, arith}
use Rattle.std.specs.Int.{bit_at}
use Rattle.std.proofs.lemmas.Nat.{or_lt}
use Rattle.ycode.specs.Slots.{MeetsTaken}
use Rattle.ycode.proofs.FinderSteps.{run_blocks}
use Rattle.ycode.proofs.finder.Finder.passed.Goals as goal

pub returns-clause-none : goal.returns-clause-none
returns-clause-none c = λ i l.
    (let f = c.args.self.now in
    let columns = c.args.columns.now in
    let d = c.args.d in
    let a = c.blocked.result in
    let b = c.blocked-2.result in
    run_blocks c.args.packing.now f c.requires.knows columns d a b
    (subst (λ (w : List ℕ). (i : ℕ) → i < 64 → bit_at a i ≡ 1 → MeetsTaken w columns (d + i))
    c.deref.ensures.value c.blocked.ensures.bits)
    (subst (λ (w : List ℕ). (i : ℕ) → i < 64 → bit_at b i ≡ 1 → MeetsTaken w (0 ∷ []) (d + i))
    c.deref-2.ensures.value c.blocked-2.ensures.bits)
    (or_lt 64 a b c.blocked.ensures.small c.blocked-2.ensures.small) i
    (let e = c.trailing_ones.ensures in omega (arith, l, e)))
