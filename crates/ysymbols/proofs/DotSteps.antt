-- The dots of the rules, and what is settled once one has moved.
use Rattle.std.proofs.Common.{ℕ, Bool, ◌≡◌, ◌≢◌, ◌<◌, List, length, slice_index, subst, arith}
use Rattle.ysymbols.specs.Grammar.{Production}
use Rattle.ysymbols.specs.Marking.{WorklistValue, IsMarked, IsUnmarked, IsSettled, stuck}
use Rattle.ysymbols.specs.Marking.{DotFits}

pub stuck_at : (p : Production) (w : WorklistValue) (dot : ℕ) (body : List ℕ) →
    body ≡ p.body → DotFits body w.marks dot → dot ≢ length body →
    (dot < length body → IsUnmarked w.marks (slice_index body dot)) → IsSettled p w
stuck_at p w dot body e f n u =
    let l : dot < length body = let i = f.within in omega arith in
    stuck dot (subst (λ (x : List ℕ). dot < length x) e l)
    (subst (λ (x : List ℕ). IsUnmarked w.marks (slice_index x dot)) e (u l))

pub whole_marked : (p : Production) (m : List Bool) (dot : ℕ) (body : List ℕ) → body ≡ p.body →
    DotFits body m dot → dot ≡ length body → (k : ℕ) → k < length p.body →
    IsMarked m (slice_index p.body k)
whole_marked p m dot body e f d = subst (λ (x : List ℕ). (k : ℕ) → k < length x →
    IsMarked m (slice_index x k)) e (λ k l. f.before k (omega arith))
