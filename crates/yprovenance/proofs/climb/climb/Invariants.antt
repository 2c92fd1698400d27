use Rattle.std.proofs.Common.{ℕ, ◌<◌, length}
use Rattle.ylalr.specs.Collection.{Collection}
use Rattle.yprovenance.specs.Reasons.{Has, IsChain}
use Rattle.yprovenance.specs.Trail.{IsTrail, entry_at}
use Rattle.yprovenance.proofs.climb.climb.Given as goal

-- the chain from the source to this entry
abbrev pub invariant-loop-index : goal.invariant-loop-index
invariant-loop-index l = record {
  within : l.index < length l.trail;
  chain : (m : Collection) (a : ℕ) → IsTrail m l.trail →
      Has m a (entry_at l.trail l.fn.source.index).place l.fn.source.cause →
      IsChain m a (entry_at l.trail l.index).place l.chain.items;
}

abbrev pub decreases-loop-index : goal.decreases-loop-index
decreases-loop-index l = l.index
