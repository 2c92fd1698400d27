use Rattle.std.proofs.Common.{ℕ, ◌≡◌, ◌<◌, get_or}
use Rattle.ygrammar.specs.declared.holders.Holders.TheVariants.{Nobody, Several}
use Rattle.ygrammar.proofs.holders.has_shared.Given as goal

abbrev pub invariant-loop-one : goal.invariant-loop-one
invariant-loop-one l =
    (m : ℕ) → m < l.one-index → get_or l.holders m Nobody ≡ Several → ⊥
