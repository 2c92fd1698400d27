use Rattle.std.proofs.Common.{true, flat_map, take}
use Rattle.ylink.specs.Sends.{Sends}
use Rattle.ylink.proofs.put.put_all.Given as goal

-- the pieces so far were sent
abbrev pub invariant-loop-piece : goal.invariant-loop-piece
invariant-loop-piece g l = Sends g.W.Write.contents l.initial.link l.link true
    (flat_map (λ piece. piece.now) (take l.piece-index l.pieces))
