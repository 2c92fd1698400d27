use Rattle.std.proofs.Common.{true, flat_map, take}
use Rattle.ylink.specs.Pieces.{text_of}
use Rattle.ylink.specs.Sends.{Sends}
use Rattle.ylink.proofs.pieces.put_pieces.Given as goal

-- the pieces so far were sent
abbrev pub invariant-loop-piece : goal.invariant-loop-piece
invariant-loop-piece g l = Sends g.W.Write.contents l.initial.link l.link true
    (flat_map text_of (take l.piece-index l.pieces))
