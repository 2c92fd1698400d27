-- What the pieces of a text say.
use Rattle.std.specs.Prelude.{ℕ, List, decimal}
use Rattle.ylink.specs.declared.pieces.Piece.{Piece}
use Rattle.ylink.specs.declared.pieces.Piece.TheVariants.{Words, Number}

-- the words themselves, or the digits of the number
abbrev pub text_of : Piece → List ℕ
text_of (Words words) = words.now
text_of (Number n) = decimal n
