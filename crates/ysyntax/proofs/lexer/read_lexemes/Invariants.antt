use Rattle.std.proofs.Common.{length}
use Rattle.ysyntax.specs.Answers.{Comes}
use Rattle.ysyntax.proofs.lexer.read_lexemes.Given as goal

abbrev pub invariant-parts : goal.invariant-parts
invariant-parts l = Comes l.bytes l.lexemes.items l.rest l.state

abbrev pub decreases-parts : goal.decreases-parts
decreases-parts l = length l.rest
