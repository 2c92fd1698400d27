-- How a name or a literal of a syntax tree is printed (POSIX yacc, "Lexical Structure of the
-- Grammar").
use Rattle.ysymbols.specs.Names.{Name, printed_literal}
use Rattle.ysyntax.specs.Tree.{Identifier, named, quoted}

-- a name byte for byte, a literal by its value
abbrev pub printed_name : Identifier → Name
printed_name (named n) = n
printed_name (quoted v) = printed_literal v
