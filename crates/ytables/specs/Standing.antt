-- How the precedence of a rule stands to that of a token, and the class of a rule that stands so
-- (POSIX yacc, "Conflicts").
use Rattle.std.specs.Prelude.{Option, Some, None, if◌then◌else◌, nat_lt}
use Rattle.ysymbols.specs.declared.precedence.Precedence.{Precedence}
use Rattle.ytables.specs.declared.class.Class.{Class}
use Rattle.ytables.specs.declared.class.Class.TheVariants.{Beat, Lose, Rest}
use Rattle.ytables.specs.declared.class.Standing.{Standing}
use Rattle.ytables.specs.declared.class.Standing.TheVariants.{Higher, Lower, Level, NoToken}
use Rattle.ytables.specs.declared.class.Standing.TheVariants.{NoRule, Neither}
use Rattle.ytables.specs.Cell.{class_of_kind}

-- where both have a precedence, a later line binds tighter
abbrev pub standing_by : Precedence → Precedence → Standing
standing_by token rule =
    if nat_lt token.level rule.level then Higher else if nat_lt rule.level token.level then Lower
    else Level token.kind

-- a rule to a token, by the precedences of the token and of the rule
abbrev pub standing_of : Option Precedence → Option Precedence → Standing
standing_of None None = Neither
standing_of None (Some rule) = NoToken
standing_of (Some token) None = NoRule
standing_of (Some token) (Some rule) = standing_by token rule

-- the class of a rule that stands so
abbrev pub class_by : Standing → Class
class_by Higher = Beat
class_by Lower = Lose
class_by (Level kind) = class_of_kind kind
class_by NoToken = Rest
class_by NoRule = Rest
class_by Neither = Rest
