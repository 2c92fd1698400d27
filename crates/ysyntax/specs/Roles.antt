-- What the lexemes of a syntax tree are there for, in their order: one for each lexeme of its yield.
use Rattle.std.specs.Prelude.{ℕ, ◌+◌, Bool, true, false, List, [], ◌∷◌, ◌++◌, length, map}
use Rattle.std.specs.Prelude.{Option, Some, None, replicate}
use Rattle.std.specs.List.{flat_map}
use Rattle.ysyntax.specs.Tree.{BodyPart, symbol, action, Definition, start, union, block, listing}
use Rattle.ysyntax.specs.Tree.{types, Entry, Identifier, RuleText, Tree, Word, token, left, right}
use Rattle.ysyntax.specs.Tree.{nonassoc}
use Rattle.ysyntax.specs.declared.role.Role.{Role}
use Rattle.ysyntax.specs.declared.role.Role.TheVariants as role

-- a tag and the signs around it, where there is one
abbrev pub tag_roles : Option (List ℕ) → List Role
tag_roles None = []
tag_roles (Some n) = role.Bracket ∷ role.Tag ∷ role.Bracket ∷ []

-- a token of a line that begins with this word
abbrev pub listed : Word → Role
listed token = role.Declared
listed left = role.Levelled
listed right = role.Levelled
listed nonassoc = role.Levelled

-- the number of a listed token, where it has one
abbrev pub digits_roles : Option (List ℕ) → List Role
digits_roles None = []
digits_roles (Some ds) = role.Digits ∷ []

-- a listed token, and its number
abbrev pub entry_roles : Word → Entry → List Role
entry_roles w e = listed w ∷ digits_roles e.digits

-- a declaration
abbrev pub definition_roles : Definition → List Role
definition_roles (start i) = role.Word ∷ role.Start ∷ []
definition_roles (union t) = role.Word ∷ role.Union ∷ []
definition_roles block = role.Block ∷ []
definition_roles (listing w tag es) = role.Word ∷ (tag_roles tag ++ flat_map (entry_roles w) es)
definition_roles (types t ns) = role.Word ∷ (tag_roles (Some t) ++ replicate (length ns) role.Typed)

-- what rule k begins with
abbrev pub left_role : ℕ → Option (List ℕ) → Role
left_role k None = role.Bar k
left_role k (Some n) = role.Left k

-- a part of the body of rule k
abbrev pub body_role : ℕ → BodyPart → Role
body_role k (symbol i) = role.Symbol k
body_role k (action t) = role.Action k

-- the precedence of rule k
abbrev pub prec_roles : ℕ → Option Identifier → List Role
prec_roles k None = []
prec_roles k (Some i) = role.Prec k ∷ role.PrecName k ∷ []

-- the action after it
abbrev pub last_roles : ℕ → Option (List ℕ) → List Role
last_roles k None = []
last_roles k (Some t) = role.Action k ∷ []

-- rule k of the file
abbrev pub rule_roles : ℕ → RuleText → List Role
rule_roles k c = left_role k c.left ∷ (map (body_role k) c.body ++ (prec_roles k c.prec
    ++ (last_roles k c.last ++ replicate c.semicolons role.Semicolon)))

-- the rules of the file from rule k on
abbrev pub rules_from : ℕ → List RuleText → List Role
rules_from k [] = []
rules_from k (c ∷ cs) = rule_roles k c ++ rules_from (k + 1) cs

-- the second mark, where there is one
abbrev pub mark_roles : Bool → List Role
mark_roles true = role.Mark ∷ []
mark_roles false = []

-- what the lexemes of a file with this tree are there for
abbrev pub roles : Tree → List Role
roles t = flat_map definition_roles t.definitions ++ role.Mark
    ∷ (rules_from 0 t.rule_texts ++ mark_roles t.second_mark)
