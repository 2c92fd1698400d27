-- Where the names of a grammar file stand: each lexeme that is a name, a literal or a number, and
-- each `%start`, with what it is there for.
use Rattle.std.specs.Prelude.{ℕ, ◌≡◌, List, [], ◌∷◌, ◌++◌, drop, map, Option, Some, None}
use Rattle.std.specs.List.{flat_map}
use Rattle.ylexemes.specs.declared.kind.Sign.TheVariants as sign
use Rattle.ylexemes.specs.Front.{lexeme, PartAt}
use Rattle.ylexemes.specs.Lexemes.{Lexeme, name, c_identifier, literal, number, fixed}
use Rattle.ysyntax.specs.Lexer.{ComesTo}
use Rattle.ysyntax.specs.Tree.{BodyPart, symbol, action, Definition, start, union, block, listing}
use Rattle.ysyntax.specs.Tree.{types, Entry, Identifier, RuleText, Tree, identifier_yield, yield}

-- ---- lexemes at their places

-- a lexeme, and how many bytes stand before it
pub record Mark : Type 0 where
  pub what : Lexeme
  pub at : ℕ

abbrev pub mark : Lexeme → ℕ → Mark
mark l at = record { what = l; at = at }

-- the lexeme after these of a file: reading comes to its place, and it stands there
pub record StandsBehind (source : List ℕ) (before : List Lexeme) (m : Mark) : Type 0 where
  pub comes : ComesTo source before (drop m.at source)
  pub here : (rest : List ℕ) × PartAt (drop m.at source) (lexeme m.what) rest

-- they stand in the file one after another, these before them
abbrev pub StandFrom : List ℕ → List Lexeme → List Mark → Type 0
StandFrom source before [] = Unit {0}
StandFrom source before (m ∷ ms) =
    StandsBehind source before m × StandFrom source (before ++ m.what ∷ []) ms

-- a lexeme that names something, at its place
abbrev pub naming : Lexeme → ℕ → List Mark
naming (name n) at = mark (name n) at ∷ []
naming (literal v) at = mark (literal v) at ∷ []
naming (c_identifier n) at = mark (c_identifier n) at ∷ []
naming (number ds) at = mark (number ds) at ∷ []
naming (fixed sign.Start) at = mark (fixed sign.Start) at ∷ []
naming _ at = []

-- those that name something
abbrev pub namings : List Mark → List Mark
namings ms = flat_map (λ m. naming m.what m.at) ms

-- ---- what they are there for

pub data Role : Type 0 where
  -- the word `%start`
  start_word : Role
  -- what it names; a token that a line lists; a symbol of a body; what `%prec` names
  start_name listed used prec_name : Identifier → Role
  -- the number of a listed token; a tag; a name that has one; a left side
  digits tag typed left_side : List ℕ → Role

-- the lexeme that is there
abbrev pub role_lexeme : Role → Lexeme
role_lexeme start_word = fixed sign.Start
role_lexeme (start_name i) = identifier_yield i
role_lexeme (listed i) = identifier_yield i
role_lexeme (used i) = identifier_yield i
role_lexeme (prec_name i) = identifier_yield i
role_lexeme (digits ds) = number ds
role_lexeme (tag n) = name n
role_lexeme (typed n) = name n
role_lexeme (left_side n) = c_identifier n

abbrev pub each : {A B : Type 0} → (A → List B) → Option A → List B
each f None = []
each f (Some x) = f x

abbrev pub entry_roles : Entry → List Role
entry_roles e = listed e.who ∷ each (λ ds. digits ds ∷ []) e.digits

abbrev pub definition_roles : Definition → List Role
definition_roles (start i) = start_word ∷ start_name i ∷ []
definition_roles (union t) = []
definition_roles block = []
definition_roles (listing w t es) = each (λ n. tag n ∷ []) t ++ flat_map entry_roles es
definition_roles (types t ns) = tag t ∷ map typed ns

abbrev pub body_part_roles : BodyPart → List Role
body_part_roles (symbol i) = used i ∷ []
body_part_roles (action t) = []

abbrev pub rule_text_roles : RuleText → List Role
rule_text_roles c = each (λ n. left_side n ∷ []) c.left
    ++ (flat_map body_part_roles c.body ++ each (λ i. prec_name i ∷ []) c.prec)

-- what the lexemes of a tree that name something are there for, in their order
abbrev pub roles : Tree → List Role
roles t = flat_map definition_roles t.definitions ++ flat_map rule_text_roles t.rule_texts

-- what is there, and where
pub record Site : Type 0 where
  pub role : Role
  pub at : ℕ

abbrev pub site : Role → ℕ → Site
site r at = record { role = r; at = at }

abbrev pub site_mark : Site → Mark
site_mark s = mark (role_lexeme s.role) s.at

-- The sites of a file with this tree: what its lexemes are there for, and where they stand.
pub record AreSites (source : List ℕ) (t : Tree) (ss : List Site) : Type 0 where
  pub marks : List Mark
  pub stand : StandFrom source [] marks
  pub lexemes : map (λ m. m.what) marks ≡ yield t
  pub named : namings marks ≡ map site_mark ss
  pub roles_are : map (λ s. s.role) ss ≡ roles t
