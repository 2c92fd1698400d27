-- The productions of a grammar file (POSIX.1-2017, yacc, Input Grammar, in this project's
-- profile).
use Rattle.std.specs.Prelude.{List, [], ◌∷◌, ◌++◌, map}
use Rattle.ysymbols.specs.Derivation.{Derives}
use Rattle.ylexemes.specs.declared.kind.Kind.{Kind}
use Rattle.ylexemes.specs.declared.kind.Kind.TheVariants as kind

pub data Symbol : Type 0 where
  -- a lexeme of a kind
  lexeme : Kind → Symbol
  spec tail defs def rword tag nlist nmno identifier tlist rules rule rbody prec : Symbol

-- symbol : body
pub data Production : Symbol → List Symbol → Type 0 where
  spec_is : Production spec (defs ∷ lexeme kind.Mark ∷ rules ∷ tail ∷ [])
  tail_mark : Production tail (lexeme kind.Mark ∷ [])
  tail_empty : Production tail []
  defs_empty : Production defs []
  defs_more : Production defs (defs ∷ def ∷ [])
  def_start : Production def (lexeme kind.Start ∷ identifier ∷ [])
  def_union : Production def (lexeme kind.Union ∷ lexeme kind.Braced ∷ [])
  def_code : Production def (lexeme kind.Code ∷ [])
  def_list : Production def (rword ∷ tag ∷ nlist ∷ [])
  def_type : Production def (lexeme kind.Types ∷ lexeme kind.Less ∷ lexeme kind.Name
      ∷ lexeme kind.Greater ∷ tlist ∷ [])
  rword_token : Production rword (lexeme kind.Token ∷ [])
  rword_left : Production rword (lexeme kind.Left ∷ [])
  rword_right : Production rword (lexeme kind.Right ∷ [])
  rword_nonassoc : Production rword (lexeme kind.Nonassoc ∷ [])
  tag_empty : Production tag []
  tag_name : Production tag (lexeme kind.Less ∷ lexeme kind.Name ∷ lexeme kind.Greater ∷ [])
  nlist_one : Production nlist (nmno ∷ [])
  nlist_more : Production nlist (nlist ∷ nmno ∷ [])
  nmno_plain : Production nmno (identifier ∷ [])
  nmno_number : Production nmno (identifier ∷ lexeme kind.Number ∷ [])
  identifier_name : Production identifier (lexeme kind.Name ∷ [])
  identifier_literal : Production identifier (lexeme kind.Literal ∷ [])
  tlist_one : Production tlist (lexeme kind.Name ∷ [])
  tlist_more : Production tlist (tlist ∷ lexeme kind.Name ∷ [])
  rules_one : Production rules (lexeme kind.CIdentifier ∷ rbody ∷ prec ∷ [])
  rules_more : Production rules (rules ∷ rule ∷ [])
  rule_head : Production rule (lexeme kind.CIdentifier ∷ rbody ∷ prec ∷ [])
  rule_bar : Production rule (lexeme kind.Bar ∷ rbody ∷ prec ∷ [])
  rbody_empty : Production rbody []
  rbody_symbol : Production rbody (rbody ∷ identifier ∷ [])
  rbody_act : Production rbody (rbody ∷ lexeme kind.Braced ∷ [])
  prec_empty : Production prec []
  prec_named : Production prec (lexeme kind.Prec ∷ identifier ∷ [])
  prec_act : Production prec (lexeme kind.Prec ∷ identifier ∷ lexeme kind.Braced ∷ [])
  prec_semicolon : Production prec (prec ∷ lexeme kind.Semicolon ∷ [])

-- lexemes of these kinds are derived from `spec`
abbrev pub IsSpec : List Kind → Type 0
IsSpec kinds = Derives Production (spec ∷ []) (map lexeme kinds)

-- they begin a derived list
abbrev pub BeginsSpec : List Kind → Type 0
BeginsSpec kinds = (more : List Kind) × IsSpec (kinds ++ more)
