-- The syntax of a grammar file as a tree, and the lexemes that it stands for, its yield (Aho,
-- Sethi and Ullman, section 2.2).
use Rattle.std.specs.Prelude.{ℕ, ◌≡◌, ◌<◌, Bool, true, false, List, [], ◌∷◌, ◌++◌, length, map}
use Rattle.std.specs.Prelude.{Option, Some, None, IsSome, replicate}
use Rattle.std.specs.List.{flat_map, AllByRecursion}
use Rattle.ylexemes.specs.declared.kind.Sign.{Sign}
use Rattle.ylexemes.specs.declared.kind.Sign.TheVariants as sign
use Rattle.ylexemes.specs.Lexemes.{Lexeme, name, c_identifier, literal, number, braced, code, fixed}

-- a name or a literal
pub data Identifier : Type 0 where
  named : List ℕ → Identifier
  quoted : ℕ → Identifier

-- the words of a line that lists tokens
pub data Word : Type 0 where
  token left right nonassoc : Word

-- an identifier, and its digits
pub record Entry : Type 0 where
  pub who : Identifier
  pub digits : Option (List ℕ)

-- a declaration
pub data Definition : Type 0 where
  start : Identifier → Definition
  union : List ℕ → Definition
  block : Definition
  listing : Word → Option (List ℕ) → List Entry → Definition
  types : List ℕ → List (List ℕ) → Definition

-- a part of a body
pub data BodyPart : Type 0 where
  symbol : Identifier → BodyPart
  action : List ℕ → BodyPart

-- a rule of the file
pub record RuleText : Type 0 where
  -- the name before the colon, or a bar
  pub left : Option (List ℕ)
  pub body : List BodyPart
  pub prec : Option Identifier
  -- the action after the precedence
  pub last : Option (List ℕ)
  pub semicolons : ℕ

-- a whole file
pub record Tree : Type 0 where
  pub definitions : List Definition
  pub rule_texts : List RuleText
  pub second_mark : Bool

-- ---- the lexemes

abbrev pub identifier_yield : Identifier → Lexeme
identifier_yield (named n) = name n
identifier_yield (quoted v) = literal v

abbrev pub option_yield : {A : Type 0} → (A → List Lexeme) → Option A → List Lexeme
option_yield f None = []
option_yield f (Some x) = f x

abbrev pub entry_yield : Entry → List Lexeme
entry_yield e = identifier_yield e.who ∷ option_yield (λ ds. number ds ∷ []) e.digits

abbrev pub word_sign : Word → Sign
word_sign token = sign.Token
word_sign left = sign.Left
word_sign right = sign.Right
word_sign nonassoc = sign.Nonassoc

abbrev pub tag_yield : List ℕ → List Lexeme
tag_yield n = fixed sign.Less ∷ name n ∷ fixed sign.Greater ∷ []

abbrev pub definition_yield : Definition → List Lexeme
definition_yield (start i) = fixed sign.Start ∷ identifier_yield i ∷ []
definition_yield (union t) = fixed sign.Union ∷ braced t ∷ []
definition_yield block = code ∷ []
definition_yield (listing w tag es) = fixed (word_sign w)
    ∷ (option_yield tag_yield tag ++ flat_map entry_yield es)
definition_yield (types tag ns) = fixed sign.Types ∷ (tag_yield tag ++ map name ns)

abbrev pub body_part_yield : BodyPart → Lexeme
body_part_yield (symbol i) = identifier_yield i
body_part_yield (action t) = braced t

abbrev pub left_yield : Option (List ℕ) → Lexeme
left_yield None = fixed sign.Bar
left_yield (Some n) = c_identifier n

-- what stands after a body: a precedence, an action and semicolons
abbrev pub end_yield : Option Identifier → Option (List ℕ) → ℕ → List Lexeme
end_yield prec last semicolons = option_yield (λ i. fixed sign.Prec ∷ identifier_yield i ∷ []) prec
    ++ (option_yield (λ t. braced t ∷ []) last ++ replicate semicolons (fixed sign.Semicolon))

abbrev pub rule_text_yield : RuleText → List Lexeme
rule_text_yield c = left_yield c.left
    ∷ (map body_part_yield c.body ++ end_yield c.prec c.last c.semicolons)

abbrev pub mark_yield : Bool → List Lexeme
mark_yield true = fixed sign.Mark ∷ []
mark_yield false = []

abbrev pub yield : Tree → List Lexeme
yield t = flat_map definition_yield t.definitions ++ fixed sign.Mark
    ∷ (flat_map rule_text_yield t.rule_texts ++ mark_yield t.second_mark)

-- ---- which trees a grammar file has

abbrev pub IsDefinition : Definition → Type 0
IsDefinition (listing w tag es) = 0 < length es
IsDefinition (types tag ns) = 0 < length ns
IsDefinition _ = Unit {0}

-- an action stands after a precedence only where there is one
abbrev pub IsRuleText : RuleText → Type 0
IsRuleText c = IsSome c.last → IsSome c.prec

abbrev pub BeginsWithName : List RuleText → Type 0
BeginsWithName [] = ⊥
BeginsWithName (c ∷ cs) = IsSome c.left

-- no listing is empty, an action stands after a precedence only where there is one, and the first
-- rule has a name
pub record IsTree (t : Tree) : Type 0 where
  pub definitions : AllByRecursion IsDefinition t.definitions
  pub rule_texts : AllByRecursion IsRuleText t.rule_texts
  pub first : BeginsWithName t.rule_texts

-- the lexemes are those of exactly one tree
pub record HasOneTree (ls : List Lexeme) : Type 0 where
  pub tree : Tree
  pub shaped : IsTree tree
  pub yields : ls ≡ yield tree
  pub only : (other : Tree) → IsTree other → ls ≡ yield other → tree ≡ other
