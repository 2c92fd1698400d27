-- What a grammar file means: its symbols, its rules and their precedences (POSIX yacc,
-- "Declarations Section" and "Grammar Rules in yacc").
use Rattle.std.specs.Prelude.{ℕ, ◌≡◌, ◌<◌, ◌≤◌, suc, slice_index_or, Bool, true, false, List, []}
use Rattle.std.specs.Prelude.{◌∷◌, ◌++◌, length, map, filter, Option, Some, None, codes}
use Rattle.std.specs.Prelude.{if◌then◌else◌}
use Rattle.std.specs.List.{All, flat_map}
use Rattle.std.specs.Str.{bytes_eq}
use Rattle.std.specs.Str.Parse.{digits_value}
use Rattle.std.specs.Fmt.{decimal}
use Rattle.ysymbols.specs.declared.precedence.Associativity.TheVariants as associativity
use Rattle.ysymbols.specs.declared.precedence.Precedence.{Precedence}
use Rattle.ysyntax.specs.Tree.{Identifier, named, quoted, Word, token, left, right, nonassoc}
use Rattle.ysyntax.specs.Tree.{Entry, Definition, start, union, block, listing, types, BodyPart}
use Rattle.ysyntax.specs.Tree.{symbol, action, RuleText, Tree}
use Rattle.ysymbols.specs.Names.{Name, printed_literal, is_among, with_names}
use Rattle.ydeclarations.specs.Printed.{printed_name}
use Rattle.ysymbols.specs.Names.{number_in}
use Rattle.ysymbols.specs.Grammar.{ContextFree, Production}

abbrev pub option_list : {A : Type 0} → Option A → List A
option_list None = []
option_list (Some x) = x ∷ []

abbrev pub or_else : {A : Type 0} → Option A → A → A
or_else (Some x) y = x
or_else None y = y

-- ---- what stands in the file

-- One listing: the precedence that its line gives, the token, and its digits.
pub record Listing : Type 0 where
  pub gives : Option Precedence
  pub who : Identifier
  pub digits : Option (List ℕ)

-- what the word of a line says of its tokens, where the line has this level
abbrev pub given_by : Word → ℕ → Option Precedence
given_by token n = None
given_by left n = Some (record { level = n; kind = associativity.Left })
given_by right n = Some (record { level = n; kind = associativity.Right })
given_by nonassoc n = Some (record { level = n; kind = associativity.Nonassoc })

-- the level of a line, and of what follows it: a line that gives precedences is one level above
-- those before it
abbrev pub level_at : Word → ℕ → ℕ
level_at token n = n
level_at _ n = suc n

abbrev pub listing_of : Option Precedence → Entry → Listing
listing_of gives e = record { gives = gives; who = e.who; digits = e.digits }

-- the listings in the order of the file, n lines that give precedences before them
abbrev pub listings_from : ℕ → List Definition → List Listing
listings_from n [] = []
listings_from n (listing w tag es ∷ ds) = map (listing_of (given_by w (level_at w n))) es
    ++ listings_from (level_at w n) ds
listings_from n (start i ∷ ds) = listings_from n ds
listings_from n (union t ∷ ds) = listings_from n ds
listings_from n (block ∷ ds) = listings_from n ds
listings_from n (types tag ns ∷ ds) = listings_from n ds

abbrev pub listings : Tree → List Listing
listings t = listings_from 0 t.definitions

-- the name that a `%start` names
abbrev pub starts_of : Definition → List Identifier
starts_of (start i) = i ∷ []
starts_of (union t) = []
starts_of block = []
starts_of (listing w tag es) = []
starts_of (types tag ns) = []

-- the names that `%start` names
abbrev pub starts : Tree → List Identifier
starts t = flat_map starts_of t.definitions

-- the names that a `%type` lists
abbrev pub type_names : Definition → List Name
type_names (types tag ns) = ns
type_names (start i) = []
type_names (union t) = []
type_names block = []
type_names (listing w tag es) = []

-- the names that `%type` lists
abbrev pub types_of : Tree → List Name
types_of t = flat_map type_names t.definitions

-- the left side of a rule, where it has one
abbrev pub left_of_rule : RuleText → List Name
left_of_rule c = option_list c.left

-- the left sides
abbrev pub lefts : Tree → List Name
lefts t = flat_map left_of_rule t.rule_texts

abbrev pub who_of : Entry → Identifier
who_of e = e.who

-- the names and literals of a declaration, without its tag
abbrev pub identifiers_of : Definition → List Identifier
identifiers_of (start i) = i ∷ []
identifiers_of (union t) = []
identifiers_of block = []
identifiers_of (listing w tag es) = map who_of es
identifiers_of (types tag ns) = []

abbrev pub body_part_identifier : BodyPart → List Identifier
body_part_identifier (symbol i) = i ∷ []
body_part_identifier (action t) = []

abbrev pub prec_of : RuleText → List Identifier
prec_of c = option_list c.prec

-- the names and literals of a rule, that of its precedence among them
abbrev pub uses_of : RuleText → List Identifier
uses_of c = flat_map body_part_identifier c.body ++ prec_of c

abbrev pub uses : Tree → List Identifier
uses t = flat_map uses_of t.rule_texts

-- those after `%prec`
abbrev pub precs : Tree → List Identifier
precs t = flat_map prec_of t.rule_texts

-- every name and literal, in the order of the file
abbrev pub appearances : Tree → List Identifier
appearances t = flat_map identifiers_of t.definitions ++ uses t

-- ---- symbols

abbrev pub is_literal : Identifier → Bool
is_literal (named n) = false
is_literal (quoted v) = true

abbrev pub listed_name : Listing → Name
listed_name l = printed_name l.who

-- the names of the tokens: the end, `error`, what is listed, and every literal that appears
abbrev pub token_names_of : List Listing → List Identifier → List Name
token_names_of ls is = codes "$end" ∷ codes "error"
    ∷ (map listed_name ls ++ map printed_name (filter is_literal is))

abbrev pub is_token : Tree → Name → Bool
is_token t n = is_among (token_names_of (listings t) (appearances t)) n

-- the tokens by number: the end, `error`, and the others in the order of their first appearance
abbrev pub tokens_of : List Listing → List Identifier → List Name
tokens_of ls is = with_names (codes "$end" ∷ codes "error" ∷ [])
    (filter (is_among (token_names_of ls is)) (map printed_name is))

abbrev pub tokens : Tree → List Name
tokens t = tokens_of (listings t) (appearances t)

-- ---- rules

-- A rule by names. Its precedence is that of the token named, where one is named.
pub record Rule : Type 0 where
  pub left : Name
  pub body : List Name
  pub prec : Option Identifier
  pub text : Option (List ℕ)

-- the nonterminal of the k-th inner action of the file
abbrev pub inner_name : ℕ → Name
inner_name k = codes "$$" ++ decimal k

abbrev pub inner_rule : ℕ → List ℕ → Rule
inner_rule k text = record { left = inner_name k; body = []; prec = None; text = Some text }

-- A body without its final action: the rules of its inner actions, numbered from k on, its
-- symbols, and the next such number.
pub record Body : Type 0 where
  pub inner : List Rule
  pub symbols : List Name
  pub next : ℕ

abbrev pub body_from : ℕ → List BodyPart → Body
body_from k [] = record { inner = []; symbols = []; next = k }
body_from k (symbol i ∷ items) =
    let b = body_from k items in
    record { inner = b.inner; symbols = printed_name i ∷ b.symbols; next = b.next }
body_from k (action text ∷ items) =
    let b = body_from (suc k) items in
    record {
      inner = inner_rule k text ∷ b.inner;
      symbols = inner_name k ∷ b.symbols;
      next =
          b.next;
    }

-- a body and the action that is its last part, where it is one
abbrev pub split_last : List BodyPart → List BodyPart × Option (List ℕ)
split_last [] = ([], None)
split_last (action text ∷ []) = ([], Some text)
split_last (symbol i ∷ []) = (symbol i ∷ [], None)
split_last (i ∷ j ∷ items) = let r = split_last (j ∷ items) in (i ∷ r.0, r.1)

-- the final action is the one after the precedence, or else the last part of the body
abbrev pub final_of : Option (List ℕ) → List BodyPart → List BodyPart × Option (List ℕ)
final_of (Some text) items = (items, Some text)
final_of None items = split_last items

-- the rules from a rule of the file on, with the left side before it and the next number of an
-- inner action
abbrev pub rules_from : Name → ℕ → List RuleText → List Rule
rules_from before k [] = []
rules_from before k (c ∷ cs) =
    let f = final_of c.last c.body in
    let b = body_from k f.0 in
    b.inner ++ record { left = or_else c.left before; body = b.symbols; prec = c.prec; text = f.1 }
    ∷ rules_from (or_else c.left before) b.next cs

-- the start symbol: the one that `%start` names, or the first left side
abbrev pub start_symbol : List Identifier → List Name → Name
start_symbol (i ∷ is) ls = printed_name i
start_symbol [] (n ∷ ns) = n
start_symbol [] [] = []

-- rule 0, by what `%start` names and the left sides
abbrev pub first_rule : List Identifier → List Name → Rule
first_rule is ls = record {
  left = codes "$accept";
  body = start_symbol is ls ∷ codes "$end" ∷ [];
  prec = None;
  text = None;
}

abbrev pub rules : Tree → List Rule
rules t = first_rule (starts t) (lefts t) ∷ rules_from [] 1 t.rule_texts

abbrev pub rule_left : Rule → Name
rule_left r = r.left

-- the symbols by number: the tokens, and the left sides in the order of their first rules
abbrev pub symbols : Tree → List Name
symbols t = with_names (tokens t) (map rule_left (rules t))

-- a symbol that is no token
abbrev pub is_nonterminal : Tree → Name → Bool
is_nonterminal t n = if is_token t n then false else is_among (symbols t) n

-- ---- rules by number

-- a rule's left side and body by the numbers of its symbols
abbrev pub numbered_rule : List Name → Rule → Production
numbered_rule ns r = record { left = number_in ns r.left; body = map (number_in ns) r.body }

-- the bare grammar of a file
abbrev pub bare_of : Tree → ContextFree
bare_of t = record {
  tokens = length (tokens t);
  symbols = length (symbols t);
  rules = map (numbered_rule (symbols t)) (rules t);
}

-- The token s is the last of a body: no token stands after it.
pub record IsLastToken (tokens : ℕ) (body : List ℕ) (s : ℕ) : Type 0 where
  pub before : List ℕ
  pub after : List ℕ
  pub whole : body ≡ before ++ s ∷ after
  pub token : s < tokens
  pub last : All (λ x. tokens ≤ x) after

-- the token whose precedence a rule has: the one named, or else the last of its body, where there
-- is one
abbrev pub IsChosenToken : List Name → ℕ → Option Identifier → List ℕ → Option ℕ → Type 0
IsChosenToken ns tokens (Some i) body chosen = chosen ≡ Some (number_in ns (printed_name i))
IsChosenToken ns tokens None body (Some s) = IsLastToken tokens body s
IsChosenToken ns tokens None body None = All (λ x. tokens ≤ x) body

abbrev pub precedence_at : List (Option Precedence) → Option ℕ → Option Precedence
precedence_at given None = None
precedence_at given (Some k) = slice_index_or given k None

-- The rule has this precedence: that of its token; given are those of the tokens by number.
abbrev pub HasPrecedence : List Name → List (Option Precedence) → Rule → Option Precedence → Type 0
HasPrecedence ns given r p = (chosen : Option ℕ)
    × IsChosenToken ns (length given) r.prec (map (number_in ns) r.body) chosen
    × (p ≡ precedence_at given chosen)

-- each rule has the precedence at its place
abbrev pub HavePrecedences : List Name → List (Option Precedence) → List Rule →
    List (Option Precedence) → Type 0
HavePrecedences ns given [] [] = Unit {0}
HavePrecedences ns given (r ∷ rs) (p ∷ ps) =
    HasPrecedence ns given r p × HavePrecedences ns given rs ps
HavePrecedences ns given [] (p ∷ ps) = ⊥
HavePrecedences ns given (r ∷ rs) [] = ⊥

-- ---- numbers and precedences

-- what the listings say of a token, in their order
abbrev pub said_of : {A : Type 0} → (Listing → Option A) → List Listing → Name → List A
said_of f ls n = flat_map (λ l. if bytes_eq n (printed_name l.who) then option_list (f l) else [])
    ls

abbrev pub digits_number : Listing → Option ℕ
digits_number l = number l.digits
  where
    number : Option (List ℕ) → Option ℕ
    number None = None
    number (Some ds) = Some (digits_value 10 ds)

abbrev pub gives_of : Listing → Option Precedence
gives_of l = l.gives

-- the numbers that are given to a token
abbrev pub numbers_given : Tree → Name → List ℕ
numbers_given t n = said_of digits_number (listings t) n

-- the precedences that are given to a token
abbrev pub precedences_given : Tree → Name → List Precedence
precedences_given t n = said_of gives_of (listings t) n

abbrev pub first_or : {A : Type 0} → List A → Option A → Option A
first_or [] y = y
first_or (x ∷ xs) y = Some x

-- the value of the literal that has this printed name
abbrev pub literal_value : List Identifier → Name → Option ℕ
literal_value [] n = None
literal_value (named m ∷ is) n = literal_value is n
literal_value (quoted v ∷ is) n =
    if bytes_eq n (printed_literal v) then Some v else literal_value is n

-- the number that a token has where none is given: the end, `error`, and a literal
abbrev pub usual_of : List Identifier → Name → Option ℕ
usual_of is n =
    if bytes_eq n (codes "$end") then Some 0
    else if bytes_eq n (codes "error") then Some 256
    else literal_value is n

-- the number that a token has by itself
abbrev pub own_number : Tree → Name → Option ℕ
own_number t n = first_or (numbers_given t n) (usual_of (appearances t) n)

-- the precedence of a token
abbrev pub token_precedence : Tree → Name → Option Precedence
token_precedence t n = first_or (precedences_given t n) None

-- the numbers that the tokens have by themselves, and their precedences
abbrev pub own_numbers : Tree → List (Option ℕ)
own_numbers t = map (own_number t) (tokens t)

abbrev pub token_precedences : Tree → List (Option Precedence)
token_precedences t = map (token_precedence t) (tokens t)
