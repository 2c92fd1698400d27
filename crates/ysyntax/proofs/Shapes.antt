-- What the recogniser accepts is derived: each state stands for forms, as in a bottom-up parse.
use Rattle.std.proofs.Common.{◌≡◌, List, [], ◌∷◌, ◌++◌, map, Option, Some, None, true, false, refl}
use Rattle.std.proofs.Common.{ap, ◌∙◌, subst, append_assoc, append-nil}
use Rattle.ylexemes.specs.declared.kind.Kind.{Kind}
use Rattle.ylexemes.specs.declared.kind.Kind.TheVariants as kind
use Rattle.ysyntax.specs.declared.recogniser.State.{State}
use Rattle.ysyntax.specs.declared.recogniser.State.TheVariants.{Declarations, StartWord}
use Rattle.ysyntax.specs.declared.recogniser.State.TheVariants.{UnionWord}
use Rattle.ysyntax.specs.declared.recogniser.State.TheVariants.{ListWord, ListTagOpen}
use Rattle.ysyntax.specs.declared.recogniser.State.TheVariants.{ListTagName}
use Rattle.ysyntax.specs.declared.recogniser.State.TheVariants.{ListTagged, Listed}
use Rattle.ysyntax.specs.declared.recogniser.State.TheVariants.{Numbered}
use Rattle.ysyntax.specs.declared.recogniser.State.TheVariants.{TypeWord, TypeTagOpen}
use Rattle.ysyntax.specs.declared.recogniser.State.TheVariants.{TypeTagName}
use Rattle.ysyntax.specs.declared.recogniser.State.TheVariants.{TypeTagged, Typed}
use Rattle.ysyntax.specs.declared.recogniser.State.TheVariants.{RulesMark, Body}
use Rattle.ysyntax.specs.declared.recogniser.State.TheVariants.{PrecWord, PrecNamed}
use Rattle.ysyntax.specs.declared.recogniser.State.TheVariants.{Semicolons}
use Rattle.ysyntax.specs.declared.recogniser.State.TheVariants.{End}
use Rattle.ysymbols.specs.Derivation.{Derives, done}
use Rattle.ysyntax.specs.Syntax.{Symbol, lexeme, spec, tail, defs, def, rword, tag, nlist, nmno}
use Rattle.ysyntax.specs.Syntax.{identifier, tlist, rules, rule, rbody, prec, Production, spec_is}
use Rattle.ysyntax.specs.Syntax.{tail_mark, tail_empty, defs_empty, defs_more, def_start}
use Rattle.ysyntax.specs.Syntax.{def_union, def_code, def_list, def_type, rword_token, rword_left}
use Rattle.ysyntax.specs.Syntax.{rword_right, rword_nonassoc, tag_empty, tag_name, nlist_one}
use Rattle.ysyntax.specs.Syntax.{nlist_more, nmno_plain, nmno_number, identifier_name}
use Rattle.ysyntax.specs.Syntax.{identifier_literal, tlist_one, tlist_more, rules_one, rules_more}
use Rattle.ysyntax.specs.Syntax.{rule_head, rule_bar, rbody_empty, rbody_symbol, rbody_act}
use Rattle.ysyntax.specs.Syntax.{prec_empty, prec_named, prec_act, prec_semicolon, IsSpec}
use Rattle.ysyntax.specs.Recogniser.{after_definition, after_rule, next_state, state_after}
use Rattle.ysyntax.specs.Recogniser.{is_final}
use Rattle.ysyntax.specs.Recogniser.{is_final_at, run}
use Rattle.ysymbols.proofs.Derivations.{trans, within, replaced}
use Rattle.ysyntax.proofs.Accepted.{lost}

-- what stands before a rule's body
data Front : Type 0 where
  first c_identifier bar : Front

abbrev front : Front → List Symbol
front first = defs ∷ lexeme kind.Mark ∷ lexeme kind.CIdentifier ∷ []
front c_identifier = defs ∷ lexeme kind.Mark ∷ rules ∷ lexeme kind.CIdentifier ∷ []
front bar = defs ∷ lexeme kind.Mark ∷ rules ∷ lexeme kind.Bar ∷ []

-- what stands before an entry of a list
data Before : Type 0 where
  untagged tagged more : Before

abbrev before : Before → List Symbol
before untagged = defs ∷ rword ∷ []
before tagged = defs ∷ rword ∷ tag ∷ []
before more = defs ∷ rword ∷ tag ∷ nlist ∷ []

data Shape : Type 0 where
  declared start_word union_word list_word tag_open tag_named list_tagged listed_first listed_more
      numbered_rule : Shape
  type_word type_open type_named type_tagged typed rules_mark whole : Shape
  body prec_word prec_read semicolons : Front → Shape

abbrev state : Shape → State
state declared = Declarations
state start_word = StartWord
state union_word = UnionWord
state list_word = ListWord
state tag_open = ListTagOpen
state tag_named = ListTagName
state list_tagged = ListTagged
state listed_first = Listed
state listed_more = Listed
state numbered_rule = Numbered
state type_word = TypeWord
state type_open = TypeTagOpen
state type_named = TypeTagName
state type_tagged = TypeTagged
state typed = Typed
state rules_mark = RulesMark
state whole = End
state (body f) = Body
state (prec_word f) = PrecWord
state (prec_read f) = PrecNamed
state (semicolons f) = Semicolons

abbrev form : Shape → List Symbol
form declared = defs ∷ []
form start_word = defs ∷ lexeme kind.Start ∷ []
form union_word = defs ∷ lexeme kind.Union ∷ []
form list_word = defs ∷ rword ∷ []
form tag_open = defs ∷ rword ∷ lexeme kind.Less ∷ []
form tag_named = defs ∷ rword ∷ lexeme kind.Less ∷ lexeme kind.Name ∷ []
form list_tagged = defs ∷ rword ∷ tag ∷ []
form listed_first = defs ∷ rword ∷ tag ∷ identifier ∷ []
form listed_more = defs ∷ rword ∷ tag ∷ nlist ∷ identifier ∷ []
form numbered_rule = defs ∷ rword ∷ tag ∷ nlist ∷ []
form type_word = defs ∷ lexeme kind.Types ∷ []
form type_open = defs ∷ lexeme kind.Types ∷ lexeme kind.Less ∷ []
form type_named = defs ∷ lexeme kind.Types ∷ lexeme kind.Less ∷ lexeme kind.Name ∷ []
form type_tagged = defs ∷ lexeme kind.Types ∷ lexeme kind.Less ∷ lexeme kind.Name ∷ lexeme
    kind.Greater ∷ []
form typed = defs ∷ lexeme kind.Types ∷ lexeme kind.Less ∷ lexeme kind.Name ∷ lexeme kind.Greater ∷
    tlist ∷ []
form rules_mark = defs ∷ lexeme kind.Mark ∷ []
form whole = spec ∷ []
form (body f) = front f ++ rbody ∷ []
form (prec_word f) = front f ++ rbody ∷ lexeme kind.Prec ∷ []
form (prec_read f) = front f ++ rbody ∷ lexeme kind.Prec ∷ identifier ∷ []
form (semicolons f) = front f ++ rbody ∷ prec ∷ []

abbrev Form : List Symbol → List Symbol → Type 0
Form x y = Derives Production x y

-- one production after a front, and then a derivation
at : (a b : List Symbol) (n : Symbol) (w : List Symbol) {z : List Symbol} → Production n w →
    Form (a ++ (w ++ b)) z → Form (a ++ n ∷ b) z
at a b n w p d = trans (replaced n w a b p) d

-- the state, if there is one, has a shape from which the form is derived
record Reaches (q : State) (g : List Symbol) : Type 0 where
  shape : Shape
  in_state : state shape ≡ q
  derives : Form (form shape) g

abbrev MovedTo : Option State → List Symbol → Type 0
MovedTo None g = Unit {0}
MovedTo (Some q) g = Reaches q g

by : (s : Shape) {g : List Symbol} → Form (form s) g → Reaches (state s) g
by s d = record { shape = s; in_state = refl; derives = d }

weaken : (o : Option State) {g h : List Symbol} → MovedTo o g → Form g h → MovedTo o h
weaken None m d = tt
weaken (Some q) m d = record { shape = m.shape; in_state = m.in_state; derives = trans m.derives d }

a_definition : (k : Kind) → MovedTo (after_definition k) (defs ∷ lexeme k ∷ [])
a_definition kind.Start = by start_word done
a_definition kind.Union = by union_word done
a_definition kind.Code = by declared
    (at [] [] defs _ defs_more (at (defs ∷ []) [] def _ def_code done))
a_definition kind.Token = by list_word (at (defs ∷ []) [] rword _ rword_token done)
a_definition kind.Left = by list_word (at (defs ∷ []) [] rword _ rword_left done)
a_definition kind.Right = by list_word (at (defs ∷ []) [] rword _ rword_right done)
a_definition kind.Nonassoc = by list_word (at (defs ∷ []) [] rword _ rword_nonassoc done)
a_definition kind.Types = by type_word done
a_definition kind.Mark = by rules_mark done
a_definition _ = tt

listed_done : Form (defs ∷ []) (defs ∷ rword ∷ tag ∷ nlist ∷ [])
listed_done = at [] [] defs _ defs_more (at (defs ∷ []) [] def _ def_list done)

-- from a shape between two declarations
between : (g : List Symbol) (k : Kind) → Form (defs ∷ []) g → MovedTo (after_definition k)
    (g ++ lexeme k ∷ [])
between g k d = weaken (after_definition k) (a_definition k) (within [] (lexeme k ∷ []) d)

first_listed : Form (defs ∷ []) (defs ∷ rword ∷ tag ∷ identifier ∷ [])
first_listed = trans listed_done (at (defs ∷ rword ∷ tag ∷ []) [] nlist _ nlist_one
    (at (defs ∷ rword ∷ tag ∷ []) [] nmno _ nmno_plain done))

more_listed : Form (defs ∷ []) (defs ∷ rword ∷ tag ∷ nlist ∷ identifier ∷ [])
more_listed = trans listed_done (at (defs ∷ rword ∷ tag ∷ []) [] nlist _ nlist_more
    (at (defs ∷ rword ∷ tag ∷ nlist ∷ []) [] nmno _ nmno_plain done))

typed_done : Form (defs ∷ []) (defs ∷ lexeme kind.Types ∷ lexeme kind.Less ∷ lexeme kind.Name ∷
    lexeme kind.Greater ∷ tlist ∷ [])
typed_done = at [] [] defs _ defs_more (at (defs ∷ []) [] def _ def_type done)

-- a further entry, after one that has no number yet
next_entry : (g : List Symbol) (k : Kind) (p : Production identifier (lexeme k ∷ [])) →
    Form (defs ∷ rword ∷ tag ∷ nlist ∷ []) g → Form (defs ∷ rword ∷ tag ∷ nlist ∷ identifier ∷ [])
    (g ++ lexeme k ∷ [])
next_entry g k p d = at (defs ∷ rword ∷ tag ∷ nlist ∷ []) [] identifier _ p
    (within [] (lexeme k ∷ []) d)

first_entry : Form (defs ∷ rword ∷ tag ∷ nlist ∷ []) (defs ∷ rword ∷ tag ∷ identifier ∷ [])
first_entry = at (defs ∷ rword ∷ tag ∷ []) [] nlist _ nlist_one
    (at (defs ∷ rword ∷ tag ∷ []) [] nmno _ nmno_plain done)

more_entry : Form (defs ∷ rword ∷ tag ∷ nlist ∷ []) (defs ∷ rword ∷ tag ∷ nlist ∷ identifier ∷ [])
more_entry = at (defs ∷ rword ∷ tag ∷ []) [] nlist _ nlist_more
    (at (defs ∷ rword ∷ tag ∷ nlist ∷ []) [] nmno _ nmno_plain done)

-- a rule is done
ruled : (f : Front) → Form (defs ∷ lexeme kind.Mark ∷ rules ∷ []) (front f ++ rbody ∷ prec ∷ [])
ruled first = at (defs ∷ lexeme kind.Mark ∷ []) [] rules _ rules_one done
ruled c_identifier = at (defs ∷ lexeme kind.Mark ∷ []) [] rules _ rules_more
    (at (defs ∷ lexeme kind.Mark ∷ rules ∷ []) [] rule _ rule_head done)
ruled bar = at (defs ∷ lexeme kind.Mark ∷ []) [] rules _ rules_more
    (at (defs ∷ lexeme kind.Mark ∷ rules ∷ []) [] rule _ rule_bar done)

-- the second mark
marked : (g : List Symbol) → Form (defs ∷ lexeme kind.Mark ∷ rules ∷ []) g → Form (spec ∷ [])
    (g ++ lexeme kind.Mark ∷ [])
marked g d = at [] [] spec _ spec_is (at (defs ∷ lexeme kind.Mark ∷ rules ∷ []) [] tail _ tail_mark
    (within [] (lexeme kind.Mark ∷ []) d))

-- a lexeme after a rule that is done
rule_then : (f : Front) (k : Kind) → MovedTo (after_rule k)
    (front f ++ rbody ∷ prec ∷ lexeme k ∷ [])
rule_then first kind.Semicolon = by (semicolons first)
    (at (front first ++ rbody ∷ []) [] prec _ prec_semicolon done)
rule_then c_identifier kind.Semicolon = by (semicolons c_identifier)
    (at (front c_identifier ++ rbody ∷ []) [] prec _ prec_semicolon done)
rule_then bar kind.Semicolon = by (semicolons bar)
    (at (front bar ++ rbody ∷ []) [] prec _ prec_semicolon done)
rule_then first kind.CIdentifier = by (body c_identifier)
    (at (front c_identifier) [] rbody _ rbody_empty
    (within [] (lexeme kind.CIdentifier ∷ []) (ruled first)))
rule_then c_identifier kind.CIdentifier = by (body c_identifier)
    (at (front c_identifier) [] rbody _ rbody_empty
    (within [] (lexeme kind.CIdentifier ∷ []) (ruled c_identifier)))
rule_then bar kind.CIdentifier = by (body c_identifier)
    (at (front c_identifier) [] rbody _ rbody_empty
    (within [] (lexeme kind.CIdentifier ∷ []) (ruled bar)))
rule_then first kind.Bar = by (body bar) (at (front bar) [] rbody _ rbody_empty
    (within [] (lexeme kind.Bar ∷ []) (ruled first)))
rule_then c_identifier kind.Bar = by (body bar) (at (front bar) [] rbody _ rbody_empty
    (within [] (lexeme kind.Bar ∷ []) (ruled c_identifier)))
rule_then bar kind.Bar = by (body bar) (at (front bar) [] rbody _ rbody_empty
    (within [] (lexeme kind.Bar ∷ []) (ruled bar)))
rule_then first kind.Mark = by whole (marked (front first ++ rbody ∷ prec ∷ []) (ruled first))
rule_then c_identifier kind.Mark = by whole (marked (front c_identifier ++ rbody ∷ prec ∷ [])
    (ruled c_identifier))
rule_then bar kind.Mark = by whole (marked (front bar ++ rbody ∷ prec ∷ []) (ruled bar))
rule_then _ _ = tt

-- a lexeme after a body without `%prec`
body_then : (f : Front) (k : Kind) → MovedTo (after_rule k) (front f ++ rbody ∷ lexeme k ∷ [])
body_then first k = weaken (after_rule k) (rule_then first k)
    (replaced prec [] (front first ++ rbody ∷ []) (lexeme k ∷ []) prec_empty)
body_then c_identifier k = weaken (after_rule k) (rule_then c_identifier k)
    (replaced prec [] (front c_identifier ++ rbody ∷ []) (lexeme k ∷ []) prec_empty)
body_then bar k = weaken (after_rule k) (rule_then bar k)
    (replaced prec [] (front bar ++ rbody ∷ []) (lexeme k ∷ []) prec_empty)

named_then : (f : Front) (k : Kind) → MovedTo (after_rule k)
    (front f ++ rbody ∷ lexeme kind.Prec ∷ identifier ∷ lexeme k ∷ [])
named_then first k = weaken (after_rule k) (rule_then first k)
    (replaced prec _ (front first ++ rbody ∷ []) (lexeme k ∷ []) prec_named)
named_then c_identifier k = weaken (after_rule k) (rule_then c_identifier k)
    (replaced prec _ (front c_identifier ++ rbody ∷ []) (lexeme k ∷ []) prec_named)
named_then bar k = weaken (after_rule k) (rule_then bar k)
    (replaced prec _ (front bar ++ rbody ∷ []) (lexeme k ∷ []) prec_named)

in_body : (f : Front) (k : Kind) → Production rbody (rbody ∷ lexeme k ∷ []) →
    Form (front f ++ rbody ∷ []) ((front f ++ rbody ∷ []) ++ lexeme k ∷ [])
in_body first k p = at (front first) [] rbody _ p done
in_body c_identifier k p = at (front c_identifier) [] rbody _ p done
in_body bar k p = at (front bar) [] rbody _ p done

symbol_in_body : (f : Front) (k : Kind) → Production identifier (lexeme k ∷ []) →
    Form (front f ++ rbody ∷ []) ((front f ++ rbody ∷ []) ++ lexeme k ∷ [])
symbol_in_body first k p = at (front first) [] rbody _ rbody_symbol
    (at (front first ++ rbody ∷ []) [] identifier _ p done)
symbol_in_body c_identifier k p = at (front c_identifier) [] rbody _ rbody_symbol
    (at (front c_identifier ++ rbody ∷ []) [] identifier _ p done)
symbol_in_body bar k p = at (front bar) [] rbody _ rbody_symbol
    (at (front bar ++ rbody ∷ []) [] identifier _ p done)

prec_name : (f : Front) (k : Kind) → Production identifier (lexeme k ∷ []) →
    Form (form (prec_read f)) (form (prec_word f) ++ lexeme k ∷ [])
prec_name first k p = at (front first ++ rbody ∷ lexeme kind.Prec ∷ []) [] identifier _ p done
prec_name c_identifier k p = at (front c_identifier ++ rbody ∷ lexeme kind.Prec ∷ []) [] identifier
    _ p done
prec_name bar k p = at (front bar ++ rbody ∷ lexeme kind.Prec ∷ []) [] identifier _ p done

prec_text : (f : Front) → Form (form (semicolons f)) (form (prec_read f) ++ lexeme kind.Braced ∷ [])
prec_text first = at (front first ++ rbody ∷ []) [] prec _ prec_act done
prec_text c_identifier = at (front c_identifier ++ rbody ∷ []) [] prec _ prec_act done
prec_text bar = at (front bar ++ rbody ∷ []) [] prec _ prec_act done

prec_begun : (f : Front) → Form (form (prec_word f)) (form (body f) ++ lexeme kind.Prec ∷ [])
prec_begun first = done
prec_begun c_identifier = done
prec_begun bar = done

moved : (s : Shape) (k : Kind) → MovedTo (next_state (state s) k) (form s ++ lexeme k ∷ [])
moved declared k = a_definition k
moved start_word kind.Name =
    by declared (at [] [] defs _ defs_more (at (defs ∷ []) [] def _ def_start
    (at (defs ∷ lexeme kind.Start ∷ []) [] identifier _ identifier_name done)))
moved start_word kind.Literal =
    by declared (at [] [] defs _ defs_more (at (defs ∷ []) [] def _ def_start
    (at (defs ∷ lexeme kind.Start ∷ []) [] identifier _ identifier_literal done)))
moved start_word _ = tt
moved union_word kind.Braced =
    by declared (at [] [] defs _ defs_more (at (defs ∷ []) [] def _ def_union done))
moved union_word _ = tt
moved list_word kind.Less = by tag_open done
moved list_word kind.Name = by listed_first
    (at (defs ∷ rword ∷ []) (identifier ∷ []) tag _ tag_empty
    (at (defs ∷ rword ∷ []) [] identifier _ identifier_name done))
moved list_word kind.Literal = by listed_first
    (at (defs ∷ rword ∷ []) (identifier ∷ []) tag _ tag_empty
    (at (defs ∷ rword ∷ []) [] identifier _ identifier_literal done))
moved list_word _ = tt
moved tag_open kind.Name = by tag_named done
moved tag_open _ = tt
moved tag_named kind.Greater = by list_tagged (at (defs ∷ rword ∷ []) [] tag _ tag_name done)
moved tag_named _ = tt
moved list_tagged kind.Name = by listed_first
    (at (defs ∷ rword ∷ tag ∷ []) [] identifier _ identifier_name done)
moved list_tagged kind.Literal = by listed_first
    (at (defs ∷ rword ∷ tag ∷ []) [] identifier _ identifier_literal done)
moved list_tagged _ = tt
moved listed_first kind.Number = by numbered_rule (at (defs ∷ rword ∷ tag ∷ []) [] nlist _ nlist_one
    (at (defs ∷ rword ∷ tag ∷ []) [] nmno _ nmno_number done))
moved listed_first kind.Name = by listed_more
    (next_entry (form listed_first) kind.Name identifier_name first_entry)
moved listed_first kind.Literal = by listed_more
    (next_entry (form listed_first) kind.Literal identifier_literal first_entry)
moved listed_first k = between (form listed_first) k first_listed
moved listed_more kind.Number = by numbered_rule (at (defs ∷ rword ∷ tag ∷ []) [] nlist _ nlist_more
    (at (defs ∷ rword ∷ tag ∷ nlist ∷ []) [] nmno _ nmno_number done))
moved listed_more kind.Name = by listed_more
    (next_entry (form listed_more) kind.Name identifier_name more_entry)
moved listed_more kind.Literal = by listed_more
    (next_entry (form listed_more) kind.Literal identifier_literal more_entry)
moved listed_more k = between (form listed_more) k more_listed
moved numbered_rule kind.Name = by listed_more (next_entry (form numbered_rule) kind.Name
    identifier_name
    done)
moved numbered_rule kind.Literal = by listed_more
    (next_entry (form numbered_rule) kind.Literal identifier_literal done)
moved numbered_rule k = between (form numbered_rule) k listed_done
moved type_word kind.Less = by type_open done
moved type_word _ = tt
moved type_open kind.Name = by type_named done
moved type_open _ = tt
moved type_named kind.Greater = by type_tagged done
moved type_named _ = tt
moved type_tagged kind.Name = by typed (at (form type_tagged) [] tlist _ tlist_one done)
moved type_tagged _ = tt
moved typed kind.Name = by typed (at (form type_tagged) [] tlist _ tlist_more done)
moved typed k = between (form typed) k typed_done
moved rules_mark kind.CIdentifier = by (body first) (at (front first) [] rbody _ rbody_empty done)
moved rules_mark _ = tt
moved whole _ = tt
moved (body f) kind.Name = by (body f) (symbol_in_body f kind.Name identifier_name)
moved (body f) kind.Literal = by (body f) (symbol_in_body f kind.Literal identifier_literal)
moved (body f) kind.Braced = by (body f) (in_body f kind.Braced rbody_act)
moved (body f) kind.Prec = by (prec_word f) (prec_begun f)
moved (body first) k = body_then first k
moved (body c_identifier) k = body_then c_identifier k
moved (body bar) k = body_then bar k
moved (prec_word f) kind.Name = by (prec_read f) (prec_name f kind.Name identifier_name)
moved (prec_word f) kind.Literal = by (prec_read f) (prec_name f kind.Literal identifier_literal)
moved (prec_word _) _ = tt
moved (prec_read f) kind.Braced = by (semicolons f) (prec_text f)
moved (prec_read first) k = named_then first k
moved (prec_read c_identifier) k = named_then c_identifier k
moved (prec_read bar) k = named_then bar k
moved (semicolons first) k = rule_then first k
moved (semicolons c_identifier) k = rule_then c_identifier k
moved (semicolons bar) k = rule_then bar k

file_ends : (f : Front) → Form (spec ∷ []) (front f ++ rbody ∷ prec ∷ [])
file_ends f = at [] [] spec _ spec_is (at (defs ∷ lexeme kind.Mark ∷ rules ∷ []) [] tail _
    tail_empty (ruled f))

body_final : (f : Front) → Form (front f ++ rbody ∷ prec ∷ []) (front f ++ rbody ∷ [])
body_final first = replaced prec [] (front first ++ rbody ∷ []) [] prec_empty
body_final c_identifier = replaced prec [] (front c_identifier ++ rbody ∷ []) [] prec_empty
body_final bar = replaced prec [] (front bar ++ rbody ∷ []) [] prec_empty

named_final : (f : Front) → Form (front f ++ rbody ∷ prec ∷ []) (form (prec_read f))
named_final first = replaced prec _ (front first ++ rbody ∷ []) [] prec_named
named_final c_identifier = replaced prec _ (front c_identifier ++ rbody ∷ []) [] prec_named
named_final bar = replaced prec _ (front bar ++ rbody ∷ []) [] prec_named

final : (s : Shape) → is_final (state s) ≡ true → Form (spec ∷ []) (form s)
final (body f) e = trans (file_ends f) (body_final f)
final (prec_read f) e = trans (file_ends f) (named_final f)
final (semicolons f) e = file_ends f
final whole e = done
final _ e = cc

derived_from : (s : Shape) (x : List Symbol) (ks : List Kind) → Form (form s) x →
    is_final_at (state_after (Some (state s)) ks) ≡ true → Form (spec ∷ []) (x ++ map lexeme ks)
derived_from s x [] d e = rw append-nil (trans (final s e) d)
derived_from s x (k ∷ ks) d e =
    subst (Form (spec ∷ [])) (append_assoc x (lexeme k ∷ []) (map lexeme ks))
    (go (next_state (state s) k) (moved s k) e (λ t y. derived_from t y ks))
  where
    go : (o : Option State) → MovedTo o (form s ++ lexeme k ∷ []) → is_final_at (state_after o ks) ≡
        true
        → ((t : Shape) (y : List Symbol) → Form (form t) y →
        is_final_at (state_after (Some (state t)) ks) ≡ true → Form (spec ∷ [])
        (y ++ map lexeme ks))
        → Form (spec ∷ []) ((x ++ lexeme k ∷ []) ++ map lexeme ks)
    go None m h again = let n : is_final_at (state_after None ks) ≡ false = ap is_final_at (lost ks)
        in
        cc
    go (Some q) m h again = again m.shape (x ++ lexeme k ∷ [])
        (trans m.derives (within [] (lexeme k ∷ []) d))
        (ap (λ p. is_final_at (state_after (Some p) ks)) m.in_state ∙ h)

-- what the recogniser accepts is derived
pub derived : (ks : List Kind) → run Declarations ks ≡ true → IsSpec ks
derived ks e = derived_from declared [] ks (at [] [] defs _ defs_empty done) e
