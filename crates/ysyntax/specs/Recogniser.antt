-- The recogniser's states and moves.
use Rattle.std.specs.Prelude.{List, [], ◌∷◌, Option, Some, None, Bool, true, false}
use Rattle.ylexemes.specs.declared.kind.Kind.{Kind}
use Rattle.ylexemes.specs.declared.kind.Kind.TheVariants.{Name, CIdentifier, Literal}
use Rattle.ylexemes.specs.declared.kind.Kind.TheVariants.{Number, Mark}
use Rattle.ylexemes.specs.declared.kind.Kind.TheVariants.{Token}
use Rattle.ylexemes.specs.declared.kind.Kind.TheVariants.{Left, Right, Nonassoc, Types}
use Rattle.ylexemes.specs.declared.kind.Kind.TheVariants.{Start}
use Rattle.ylexemes.specs.declared.kind.Kind.TheVariants.{Union, Prec, Code, Braced, Less}
use Rattle.ylexemes.specs.declared.kind.Kind.TheVariants.{Greater}
use Rattle.ylexemes.specs.declared.kind.Kind.TheVariants.{Bar, Semicolon}
use Rattle.ysyntax.specs.declared.recogniser.State.{State}
use Rattle.ysyntax.specs.declared.recogniser.State.TheVariants.{Declarations, StartWord}
use Rattle.ysyntax.specs.declared.recogniser.State.TheVariants.{UnionWord, ListWord}
use Rattle.ysyntax.specs.declared.recogniser.State.TheVariants.{ListTagOpen}
use Rattle.ysyntax.specs.declared.recogniser.State.TheVariants.{ListTagName, ListTagged}
use Rattle.ysyntax.specs.declared.recogniser.State.TheVariants.{Listed}
use Rattle.ysyntax.specs.declared.recogniser.State.TheVariants.{Numbered, TypeWord}
use Rattle.ysyntax.specs.declared.recogniser.State.TheVariants.{TypeTagOpen}
use Rattle.ysyntax.specs.declared.recogniser.State.TheVariants.{TypeTagName, TypeTagged}
use Rattle.ysyntax.specs.declared.recogniser.State.TheVariants.{Typed}
use Rattle.ysyntax.specs.declared.recogniser.State.TheVariants.{RulesMark, Body, PrecWord}
use Rattle.ysyntax.specs.declared.recogniser.State.TheVariants.{PrecNamed, Semicolons, End}

abbrev pub after_definition : Kind → Option State
after_definition Start = Some StartWord
after_definition Union = Some UnionWord
after_definition Code = Some Declarations
after_definition Token = Some ListWord
after_definition Left = Some ListWord
after_definition Right = Some ListWord
after_definition Nonassoc = Some ListWord
after_definition Types = Some TypeWord
after_definition Mark = Some RulesMark
after_definition _ = None

abbrev pub on_name : State → Kind → Option State
on_name q Name = Some q
on_name q _ = None

abbrev pub on_identifier : State → Kind → Option State
on_identifier q Name = Some q
on_identifier q Literal = Some q
on_identifier q _ = None

abbrev pub on_less : State → Kind → Option State
on_less q Less = Some q
on_less q _ = None

abbrev pub on_greater : State → Kind → Option State
on_greater q Greater = Some q
on_greater q _ = None

abbrev pub on_braced : State → Kind → Option State
on_braced q Braced = Some q
on_braced q _ = None

abbrev pub on_c_identifier : State → Kind → Option State
on_c_identifier q CIdentifier = Some q
on_c_identifier q _ = None

abbrev pub after_list_word : Kind → Option State
after_list_word Less = Some ListTagOpen
after_list_word k = on_identifier Listed k

abbrev pub after_number : Kind → Option State
after_number Name = Some Listed
after_number Literal = Some Listed
after_number k = after_definition k

abbrev pub after_listed : Kind → Option State
after_listed Number = Some Numbered
after_listed k = after_number k

abbrev pub after_typed : Kind → Option State
after_typed Name = Some Typed
after_typed k = after_definition k

abbrev pub after_rule : Kind → Option State
after_rule Semicolon = Some Semicolons
after_rule CIdentifier = Some Body
after_rule Bar = Some Body
after_rule Mark = Some End
after_rule _ = None

abbrev pub after_body : Kind → Option State
after_body Name = Some Body
after_body Literal = Some Body
after_body Braced = Some Body
after_body Prec = Some PrecWord
after_body k = after_rule k

abbrev pub after_prec : Kind → Option State
after_prec Braced = Some Semicolons
after_prec k = after_rule k

abbrev pub next_state : State → Kind → Option State
next_state Declarations k = after_definition k
next_state StartWord k = on_identifier Declarations k
next_state UnionWord k = on_braced Declarations k
next_state ListWord k = after_list_word k
next_state ListTagOpen k = on_name ListTagName k
next_state ListTagName k = on_greater ListTagged k
next_state ListTagged k = on_identifier Listed k
next_state Listed k = after_listed k
next_state Numbered k = after_number k
next_state TypeWord k = on_less TypeTagOpen k
next_state TypeTagOpen k = on_name TypeTagName k
next_state TypeTagName k = on_greater TypeTagged k
next_state TypeTagged k = on_name Typed k
next_state Typed k = after_typed k
next_state RulesMark k = on_c_identifier Body k
next_state Body k = after_body k
next_state PrecWord k = on_identifier PrecNamed k
next_state PrecNamed k = after_prec k
next_state Semicolons k = after_rule k
next_state End k = None

abbrev pub is_final : State → Bool
is_final Body = true
is_final PrecNamed = true
is_final Semicolons = true
is_final End = true
is_final _ = false

abbrev pub is_end : State → Bool
is_end End = true
is_end _ = false

-- where the kinds lead from a state
abbrev pub state_after : Option State → List Kind → Option State
state_after q [] = q
state_after None (k ∷ ks) = None
state_after (Some q) (k ∷ ks) = state_after (next_state q k) ks

abbrev pub is_final_at : Option State → Bool
is_final_at None = false
is_final_at (Some q) = is_final q

abbrev pub run : State → List Kind → Bool
run q ks = is_final_at (state_after (Some q) ks)
