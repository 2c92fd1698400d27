-- The sites of the code's lexemes and syntax trees.
use Rattle.std.specs.Prelude.{ℕ, List, [], ◌∷◌, ◌++◌, map, Option, Some, None}
use Rattle.std.specs.List.{flat_map}
use Rattle.ylexemes.specs.Lexemes.{name, c_identifier, number}
use Rattle.ylexemes.specs.Views.{lexeme_view}
use Rattle.ysyntax.specs.declared.lexer.Placed.{Placed}
use Rattle.ysyntax.specs.declared.tree.Occurrence.{Occurrence}
use Rattle.ysyntax.specs.declared.tree.NameAt.{NameAt}
use Rattle.ysyntax.specs.declared.tree.Digits.{Digits}
use Rattle.ysyntax.specs.declared.tree.Entry.{Entry as CodeEntry}
use Rattle.ysyntax.specs.declared.tree.Definition.{Definition as CodeDefinition}
use Rattle.ysyntax.specs.declared.tree.Definition.TheVariants as definitions
use Rattle.ysyntax.specs.declared.tree.BodyPart.{BodyPart as CodeBodyPart}
use Rattle.ysyntax.specs.declared.tree.BodyPart.TheVariants as items
use Rattle.ysyntax.specs.declared.tree.RuleText.{RuleText as CodeRuleText}
use Rattle.ysyntax.specs.declared.tree.Tree.{Tree as CodeTree}
use Rattle.ysyntax.specs.Sites.{Mark, Role, Site, digits, each, left_side, listed, mark, namings}
use Rattle.ysyntax.specs.Sites.{prec_name, site, site_mark, start_name, start_word, tag, typed}
use Rattle.ysyntax.specs.Sites.{used}
use Rattle.ysyntax.specs.Tree.{Identifier, identifier_yield}
use Rattle.ysyntax.specs.TreeViews.{occurrence_view, name_view, digits_view}

abbrev pub placed_mark : Placed → Mark
placed_mark p = mark (lexeme_view p.lexeme) p.at

abbrev pub marks_in : List Placed → List Mark
marks_in ls = map placed_mark ls

-- the lexemes that name something
abbrev pub named_in : List Placed → List Mark
named_in ls = namings (marks_in ls)

abbrev pub occurrence_mark : Occurrence → Mark
occurrence_mark m = mark (identifier_yield (occurrence_view m)) m.at

abbrev pub name_mark : NameAt → Mark
name_mark n = mark (name (name_view n)) n.at

abbrev pub left_mark : NameAt → Mark
left_mark n = mark (c_identifier (name_view n)) n.at

abbrev pub digits_mark : Digits → Mark
digits_mark d = mark (number (digits_view d)) d.at

-- the mark of what was taken, where something was
abbrev pub one : {A B : Type 0} → (A → B) → Option A → List B
one f o = each (λ x. f x ∷ []) o

-- the mark of a left side that was taken, where one was
abbrev pub left_marks : Option (Option NameAt) → List Mark
left_marks o = each (one left_mark) o

abbrev pub occurrence_site : (Identifier → Role) → Occurrence → Site
occurrence_site f m = site (f (occurrence_view m)) m.at

abbrev pub name_site : (List ℕ → Role) → NameAt → Site
name_site f n = site (f (name_view n)) n.at

abbrev pub digits_site : Digits → Site
digits_site d = site (digits (digits_view d)) d.at

abbrev pub entry_sites : CodeEntry → List Site
entry_sites e = occurrence_site listed e.who ∷ one digits_site e.digits

abbrev pub definition_sites : CodeDefinition → List Site
definition_sites (definitions.Start m at) =
    site start_word at ∷ occurrence_site start_name m ∷ []
definition_sites (definitions.Union t) = []
definition_sites definitions.Block = []
definition_sites (definitions.Listing l) =
    one (name_site tag) l.tag ++ flat_map entry_sites l.entries.items
definition_sites (definitions.Types t) = name_site tag t.tag ∷ map (name_site typed) t.names.items

abbrev pub body_part_sites : CodeBodyPart → List Site
body_part_sites (items.Symbol m) = occurrence_site used m ∷ []
body_part_sites (items.Action b) = []

abbrev pub rule_text_sites : CodeRuleText → List Site
rule_text_sites c = one (name_site left_side) c.left
    ++ (flat_map body_part_sites c.body.items ++ one (occurrence_site prec_name) c.prec)

abbrev pub tree_sites : CodeTree → List Site
tree_sites t = flat_map definition_sites t.definitions.items
    ++ flat_map rule_text_sites t.rule_texts.items

abbrev pub site_marks : List Site → List Mark
site_marks ss = map site_mark ss
