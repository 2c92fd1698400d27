-- The code's syntax trees as trees of the definitions: without places.
use Rattle.std.specs.Prelude.{ℕ, List, map}
use Rattle.ysyntax.specs.declared.tree.Identifier.{Identifier as CodeIdentifier}
use Rattle.ysyntax.specs.declared.tree.Identifier.TheVariants as identifiers
use Rattle.ysyntax.specs.declared.tree.Occurrence.{Occurrence}
use Rattle.ysyntax.specs.declared.tree.NameAt.{NameAt}
use Rattle.ysyntax.specs.declared.tree.Digits.{Digits}
use Rattle.ysyntax.specs.declared.tree.BracedText.{BracedText}
use Rattle.ysyntax.specs.declared.tree.Word.{Word as CodeWord}
use Rattle.ysyntax.specs.declared.tree.Word.TheVariants as words
use Rattle.ysyntax.specs.declared.tree.Entry.{Entry as CodeEntry}
use Rattle.ysyntax.specs.declared.tree.Definition.{Definition as CodeDefinition}
use Rattle.ysyntax.specs.declared.tree.Definition.TheVariants as definitions
use Rattle.ysyntax.specs.declared.tree.BodyPart.{BodyPart as CodeBodyPart}
use Rattle.ysyntax.specs.declared.tree.BodyPart.TheVariants as items
use Rattle.ysyntax.specs.declared.tree.RuleText.{RuleText as CodeRuleText}
use Rattle.ysyntax.specs.declared.tree.Tree.{Tree as CodeTree}
use Rattle.ysymbols.specs.Sources.{option_view}
use Rattle.ysyntax.specs.Tree.{Identifier, named, quoted, Word, token, left, right, nonassoc}
use Rattle.ysyntax.specs.Tree.{Entry, Definition, start, union, block, listing, types, BodyPart}
use Rattle.ysyntax.specs.Tree.{symbol, action, RuleText, Tree}

abbrev pub identifier_view : CodeIdentifier → Identifier
identifier_view (identifiers.Named n) = named n.now
identifier_view (identifiers.Quoted v) = quoted v

abbrev pub occurrence_view : Occurrence → Identifier
occurrence_view m = identifier_view m.who

abbrev pub name_view : NameAt → List ℕ
name_view n = n.name.now

abbrev pub digits_view : Digits → List ℕ
digits_view d = d.digits.now

abbrev pub braced_view : BracedText → List ℕ
braced_view b = b.text.now

abbrev pub word_view : CodeWord → Word
word_view words.Token = token
word_view words.Left = left
word_view words.Right = right
word_view words.Nonassoc = nonassoc

abbrev pub entry_view : CodeEntry → Entry
entry_view e = record { who = occurrence_view e.who; digits = option_view digits_view e.digits }

abbrev pub definition_view : CodeDefinition → Definition
definition_view (definitions.Start m at) = start (occurrence_view m)
definition_view (definitions.Union b) = union (braced_view b)
definition_view definitions.Block = block
definition_view (definitions.Listing l) = listing (word_view l.word)
    (option_view name_view l.tag)
    (map entry_view l.entries.items)
definition_view (definitions.Types t) = types (name_view t.tag) (map name_view t.names.items)

abbrev pub body_part_view : CodeBodyPart → BodyPart
body_part_view (items.Symbol m) = symbol (occurrence_view m)
body_part_view (items.Action b) = action (braced_view b)

abbrev pub rule_text_view : CodeRuleText → RuleText
rule_text_view c = record {
  left = option_view name_view c.left;
  body = map body_part_view c.body.items;
  prec = option_view occurrence_view c.prec;
  last = option_view braced_view c.last;
  semicolons = c.semicolons;
}

abbrev pub tree_view : CodeTree → Tree
tree_view t = record {
  definitions = map definition_view t.definitions.items;
  rule_texts = map rule_text_view t.rule_texts.items;
  second_mark = t.second_mark;
}
