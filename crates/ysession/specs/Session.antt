-- What a session is: a machine, the tokens first read, and a history.
use Rattle.std.specs.Prelude.{ℕ, List, reverse}
use Rattle.ysymbols.specs.Grammar.{GrammarValue}
use Rattle.ytables.specs.Tables.{TablesValue as Tables}
use Rattle.ymachine.specs.declared.machine.StepKind.{StepKind}
use Rattle.ysession.specs.declared.session.Session.{Session}
use Rattle.ymachine.specs.Machine.{Machine}
use Rattle.ymachine.specs.Past.{Past}
use Rattle.ymachine.specs.History.{History}
use Rattle.ymachine.specs.MachineOver.{machine_over}
use Rattle.ymachine.specs.Content.{Place}
use Rattle.ymachine.specs.Shown.{past_view}

-- the contents of a session, now and before
abbrev pub past_of : Session → Past StepKind Place
past_of s = s.journal

-- what stays the same in a session from its first step to its last: tables, their grammar and
-- machine, and the tokens first read
pub record Setting : Type 0 where
  pub tables : Tables
  pub grammar : GrammarValue
  pub machine : Machine
  pub tokens : List ℕ

-- the setting of a content
abbrev pub setting_at : Place → Setting
setting_at p = record {
  tables = p.tables;
  grammar = p.tables.built.grammar;
  machine = machine_over p.tables;
  tokens = p.tokens;
}

-- the setting of a session
unfoldable pub setting_of : Session → Setting
setting_of s = setting_at s.journal.now

-- the tables of a session
abbrev pub tables_of : Session → Tables
tables_of s = (setting_of s).tables

-- the grammar of its tables
abbrev pub grammar_of : Session → GrammarValue
grammar_of s = (setting_of s).grammar

-- the machine over its tables
abbrev pub machine_of : Session → Machine
machine_of s = (setting_of s).machine

-- the tokens first read
abbrev pub tokens_of : Session → List ℕ
tokens_of s = (setting_of s).tokens

-- the configuration now and all those before it
unfoldable pub history_of : Session → History
history_of s = past_view (past_of s)

-- the tokens that were shifted by the steps that an unwinding has undone
abbrev pub later_of : Session → List ℕ
later_of s = reverse s.later.items
