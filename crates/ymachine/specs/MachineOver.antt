-- The machine of tables.
use Rattle.ytables.specs.declared.cell.Action.{Action}
use Rattle.ytables.specs.declared.cell.Action.TheVariants as actions
use Rattle.ytables.specs.Tables.{TablesValue as Tables}
use Rattle.ymachine.specs.Machine.{Machine, Move, Shift, Reduce, Accept, Error}
use Rattle.ytables.specs.Text.{name_of}
use Rattle.ymachine.specs.Tables.{rule_of, state_after, cell_in}
use Rattle.ytokens.specs.Symbols.{symbol_named, token_count}

-- an action without its state number
abbrev pub move_of : Action → Move
move_of (actions.Shift q) = Shift
move_of (actions.Reduce r) = Reduce r
move_of actions.Accept = Accept
move_of actions.Error = Error

-- the machine that these tables make
unfoldable pub machine_over : Tables → Machine
machine_over t = record {
  cell = λ stack token. move_of (cell_in t (state_after t stack) token);
  rule = λ r. rule_of t r;
  name = λ symbol. name_of t.built.grammar symbol;
  find = λ name. symbol_named t.built.grammar name;
  tokens = token_count t.built.grammar;
}
