-- The machine of a parse: its configurations and its steps (Aho, Sethi and Ullman, 4.7, the LR
-- parsing algorithm, and 4.8, error recovery; POSIX yacc, "Error Handling").
use Rattle.std.specs.Prelude.{ℕ, ◌+◌, ◌-◌, ◌==◌, List, [], ◌∷◌, ◌++◌, length, take, drop, map}
use Rattle.std.specs.Prelude.{reverse, Option, Some, None, if◌then◌else◌}
use Rattle.ymachine.specs.declared.machine.Mode.{Mode}
use Rattle.ymachine.specs.declared.machine.Mode.TheVariants.{Running, Popping, Accepted, Failed}
use Rattle.ymachine.specs.declared.machine.Deed.{Deed}
use Rattle.ymachine.specs.declared.machine.Deed.TheVariants as deeds
use Rattle.ymachine.specs.declared.machine.Edit.{Edit}
use Rattle.ymachine.specs.declared.machine.Edit.TheVariants as edits
use Rattle.ymachine.specs.declared.machine.StepKind.{StepKind}
use Rattle.ymachine.specs.declared.machine.StepKind.TheVariants as kinds
use Rattle.ysymbols.specs.Grammar.{Production, error_token}
use Rattle.ytokens.specs.Symbols.{is_input}
use Rattle.ymachine.specs.Tree.{Tree, leaf, error_leaf, node, trees_of}

-- what a cell says
pub data Move : Type 0 where
  Shift : Move
  Reduce : (rule : ℕ) → Move
  Accept : Move
  Error : Move

-- what a machine reads: the cell of a stack's symbols and a token, the rules, the names, the
-- symbol of a name, and how many tokens there are, which have the lowest numbers
pub record Machine : Type 0 where
  pub cell : List ℕ → ℕ → Move
  pub rule : ℕ → Production
  pub name : ℕ → List ℕ
  pub find : List ℕ → Option ℕ
  pub tokens : ℕ

-- a symbol of the stack, and its tree
pub record Entry : Type 0 where
  pub symbol : ℕ
  pub tree : Tree

-- the stack from the bottom, the upcoming tokens with their places, the recovery counter, the
-- errors reported, the mode
pub record Configuration : Type 0 where
  pub stack : List Entry
  pub rest : List (ℕ × ℕ)
  pub counter : ℕ
  pub errors : ℕ
  pub mode : Mode

-- the symbols of a stack, from the bottom
abbrev pub symbols : List Entry → List ℕ
symbols stack = map (λ (e : Entry). e.symbol) stack

-- a symbol with its tree
abbrev pub entry_of : ℕ → Tree → Entry
entry_of symbol tree = record { symbol = symbol; tree = tree }

-- the first upcoming token, or the end
abbrev pub lookahead : List (ℕ × ℕ) → ℕ
lookahead [] = 0
lookahead (token ∷ rest) = token.0

-- a list without its last n elements
abbrev pub without_last : {X : Type 0} → ℕ → List X → List X
without_last n xs = take (length xs - n) xs

-- the last n elements of a list
abbrev pub last_ones : {X : Type 0} → ℕ → List X → List X
last_ones n xs = drop (length xs - n) xs

-- how many symbols the body of a rule has
abbrev pub width : Machine → ℕ → ℕ
width m r = length (m.rule r).body

-- the parse gives up
abbrev pub fail_step : Configuration → StepKind × Configuration
fail_step c = (kinds.Fail, record c { mode = Failed })

-- the first upcoming token goes to the stack, and the counter falls by one, not below 0
abbrev pub shift_step : Configuration → List (ℕ × ℕ) → StepKind × Configuration
shift_step c [] = fail_step c
shift_step c (token ∷ rest) = (
  kinds.Shift token.0,
  record c {
    stack = c.stack ++ entry_of token.0 (leaf token.0 token.1) ∷ [];
    rest = rest;
    counter = c.counter - 1;
  },
)

-- the left side takes the place of the body, whose trees are its children
abbrev pub reduce_step : Machine → Configuration → ℕ → StepKind × Configuration
reduce_step m c r = (
  kinds.Reduce r,
  record c {
    stack = without_last (width m r) c.stack
        ++ entry_of (m.rule r).left
        (node r (trees_of (map (λ (e : Entry). e.tree) (last_ones (width m r) c.stack)))) ∷ [];
  },
)

-- the first upcoming token is dropped; where there is no token the parse gives up
abbrev pub discard_step : Configuration → List (ℕ × ℕ) → StepKind × Configuration
discard_step c [] = fail_step c
discard_step c (token ∷ rest) = (kinds.Discard token.0, record c { rest = rest })

-- an error is reported where the counter is 0
abbrev pub detect_step : Configuration → StepKind × Configuration
detect_step c = (
  kinds.Detect,
  record c {
    counter = 3;
    errors = (if c.counter == 0 then c.errors + 1 else c.errors);
    mode = Popping;
  },
)

-- an error: where no token was shifted since the last one, a token is discarded, or else the error
-- is detected
abbrev pub error_step : Configuration → StepKind × Configuration
error_step c = if c.counter == 3 then discard_step c c.rest else detect_step c

-- the step that a cell says
abbrev pub step_by : Machine → Configuration → Move → StepKind × Configuration
step_by m c Shift = shift_step c c.rest
step_by m c (Reduce r) = reduce_step m c r
step_by m c Accept = (kinds.Accept, record c { mode = Accepted })
step_by m c Error = error_step c

-- the entry on top is dropped; from an empty stack the parse gives up. The list is the stack, the
-- top first.
abbrev pub pop_step : Configuration → List Entry → StepKind × Configuration
pop_step c [] = fail_step c
pop_step c (top ∷ below) = (kinds.Pop top.symbol, record c { stack = reverse below })

-- `error` goes to the stack
abbrev pub shift_error_step : Configuration → StepKind × Configuration
shift_error_step c = (
  kinds.ShiftError,
  record c { stack = c.stack ++ entry_of error_token error_leaf ∷ []; mode = Running },
)

-- the step of recovery, by what the cell of `error` says
abbrev pub recover_by : Configuration → Move → StepKind × Configuration
recover_by c Shift = shift_error_step c
recover_by c (Reduce r) = pop_step c (reverse c.stack)
recover_by c Accept = pop_step c (reverse c.stack)
recover_by c Error = pop_step c (reverse c.stack)

-- the step in a mode
abbrev pub next_in : Machine → Configuration → Mode → Option (StepKind × Configuration)
next_in m c Running = Some (step_by m c (m.cell (symbols c.stack) (lookahead c.rest)))
next_in m c Popping = Some (recover_by c (m.cell (symbols c.stack) error_token))
next_in m c Accepted = None
next_in m c Failed = None

-- the kind of the step from a configuration and what the step leaves, where there is one
unfoldable pub next : Machine → Configuration → Option (StepKind × Configuration)
next m c = next_in m c c.mode

-- what an edit makes of the upcoming tokens: an input token comes first, which has no place in the
-- file, or the first one is taken out
abbrev pub edited_rest : Machine → Edit → Configuration → List (ℕ × ℕ)
    → Option (StepKind × Configuration)
edited_rest m (edits.Insert token) c rest =
    if is_input m.tokens token then Some (kinds.Insert token, record c { rest = (token, 0) ∷ rest })
    else None
edited_rest m edits.Drop c [] = None
edited_rest m edits.Drop c (token ∷ rest) = Some (kinds.Drop token.0, record c { rest = rest })

-- the same in a mode, where the parse has not halted
abbrev pub edited_in : Machine → Edit → Configuration → Mode → Option (StepKind × Configuration)
edited_in m edit c Running = edited_rest m edit c c.rest
edited_in m edit c Popping = edited_rest m edit c c.rest
edited_in m edit c Accepted = None
edited_in m edit c Failed = None

-- the kind of an edit of the upcoming tokens and what it leaves, where it can be made
unfoldable pub edited : Machine → Edit → Configuration → Option (StepKind × Configuration)
edited m edit c = edited_in m edit c c.mode

-- the kind of a step or an edit and what it leaves, where it can be made
abbrev pub deed_by : Machine → Deed → Configuration → Option (StepKind × Configuration)
deed_by m deeds.Step = next m
deed_by m (deeds.Edit edit) = edited m edit
