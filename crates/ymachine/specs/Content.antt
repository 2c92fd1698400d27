-- What a parse that works in place holds, as flat lists; what its steps make of it, and what was
-- before them.
use Rattle.std.specs.Prelude.{ℕ, suc, ◌+◌, ◌-◌, ◌==◌, nat_lt, nat_le, Bool, true, false, ◌&&◌, List}
use Rattle.std.specs.Prelude.{[], ◌∷◌, ◌++◌, length, take, drop, map, Option, Some, None}
use Rattle.std.specs.Prelude.{slice_index_or, unwrap_or, if◌then◌else◌}
use Prim.Native.Nat.{zero}
use Rattle.std.specs.Option.{option_map}
use Rattle.ysymbols.specs.Grammar.{error_token}
use Rattle.ytables.specs.Tables.{TablesValue as Tables}
use Rattle.ytables.specs.declared.cell.Action.{Action}
use Rattle.ytables.specs.declared.cell.Action.TheVariants as actions
use Rattle.ymachine.specs.declared.machine.Mode.{Mode}
use Rattle.ymachine.specs.declared.machine.Mode.TheVariants.{Running, Popping, Accepted, Failed}
use Rattle.ymachine.specs.declared.machine.Deed.{Deed}
use Rattle.ymachine.specs.declared.machine.Deed.TheVariants as deeds
use Rattle.ymachine.specs.declared.machine.Edit.{Edit}
use Rattle.ymachine.specs.declared.machine.Edit.TheVariants as edits
use Rattle.ymachine.specs.declared.machine.StepKind.{StepKind}
use Rattle.ymachine.specs.declared.machine.StepKind.TheVariants as kinds
use Rattle.ymachine.specs.declared.parts.StackEntry.{StackEntry}
use Rattle.ymachine.specs.declared.parts.Node.{Node}
use Rattle.ymachine.specs.declared.parts.Node.TheVariants as nodes
use Rattle.ymachine.specs.declared.parts.PlaceChange.{PlaceChange}
use Rattle.ymachine.specs.Tree.{Tree, leaf, error_leaf, node, trees_of}
use Rattle.ymachine.specs.Machine.{Configuration, Entry, entry_of, without_last, last_ones, next}
use Rattle.ymachine.specs.Machine.{edited}
use Rattle.ymachine.specs.Rest.{Rest, rest_left, ahead, is_left, place_left, without_first}
use Rattle.ymachine.specs.Rest.{with_first_back}
use Rattle.ymachine.specs.Rest.{with_insertion, without_insertion, first_rest}
use Rattle.ymachine.specs.Tables.{goto_at, cell_at, rule_of}
use Rattle.ytokens.specs.Symbols.{is_input, token_count}
use Rattle.ymachine.specs.MachineOver.{machine_over}

-- what a parse in place holds: the stack from the bottom, the nodes, the entries that became
-- children, the upcoming tokens, the counter, the errors reported, the mode, and the steps that
-- stand
pub record Content : Type 0 where
  pub stack : List StackEntry
  pub nodes : List Node
  pub children : List StackEntry
  pub rest : Rest
  pub counter : ℕ
  pub errors : ℕ
  pub mode : Mode
  pub steps : ℕ

-- a content with what stays: the tables and the tokens
pub record Place : Type 0 where
  pub tables : Tables
  pub tokens : List ℕ
  pub content : Content

-- an entry of the stack, with the number of its node
abbrev pub entry : ℕ → ℕ → ℕ → StackEntry
entry state symbol number = record { state = state; symbol = symbol; node = number }

-- how many symbols the body of a rule has
abbrev pub width_of : Tables → ℕ → ℕ
width_of t rule = length (rule_of t rule).body

-- the state after the first n entries, which begin in this state
abbrev pub state_from : ℕ → ℕ → List StackEntry → ℕ
state_from state zero stack = state
state_from state (suc n) [] = state
state_from state (suc n) (e ∷ stack) = state_from e.state n stack

-- the state on top, or 0 where the stack is empty
abbrev pub top_state : List StackEntry → ℕ
top_state stack = state_from 0 (length stack) stack

-- where a symbol leads from a state, or state 0
abbrev pub lead : Tables → ℕ → ℕ → ℕ
lead t state symbol = unwrap_or (goto_at t state symbol) 0

-- an entry with a node of its own goes on top
abbrev pub with_entry : Content → ℕ → ℕ → Node → Content
with_entry c state symbol n = record c {
  stack = c.stack ++ entry state symbol (length c.nodes) ∷ [];
  nodes = c.nodes ++ n ∷ [];
}

-- the entries on top become the children of a new one
abbrev pub with_parent : Content → ℕ → ℕ → ℕ → ℕ → Content
with_parent c state left rule width = record c {
  stack = without_last width c.stack ++ entry state left (length c.nodes) ∷ [];
  nodes = c.nodes ++ nodes.Rule rule (length c.children) width ∷ [];
  children = c.children ++ last_ones width c.stack;
}

-- an error is reported where the counter is 0
abbrev pub with_error : Content → Content
with_error c = record c {
  counter = 3;
  errors = (if c.counter == 0 then c.errors + 1 else c.errors);
  mode = Popping;
}

-- what a step of a kind makes of a content
abbrev pub content_after : Tables → StepKind → Content → Content
content_after t (kinds.Shift token) c =
    record (with_entry c (lead t (top_state c.stack) token) token
    (nodes.Leaf token (place_left c.rest)))
    { rest = without_first c.rest; counter = c.counter - 1 }
content_after t (kinds.Reduce rule) c =
    with_parent c (lead t (top_state (without_last (width_of t rule) c.stack))
    (rule_of t rule).left)
    (rule_of t rule).left rule (width_of t rule)
content_after t kinds.Accept c = record c { mode = Accepted }
content_after t kinds.Detect c = with_error c
content_after t (kinds.Pop symbol) c = record c { stack = without_last 1 c.stack }
content_after t kinds.ShiftError c =
    record (with_entry c (lead t (top_state c.stack) error_token) error_token nodes.ErrorLeaf) {
      mode = Running;
    }
content_after t (kinds.Discard token) c = record c { rest = without_first c.rest }
content_after t kinds.Fail c = record c { mode = Failed }
content_after t (kinds.Insert token) c = record c { rest = with_insertion token c.rest }
content_after t (kinds.Drop token) c = record c { rest = without_first c.rest }

-- one more step stands
abbrev pub one_step : Content → Content
one_step c = record c { steps = c.steps + 1 }

-- what a step of a kind makes of a content with what stays, where one more step stands
abbrev pub place_after : StepKind → Place → Place
place_after kind p = record p { content = one_step (content_after p.tables kind p.content) }

-- the entry on top goes, with its node
abbrev pub without_entry : Content → Content
without_entry c = record c { stack = without_last 1 c.stack; nodes = without_last 1 c.nodes }

-- the entry on top becomes as many of the last children
abbrev pub without_parent : Content → ℕ → Content
without_parent c width = record c {
  stack = without_last 1 c.stack ++ last_ones width c.children;
  nodes = without_last 1 c.nodes;
  children = without_last width c.children;
}

-- what was before a change, without its counter, its mode and its steps
abbrev pub content_before : Tables → PlaceChange → StepKind → Content → Content
content_before t change (kinds.Shift token) c =
    record (without_entry c) { rest = with_first_back change.place token c.rest }
content_before t change (kinds.Reduce rule) c = without_parent c (width_of t rule)
content_before t change kinds.Accept c = c
content_before t change kinds.Detect c =
    record c { errors = (if change.counter == 0 then c.errors - 1 else c.errors) }
content_before t change (kinds.Pop symbol) c =
    record c { stack = c.stack ++ entry change.state symbol change.node ∷ [] }
content_before t change kinds.ShiftError c = without_entry c
content_before t change (kinds.Discard token) c =
    record c { rest = with_first_back change.place token c.rest }
content_before t change kinds.Fail c = c
content_before t change (kinds.Insert token) c = record c { rest = without_insertion c.rest }
content_before t change (kinds.Drop token) c =
    record c { rest = with_first_back change.place token c.rest }

-- the counter and the mode before a change, and one step fewer
abbrev pub one_back : PlaceChange → Content → Content
one_back change c = record c { counter = change.counter; mode = change.mode; steps = c.steps - 1 }

-- what was before a change
abbrev pub place_before : PlaceChange → Place → Place
place_before change p = record p {
  content = one_back change (content_before p.tables change change.kind p.content);
}

-- the tree of a node, where those of the nodes before it are known
abbrev pub tree_over : List StackEntry → List Tree → Node → Tree
tree_over children trees (nodes.Leaf token place) = leaf token place
tree_over children trees nodes.ErrorLeaf = error_leaf
tree_over children trees (nodes.Rule rule from count) =
    node rule (trees_of (map (λ (e : StackEntry). slice_index_or trees e.node error_leaf)
    (take count (drop from children))))

-- the trees of all nodes
abbrev pub trees_from : List StackEntry → List Tree → List Node → List Tree
trees_from children trees [] = trees
trees_from children trees (n ∷ ns) =
    trees_from children (trees ++ tree_over children trees n ∷ []) ns

-- the trees of all nodes, in their order
abbrev pub trees_over : List StackEntry → List Node → List Tree
trees_over children ns = trees_from children [] ns

-- the tree of an entry's node
abbrev pub node_tree : List Tree → StackEntry → Tree
node_tree trees e = slice_index_or trees e.node error_leaf

-- an entry as the machine has it, with the tree of its node
abbrev pub entry_view : List Tree → StackEntry → Entry
entry_view trees e = entry_of e.symbol (node_tree trees e)

-- the upcoming tokens, with their places
abbrev pub rest_of : List ℕ → Content → List (ℕ × ℕ)
rest_of tokens c = rest_left tokens c.rest

-- the configuration that a content shows, over the tokens first read
abbrev pub configuration_in : List ℕ → Content → Configuration
configuration_in tokens c = record {
  stack = map (entry_view (trees_over c.children c.nodes)) c.stack;
  rest = rest_of tokens c;
  counter = c.counter;
  errors = c.errors;
  mode = c.mode;
}

-- the same of a content with what stays
abbrev pub configuration_of : Place → Configuration
configuration_of p = configuration_in p.tokens p.content

-- the next step is that of the machine, and leaves what a step of its kind makes
abbrev pub place_next : Place → Option (StepKind × Place)
place_next p =
    option_map (λ (step : StepKind × Configuration). (step.0, place_after step.0 p))
    (next (machine_over p.tables) (configuration_of p))

-- an edit is that of the machine, and leaves what its kind makes
abbrev pub place_edited : Edit → Place → Option (StepKind × Place)
place_edited edit p =
    option_map (λ (step : StepKind × Configuration). (step.0, place_after step.0 p))
    (edited (machine_over p.tables) edit (configuration_of p))

-- a step or an edit is that of the machine, and leaves what its kind makes
abbrev pub place_deed : Deed → Place → Option (StepKind × Place)
place_deed deeds.Step = place_next
place_deed (deeds.Edit edit) = place_edited edit

-- the kind of the step from a running content, by the cell, the token ahead, the counter, and
-- whether there is an upcoming token
abbrev pub kind_running : Action → ℕ → ℕ → Bool → StepKind
kind_running (actions.Shift q) token counter left = kinds.Shift token
kind_running (actions.Reduce rule) token counter left = kinds.Reduce rule
kind_running actions.Accept token counter left = kinds.Accept
kind_running actions.Error token counter left =
    if counter == 3 then (if left then kinds.Discard token else kinds.Fail) else kinds.Detect

-- the action is a shift
abbrev pub is_shift : Action → Bool
is_shift (actions.Shift q) = true
is_shift _ = false

-- the entry on top, or one of zeros
abbrev pub top_of : List StackEntry → StackEntry
top_of stack = slice_index_or stack (length stack - 1) (entry 0 0 0)

-- the kind of the step of recovery, by the cell of the error token
abbrev pub kind_popping : Action → List StackEntry → StepKind
kind_popping a stack =
    if is_shift a then kinds.ShiftError
    else (if length stack == 0 then kinds.Fail else kinds.Pop (top_of stack).symbol)

-- the kind of the step from a running content by the tables, in a state
abbrev pub running_at : Tables → List ℕ → Content → ℕ → StepKind
running_at t tokens c q =
    kind_running (cell_at t q (ahead tokens c.rest)) (ahead tokens c.rest) c.counter
    (is_left tokens c.rest)

-- the kind of the step of recovery by the tables, in a state
abbrev pub popping_at : Tables → Content → ℕ → StepKind
popping_at t c q = kind_popping (cell_at t q error_token) c.stack

-- the kind of an edit, where it can be made
abbrev pub edit_kind : Tables → List ℕ → Content → Edit → Option StepKind
edit_kind t tokens c (edits.Insert token) =
    if is_input (token_count t.built.grammar) token then Some (kinds.Insert token) else None
edit_kind t tokens c edits.Drop =
    if is_left tokens c.rest then Some (kinds.Drop (ahead tokens c.rest)) else None

-- the kind of the next step, by the state on top
abbrev pub kind_in : Tables → List ℕ → Content → Mode → Option StepKind
kind_in t tokens c Running = Some (running_at t tokens c (top_state c.stack))
kind_in t tokens c Popping = Some (popping_at t c (top_state c.stack))
kind_in t tokens c Accepted = None
kind_in t tokens c Failed = None

-- whether the state found is this one
abbrev pub is_state : Option ℕ → ℕ → Bool
is_state None state = false
is_state (Some found) state = found == state

-- whether the states of the entries are those to which their symbols lead, from this state on
abbrev pub leads : Tables → ℕ → List StackEntry → Bool
leads t state [] = true
leads t state (e ∷ stack) = is_state (goto_at t state e.symbol) e.state && leads t e.state stack

-- whether each node is below a number
abbrev pub all_below : ℕ → List StackEntry → Bool
all_below n [] = true
all_below n (e ∷ es) = nat_lt e.node n && all_below n es

-- whether a node's children lie in the list, and are below it
abbrev pub node_fits : List StackEntry → ℕ → Node → Bool
node_fits children i (nodes.Leaf token place) = true
node_fits children i nodes.ErrorLeaf = true
node_fits children i (nodes.Rule rule from count) =
    nat_le (from + count) (length children) && all_below i (take count (drop from children))

-- each node's children lie in the list, and are below it; nodes are counted from i
abbrev pub nodes_fit : List StackEntry → ℕ → List Node → Bool
nodes_fit children i [] = true
nodes_fit children i (n ∷ ns) = node_fits children i n && nodes_fit children (suc i) ns

-- whether there are no more nodes than steps, and no more entries and children together than nodes
abbrev pub counts_fit : Content → Bool
counts_fit c = nat_le (length c.nodes) c.steps
    && nat_le (length c.stack + length c.children) (length c.nodes)

-- whether there are no more inserted tokens than insertions, and no more tokens were taken than
-- were read
abbrev pub rest_fits : List ℕ → Rest → Bool
rest_fits tokens r = nat_le (length r.inserted) r.edits && nat_le r.at (length tokens)

-- whether stack, nodes, counts and upcoming tokens fit together, as those of a parse do
abbrev pub valid : Place → Bool
valid p =
    leads p.tables 0 p.content.stack
    && (all_below (length p.content.nodes) p.content.stack
    && (nodes_fit p.content.children 0 p.content.nodes
    && (counts_fit p.content
    && (nat_le p.content.errors p.content.steps && rest_fits p.tokens p.content.rest))))

-- whether a change can be taken back: what was before it is a content of a parse
abbrev pub place_fits : PlaceChange → Place → Bool
place_fits change p = valid (place_before change p)

-- the change of a step of this kind
abbrev pub change_at : StepKind → Content → PlaceChange
change_at kind c = record {
  kind = kind;
  counter = c.counter;
  mode = c.mode;
  state = (top_of c.stack).state;
  node = (top_of c.stack).node;
  place = place_left c.rest;
}

-- how many entries become children at a step of this kind
abbrev pub taken_by : Tables → StepKind → ℕ
taken_by t (kinds.Reduce rule) = width_of t rule
taken_by t (kinds.Shift token) = 0
taken_by t kinds.Accept = 0
taken_by t kinds.Detect = 0
taken_by t (kinds.Pop symbol) = 0
taken_by t kinds.ShiftError = 0
taken_by t (kinds.Discard token) = 0
taken_by t kinds.Fail = 0
taken_by t (kinds.Insert token) = 0
taken_by t (kinds.Drop token) = 0

-- nothing was read yet
abbrev pub first_content : Content
first_content = record {
  stack = [];
  nodes = [];
  children = [];
  rest = first_rest;
  counter = 0;
  errors = 0;
  mode = Running;
  steps = 0;
}

-- the first content over these tables and tokens
abbrev pub first_place : Tables → List ℕ → Place
first_place t tokens = record { tables = t; tokens = tokens; content = first_content }
