-- The forms of a parse that is unwound, and what is written of them and of trees.
use Rattle.std.specs.Prelude.{ℕ, Bool, true, false, ◌≡◌, List, [], ◌∷◌, ◌++◌, take, drop, map}
use Rattle.std.specs.Prelude.{flat_map, codes, decimal, if◌then◌else◌}
use Rattle.std.specs.List.{All}
use Rattle.ymachine.specs.declared.machine.StepKind.{StepKind}
use Rattle.ymachine.specs.declared.machine.StepKind.TheVariants as kinds
use Rattle.ymachine.specs.Tree.{Tree, Trees, leaf, error_leaf, node, none, more}
use Rattle.ymachine.specs.Machine.{Machine, Entry, Configuration, symbols}
use Rattle.ymachine.specs.History.{History}

-- the tokens without their places
abbrev pub tokens_left : List (ℕ × ℕ) → List ℕ
tokens_left rest = map (λ (token : ℕ × ℕ). token.0) rest

-- the tokens that are shifted after what is before a step of this kind, where these are shifted
-- after the step
abbrev pub shifts_from : StepKind → List ℕ → List ℕ
shifts_from (kinds.Shift token) later = token ∷ later
shifts_from _ later = later

-- the form of a configuration: the symbols of its stack, and the tokens that later steps shift
abbrev pub form_of : Configuration → List ℕ → List ℕ
form_of c later = symbols c.stack ++ later

-- the step is a reduction
abbrev pub is_reduction : StepKind → Bool
is_reduction (kinds.Reduce r) = true
is_reduction _ = false

-- detect, pop, shift error and discard
abbrev pub is_error_step : StepKind → Bool
is_error_step kinds.Detect = true
is_error_step (kinds.Pop symbol) = true
is_error_step kinds.ShiftError = true
is_error_step (kinds.Discard symbol) = true
is_error_step _ = false

-- no step of the past is an error step
abbrev pub NoErrors : List (StepKind × Configuration) → Type 0
NoErrors earlier = All (λ (step : StepKind × Configuration). is_error_step step.0 ≡ false) earlier

-- insert and drop
abbrev pub is_edit : StepKind → Bool
is_edit (kinds.Insert symbol) = true
is_edit (kinds.Drop symbol) = true
is_edit _ = false

-- no step of the past is an edit
abbrev pub NoEdits : List (StepKind × Configuration) → Type 0
NoEdits earlier = All (λ (step : StepKind × Configuration). is_edit step.0 ≡ false) earlier

-- the input of a parse: the tokens that were read, and the upcoming ones
pub record Input : Type 0 where
  pub read : List ℕ
  pub upcoming : List ℕ

-- the first of the upcoming tokens is read
abbrev pub read_on : Input → Input
read_on i = record { read = i.read ++ take 1 i.upcoming; upcoming = drop 1 i.upcoming }

-- what a step or an edit makes of the input: a shift or a discard reads the first of the upcoming
-- tokens, an insertion puts a token before them, a drop takes the first of them out
abbrev pub input_after : StepKind → Input → Input
input_after (kinds.Shift token) i = read_on i
input_after (kinds.Discard token) i = read_on i
input_after (kinds.Insert token) i = record i { upcoming = token ∷ i.upcoming }
input_after (kinds.Drop token) i = record i { upcoming = drop 1 i.upcoming }
input_after _ i = i

-- the input after the steps and edits of the past; before the first one nothing was read
abbrev pub input_by : Configuration → List (StepKind × Configuration) → Input
input_by now [] = record { read = []; upcoming = tokens_left now.rest }
input_by now (step ∷ earlier) = input_after step.0 (input_by step.1 earlier)

-- all tokens of an input, in their order
abbrev pub tokens_of : Input → List ℕ
tokens_of i = i.read ++ i.upcoming

-- the whole input: the tokens first read, with the edits made
abbrev pub whole_input : History → List ℕ
whole_input h = tokens_of (input_by h.now h.earlier)

-- the forms before the reductions of the past, the newest first, where these tokens are shifted
-- later
abbrev pub forms_before : List ℕ → List (StepKind × Configuration) → List (List ℕ)
forms_before later [] = []
forms_before later (step ∷ earlier) =
    if is_reduction step.0 then form_of step.1 (shifts_from step.0 later)
    ∷ forms_before (shifts_from step.0 later) earlier
    else forms_before (shifts_from step.0 later) earlier

-- the forms that unwinding goes through, starting where these tokens are shifted later
abbrev pub forms_from : List ℕ → History → List (List ℕ)
forms_from later h = form_of h.now later ∷ forms_before later h.earlier

-- the forms that unwinding goes through, the newest first
abbrev pub forms_of : History → List (List ℕ)
forms_of h = forms_from [] h

-- names with one space between
abbrev pub names_text : Machine → List ℕ → List ℕ
names_text m [] = []
names_text m (s ∷ []) = m.name s
names_text m (s ∷ t ∷ form) = m.name s ++ (32 ∷ names_text m (t ∷ form))

-- the line of a form
abbrev pub form_line : Machine → List ℕ → List ℕ
form_line m form = names_text m form ++ codes "\n"

-- the lines of all forms, the newest first
abbrev pub forms_text : Machine → History → List ℕ
forms_text m h = flat_map (form_line m) (forms_of h)

-- a tree as text
abbrev mutual
  pub tree_text : Machine → Tree → List ℕ
  tree_text m (leaf token place) = m.name token ++ (64 ∷ decimal place)
  tree_text m error_leaf = codes "error"
  tree_text m (node rule children) = 40 ∷ (decimal rule ++ (trees_text m children ++ 41 ∷ []))

  pub trees_text : Machine → Trees → List ℕ
  trees_text m none = []
  trees_text m (more first rest) = 32 ∷ (tree_text m first ++ trees_text m rest)

-- a line for each entry of the stack, from the bottom
abbrev pub tree_lines : Machine → List Entry → List ℕ
tree_lines m stack = flat_map (λ (e : Entry). tree_text m e.tree ++ codes "\n") stack
