-- The text of trees that lie in flat lists, and of the nodes that a walk has open.
use Rattle.std.specs.Prelude.{ℕ, ◌+◌, ◌-◌, nat_le, Bool, true, ◌&&◌, List, [], ◌∷◌, ◌++◌, length}
use Rattle.std.specs.Prelude.{take, drop, map, decimal, codes}
use Rattle.ymachine.specs.declared.parts.StackEntry.{StackEntry}
use Rattle.ymachine.specs.declared.parts.Node.{Node}
use Rattle.ymachine.specs.declared.parts.Node.TheVariants as nodes
use Rattle.ymachine.specs.declared.parts.Frame.{Frame}
use Rattle.ymachine.specs.Tree.{Tree, trees_of}
use Rattle.ymachine.specs.Machine.{Machine}
use Rattle.ymachine.specs.Content.{node_tree, all_below}
use Rattle.ymachine.specs.Unwinding.{trees_text}

-- an open node: the place of its next child, and the place after its last
abbrev pub frame : ℕ → ℕ → Frame
frame next end = record { next = next; end = end }

-- what is written first of a node
abbrev pub head_text : Machine → Node → List ℕ
head_text m (nodes.Leaf token place) = m.name token ++ (64 ∷ decimal place)
head_text m nodes.ErrorLeaf = codes "error"
head_text m (nodes.Rule rule from count) = 40 ∷ decimal rule

-- what a node opens
abbrev pub frames_of : Node → List Frame
frames_of (nodes.Leaf token place) = []
frames_of nodes.ErrorLeaf = []
frames_of (nodes.Rule rule from count) = frame from (from + count) ∷ []

-- children, each after a space
abbrev pub kids_text : Machine → List Tree → List StackEntry → List ℕ
kids_text m trees es = trees_text m (trees_of (map (node_tree trees) es))

-- the children that are left
abbrev pub range_of : List StackEntry → Frame → List StackEntry
range_of children f = take (f.end - f.next) (drop f.next children)

-- what is left to write of the open nodes, the outermost first, before what comes after them
abbrev pub open_from : Machine → List StackEntry → List Tree → List Frame → List ℕ → List ℕ
open_from m children trees [] rest = rest
open_from m children trees (f ∷ fs) rest =
    open_from m children trees fs (kids_text m trees (range_of children f) ++ (41 ∷ rest))

-- what is left to write of the open nodes
abbrev pub open_text : Machine → List StackEntry → List Tree → List Frame → List ℕ
open_text m children trees fs = open_from m children trees fs []

-- whether a node's children that are left lie in the list, below a number
abbrev pub frame_fits : List StackEntry → ℕ → Frame → Bool
frame_fits children b f = nat_le f.next f.end
    && (nat_le f.end (length children) && all_below b (range_of children f))

-- the same of the open nodes, the outermost first, each below the one before
abbrev pub frames_fit : List StackEntry → ℕ → List Frame → Bool
frames_fit children b [] = true
frames_fit children b (f ∷ fs) = frame_fits children b f && frames_fit children (b - 1) fs
