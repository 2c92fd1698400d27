-- What a view shows.
use Rattle.std.specs.Prelude.{List, map, slice_index_or}
use Rattle.ymachine.specs.declared.view.View.{View}
use Rattle.ymachine.specs.declared.tree_view.TreeView.{TreeView}
use Rattle.ymachine.specs.declared.tree_view.TreeNode.{TreeNode}
use Rattle.ymachine.specs.declared.tree_view.TreeNode.TheVariants as kinds
use Rattle.ymachine.specs.Tree.{Tree, leaf, error_leaf, node}
use Rattle.ymachine.specs.Machine.{Configuration, Entry}
use Rattle.ymachine.specs.Content.{configuration_in, trees_over}
use Rattle.ymachine.specs.Parts.{content_of}

-- the configuration that a view shows
unfoldable pub configuration_by : View → Configuration
configuration_by v = configuration_in v.tokens.now (content_of v.parts.now)

-- the tree that a view shows
unfoldable pub tree_by : TreeView → Tree
tree_by v = slice_index_or (trees_over v.children.now v.nodes.now) v.number error_leaf

-- the trees of a stack, from the bottom
abbrev pub trees_in : List Entry → List Tree
trees_in stack = map (λ (e : Entry). e.tree) stack

-- what stands at the root of a tree
abbrev pub root_of : Tree → TreeNode
root_of (leaf token place) = kinds.Leaf token place
root_of error_leaf = kinds.ErrorLeaf
root_of (node rule children) = kinds.Rule rule
