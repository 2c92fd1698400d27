-- Parse trees (Aho, Sethi and Ullman, 2.2 and 4.2): the order of the children is that of the body.
use Rattle.std.specs.Prelude.{ℕ, List, [], ◌∷◌}

mutual
  -- a token with its place in the input, an error that recovery shifted, or a rule over its
  -- children
  pub data Tree : Type 0 where
    leaf : (token place : ℕ) → Tree
    error_leaf : Tree
    node : (rule : ℕ) (children : Trees) → Tree

  -- trees, the first one first
  pub data Trees : Type 0 where
    none : Trees
    more : (first : Tree) (rest : Trees) → Trees

-- a list of trees as the children of a node
abbrev pub trees_of : List Tree → Trees
trees_of [] = none
trees_of (tree ∷ trees) = more tree (trees_of trees)

-- the children of a node as a list
abbrev pub list_of : Trees → List Tree
list_of none = []
list_of (more tree trees) = tree ∷ list_of trees

-- a leaf has no children
abbrev pub children_of : Tree → List Tree
children_of (leaf token place) = []
children_of error_leaf = []
children_of (node rule children) = list_of children
