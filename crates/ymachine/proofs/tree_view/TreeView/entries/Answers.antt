use Rattle.std.proofs.Common.{ℕ, ◌≡◌, ◌<◌, ◌≤◌, ◌+◌, ◌-◌, true, List, length, take, drop, map}
use Rattle.std.proofs.Common.{get_or, ap, ◌∙◌, arith}
use Rattle.std.proofs.lemmas.Grind.{common_steps}
use Rattle.std.proofs.lemmas.Bool.{leb-true}
use Rattle.ymachine.specs.declared.parts.Node.{Node}
use Rattle.ymachine.specs.declared.parts.Node.TheVariants as nodes
use Rattle.ymachine.specs.declared.parts.StackEntry.{StackEntry}
use Rattle.ymachine.specs.Content.{node_tree, nodes_fit, trees_over, all_below}
use Rattle.ymachine.specs.View.{tree_by}
use Rattle.ymachine.proofs.Ends.{first}
use Rattle.ymachine.proofs.Nodes.{seen}
use Rattle.ymachine.proofs.tree_view.TreeView.entries.Goals as goal

-- the children of a rule end where the list of children does, or before
ends_in : (children : List StackEntry) (ns : List Node) (k : ℕ) (d : Node) (rule from count : ℕ)
    → nodes_fit children 0 ns ≡ true → k < length ns → get_or ns k d ≡ nodes.Rule rule from count
    → from + count ≤ length children
ends_in children ns k d rule from count fit there is =
    leb-true (from + count) (length children)
    (first _ _ (seen children ns k d (nodes.Rule rule from count) fit there is).fits)

pub overflow_add-result : goal.overflow_add-result
overflow_add-result c =
    let v = c.args.self.now in
    let l = ends_in v.children.now v.nodes.now v.number _ _ _ _ v.fit v.there c.in-Rule.is in
    grind (arith, common_steps, l)

pub offset_bounds-self-from : goal.offset_bounds-self-from
offset_bounds-self-from c =
    let v = c.args.self.now in
    let l = ends_in v.children.now v.nodes.now v.number _ _ _ _ v.fit v.there c.in-Rule.is in
    grind (arith, common_steps, l)

pub slice_bounds-result-end : goal.slice_bounds-result-end
slice_bounds-result-end c =
    let v = c.args.self.now in
    let l = ends_in v.children.now v.nodes.now v.number _ _ _ _ v.fit v.there c.in-Rule.is in
    grind (arith, common_steps, l)

pub returns-in-Rule-clause-trees : goal.returns-in-Rule-clause-trees
unfolding tree_by
returns-in-Rule-clause-trees c =
    let v = c.args.self.now in
    let s = seen v.children.now v.nodes.now v.number _
    (nodes.Rule c.in-Rule.field-0 c.in-Rule.from c.in-Rule.count) v.fit v.there c.in-Rule.is in
    let n : c.in-Rule.from + c.in-Rule.count - c.in-Rule.from ≡ c.in-Rule.count = omega arith in
    ap (λ (k : ℕ). map (node_tree (trees_over v.children.now v.nodes.now))
    (take k (drop c.in-Rule.from v.children.now))) n ∙ s.trees

pub returns-in-Rule-clause-below : goal.returns-in-Rule-clause-below
returns-in-Rule-clause-below c =
    let v = c.args.self.now in
    let s = seen v.children.now v.nodes.now v.number _
    (nodes.Rule c.in-Rule.field-0 c.in-Rule.from c.in-Rule.count) v.fit v.there c.in-Rule.is in
    let n : c.in-Rule.from + c.in-Rule.count - c.in-Rule.from ≡ c.in-Rule.count = omega arith in
    ap (λ (k : ℕ). all_below v.number (take k (drop c.in-Rule.from v.children.now))) n ∙ s.below

pub returns-in-Leaf-clause-trees : goal.returns-in-Leaf-clause-trees
unfolding tree_by
returns-in-Leaf-clause-trees c =
    let v = c.args.self.now in
    (seen v.children.now v.nodes.now v.number _ (nodes.Leaf c.in-Leaf.field-0 c.in-Leaf.field-1)
    v.fit v.there c.in-Leaf.is).trees

pub returns-in-ErrorLeaf-clause-trees : goal.returns-in-ErrorLeaf-clause-trees
unfolding tree_by
returns-in-ErrorLeaf-clause-trees c =
    let v = c.args.self.now in
    (seen v.children.now v.nodes.now v.number _ nodes.ErrorLeaf v.fit v.there
    c.in-ErrorLeaf.is).trees
