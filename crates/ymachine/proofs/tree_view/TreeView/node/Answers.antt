use Rattle.std.proofs.Common.{ap, sym}
use Rattle.ymachine.specs.declared.parts.Node.TheVariants as nodes
use Rattle.ymachine.specs.View.{tree_by, root_of}
use Rattle.ymachine.proofs.Nodes.{seen}
use Rattle.ymachine.proofs.tree_view.TreeView.node.Goals as goal

pub returns-in-Leaf : goal.returns-in-Leaf
unfolding tree_by
returns-in-Leaf c =
    let v = c.args.self.now in
    sym (ap root_of (seen v.children.now v.nodes.now v.number _
    (nodes.Leaf c.in-Leaf.token c.in-Leaf.place) v.fit v.there c.in-Leaf.is).tree)

pub returns-in-ErrorLeaf : goal.returns-in-ErrorLeaf
unfolding tree_by
returns-in-ErrorLeaf c =
    let v = c.args.self.now in
    sym (ap root_of (seen v.children.now v.nodes.now v.number _ nodes.ErrorLeaf v.fit v.there
    c.in-ErrorLeaf.is).tree)

pub returns-in-Rule : goal.returns-in-Rule
unfolding tree_by
returns-in-Rule c =
    let v = c.args.self.now in
    sym (ap root_of (seen v.children.now v.nodes.now v.number _
    (nodes.Rule c.in-Rule.rule c.in-Rule.field-1 c.in-Rule.field-2) v.fit v.there
    c.in-Rule.is).tree)
