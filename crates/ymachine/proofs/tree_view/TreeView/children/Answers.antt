use Rattle.std.proofs.Common.{ap, sym, ◌∙◌, length}
use Rattle.ymachine.specs.Content.{node_tree, trees_over}
use Rattle.ymachine.proofs.Shown.{length-map}
use Rattle.ymachine.proofs.tree_view.TreeView.children.Goals as goal

pub returns : goal.returns
returns c =
    let v = c.args.self.now in
    sym (length-map (node_tree (trees_over v.children.now v.nodes.now)) c.entries.result.now)
    ∙ ap length c.entries.ensures.trees
