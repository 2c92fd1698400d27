use Rattle.std.proofs.Common.{ℕ, ◌<◌, List, ap, sym, subst, ◌∙◌, length, get_or, arith}
use Rattle.std.proofs.lemmas.List.{get_or-map}
use Rattle.ymachine.specs.Content.{entry, node_tree, trees_over}
use Rattle.ymachine.specs.Tree.{Tree, error_leaf}
use Rattle.ymachine.proofs.Shown.{length-map}
use Rattle.ymachine.proofs.Nodes.{below_at}
use Rattle.ymachine.proofs.tree_view.TreeView.child.Goals as goal

pub new-requires-clause-there : goal.new-requires-clause-there
new-requires-clause-there c =
    let v = c.args.self.now in
    let f = node_tree (trees_over v.children.now v.nodes.now) in
    let many : c.args.index < length c.entries.result.now =
    subst (λ (n : ℕ). c.args.index < n) (sym (ap length c.entries.ensures.trees)
    ∙ length-map f c.entries.result.now) c.requires in
    let l = below_at v.number c.entries.result.now c.args.index (entry 0 0 0)
    c.entries.ensures.below many in
    omega (arith, l, v.there)

pub returns : goal.returns
returns c =
    let v = c.args.self.now in
    let f = node_tree (trees_over v.children.now v.nodes.now) in
    let many : c.args.index < length c.entries.result.now =
    subst (λ (n : ℕ). c.args.index < n) (sym (ap length c.entries.ensures.trees)
    ∙ length-map f c.entries.result.now) c.requires in
    c.new.ensures
    ∙ sym (get_or-map f c.entries.result.now c.args.index (entry 0 0 0) error_leaf many)
    ∙ ap (λ (l : List Tree). get_or l c.args.index error_leaf) c.entries.ensures.trees
