use Rattle.std.proofs.Common.{◌≡◌, ◌<◌, List, ap, sym, subst, ◌∙◌, length, get_or}
use Rattle.std.proofs.lemmas.List.{get_or-map}
use Rattle.ymachine.specs.declared.parts.StackEntry.{StackEntry}
use Rattle.ymachine.specs.declared.parts.Node.{Node}
use Rattle.ymachine.specs.Content.{Place, node_tree, trees_over, configuration_of}
use Rattle.ymachine.specs.Tree.{Tree, error_leaf}
use Rattle.ymachine.specs.Place.{place_of}
use Rattle.ymachine.specs.View.{trees_in}
use Rattle.ymachine.proofs.Facts.{facts}
use Rattle.ymachine.proofs.Shown.{shown-trees}
use Rattle.ymachine.proofs.Nodes.{below_at}
use Rattle.ymachine.proofs.place.PlaceParser.tree_at.Goals as goal

pub new-requires-clause-there : goal.new-requires-clause-there
new-requires-clause-there c =
    let p = place_of c.self.inside.tables c.self.inside.tokens c.self.inside.parts in
    let f = facts p c.self.invariant.valid in
    let many : c.args.index < length p.content.stack =
    subst (λ (q : Place). c.args.index < length q.content.stack) (sym c.self.view_is) c.requires
    in
    let found : c.index.result.now ≡ get_or p.content.stack c.args.index c.index.result.now =
    c.index.ensures in
    let l = below_at (length p.content.nodes) p.content.stack c.args.index c.index.result.now
    f.below many in
    subst (λ (ns : List Node). c.index.result.now.node < length ns) (sym c.deref.ensures.value)
    (subst (λ (e : StackEntry). e.node < length p.content.nodes) (sym found) l)

pub returns : goal.returns
returns c =
    let p = place_of c.self.inside.tables c.self.inside.tokens c.self.inside.parts in
    let many : c.args.index < length p.content.stack =
    subst (λ (q : Place). c.args.index < length q.content.stack) (sym c.self.view_is) c.requires
    in
    let found : c.index.result.now ≡ get_or p.content.stack c.args.index c.index.result.now =
    c.index.ensures in
    let trees = trees_over p.content.children p.content.nodes in
    c.new.ensures
    ∙ ap (λ (ns : List Node). get_or (trees_over c.deref-2.result.now ns) c.index.result.now.node
    error_leaf) c.deref.ensures.value
    ∙ ap (λ (es : List StackEntry). get_or (trees_over es p.content.nodes) c.index.result.now.node
    error_leaf) c.deref-2.ensures.value
    ∙ ap (node_tree trees) found
    ∙ sym (get_or-map (node_tree trees) p.content.stack c.args.index c.index.result.now error_leaf
    many)
    ∙ sym (ap (λ (l : List Tree). get_or l c.args.index error_leaf)
    (shown-trees trees p.content.stack))
    ∙ ap (λ (q : Place). get_or (trees_in (configuration_of q).stack) c.args.index error_leaf)
    c.self.view_is
