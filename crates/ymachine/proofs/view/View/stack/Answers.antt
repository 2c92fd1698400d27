use Rattle.std.proofs.Common.{ℕ, List, ◌<◌, ap, sym, subst, ◌∙◌, get_or, length}
use Rattle.std.proofs.lemmas.List.{get_or-map}
use Rattle.ymachine.specs.declared.parts.StackEntry.{StackEntry}
use Rattle.ymachine.specs.View.{configuration_by}
use Rattle.ymachine.specs.Content.{trees_over, entry_view}
use Rattle.ymachine.proofs.Shown.{symbol_of, shown-symbols, length-map}
use Rattle.ymachine.proofs.view.View.stack.Goals as goal

pub returns : goal.returns
unfolding configuration_by
returns c =
    let p = c.args.self.now.parts.now in
    let trees = trees_over p.children.items p.nodes.items in
    let many : c.args.index < length p.stack.items =
    subst (λ (n : ℕ). c.args.index < n) (length-map (entry_view trees) p.stack.items)
    c.requires in
    ap (λ (e : StackEntry). e.symbol) c.index.ensures
    ∙ sym (ap (λ (l : List ℕ). get_or l c.args.index 0) (shown-symbols trees p.stack.items)
    ∙ get_or-map symbol_of p.stack.items c.args.index c.index.result.now 0 many)
