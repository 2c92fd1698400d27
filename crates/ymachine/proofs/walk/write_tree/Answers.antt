use Rattle.std.proofs.Common.{ℕ, ◌≡◌, ◌++◌, List, get_or, true, false, is_some, codes, ap, sym}
use Rattle.std.proofs.Common.{subst, ◌∙◌}
use Rattle.ylink.specs.Sends.{Sends}
use Rattle.ylink.proofs.Sent.{Sends-then, Sends-stop, Sends-none}
use Rattle.ymachine.specs.declared.parts.Node.{Node}
use Rattle.ymachine.specs.declared.parts.Node.TheVariants as nodes
use Rattle.ymachine.specs.declared.parts.Frame.{Frame}
use Rattle.ymachine.specs.MachineOver.{machine_over}
use Rattle.ymachine.specs.Content.{trees_over}
use Rattle.ymachine.specs.Walk.{frames_of, open_text, frames_fit}
use Rattle.ymachine.proofs.Walks.{Rooted, rooted, cut-behind}
use Rattle.ymachine.proofs.walk.write_tree.Given.{Over}
use Rattle.ymachine.proofs.walk.write_tree.Goals.{After-clear, In_ok-open_node}
use Rattle.ymachine.proofs.walk.write_tree.Goals as goal

root : (g : Over) (c : After-clear g)
    → Rooted (machine_over c.args.tables.now) c.args.children.now c.args.nodes.now c.args.root
    (get_or c.args.nodes.now c.args.root (nodes.Leaf 0 0))
root g c =
    rooted (machine_over c.args.tables.now) c.args.children.now c.args.nodes.now c.args.root
    c.requires.fit c.requires.root

-- what the root's head leaves open
walked : (g : Over) (c : In_ok-open_node g)
    → c.open_node.new.walk.items ≡ frames_of (get_or c.args.nodes.now c.args.root (nodes.Leaf 0 0))
walked g c =
    let node : Node = get_or c.args.nodes.now c.args.root (nodes.Leaf 0 0) in
    c.in_ok-open_node.ensures.walk
    ∙ ap (λ (l : List Frame). l ++ frames_of node) c.clear.ensures.items

pub open_node-requires-clause-fits : goal.open_node-requires-clause-fits
open_node-requires-clause-fits g c =
    (root g (goal.at.open_node-requires-clause-fits g c).After-clear).fits

pub returns-in_err-open_node-clause-text : goal.returns-in_err-open_node-clause-text
returns-in_err-open_node-clause-text g c =
    let w = g.W.Write.contents in
    let r = root g (goal.at.returns-in_err-open_node-clause-text g c).After-clear in
    Sends-none w _ _ c.from_residual.result _ c.from_residual.ensures
    (subst (λ (t : List ℕ). Sends w c.args.link.now c.open_node.new.link false t) (sym r.line)
    (Sends-stop w _ _ _ _ c.in_err-open_node.ensures.text))

pub write_open-requires-clause-frames : goal.write_open-requires-clause-frames
write_open-requires-clause-frames g c =
    let here = goal.at.write_open-requires-clause-frames g c in
    subst (λ (fs : List Frame). frames_fit c.args.children.now c.args.root fs ≡ true)
    (sym (walked g here.In_ok-open_node)) (root g here.After-clear).frames

pub returns-in_err-write_open-clause-text : goal.returns-in_err-write_open-clause-text
returns-in_err-write_open-clause-text g c =
    let w = g.W.Write.contents in
    let here = goal.at.returns-in_err-write_open-clause-text g c in
    let text = open_text (machine_over c.args.tables.now) c.args.children.now
    (trees_over c.args.children.now c.args.nodes.now) in
    cut-behind w _ _ _ _ _ _ _ (codes "\n") c.from_residual-in_err-write_open.ensures
    (root g here.After-clear).line c.in_ok-open_node.ensures.text
    (subst (λ (fs : List Frame). Sends w c.open_node.new.link c.write_open.new.link false (text fs))
    (walked g here.In_ok-open_node) c.in_err-write_open.ensures.text)

pub returns-clause-text : goal.returns-clause-text
returns-clause-text g c =
    let w = g.W.Write.contents in
    let here = goal.at.returns-clause-text g c in
    let text = open_text (machine_over c.args.tables.now) c.args.children.now
    (trees_over c.args.children.now c.args.nodes.now) in
    let sent =
    subst (λ (fs : List Frame). Sends w c.open_node.new.link c.write_open.new.link true (text fs))
    (walked g here.In_ok-open_node) c.in_ok-write_open.ensures.text in
    subst (λ (t : List ℕ). Sends w c.args.link.now c.put.new.link (is_some c.put.result) t)
    (sym (root g here.After-clear).line)
    (Sends-then w _ _ _ (is_some c.put.result) _ _ c.in_ok-open_node.ensures.text
    (Sends-then w _ _ _ (is_some c.put.result) _ (codes "\n") sent c.put.ensures))
