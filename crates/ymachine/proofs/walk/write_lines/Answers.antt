use Rattle.std.proofs.Common.{ℕ, ◌≡◌, ◌≤◌, ◌++◌, List, length, take, flat_map, true, is_some, codes}
use Rattle.std.proofs.Common.{ap, sym, subst, ◌∙◌, arith}
use Rattle.std.proofs.lemmas.List.{take_all}
use Rattle.ylink.specs.Sends.{Sends}
use Rattle.ylink.proofs.Sent.{Sends-part}
use Rattle.ymachine.specs.declared.parts.StackEntry.{StackEntry}
use Rattle.ymachine.specs.Machine.{Machine}
use Rattle.ymachine.specs.MachineOver.{machine_over}
use Rattle.ymachine.specs.Content.{entry, node_tree, trees_over}
use Rattle.ymachine.specs.Unwinding.{tree_text}
use Rattle.ymachine.proofs.Nodes.{below_at}
use Rattle.ymachine.proofs.Walks.{lines-entries}
use Rattle.ymachine.proofs.walk.write_lines.Goals as goal

pub write_tree-requires-clause-root : goal.write_tree-requires-clause-root
write_tree-requires-clause-root g c =
    below_at (length c.args.nodes.now) c.args.stack.now c.loop-entry.entry-index (entry 0 0 0)
    c.requires.below c.loop-entry-test.true

pub returns-in_err-write_tree-clause-text : goal.returns-in_err-write_tree-clause-text
returns-in_err-write_tree-clause-text g c =
    let w = g.W.Write.contents in
    let m : Machine = machine_over c.args.tables.now in
    let trees = trees_over c.args.children.now c.args.nodes.now in
    let stack : List StackEntry = c.args.stack.now in
    let line : StackEntry → List ℕ =
    λ (e : StackEntry). tree_text m (node_tree trees e) ++ codes "\n" in
    subst (λ (t : List ℕ). Sends w c.args.link.now c.write_tree.new.link
    (is_some c.from_residual.result) t) (sym (lines-entries m trees stack))
    (Sends-part w line c.args.link.now c.loop-entry.link c.write_tree.new.link
    (is_some c.from_residual.result) stack c.loop-entry.entry-index (entry 0 0 0)
    (ap is_some c.from_residual.ensures) c.loop-entry-test.true c.loop-entry.invariant.sent
    c.in_err-write_tree.ensures.text)

pub returns-clause-text : goal.returns-clause-text
returns-clause-text g c =
    let w = g.W.Write.contents in
    let m : Machine = machine_over c.args.tables.now in
    let trees = trees_over c.args.children.now c.args.nodes.now in
    let stack : List StackEntry = c.args.stack.now in
    let line : StackEntry → List ℕ =
    λ (e : StackEntry). tree_text m (node_tree trees e) ++ codes "\n" in
    let most : length stack ≤ c.loop-entry.entry-index = omega (arith, c.loop-entry-test.false) in
    let all : take c.loop-entry.entry-index stack ≡ stack =
    take_all c.loop-entry.entry-index stack most in
    subst (λ (t : List ℕ). Sends w c.args.link.now c.loop-entry.link true t) (ap (flat_map line) all
    ∙ sym (lines-entries m trees stack)) c.loop-entry.invariant.sent
