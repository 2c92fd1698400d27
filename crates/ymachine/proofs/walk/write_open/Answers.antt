use Rattle.std.proofs.Common.{rules, ℕ, ◌≡◌, ◌≢◌, ◌<◌, ◌+◌, ◌∷◌, [], ◌++◌, List, length, true, ap}
use Rattle.std.proofs.Common.{sym}
use Rattle.std.proofs.Common.{subst, ◌∙◌, append_assoc, arith}
use Rattle.std.proofs.lemmas.Grind.{common_steps}
use Rattle.ylink.proofs.Sent.{Sends-then}
use Rattle.ymachine.specs.declared.parts.Frame.{Frame}
use Rattle.ymachine.specs.MachineOver.{machine_over}
use Rattle.ymachine.specs.Content.{trees_over}
use Rattle.ymachine.specs.Walk.{frame, head_text, frames_of, open_text, frames_fit}
use Rattle.ymachine.proofs.Walks.{Opens, opens, closes, shorter, next_node, deeper, regroup}
use Rattle.ymachine.proofs.Walks.{cut-behind, fit-rest}
use Rattle.ymachine.proofs.walk.write_open.Given.{Over}
use Rattle.ymachine.proofs.walk.write_open.Goals.{In-Some, In_ok-open_node}
use Rattle.ymachine.proofs.walk.write_open.Goals as goal

-- the next child of the innermost open node
child : (g : Over) (c : In-Some g) → c.in-Some.frame.next ≢ c.in-Some.frame.end
    → Opens (machine_over c.args.tables.now) c.args.children.now c.args.nodes.now c.args.root
    c.loop-frame.walk.items c.pop.new.self.items c.in-Some.frame
child g c more =
    opens (machine_over c.args.tables.now) c.args.children.now c.args.nodes.now c.args.root
    c.loop-frame.walk.items c.pop.new.self.items c.in-Some.frame c.requires.fit c.requires.root
    c.loop-frame.invariant.frames c.in-Some.ensures.items more

-- what is open when the child's head was written
walked : (g : Over) (c : In_ok-open_node g)
    → c.open_node.new.walk.items ≡ deeper c.pop.new.self.items c.in-Some.frame
    (next_node c.args.children.now c.args.nodes.now c.in-Some.frame)
walked g c =
    let pushed : c.push.new.self.items
    ≡ c.pop.new.self.items ++ frame (c.in-Some.frame.next + 1) c.in-Some.frame.end ∷ [] =
    search rules in
    let node = next_node c.args.children.now c.args.nodes.now c.in-Some.frame in
    c.in_ok-open_node.ensures.walk ∙ ap (λ (l : List Frame). l ++ frames_of node) pushed

-- a node has no child left
closing : (g : Over) (c : In-Some g) → c.in-Some.frame.next ≡ c.in-Some.frame.end
    → open_text (machine_over c.args.tables.now) c.args.children.now
    (trees_over c.args.children.now c.args.nodes.now) c.loop-frame.walk.items
    ≡ 41 ∷ open_text (machine_over c.args.tables.now) c.args.children.now
    (trees_over c.args.children.now c.args.nodes.now) c.pop.new.self.items
closing g c none =
    closes (machine_over c.args.tables.now) c.args.children.now
    (trees_over c.args.children.now c.args.nodes.now) c.loop-frame.walk.items
    c.pop.new.self.items c.in-Some.frame c.in-Some.ensures.items none

pub returns-in_err-put-clause-text : goal.returns-in_err-put-clause-text
returns-in_err-put-clause-text g c =
    let inv = c.loop-frame.invariant in
    let left = closing g (goal.at.returns-in_err-put-clause-text g c).In-Some c.if-frame.true in
    cut-behind g.W.Write.contents _ _ _ _ _ inv.sent (41 ∷ []) _ c.from_residual.ensures
    (inv.parts ∙ ap (λ (l : List ℕ). inv.sent ++ l) left) inv.so_far c.in_err-put.ensures

pub loop-frame-smaller-then-frame : goal.loop-frame-smaller-then-frame
loop-frame-smaller-then-frame g c =
    shorter 41 _ [] _ (closing g (goal.at.loop-frame-smaller-then-frame g c).In-Some
    c.if-frame.true)

pub loop-frame-preserved-then-frame : goal.loop-frame-preserved-then-frame
loop-frame-preserved-then-frame g c =
    let inv = c.loop-frame.invariant in
    let outer : List Frame = c.pop.new.self.items in
    let fits : frames_fit c.args.children.now c.args.root (outer ++ c.in-Some.frame ∷ []) ≡ true =
    subst (λ (fs : List Frame). frames_fit c.args.children.now c.args.root fs ≡ true)
    c.in-Some.ensures.items inv.frames in
    let left = closing g (goal.at.loop-frame-preserved-then-frame g c).In-Some c.if-frame.true in
    record {
      frames = fit-rest c.args.children.now c.args.root outer c.in-Some.frame fits;
      room = grind (arith, common_steps, inv.room);
      sent = inv.sent ++ 41 ∷ [];
      so_far = Sends-then g.W.Write.contents _ _ _ true inv.sent (41 ∷ []) inv.so_far
          c.in_ok-put.ensures;
      parts = inv.parts ∙ ap (λ (l : List ℕ). inv.sent ++ l) left
          ∙ sym (append_assoc inv.sent (41 ∷ []) _);
    }

pub offset_bounds-children-frame : goal.offset_bounds-children-frame
offset_bounds-children-frame g c =
    let i = (child g (goal.at.offset_bounds-children-frame g c).In-Some c.if-frame.false).inside in
    grind (arith, common_steps, i)

pub bounds-children-frame : goal.bounds-children-frame
bounds-children-frame g c =
    (child g (goal.at.bounds-children-frame g c).In-Some c.if-frame.false).inside

pub overflow_add-after : goal.overflow_add-after
overflow_add-after g c =
    let i = (child g (goal.at.overflow_add-after g c).In-Some c.if-frame.false).inside in
    grind (arith, common_steps, i)

pub returns-in_err-put-2-clause-text : goal.returns-in_err-put-2-clause-text
returns-in_err-put-2-clause-text g c =
    let inv = c.loop-frame.invariant in
    let o = child g (goal.at.returns-in_err-put-2-clause-text g c).In-Some c.if-frame.false in
    cut-behind g.W.Write.contents _ _ _ _ _ inv.sent (32 ∷ []) _
    c.from_residual-in_err-put-2.ensures
    (inv.parts ∙ ap (λ (l : List ℕ). inv.sent ++ l) o.text) inv.so_far c.in_err-put-2.ensures

pub offset_bounds-nodes-child : goal.offset_bounds-nodes-child
offset_bounds-nodes-child g c =
    let i = (child g (goal.at.offset_bounds-nodes-child g c).In-Some c.if-frame.false).there in
    grind (arith, common_steps, i)

pub bounds-nodes-child : goal.bounds-nodes-child
bounds-nodes-child g c = (child g (goal.at.bounds-nodes-child g c).In-Some c.if-frame.false).there

pub open_node-requires-clause-room : goal.open_node-requires-clause-room
open_node-requires-clause-room g c =
    let deep = (child g (goal.at.open_node-requires-clause-room g c).In-Some c.if-frame.false).deep
    in
    grind (arith, common_steps, deep, c.requires.root, c.requires.room, c.loop-frame.invariant.room)

pub open_node-requires-clause-fits : goal.open_node-requires-clause-fits
open_node-requires-clause-fits g c =
    (child g (goal.at.open_node-requires-clause-fits g c).In-Some c.if-frame.false).fits

pub loop-frame-smaller : goal.loop-frame-smaller
loop-frame-smaller g c =
    let here = goal.at.loop-frame-smaller g c in
    let text = open_text (machine_over c.args.tables.now) c.args.children.now
    (trees_over c.args.children.now c.args.nodes.now) in
    subst (λ (fs : List Frame). length (text fs) < length (text c.loop-frame.walk.items))
    (sym (walked g here.In_ok-open_node))
    (shorter 32 _ _ _ (child g here.In-Some c.if-frame.false).text)

pub loop-frame-preserved : goal.loop-frame-preserved
loop-frame-preserved g c =
    let w = g.W.Write.contents in
    let inv = c.loop-frame.invariant in
    let here = goal.at.loop-frame-preserved g c in
    let o = child g here.In-Some c.if-frame.false in
    let same = sym (walked g here.In_ok-open_node) in
    let text = open_text (machine_over c.args.tables.now) c.args.children.now
    (trees_over c.args.children.now c.args.nodes.now) in
    let before : List ℕ = inv.sent ++ 32 ∷ [] in
    let head = head_text (machine_over c.args.tables.now)
    (next_node c.args.children.now c.args.nodes.now c.in-Some.frame) in
    let whole =
    regroup _ inv.sent (32 ∷ []) head _ (inv.parts ∙ ap (λ (l : List ℕ). inv.sent ++ l) o.text) in
    record {
      frames = subst (λ (fs : List Frame). frames_fit c.args.children.now c.args.root fs ≡ true)
          same o.frames;
      room = grind (arith, common_steps, inv.room);
      sent = before ++ head;
      so_far = Sends-then w _ _ _ true before head
          (Sends-then w _ _ _ true inv.sent (32 ∷ []) inv.so_far c.in_ok-put-2.ensures)
          c.in_ok-open_node.ensures.text;
      parts = whole ∙ ap (λ (fs : List Frame). (before ++ head) ++ text fs) same;
    }

pub returns-in_err-open_node-clause-text : goal.returns-in_err-open_node-clause-text
returns-in_err-open_node-clause-text g c =
    let w = g.W.Write.contents in
    let inv = c.loop-frame.invariant in
    let o = child g (goal.at.returns-in_err-open_node-clause-text g c).In-Some c.if-frame.false in
    cut-behind w _ _ _ _ _ (inv.sent ++ 32 ∷ []) _ _ c.from_residual-in_err-open_node.ensures
    (inv.parts ∙ ap (λ (l : List ℕ). inv.sent ++ l) o.text
    ∙ sym (append_assoc inv.sent (32 ∷ []) _))
    (Sends-then w _ _ _ true inv.sent (32 ∷ []) inv.so_far c.in_ok-put-2.ensures)
    c.in_err-open_node.ensures.text
