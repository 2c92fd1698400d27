use Rattle.std.proofs.Common.{◌≡◌, ◌≤◌, length, arith, sym, ap, ◌∙◌, length-take-le}
use Rattle.ystepper.specs.Line.{line_room}
use Rattle.ystepper.proofs.Lines.{push-room, push-full}
use Rattle.ystepper.proofs.line_buffer.LineBuffer.push.Goals as goal

pub returns-then-self-lt-ROOM : goal.returns-then-self-lt-ROOM
returns-then-self-lt-ROOM c =
    push-room line_room c.self.inside.len c.args.byte c.self.inside.bytes c.args.self.now
    (omega (arith, c.self.told, c.if-self-lt-ROOM.true)) (omega (arith, c.if-self-lt-ROOM.true))
    (sym c.self.view_is)

pub returns-else-self-lt-ROOM : goal.returns-else-self-lt-ROOM
returns-else-self-lt-ROOM c =
    let few : c.self.inside.len ≤ length c.self.inside.bytes =
    omega (arith, c.self.told, c.self.invariant) in
    let full : c.self.inside.len ≡ line_room =
    omega (arith, c.self.invariant, c.if-self-lt-ROOM.false) in
    push-full line_room c.args.byte c.args.self.now
    (sym (ap length c.self.view_is) ∙ length-take-le c.self.inside.len c.self.inside.bytes few
    ∙ full)
