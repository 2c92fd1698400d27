use Rattle.std.proofs.Common.{sym, ◌∙◌}
use Rattle.ymachine.specs.Place.{place_of}
use Rattle.ymachine.proofs.Places.{advanced, halted}
use Rattle.ymachine.proofs.kinds.step_ahead.Goals as goal

pub returns-in-Some : goal.returns-in-Some
returns-in-Some c =
    advanced (place_of c.args.tables.now c.args.tokens.now c.args.parts.now) c.in-Some.kind
    c.known.ensures.sound c.requires (sym c.next_kind.ensures ∙ c.in-Some.is)

pub returns-in-None : goal.returns-in-None
returns-in-None c =
    let none = halted (place_of c.args.tables.now c.args.tokens.now c.args.parts.now)
    c.known.ensures.sound c.requires (sym c.next_kind.ensures ∙ c.in-None.is) in
    (none, none)
