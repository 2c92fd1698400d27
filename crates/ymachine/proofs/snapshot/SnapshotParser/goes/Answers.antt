use Rattle.std.proofs.Common.{subst}
use Rattle.ymachine.specs.Place.{place_of}
use Rattle.ymachine.specs.Shown.{GoesByMachine}
use Rattle.ymachine.proofs.Places.{goes}
use Rattle.ymachine.proofs.snapshot.SnapshotParser.goes.Goals as goal

pub returns : goal.returns
returns c =
    let p = c.self.inside in
    subst GoesByMachine c.self.view_is
    (goes (place_of p.tables p.tokens p.parts) c.known.ensures.sound c.self.invariant.valid)
