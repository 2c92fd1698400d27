use Rattle.std.proofs.Common.{ℕ, Option, sym, subst}
use Rattle.ycode.specs.Entries.{Adds}
use Rattle.ycode.proofs.EntrySteps.{adds_number}
use Rattle.ycode.proofs.entry.push_number.Goals as goal

pub returns : goal.returns
returns c =
    let old = c.args.entries.now in
    let new = c.push.new.self in
    subst (λ (o : Option ℕ). Adds c.args.column o old new) (sym c.in-Some.is)
    (adds_number old new c.args.column c.in-Some.number c.in_ok-push.ensures)
