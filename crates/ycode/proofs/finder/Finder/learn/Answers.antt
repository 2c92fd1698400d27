use Rattle.std.proofs.Common.{refl}
use Rattle.ycode.proofs.FinderSteps.{knows_row}
use Rattle.ycode.proofs.finder.Finder.learn.Goals as goal

pub pass_full-requires : goal.pass_full-requires
pass_full-requires c = knows_row c.args.packing.now c.args.self.now _ c.requires.knows
    c.args.columns.now c.args.d c.in_ok-mark_all.ensures c.in_ok-mark.ensures refl refl refl
    c.requires.begun c.requires.cells
