use Rattle.std.proofs.Common.{◌∙◌, sym, arith, refl}
use Rattle.ycode.proofs.FinderSteps.{before_last, knows_again}
use Rattle.ycode.proofs.finder.Finder.keep.Goals as goal

pub index_mut-requires : goal.index_mut-requires
index_mut-requires c =
    let f = c.args.self.now in
    let b = before_last c.args.packing.now f c.requires.knows c.args.columns.now c.in-Some.k
    (sym c.find.ensures ∙ c.in-Some.is) in
    let l = b.0 in let k = f.lasts.ok.0 in omega (arith, l, k)

pub returns-in-Some : goal.returns-in-Some
returns-in-Some c = knows_again c.args.packing.now c.args.self.now _ c.requires.knows refl refl refl
    c.args.columns.now c.args.d c.requires.none c.in-Some.k
    (sym c.find.ensures ∙ c.in-Some.is) refl refl
