use Rattle.std.proofs.Common.{◌∙◌, sym, arith}
use Rattle.std.proofs.lemmas.List.{get_or_read}
use Rattle.ycode.proofs.FinderSteps.{before_last}
use Rattle.ycode.proofs.finder.Finder.last.Goals as goal

pub index-requires : goal.index-requires
index-requires c =
    let f = c.args.self.now in
    let b = before_last c.args.packing.now f c.requires c.args.columns.now c.in-Some.k
    (sym c.find.ensures ∙ c.in-Some.is) in
    let l = b.0 in let k = f.lasts.ok.0 in omega (arith, l, k)

pub returns-in-Some : goal.returns-in-Some
returns-in-Some c =
    let f = c.args.self.now in
    let b = before_last c.args.packing.now f c.requires c.args.columns.now c.in-Some.k
    (sym c.find.ensures ∙ c.in-Some.is) in
    let e = get_or_read f.lasts.items c.in-Some.k c.index.result.now b.0 c.index.ensures 0 in
    λ d l. b.1 d (omega (arith, l, e))
