use Rattle.std.proofs.Common.{◌≡◌, ◌<◌, ◌+◌, ◌*◌, ◌%◌, ◌∙◌, ◌↔◌, ap, get_or, subst, refl, sym}
use Rattle.std.proofs.Common.{arith}
use Rattle.std.proofs.lemmas.List.{get_or_read}
use Rattle.ybitsets.specs.Rows.{BitRows, IsBitRows, Holds}
use Rattle.ybitsets.proofs.RowLemmas.{BitIs, own_bits, adds_whole, word_within, uniting_more}
use Rattle.ybitsets.proofs.RowLemmas.{row_united, uniting_end, within_span}
use Rattle.ybitsets.proofs.rows.Rows.add_row.Goals.{After-index-more}
use Rattle.ybitsets.proofs.rows.Rows.add_row.Goals as goal

within : (c : After-index-more) → c.loop-k.k < c.loop-k.self.span
within c = within_span _ c.args.self.now c.loop-k.self c.loop-k.k c.loop-k-test.true
    c.self.view_is c.loop-k.invariant.span

-- the word that was read is one of the rows so far
read : (c : After-index-more) → c.index-more.result.now
    ≡ get_or c.loop-k.self.words (c.args.from * c.loop-k.self.span + c.loop-k.k) 0
read c =
    let n = c.loop-k.self in
    let i = c.loop-k.invariant in
    get_or_read n.words (c.args.from * n.span + c.loop-k.k) c.index-more.result.now
    (word_within n i.fits c.args.from c.loop-k.k (subst (λ t. c.args.from < t) (sym i.rows)
    c.requires.from_in) (within c)) (subst (λ (v : BitRows).
    c.index-more.result.now ≡ get_or v.words (c.args.from * v.span + c.loop-k.k)
    c.index-more.result.now) c.self-in-loop-k.view_is c.index-more.ensures) 0

pub loop-k-preserved : goal.loop-k-preserved
loop-k-preserved c =
    let here = (goal.at.loop-k-preserved c).After-index-more in
    let m = c.args.self.now in
    let i = c.loop-k.invariant in
    uniting_more m c.loop-k.self c.unite-grew.new.self c.args.to c.loop-k.k c.index-more.result.now
    (Holds m c.args.from) c.loop-k.grew c.unite-grew.result c.requires.to_in (within here)
    (row_united _ c.loop-k.self c.args.to c.loop-k.k c.index-more.result.now
    c.unite-grew.ensures.words c.self-in-loop-k.view_is) c.unite-grew.ensures.fewer
    c.unite-grew.ensures.fewer_if c.unite-grew.ensures.unchanged
    (λ z l q. subst (λ w. BitIs w (z % 64) ↔ Holds m c.args.from z) (sym (read here))
    (own_bits m c.loop-k.self c.args.to c.args.from c.loop-k.k z i.rows i.columns
    c.requires.from_in i.adds l q)) i

pub returns-clause-adds : goal.returns-clause-adds
returns-clause-adds c =
    let m = c.args.self.now in
    let e : c.loop-k.k ≡ m.span = (let a : c.loop-k.k ≡ c.self.inside.span = omega arith in a) ∙ ap
    (λ (v : BitRows). v.span) c.self.view_is in
    adds_whole m c.loop-k.self m (subst IsBitRows c.self.view_is c.self.invariant)
    c.args.to c.args.from c.loop-k.k e refl c.loop-k.invariant.adds

pub returns-clause-grown : goal.returns-clause-grown
returns-clause-grown c = uniting_end c.args.self.now c.loop-k.self c.args.to c.loop-k.k
    (Holds c.args.self.now c.args.from) c.loop-k.grew c.loop-k.invariant
