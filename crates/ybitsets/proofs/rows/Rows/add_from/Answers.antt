use Rattle.std.proofs.Common.{◌≡◌, ◌<◌, ◌+◌, ◌*◌, ◌%◌, ◌∙◌, ◌↔◌, ap, get_or, subst, sym, arith}
use Rattle.std.proofs.lemmas.List.{get_or_read}
use Rattle.ybitsets.specs.Rows.{BitRows, IsBitRows, Holds}
use Rattle.ybitsets.proofs.RowLemmas.{BitIs, word_bits, adds_whole, word_within, shared_span}
use Rattle.ybitsets.proofs.RowLemmas.{row_united, within_span}
use Rattle.ybitsets.proofs.RowLemmas.{uniting_more, uniting_end}
use Rattle.ybitsets.proofs.rows.Rows.add_from.Goals as goal

pub loop-k-preserved : goal.loop-k-preserved
loop-k-preserved c =
    let n = c.loop-k.self in
    let k = c.loop-k.k in
    let i = c.loop-k.invariant in
    let x = c.index-more.result.now in
    let ks : k < n.span = within_span _ c.args.self.now n k c.loop-k-test.true
    c.self.view_is i.span in
    let o = c.args.other.now in
    let fo : IsBitRows o = subst IsBitRows c.other.view_is c.other.invariant in
    let so : n.span ≡ o.span = shared_span n o i.fits fo (i.columns ∙ sym c.requires.same) in
    let at : x ≡ get_or o.words (c.args.from * o.span + k) 0 =
    (let sp = ap (λ (v : BitRows). v.span) c.self-in-loop-k.view_is ∙ so in
    let y = subst (λ t. x ≡ get_or c.other.inside.words.items (c.args.from * t + k) x) sp
    c.index-more.ensures in
    get_or_read o.words (c.args.from * o.span + k) x
    (word_within o fo c.args.from k c.requires.from_in (subst (λ t. k < t) so ks))
    (subst (λ (v : BitRows). x ≡ get_or v.words (c.args.from * o.span + k) x)
    c.other.view_is y) 0) in
    uniting_more c.args.self.now n c.unite-grew.new.self c.args.to k x (Holds o c.args.from)
    c.loop-k.grew c.unite-grew.result c.requires.to_in ks
    (row_united _ n c.args.to k x c.unite-grew.ensures.words c.self-in-loop-k.view_is)
    c.unite-grew.ensures.fewer c.unite-grew.ensures.fewer_if c.unite-grew.ensures.unchanged
    (λ z l q. subst (λ w. BitIs w (z % 64) ↔ Holds o c.args.from z) (sym at)
    (word_bits o c.args.from k z c.requires.from_in
    (subst (λ t. z < t) (sym c.requires.same) l) q)) i

pub returns-clause-adds : goal.returns-clause-adds
returns-clause-adds c =
    let m = c.args.self.now in
    let e : c.loop-k.k ≡ m.span = (let a : c.loop-k.k ≡ c.self.inside.span = omega arith in a) ∙ ap
    (λ (v : BitRows). v.span) c.self.view_is in
    adds_whole m c.loop-k.self c.args.other.now (subst IsBitRows c.self.view_is c.self.invariant)
    c.args.to c.args.from c.loop-k.k e c.requires.same c.loop-k.invariant.adds

pub returns-clause-grown : goal.returns-clause-grown
returns-clause-grown c = uniting_end c.args.self.now c.loop-k.self c.args.to c.loop-k.k
    (Holds c.args.other.now c.args.from) c.loop-k.grew c.loop-k.invariant
