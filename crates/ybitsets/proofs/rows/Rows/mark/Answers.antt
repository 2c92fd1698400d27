use Rattle.std.proofs.Common.{◌≡◌, ◌+◌, ◌*◌, ◌/◌, ◌%◌, ◌^◌, ◌∙◌, ap, inl, subst, sym}
use Rattle.ybitsets.specs.Rows.{BitRows, IsBitRows, Holds, unite}
use Rattle.ybitsets.proofs.RowLemmas.{mark_holds}
use Rattle.ybitsets.proofs.rows.Rows.mark.Goals as goal

pub returns-clause-exact : goal.returns-clause-exact
returns-clause-exact c = λ i k.
    let m = c.args.self.now in
    let f : IsBitRows m = subst IsBitRows c.self.view_is c.self.invariant in
    let e : c.unite.new.self ≡ unite m (c.args.r * m.span + c.args.c / 64)
    ((1 * 2 ^ (c.args.c % 64)) % 2 ^ 64) = c.unite.ensures.words ∙ ap
    (λ (v : BitRows). unite m (c.args.r * v.span + c.args.c / 64)
    ((1 * 2 ^ (c.args.c % 64)) % 2 ^ 64)) c.self.view_is in
    let z = mark_holds m f c.args.r c.args.c c.requires.row c.requires.column i k in (
      λ h. z.0 (subst (λ (n : BitRows). Holds n i k) e h),
      λ h. subst (λ (n : BitRows). Holds n i k)
          (sym e) (z.1 h),
    )

pub returns-clause-grown : goal.returns-clause-grown
returns-clause-grown c =
    let m = c.args.self.now in
    let f : IsBitRows m = subst IsBitRows c.self.view_is c.self.invariant in
    let e : c.unite.new.self ≡ unite m (c.args.r * m.span + c.args.c / 64)
    ((1 * 2 ^ (c.args.c % 64)) % 2 ^ 64) = c.unite.ensures.words ∙ ap
    (λ (v : BitRows). unite m (c.args.r * v.span + c.args.c / 64)
    ((1 * 2 ^ (c.args.c % 64)) % 2 ^ 64)) c.self.view_is in
    record {
      rows = ap (λ (n : BitRows). n.height) e;
      columns = ap (λ (n : BitRows). n.width) e;
      grows = λ i k h. subst (λ (n : BitRows). Holds n i k) (sym e)
          ((mark_holds m f c.args.r c.args.c c.requires.row c.requires.column i k).1 (inl h));
      fewer = c.unite.ensures.fewer;
      fewer_if = c.unite.ensures.fewer_if;
      unchanged = c.unite.ensures.unchanged;
    }
