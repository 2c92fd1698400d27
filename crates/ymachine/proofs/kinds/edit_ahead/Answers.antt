use Rattle.std.proofs.Common.{Some, None, sym, ap, ◌∙◌}
use Rattle.std.specs.Prelude.{is_some}
use Rattle.ymachine.specs.Place.{place_of}
use Rattle.ymachine.proofs.Places.{KindIs, advanced, changed, halted, halted_edit, refused}
use Rattle.ymachine.proofs.kinds.edit_ahead.Goals as goal

pub returns-in-None : goal.returns-in-None
returns-in-None c =
    let p = place_of c.args.tables.now c.args.tokens.now c.args.parts.now in
    let k : KindIs p None = sym c.next_kind.ensures ∙ c.in-None.is in (
      halted p c.known.ensures.sound c.requires k,
      halted_edit p c.args.edit c.known.ensures.sound c.requires k,
    )

pub returns-in-Some-edit_kind : goal.returns-in-Some-edit_kind
returns-in-Some-edit_kind c =
    changed (place_of c.args.tables.now c.args.tokens.now c.args.parts.now) c.args.edit
    c.in-Some.field-0 c.in-Some-edit_kind.kind c.known.ensures.sound c.requires
    (sym c.next_kind.ensures ∙ c.in-Some.is) (sym c.edit_kind.ensures ∙ c.in-Some-edit_kind.is)

pub returns-in-None-edit_kind : goal.returns-in-None-edit_kind
returns-in-None-edit_kind c =
    let p = place_of c.args.tables.now c.args.tokens.now c.args.parts.now in
    let k : KindIs p (Some c.in-Some.field-0) = sym c.next_kind.ensures ∙ c.in-Some.is in (
      ap is_some (advanced p c.in-Some.field-0 c.known.ensures.sound c.requires k).next,
      refused p c.args.edit c.in-Some.field-0 c.known.ensures.sound c.requires k
          (sym c.edit_kind.ensures ∙ c.in-None-edit_kind.is),
    )
