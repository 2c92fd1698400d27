use Rattle.std.proofs.Common.{◌∙◌, sym, subst}
use Rattle.ylalr.specs.Draft.{DraftValue, SoundDraft, StartsDraft, ServesAll}
use Rattle.ylalr.proofs.DraftSteps.{spread_sound, spread_closed}
use Rattle.ylalr.proofs.looks.all_looks.Goals as goal

pub returns : goal.returns
returns c =
    let P = c.args.lr0.now in
    let f = c.requires.well_formed in
    let d : DraftValue = record { looks = c.looks.inside.looks; links = c.looks.inside.links } in
    let sound = subst (SoundDraft P) (sym c.looks.view_is) c.in_ok-looks.ensures.sound in
    let start = subst (StartsDraft P) (sym c.looks.view_is) c.in_ok-looks.ensures.start in
    let serves = subst (λ (v : DraftValue). ServesAll P v) (sym c.looks.view_is)
    c.in_ok-looks.ensures.serves in
    let s = c.in_ok-spread.ensures in
    record {
      fit = c.requires;
      sized = record {
        rows = s.sized.rows ∙ sound.sized.rows;
        columns =
            s.sized.columns ∙ sound.sized.columns;
      };
      sound = spread_sound P f c.requires d c.spread.new.rows sound s.exact;
      closed = spread_closed P f c.requires d c.spread.new.rows sound s.exact start serves;
    }
