use Rattle.std.proofs.Common.{sym, subst}
use Rattle.ylalr.specs.Sets.{step_of}
use Rattle.ylalr.specs.Draft.{DraftValue, SoundDraft, Further}
use Rattle.ylalr.proofs.DraftSteps.{row_below, carries_shift, shifts_by, shifts_none}
use Rattle.ylalr.proofs.DraftSteps.{row_linked, sound_linked}
use Rattle.ybitsets.proofs.LinkSteps.{link_there, link_kept}
use Rattle.ylalr.proofs.looks.shift.Goals as goal

pub push-requires : goal.push-requires
push-requires c =
    let P = c.args.lr0.now in
    row_linked P c.requires.fit.well_formed c.requires.fit _
    (subst (SoundDraft P) (sym c.draft.view_is) c.requires.sound) c.args.here c.requires.here

pub returns-in_ok-push : goal.returns-in_ok-push
returns-in_ok-push c =
    let P = c.args.lr0.now in
    let f = c.requires.fit.well_formed in
    let fit = c.requires.fit in
    let h = c.args.here in
    let d : DraftValue = record { looks = c.draft.inside.looks; links = c.draft.inside.links } in
    let sd : SoundDraft P d = subst (SoundDraft P) (sym c.draft.view_is) c.requires.sound in
    let n : DraftValue = record { looks = d.looks; links = c.push.new.self } in
    let to = c.in-Some.to in
    let moved = c.in-Some.ensures in
    let hl = row_linked P f fit d sd h c.requires.here in
    record {
      sound = sound_linked P d d.looks n.links h.row to sd sd.sized sd.looks
          (row_below P f fit h.state h.item h.row c.requires.here)
          (row_below P f fit moved.target (step_of h.item) to moved.place) c.in_ok-push.ensures
          (carries_shift P f fit h to c.requires.here moved);
      further = subst (λ (v : DraftValue). Further v n) c.draft.view_is (record {
        looks = λ r k l. l;
        links = link_kept d.links n.links h.row to hl c.in_ok-push.ensures;
      });
      shifts = shifts_by P f fit n h to moved
          (link_there d.links n.links h.row to hl c.in_ok-push.ensures);
    }

pub returns-in_default-clause-shifts : goal.returns-in_default-clause-shifts
returns-in_default-clause-shifts c = shifts_none c.args.lr0.now
    c.requires.fit.well_formed c.requires.fit c.args.draft.now c.args.here
    c.in_default.ensures
