use Rattle.std.proofs.Common.{◌<◌, ◌∙◌, drop, suc, refl, sym, subst}
use Rattle.ysymbols.specs.Grammar.{body_of}
use Rattle.ylalr.specs.Draft.{DraftValue, SoundDraft, Further, GivesForm, OpensAt, form_of}
use Rattle.ybitsets.specs.Rows.{IsSized}
use Rattle.ylalr.proofs.DraftSteps.{rule_below, row_below, opens_none, opens_nowhere, opens_by}
use Rattle.ylalr.proofs.DraftSteps.{Opening, row_linked, sound_begun, carries_open, sound_linked}
use Rattle.ylalr.proofs.DraftSteps.{sound_rows}
use Rattle.ybitsets.proofs.Growth.{sized_then}
use Rattle.ybitsets.proofs.LinkSteps.{link_there, link_kept}
use Rattle.ylalr.proofs.looks.open.Goals.{After-add_rest}
use Rattle.ylalr.proofs.looks.open.Goals as goal

pub symbol_after-requires : goal.symbol_after-requires
symbol_after-requires c = let h = c.args.here in
    rule_below c.args.lr0.now c.requires.fit.well_formed c.requires.fit h.state h.item
    h.row c.requires.here

pub returns-in_default-clause-opens : goal.returns-in_default-clause-opens
returns-in_default-clause-opens c = opens_nowhere c.args.lr0.now
    c.requires.fit.well_formed c.requires.fit c.args.draft.now c.args.here
    c.in_default.ensures

pub returns-in_default-get-clause-opens : goal.returns-in_default-get-clause-opens
returns-in_default-get-clause-opens c =
    let h = c.args.here in
    opens_none c.args.lr0.now c.requires.fit.well_formed c.requires.fit
    c.args.draft.now h c.in-Some.next
    (drop (suc h.item.dot) (body_of c.args.lr0.now.grammar.bare h.item.rule)) c.args.lefts.now
    c.requires.lefts c.in-Some.ensures.1 (sym c.get.ensures ∙ c.in_default-get.is)

pub add_rest-requires-clause-to_in : goal.add_rest-requires-clause-to_in
add_rest-requires-clause-to_in c =
    let P = c.args.lr0.now in
    let h = c.args.here in
    let z = c.requires.lefts.found c.in-Some.next c.in-Some-get.to
    (sym c.get.ensures ∙ c.in-Some-get.is) in
    let s : IsSized P.item_rows.total P.grammar.bare.tokens c.draft.inside.looks =
    subst (λ (d : DraftValue). IsSized P.item_rows.total P.grammar.bare.tokens d.looks)
    (sym c.draft.view_is) c.requires.sound.sized in
    subst (λ k. c.in-Some-get.to < k) (sym s.rows)
    (row_below P c.requires.fit.well_formed c.requires.fit h.state z.0
    c.in-Some-get.to (record { state = c.requires.here.state; at = z.1 }))

pub push-requires : goal.push-requires
push-requires c =
    let P = c.args.lr0.now in
    row_linked P c.requires.fit.well_formed c.requires.fit _
    (subst (SoundDraft P) (sym c.draft.view_is) c.requires.sound) c.args.here c.requires.here

-- what is opened
opening : (c : After-add_rest) → Opening c.args.lr0.now c.requires.fit.well_formed c.requires.fit
    c.args.here c.in-Some-get.to (form_of c.args.lr0.now c.args.here.item)
opening c =
    let z = c.requires.lefts.found c.in-Some.next c.in-Some-get.to
    (sym c.get.ensures ∙ c.in-Some-get.is) in
    record {
      symbol = c.in-Some.next;
      dotted = c.in-Some.ensures.1;
      opened = z.0;
      place = record { state = c.requires.here.state; at = z.1 };
      starts = z.2;
    }

-- the draft before
abbrev drafted : After-add_rest → DraftValue
drafted c = record { looks = c.draft.inside.looks; links = c.draft.inside.links }

sound_before : (c : After-add_rest) → SoundDraft c.args.lr0.now (drafted c)
sound_before c = subst (SoundDraft c.args.lr0.now) (sym c.draft.view_is) c.requires.sound

-- it is sound with the looks that the form adds
sound_after : (c : After-add_rest) → SoundDraft c.args.lr0.now
    (record { looks = c.add_rest.new.looks; links = (drafted c).links })
sound_after c =
    let P = c.args.lr0.now in
    let f = c.requires.fit.well_formed in
    let sd = sound_before c in
    let a = c.add_rest.ensures in
    sound_rows P (drafted c) c.add_rest.new.looks sd (sized_then sd.sized a.sized)
    (sound_begun P f c.requires.fit (drafted c) c.add_rest.new.looks c.args.here c.in-Some-get.to
    (form_of P c.args.here.item) sd.looks c.requires.here (opening c) a.sound)

further_by : (c : After-add_rest) (n : DraftValue) → Further (drafted c) n →
    Further c.args.draft.now n
further_by c n w = subst (λ (v : DraftValue). Further v n) c.draft.view_is w

opens_with : (c : After-add_rest) (n : DraftValue) → GivesForm c.args.lr0.now n
    (form_of c.args.lr0.now c.args.here.item) c.args.here.row c.in-Some-get.to →
    OpensAt c.args.lr0.now n c.args.here.state c.args.here.item c.args.here.row
opens_with c n gives = opens_by c.args.lr0.now c.requires.fit.well_formed c.requires.fit n
    c.args.here c.in-Some-get.to (form_of c.args.lr0.now c.args.here.item) (opening c) gives

pub returns-in_ok-push : goal.returns-in_ok-push
returns-in_ok-push c =
    let at = (goal.at.returns-in_ok-push c).After-add_rest in
    let P = c.args.lr0.now in
    let f = c.requires.fit.well_formed in
    let fit = c.requires.fit in
    let h = c.args.here in
    let d = drafted at in
    let n : DraftValue = record { looks = c.add_rest.new.looks; links = c.push.new.self } in
    let to = c.in-Some-get.to in
    let u = opening at in
    let r = sound_after at in
    let hl = row_linked P f fit d (sound_before at) h c.requires.here in
    record {
      sound = sound_linked P (record { looks = n.looks; links = d.links }) n.looks n.links h.row to
          r r.sized r.looks (row_below P f fit h.state h.item h.row c.requires.here)
          (row_below P f fit h.state u.opened to u.place) c.in_ok-push.ensures
          (carries_open P f fit h to (form_of P h.item) c.requires.here u
          (c.if-add_rest.ensures.vanishes.0 refl));
      further = further_by at n (record {
        looks = c.add_rest.ensures.grows;
        links = link_kept d.links n.links h.row to hl c.in_ok-push.ensures;
      });
      opens = opens_with at n (record {
        begun = c.add_rest.ensures.every;
        linked =
            λ _. link_there d.links n.links h.row to hl c.in_ok-push.ensures;
      });
    }

pub returns-else-add_rest : goal.returns-else-add_rest
returns-else-add_rest c =
    let at = (goal.at.returns-else-add_rest c).After-add_rest in
    let n : DraftValue = record { looks = c.add_rest.new.looks; links = (drafted at).links } in
    record {
      sound = sound_after at;
      further = further_by at n
          (record { looks = c.add_rest.ensures.grows; links = λ p t l. l });
      opens = opens_with at n (record {
        begun = c.add_rest.ensures.every;
        linked =
            λ all. absurd (let x = c.if-add_rest.ensures.vanishes.1 all in cc);
      });
    }
