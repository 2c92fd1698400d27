use Rattle.std.proofs.Common.{◌∙◌, sym, subst}
use Rattle.ylalr.specs.Gotos.{goto_of}
use Rattle.ybitsets.specs.Rows.{IsSized}
use Rattle.ylalr.specs.Looks.{SoundLooks, StartLooks}
use Rattle.ylalr.proofs.DraftSteps.{no_links, sound_start, start_marked}
use Rattle.ylalr.proofs.looks.start.Goals.{in-Some, in_default}
use Rattle.ylalr.proofs.looks.start.Goals as goal

pub returns-clause-sound : goal.returns-clause-sound
returns-clause-sound c =
    let P = c.args.lr0.now in
    let f = c.requires.well_formed in
    let z : IsSized P.item_rows.total P.grammar.bare.tokens c.in_ok-looks.looks =
    record {
      rows = c.in_ok-looks.ensures.sized.rows ∙ c.total.ensures;
      columns =
          c.in_ok-looks.ensures.sized.columns ∙ c.token_count.ensures;
    } in
    no_links P c.match-item_row.looks c.in_ok-links.links
    (c.in_ok-links.ensures.sized ∙ c.total-2.ensures) c.in_ok-links.ensures.empty
    (elim c.match-item_row.branch [
      | in-Some w ↦ subst (IsSized P.item_rows.total P.grammar.bare.tokens) (sym w.looks-is)
          (record {
            rows = w.mark.ensures.grown.rows ∙ z.rows;
            columns =
                w.mark.ensures.grown.columns ∙ z.columns;
          })
      | in_default w ↦ subst (IsSized P.item_rows.total P.grammar.bare.tokens) (sym w.looks-is) z
    ])
    (elim c.match-item_row.branch [
      | in-Some w ↦ subst (SoundLooks P.grammar.bare (goto_of P.gotos) P.states P.item_rows)
          (sym w.looks-is) (sound_start P f c.requires c.in_ok-looks.looks w.mark.new.self
          w.in-Some.p c.in_ok-looks.ensures.empty w.in-Some.ensures w.mark.ensures.exact)
      | in_default w ↦ subst (SoundLooks P.grammar.bare (goto_of P.gotos) P.states P.item_rows)
          (sym w.looks-is) (λ q i p a ip h. absurd (c.in_ok-looks.ensures.empty p a h))
    ])

pub returns-clause-start : goal.returns-clause-start
returns-clause-start c =
    let P = c.args.lr0.now in
    let f = c.requires.well_formed in
    elim c.match-item_row.branch [
      | in-Some w ↦ subst (StartLooks P.states P.item_rows) (sym w.looks-is)
          (start_marked P f c.requires c.in_ok-looks.looks w.mark.new.self w.in-Some.p
          w.in-Some.ensures w.mark.ensures.exact)
      | in_default w ↦ (λ p ip. absurd (w.in_default.ensures p ip))
    ]
