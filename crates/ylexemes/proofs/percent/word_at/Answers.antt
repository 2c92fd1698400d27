use Rattle.std.proofs.Common.{sym, ap, ◌∙◌, ◌∷◌}
use Rattle.ylexemes.proofs.Fronts.{first_is}
use Rattle.ylexemes.proofs.Made.{word_part, word_foreign}
use Rattle.ylexemes.proofs.percent.word_at.Goals as goal

pub returns-in-Some : goal.returns-in-Some
returns-in-Some c =
    word_part c.args.bytes.now c.name_run.result.0.now c.name_run.result.1.now c.in-Some.sign
    (record { no_mark = c.requires.no_mark; no_code = c.requires.no_code })
    (first_is 37 c.args.bytes.now c.split_at.result.1.now c.requires.first c.split_at.ensures.back ∙
    ap (λ z. 37 ∷ z) c.name_run.ensures.whole) c.name_run.ensures.run c.name_run.ensures.stop
    (sym c.in-Some.ensures)

pub returns-in-None : goal.returns-in-None
returns-in-None c =
    word_foreign c.args.bytes.now c.name_run.result.0.now c.name_run.result.1.now
    (record { no_mark = c.requires.no_mark; no_code = c.requires.no_code })
    (first_is 37 c.args.bytes.now c.split_at.result.1.now c.requires.first c.split_at.ensures.back ∙
    ap (λ z. 37 ∷ z) c.name_run.ensures.whole) c.name_run.ensures.run c.name_run.ensures.stop
    (sym c.in-None.ensures)
