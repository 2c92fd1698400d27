use Rattle.std.proofs.Common.{◌∙◌, ℕ, Option, ap, length, unwrap_or}
use Rattle.ysymbols.proofs.NameSteps.{found_number}
use Rattle.ysymbols.proofs.names.number_in.Goals as goal

pub returns : goal.returns
returns c = c.unwrap_or.ensures ∙ ap (λ n. unwrap_or c.find.result n) c.len.ensures
    ∙ ap (λ (o : Option ℕ). unwrap_or o (length c.args.names.now)) c.find.ensures
    ∙ found_number c.args.names.now c.args.name.now
