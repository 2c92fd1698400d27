use Rattle.std.proofs.Common.{ℕ, eqb}
use Rattle.std.proofs.lemmas.Bool.Decides.{Decides-eqb}
use Rattle.std.proofs.lemmas.Slice.Eq.{strip_prefix_is}
use Rattle.ylexemes.proofs.bytes.after_text.Goals as goal

pub returns : goal.returns
returns c = strip_prefix_is {A = ℕ} {E = λ x y. eqb x y} Decides-eqb c.args.bytes.now
    c.args.text.now c.strip_prefix.result c.strip_prefix.ensures.cases
