use Rattle.std.proofs.Common.{List, Bool, ◌↔◌, sym, subst}
use Rattle.ysymbols.specs.Forms.{Productive}
use Rattle.ysymbols.specs.Marking.{IsMarked, numbered_grammar}
use Rattle.ysymbols.proofs.Derivations.{token_productive}
use Rattle.ysymbols.proofs.ProductiveSteps.{all_marked}
use Rattle.ysymbols.proofs.productive.productive.Goals as goal

pub returns-clause-exact : goal.returns-clause-exact
returns-clause-exact c = λ s l.
    let t = c.args.tokens in
    let n = c.args.symbols in
    let rs = c.args.rules.now in
    let g = numbered_grammar t n rs in
    let at_first = c.in_ok-token_marks.ensures.marked in
    let new = c.new-list.ensures in
    let one = c.in_ok-visit_each.ensures in
    let two = c.in_ok-drain.ensures in
    subst (λ (m : List Bool). IsMarked m s ↔ Productive g s) (sym c.into_marks.ensures) (
      two.sound t n (one.sound t n (λ u k. token_productive g u
          ((at_first u).0 (subst (λ m. IsMarked m u) new k)))) s,
      all_marked t n rs c.drain.new.list two.empty two.settled (λ u h. two.keeps.kept u
          (one.grows.keeps.kept u (subst (λ m. IsMarked m u) (sym new) ((at_first u).1 h)))) s,
    )
