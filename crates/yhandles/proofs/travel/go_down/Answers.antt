use Rattle.std.proofs.Common.{ℕ, suc, ◌≡◌, ◌-◌, ◌+◌, ◌∙◌, sym, ap, arith}
use Rattle.ymachine.specs.Past.{back_by}
use Rattle.ysession.specs.Session.{history_of}
use Rattle.yhandles.proofs.Travels.{down_on}
use Rattle.yhandles.proofs.travel.go_down.Goals as goal

pub loop-i-preserved : goal.loop-i-preserved
loop-i-preserved c =
    let inv = c.loop-i.invariant in
    let left : ℕ = c.args.count - (c.loop-i._i + 1) in
    let one : suc left ≡ c.args.count - c.loop-i._i = omega arith in
    record {
      setting = c.in-Ok.ensures.setting ∙ inv.setting;
      downs = sym (down_on left (history_of c.loop-i.session) (history_of c.back.new.self)
          c.in-Ok.field-0 c.in-Ok.ensures.undoes)
          ∙ (ap (λ (n : ℕ). back_by n (history_of c.loop-i.session)) one ∙ inv.downs);
    }
