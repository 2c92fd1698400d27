use Rattle.std.proofs.Common.{ℕ, suc, ◌≡◌, ◌<◌, ◌+◌, length, ap, sym, subst, ◌∙◌, arith, Vec}
use Rattle.std.proofs.Common.{Global}
use Rattle.std.specs.Prelude.{vec_len, vec_capacity, reverse}
use Rattle.ymachine.specs.Past.{position}
use Rattle.ysession.specs.Session.{history_of}
use Rattle.ymachine.specs.Shown.{step_view}
use Rattle.ymachine.specs.Unwinding.{shifts_from}
use Rattle.ymachine.proofs.Shown.{length-map}
use Rattle.ysession.proofs.session.Session.step_back.Goals as goal

pub keep_later-requires : goal.keep_later-requires
unfolding history_of
keep_later-requires c =
    let s = c.args.self.now in
    let new = c.undo.new.self in
    let room = s.room in
    let many = length-map step_view s.journal.earlier in
    let fewer : length (history_of s).earlier ≡ suc (length (history_of new).earlier) =
    ap length c.in-Ok.ensures.undoes in
    subst (λ (later : Vec ℕ Global). vec_len later + position (history_of new) < vec_capacity later)
    (sym c.in-Ok.ensures.later) (omega (arith, room, many, fewer))

pub returns-clause-later : goal.returns-clause-later
returns-clause-later c =
    c.keep_later.ensures.later ∙ ap
    (λ (later : Vec ℕ Global). shifts_from c.in-Ok.kind (reverse later.items))
    c.in-Ok.ensures.later
