use Rattle.ylalr.proofs.Fruitful.{valid_token}
use Rattle.ylalr.proofs.WholeSteps.{looks_at, looks_absent}
use Rattle.ylalr.proofs.looks.has_look.Goals as goal

pub item_row-requires-clause-order : goal.item_row-requires-clause-order
item_row-requires-clause-order c =
    (c.requires.whole.fit.states.each c.args.q c.requires.state).order

pub returns-in-Some : goal.returns-in-Some
returns-in-Some c =
    let P = c.args.lr0.now in
    let w = c.requires.whole in
    let z = looks_at P.grammar c.requires.whole.fit.well_formed P.states P.gotos w.fit.states
    (λ q x h l. w.fit.gotos.gotos q h x l) P.item_rows c.args.looks.now w.sound w.closed
    c.args.q c.args.item c.in-Some.p c.args.t c.in-Some.ensures in
    ((λ e. z.0 (c.has.ensures.0 e)), (λ l. c.has.ensures.1 (z.1 l)))

pub returns-in-None : goal.returns-in-None
returns-in-None c =
    let P = c.args.lr0.now in
    let w = c.requires.whole in (
      (λ e. absurd (cc)),
      (λ l. absurd (looks_absent P.grammar c.requires.whole.fit.well_formed
          P.states P.gotos w.fit.states (λ q x h k. w.fit.gotos.gotos q h x k) P.item_rows
          c.args.looks.now w.sound w.closed c.args.q c.args.item c.args.t c.requires.state
          c.in-None.ensures l)),
    )

pub returns-then-not-is_token : goal.returns-then-not-is_token
returns-then-not-is_token c = (
  (λ e. absurd (cc)),
  (λ l.
      absurd (let e = c.if-not-is_token.ensures.1 (valid_token c.requires.whole.fit.well_formed
      l.valid) in cc)),
)

pub item_row-requires-clause-item_rows : goal.item_row-requires-clause-item_rows
item_row-requires-clause-item_rows c = c.requires.whole.fit.item_rows.sized

pub item_row-requires-clause-rows : goal.item_row-requires-clause-rows
item_row-requires-clause-rows c = (c.requires.whole.fit.item_rows.rows c.args.q c.requires.state).sized
