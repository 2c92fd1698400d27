use Rattle.std.proofs.Common.{ℕ, ◌<◌, ◌∙◌, Option, MatchOption, sym, subst}
use Rattle.ylalr.specs.Draft.{IsMoved}
use Rattle.ylalr.proofs.DraftSteps.{rule_below, goto_within, moved_match}
use Rattle.ylalr.proofs.looks.moved.Goals as goal

pub moves_over-requires : goal.moves_over-requires
moves_over-requires c = let h = c.args.here in
    rule_below c.args.lr0.now c.requires.fit.well_formed c.requires.fit h.state h.item
    h.row c.requires.here

pub get-requires-clause-state : goal.get-requires-clause-state
get-requires-clause-state c = subst (λ k. c.args.here.state < k) (sym c.requires.fit.counted)
    c.requires.here.state

pub get-requires-clause-order : goal.get-requires-clause-order
get-requires-clause-order c = c.requires.fit.gotos.order c.args.here.state c.requires.here.state

pub returns-in_err-x : goal.returns-in_err-x
returns-in_err-x c = subst
    (λ (o : Option ℕ). MatchOption o ((t : ℕ) → IsMoved c.args.lr0.now c.args.here t → ⊥)
    (IsMoved c.args.lr0.now c.args.here)) (sym c.from_residual.ensures)
    (λ t m. c.in_err-x.ensures m.symbol m.moves)

pub item_row-requires-clause-state : goal.item_row-requires-clause-state
item_row-requires-clause-state c = goto_within c.args.lr0.now
    c.requires.fit.well_formed c.requires.fit c.args.here.state c.in_ok-x.x c.in_ok-n.n
    c.requires.here.state c.in_ok-x.ensures.0 (sym c.get.ensures ∙ c.in_ok-n.was)

pub item_row-requires-clause-order : goal.item_row-requires-clause-order
item_row-requires-clause-order c =
    (c.requires.fit.states.each c.in_ok-n.n
    (goto_within c.args.lr0.now c.requires.fit.well_formed c.requires.fit
    c.args.here.state c.in_ok-x.x c.in_ok-n.n c.requires.here.state c.in_ok-x.ensures.0
    (sym c.get.ensures ∙ c.in_ok-n.was))).order

pub item_row-requires-clause-rows : goal.item_row-requires-clause-rows
item_row-requires-clause-rows c =
    (c.requires.fit.item_rows.rows c.in_ok-n.n
    (goto_within c.args.lr0.now c.requires.fit.well_formed c.requires.fit
    c.args.here.state c.in_ok-x.x c.in_ok-n.n c.requires.here.state c.in_ok-x.ensures.0
    (sym c.get.ensures ∙ c.in_ok-n.was))).sized

pub returns : goal.returns
returns c = moved_match c.args.lr0.now c.requires.fit.well_formed c.requires.fit
    c.args.here c.in_ok-x.x c.in_ok-n.n c.item_row.result c.in_ok-x.ensures.1
    (sym c.get.ensures ∙ c.in_ok-n.was) c.item_row.ensures
