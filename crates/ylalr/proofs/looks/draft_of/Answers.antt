use Rattle.std.proofs.Common.{inl, inr, sym, subst, arith}
use Rattle.ylalr.specs.Draft.{ServesState}
use Rattle.ysymbols.proofs.Numbers.{below_or_last}
use Rattle.ylalr.proofs.DraftSteps.{serves_kept}
use Rattle.ylalr.proofs.looks.draft_of.Goals as goal

pub loop-q-preserved : goal.loop-q-preserved
loop-q-preserved c =
    let P = c.args.lr0.now in
    let i = c.loop-q.invariant in
    let e = c.in_ok-visit_state.ensures in
    record {
      lefts = e.lefts;
      sound = e.sound;
      start = λ p ip. e.further.looks p 0 (i.start p ip);
      serves = λ n h. elim (below_or_last n c.loop-q.q h) as
          (λ _. ServesState P c.visit_state.new.draft n) [
            | inl l ↦ (λ k p z. serves_kept P c.loop-q.draft c.visit_state.new.draft n p k e.further
                (i.serves n l k p z))
            | inr w ↦ subst (ServesState P c.visit_state.new.draft) (sym w) e.serves
          ];
    }

pub returns-clause-serves : goal.returns-clause-serves
returns-clause-serves c = λ q h. c.loop-q.invariant.serves q (omega arith)
