use Rattle.std.proofs.Common.{rules}
use Rattle.std.proofs.lemmas.List.Sorted.{answers_always}
use Rattle.ylalr.specs.declared.gotos.Goto.{Goto}
use Rattle.ylalr.proofs.SearchSteps.{row_found, row_none}
use Rattle.ylalr.proofs.gotos.seek.Goals as goal

pub returns-in-Ok : goal.returns-in-Ok
returns-in-Ok c =
    let by_key = c.in-Ok.ensures.position (λ (t : Goto). t.symbol)
    (answers_always _ _ _ (λ f a r g called. search rules)) in
    row_found c.args.row.now c.args.x c.in-Ok.at (record { symbol = 0; state = 0 }) c.requires
    c.in-Ok.ensures.bound by_key

pub returns-in-Err : goal.returns-in-Err
returns-in-Err c =
    let by_key = c.in-Err.ensures.position (λ (t : Goto). t.symbol)
    (answers_always _ _ _ (λ f a r g called. search rules)) in
    row_none c.args.row.now c.args.x _ c.requires by_key
