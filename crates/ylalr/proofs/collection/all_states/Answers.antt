use Rattle.std.proofs.Common.{◌≡◌, ◌<◌, ◌∙◌, ◌++◌, [], ◌∷◌, List, length, refl, sym, ap, subst}
use Rattle.std.proofs.Common.{arith}
use Rattle.ylalr.specs.declared.gotos.Goto.{Goto}
use Rattle.ylalr.specs.States.{RowsAre, RowIs}
use Rattle.ylalr.proofs.StateSteps.{push_length}
use Rattle.ylalr.proofs.RowSteps.{rows_push}
use Rattle.ylalr.proofs.collection.all_states.Goals as goal

pub loop-alloc-preserved : goal.loop-alloc-preserved
loop-alloc-preserved c =
    let g = c.args.grammar.now.bare in
    let s = c.loop-alloc.finder.states in
    let t = c.gotos_of.new.finder.states in
    let xs = c.loop-alloc.gotos in
    let i = c.loop-alloc.invariant in
    let e = c.in_ok-row.ensures in
    let row = c.in_ok-row.row in
    let z = push_length xs row in
    let longer = ap (λ (ys : List (List Goto)). length ys) c.in_ok-push.ensures ∙ z in
    let less : length xs < length s.closures = omega arith in
    let r : RowIs g t (length xs) row = subst (λ q. RowIs g t q row) c.count-in-loop-alloc-2.ensures
    e.row in
    let p = rows_push g s t (length xs) xs row e.extends less refl i.rows r e.order e.symbols e.finds
    in
    record {
      fit = e.fit;
      sorted = e.sorted;
      within = (let l = e.extends.longer in omega arith);
      rows = subst (λ (ys : List (List Goto)). RowsAre g t (length ys) ys)
          (sym c.in_ok-push.ensures) (subst (λ n. RowsAre g t n (xs ++ row ∷ [])) (sym z) p);
    }

pub returns-clause-collected : goal.returns-clause-collected
returns-clause-collected c =
    let s = c.loop-alloc.finder.states in
    let i = c.loop-alloc.invariant in
    let w = i.within in
    let e : length c.loop-alloc.gotos ≡ length s.closures = omega arith in
    record {
      states = i.fit.states;
      gotos = subst (λ n. RowsAre c.args.grammar.now.bare s n c.loop-alloc.gotos) e i.rows;
      counted = e;
    }
