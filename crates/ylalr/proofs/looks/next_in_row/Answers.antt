use Rattle.std.proofs.Common.{ℕ, List, ◌≡◌, ◌<◌, ◌≤◌, get_or, ap, sym, subst, refl}
use Rattle.std.proofs.lemmas.List.{get_or_default}
use Rattle.ylalr.specs.declared.items.Item.{Item}
use Rattle.ybitsets.specs.Rows.{Holds}
use Rattle.ylalr.specs.ItemRows.{IsRowOf, rows_at}
use Rattle.ylalr.specs.States.{set_at}
use Rattle.ylalr.proofs.WholeSteps.{looks_at}
use Rattle.ylalr.proofs.looks.next_in_row.Goals.{After-rows}
use Rattle.ylalr.proofs.looks.next_in_row.Goals as goal

-- the item at the index, and its row
abbrev item : After-rows → Item → Item
item c d = get_or (set_at c.args.lr0.now.states.closures c.args.q) c.args.index d

abbrev row : After-rows → ℕ
row c = get_or (rows_at c.args.lr0.now.item_rows c.args.q) c.args.index 0

placed : (c : After-rows) (d : Item) → IsRowOf c.args.lr0.now.states c.args.lr0.now.item_rows
    c.args.q (item c d) (row c)
placed c d = record {
  state = c.requires.state;
  at = record {
    index = c.args.index;
    within = c.requires.index;
    here = get_or_default (set_at c.args.lr0.now.states.closures c.args.q) c.args.index (item c d) d
        c.requires.index;
    row = refl;
  };
}

read : (c : After-rows) → row c ≡ get_or c.rows.result.now c.args.index 0
read c = ap (λ (l : List ℕ). get_or l c.args.index 0) (sym c.rows.ensures)

pub next-requires-clause-row : goal.next-requires-clause-row
next-requires-clause-row c =
    let at = (goal.at.next-requires-clause-row c).After-rows in
    let w = c.requires.whole in
    let d : Item = record { rule = 0; dot = 0 } in
    subst (λ n. n < c.args.looks.now.height) (read at)
    (subst (λ n. row at < n) (sym w.sized.rows)
    (w.fit.item_rows.below c.args.q (item at d) (row at) (placed at d)))

pub returns : goal.returns
returns c =
    let at = (goal.at.returns c).After-rows in
    let P = c.args.lr0.now in
    let w = c.requires.whole in
    let looks = λ (d : Item) (a : ℕ). looks_at P.grammar w.fit.well_formed P.states P.gotos
    w.fit.states (λ q x h l. w.fit.gotos.gotos q h x l) P.item_rows c.args.looks.now w.sound
    w.closed c.args.q (item at d) (row at) a (placed at d) in
    record {
      next = λ d. record {
        further = c.next.ensures.further;
        within = subst (λ n. c.next.result ≤ n) w.sized.columns c.next.ensures.within;
        none = λ a l m k. c.next.ensures.none a l m
            (subst (λ p. Holds c.args.looks.now p a) (read at) ((looks d a).1 k));
        looks = λ l. (looks d c.next.result).0
            (subst (λ p. Holds c.args.looks.now p c.next.result) (sym (read at))
            (c.next.ensures.has (subst (λ n. c.next.result < n) (sym w.sized.columns) l)));
      };
    }
