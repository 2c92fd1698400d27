use Rattle.std.proofs.Common.{ℕ, ◌≡◌, ◌<◌, ◌≤◌, ◌++◌, Bool, true, false, List, [], codes, length}
use Rattle.std.proofs.Common.{Option, is_some, sym, subst, if◌then◌else◌}
use Rattle.ysymbols.specs.Grammar.{body_of}
use Rattle.ylalr.specs.declared.items.Item.{Item}
use Rattle.ylalr.specs.Collection.{Guide}
use Rattle.ylink.specs.declared.link.Link.{Link}
use Rattle.ylink.specs.Sends.{Sends}
use Rattle.ytables.specs.Report.{looks_text, on_text}
use Rattle.ytables.specs.Tables.{TablesValue, after_dot, is_empty}
use Rattle.ytables.proofs.LineSteps.{first_cut, two}
use Rattle.ytables.proofs.RowSteps.{empty_no, empty_yes}
use Rattle.ylink.proofs.Sent.{Sends-nothing}
use Rattle.ytables.proofs.report.put_on.Goals as goal

-- what follows an item that is complete or not
told : {W : Type 0} (contents : W → Option (List ℕ)) (a b : Link W) (whole complete : Bool)
    (v : TablesValue) (u : Guide) (q : ℕ) (i : Item)
    → is_empty (after_dot v.built.grammar.bare i) ≡ complete
    → Sends contents a b whole (if complete then codes " on" ++ looks_text v u q i else [])
    → Sends contents a b whole (on_text v u q i)
told contents a b whole complete v u q i e s =
    subst (λ (x : Bool). Sends contents a b whole (if x then codes " on" ++ looks_text v u q i
    else [])) (sym e) s

pub returns-then-item-body : goal.returns-then-item-body
returns-then-item-body g c = λ u h.
    let v = c.args.tables.now in
    let i = c.args.item in
    let inside : i.dot < length (body_of v.built.grammar.bare i.rule) =
    rw (c.body.ensures, c.rule.ensures.production, c.grammar.ensures) at c.if-item-body.true in
    told g.W.Write.contents _ _ true false v u c.args.q i (empty_no _ i.dot inside)
    (Sends-nothing g.W.Write.contents _)

pub returns-in_err-put : goal.returns-in_err-put
returns-in_err-put g c = λ u h.
    let v = c.args.tables.now in
    let i = c.args.item in
    let end : length (body_of v.built.grammar.bare i.rule) ≤ i.dot =
    rw (c.body.ensures, c.rule.ensures.production, c.grammar.ensures) at c.if-item-body.false in
    told g.W.Write.contents _ _ _ true v u c.args.q i (empty_yes _ i.dot end)
    (first_cut g.W.Write.contents _ _ _ _ _ c.from_residual.ensures c.in_err-put.ensures)

pub returns : goal.returns
returns g c = λ u h.
    let v = c.args.tables.now in
    let i = c.args.item in
    let end : length (body_of v.built.grammar.bare i.rule) ≤ i.dot =
    rw (c.body.ensures, c.rule.ensures.production, c.grammar.ensures) at c.if-item-body.false in
    told g.W.Write.contents _ _ _ true v u c.args.q i (empty_yes _ i.dot end)
    (two g.W.Write.contents _ _ _ _ _ _ c.in_ok-put.ensures
    (subst (λ (x : Item). Sends g.W.Write.contents c.put.new.link c.put_looks.new.link
    (is_some c.put_looks.result) (looks_text v u c.args.q x)) (c.requires.here.item i)
    (c.put_looks.ensures u h i)))
