use Rattle.std.proofs.Common.{ℕ, ◌≡◌, ◌+◌, ◌<◌, ◌∙◌, List, [], ◌∷◌, ◌++◌, length, subst, sym, ap}
use Rattle.std.proofs.Common.{arith, slice_index}
use Rattle.std.proofs.lemmas.List.{get_or_read}
use Rattle.ylalr.specs.Collection.{goto_in}
use Rattle.ycode.specs.declared.entry.Entry.{Entry}
use Rattle.ycode.specs.Cells.{states_of, tokens_of}
use Rattle.ycode.specs.Entries.{entry_at}
use Rattle.ycode.specs.Targets.{AreTargets, beside, goto_entries}
use Rattle.ycode.proofs.CellLoops.{targets_more}
use Rattle.ycode.proofs.targets.all_targets.Goals as goal

pub loop-x-preserved : goal.loop-x-preserved
loop-x-preserved c =
    let v = c.args.tables.now in
    let x = c.loop-x.x in
    let usual = c.in_ok-usual.usual.items in
    let es = c.in_ok-entries.entries in
    let items : c.push.new.self.items ≡ c.loop-x.rows.items ++ es ∷ [] =
    c.in_ok-push.ensures.items in
    let low : x < length usual = (let t = c.loop-x-test.true in omega (arith, t)) in
    let target : c.index.result.now ≡ slice_index usual x =
    get_or_read usual x c.index.result.now low c.index.ensures 0 in
    let each : (q : ℕ) → q < states_of v → entry_at es q ≡
    beside (slice_index usual x) (goto_in v.built q (tokens_of v + x)) =
    subst (λ (u : ℕ). (q : ℕ) → q < states_of v → entry_at es q ≡
    beside u (goto_in v.built q (tokens_of v + x))) target c.in_ok-entries.ensures.entries in
    subst (λ (rows : List (List Entry)). AreTargets v (x + 1) usual rows) (sym items)
    (targets_more v x usual c.loop-x.rows.items es c.loop-x.invariant each
    c.in_ok-entries.ensures.most
    (c.in_ok-entries.ensures.list ∙ ap (λ (u : ℕ). goto_entries v u x) target))
