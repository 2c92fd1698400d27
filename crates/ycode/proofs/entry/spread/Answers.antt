use Rattle.std.proofs.Common.{◌≡◌, ◌<◌, ◌∙◌, None, length, get_or, take, sym, ap, arith}
use Rattle.std.proofs.lemmas.List.{take_more}
use Rattle.ybitsets.proofs.PackedSteps.{refill_same}
use Rattle.ycode.specs.declared.entry.Entry.{Entry}
use Rattle.ycode.specs.Entries.{or_else, number_at, entry_at}
use Rattle.ycode.proofs.EntrySteps.{entry_at-last}
use Rattle.ycode.proofs.entry.spread.Goals as goal

pub loop-entry-preserved : goal.loop-entry-preserved
loop-entry-preserved c =
    let row = c.loop-entry.row in
    let new = c.put_entry.new.row in
    let same = c.deref_mut.ensures.value in
    let len : length new ≡ row.len = (let a = c.put_entry.ensures.len in let b = ap length same in
    let k = row.ok.0 in omega (arith, a, b, k)) in
    let are = refill_same row.len new row.items len in
    let i = c.loop-entry.entry-index in
    let h = c.put_entry.ensures.entry in
    let inv = c.loop-entry.invariant in
    let k = row.ok.0 in
    let es = c.args.entries.now in
    let d : Entry = record { column = 0; number = 0 } in
    let more = take_more es i d c.loop-entry-test.true in
    record {
      len = ap length are ∙ (len ∙ (k ∙ inv.len));
      entries = λ t l. (let z : t < length c.deref_mut.result.now = (let b = ap length same in
          let e = inv.len in omega (arith, b, e, l)) in
          ap (λ xs. get_or xs t None) are ∙ (h t z
          ∙ (ap (λ xs. or_else (number_at (get_or es i d) t) (get_or xs t None)) same
          ∙ (ap (or_else (number_at (get_or es i d) t)) (inv.entries t l)
          ∙ (sym (entry_at-last (take i es) (get_or es i d) t)
          ∙ ap (λ xs. entry_at xs t) (sym more))))));
    }
