use Rattle.std.proofs.Common.{ℕ, ◌≡◌, ◌<◌, get_or, length}
use Rattle.ylalr.specs.declared.items.Item.{Item}
use Rattle.ycode.proofs.symbols.symbol_before.Given as goal

abbrev pub invariant-loop-item : goal.invariant-loop-item
invariant-loop-item l = (k : ℕ) (d : Item) → k < l.item-index → k < length l.items →
    (get_or l.items k d).dot ≡ 0
