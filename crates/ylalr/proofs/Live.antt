-- Items valid for a prefix, without their lookaheads.
use Rattle.std.proofs.Common.{ℕ, List, [], ◌∷◌}
use Rattle.ysymbols.specs.Grammar.{ContextFree}
use Rattle.ylalr.specs.Items.{Valid, start, closure, move}
use Rattle.ylalr.specs.Sets.{Closure, given, opened, Kernel, moved, Begin, begin}

-- items of the prefix p, by recursion on p
abbrev pub Live : ContextFree → List ℕ → ℕ → ℕ → Type 0
Live g [] = Closure g Begin
Live g (x ∷ p) = Closure g (Kernel g (Live g p) x)

pub live_from_valid : {g : ContextFree} {p : List ℕ} {r d a : ℕ} → Valid g p r d a → Live g p r d
live_from_valid start = given begin
live_from_valid {p = []} (closure v e h f) = opened (live_from_valid v) e h
live_from_valid {p = x ∷ p} (closure v e h f) = opened (live_from_valid v) e h
live_from_valid (move v e h) = given (moved (live_from_valid v) e h)
