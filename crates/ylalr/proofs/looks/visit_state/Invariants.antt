use Rattle.std.proofs.Common.{ℕ, ◌<◌}
use Rattle.ylalr.specs.declared.items.Item.{Item}
use Rattle.ylalr.specs.Draft.{SoundDraft, Further, RowIn, ServesAt}
use Rattle.ylalr.proofs.looks.visit_state.Given as goal

abbrev pub invariant-loop-k : goal.invariant-loop-k
invariant-loop-k l = record {
  sound : SoundDraft l.lr0 l.draft;
  further : Further l.initial.draft l.draft;
  serves : (i : Item) (p : ℕ) (z : RowIn l.lr0 l.q i p) → z.at.index < l.k →
      ServesAt l.lr0 l.draft l.q i p;
}
