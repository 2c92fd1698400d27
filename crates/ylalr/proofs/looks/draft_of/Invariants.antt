use Rattle.std.proofs.Common.{ℕ, ◌≡◌, ◌<◌, length}
use Rattle.ylalr.specs.Draft.{SoundDraft, StartsDraft, ServesState}
use Rattle.ylalr.proofs.looks.draft_of.Given as goal

abbrev pub invariant-loop-q : goal.invariant-loop-q
invariant-loop-q l = record {
  lefts : length l.lefts ≡ l.lr0.grammar.bare.symbols;
  sound : SoundDraft l.lr0 l.draft;
  start : StartsDraft l.lr0 l.draft;
  serves : (n : ℕ) → n < l.q → ServesState l.lr0 l.draft n;
}
