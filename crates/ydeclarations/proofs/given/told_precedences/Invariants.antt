use Rattle.std.proofs.Common.{ℕ, [], map, drop}
use Rattle.ydeclarations.specs.Elaboration.{gives_of}
use Rattle.ydeclarations.specs.Outline.{listed_view}
use Rattle.ydeclarations.specs.Places.{SecondAt}
use Rattle.ydeclarations.specs.Told.{AreAmong, SoFar}
use Rattle.ydeclarations.proofs.SecondSteps.{Later, place_of}
use Rattle.ydeclarations.proofs.given.told_precedences.Given as goal

abbrev pub invariant-loop-one : goal.invariant-loop-one
invariant-loop-one l = record {
  told : SoFar gives_of l.tokens l.given.items (map listed_view (drop l.one-index l.listed))
      (map listed_view l.listed);
  place : AreAmong l.tokens (map listed_view l.listed) → (at : ℕ) →
      Later l.listed l.one-index at → SecondAt [] (map listed_view l.listed)
      (map place_of l.listed) at;
}
