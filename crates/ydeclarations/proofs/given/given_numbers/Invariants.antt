use Rattle.std.proofs.Common.{map, drop, take}
use Rattle.ydeclarations.specs.Outline.{listed_view}
use Rattle.ydeclarations.specs.Owned.{AllSmall, HasFirst, IsFirstWrong, TellsNumbers}
use Rattle.ydeclarations.specs.Told.{AreAmong}
use Rattle.ydeclarations.proofs.given.given_numbers.Given as goal

abbrev pub invariant-loop-i : goal.invariant-loop-i
invariant-loop-i l = record {
  small : AllSmall l.given.first.items;
  told : TellsNumbers l.tokens (map listed_view (drop l.i l.listed))
      (map listed_view l.listed) l.given.first.items l.given.fault;
  first : HasFirst l.tokens l.given.first.items (take l.i (map listed_view l.listed));
  fault : AreAmong l.tokens (map listed_view l.listed) →
      IsFirstWrong (map listed_view l.listed) l.i l.given.fault;
}
