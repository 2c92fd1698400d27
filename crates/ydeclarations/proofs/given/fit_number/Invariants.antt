use Rattle.std.proofs.Common.{◌≡◌, ◌≤◌, take}
use Rattle.std.specs.Str.Parse.{digits_value}
use Rattle.ysymbols.specs.Grammar.{greatest_number}
use Rattle.ydeclarations.proofs.given.fit_number.Given as goal

abbrev pub invariant-loop-b : goal.invariant-loop-b
invariant-loop-b l = record {
  value : l.value ≡ digits_value 10 (take l.b-index l.digits);
  low : l.value ≤ greatest_number;
}
