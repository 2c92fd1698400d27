use Rattle.std.proofs.Common.{◌≡◌, map, drop}
use Rattle.ysymbols.specs.Names.{with_names}
use Rattle.ydeclarations.specs.Elaboration.{listed_name}
use Rattle.ydeclarations.specs.Outline.{listed_view}
use Rattle.ygrammar.proofs.tokens.intern_listed.Given as goal

abbrev pub invariant-loop-one : goal.invariant-loop-one
invariant-loop-one l = with_names l.names
    (map listed_name (map listed_view (drop l.one-index l.listed))) ≡ with_names l.fn.names
    (map listed_name (map listed_view l.listed))
