use Rattle.std.proofs.Common.{◌≡◌, ◌++◌, map, drop}
use Rattle.ydeclarations.specs.Elaboration.{body_from}
use Rattle.ysymbols.specs.Names.{number_in}
use Rattle.ygrammar.specs.Numbered.{inner_numbers}
use Rattle.ysyntax.specs.TreeViews.{body_part_view}
use Rattle.ygrammar.proofs.rules.number_body.Given as goal

abbrev pub invariant-loop-item : goal.invariant-loop-item
invariant-loop-item l = record {
  rules : l.rules.items ++ map (inner_numbers l.names)
      (body_from l.body.next (map body_part_view (drop l.item-index l.items))).inner ≡
      l.fn.rules.items ++ map
      (inner_numbers l.names) (body_from l.k (map body_part_view l.items)).inner;
  symbols : l.body.symbols.items ++ map (number_in l.names)
      (body_from l.body.next (map body_part_view (drop l.item-index l.items))).symbols ≡ map
      (number_in l.names) (body_from l.k (map body_part_view l.items)).symbols;
  next : (body_from l.body.next (map body_part_view (drop l.item-index l.items))).next ≡
      (body_from l.k (map body_part_view l.items)).next;
}
