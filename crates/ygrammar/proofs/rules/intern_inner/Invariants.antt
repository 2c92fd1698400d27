use Rattle.std.proofs.Common.{◌≡◌, map, drop}
use Rattle.ydeclarations.specs.Elaboration.{body_from, rule_left}
use Rattle.ysymbols.specs.Names.{with_names}
use Rattle.ysyntax.specs.TreeViews.{body_part_view}
use Rattle.ygrammar.proofs.rules.intern_inner.Given as goal

abbrev pub invariant-loop-item : goal.invariant-loop-item
invariant-loop-item l = record {
  names : with_names l.names
      (map rule_left (body_from l.next (map body_part_view (drop l.item-index l.items))).inner) ≡
      with_names l.fn.names
      (map rule_left (body_from l.k (map body_part_view l.items)).inner);
  next : (body_from l.next (map body_part_view (drop l.item-index l.items))).next ≡
      (body_from l.k (map body_part_view l.items)).next;
}
