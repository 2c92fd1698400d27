use Rattle.std.proofs.Common.{◌≡◌, ◌++◌, drop, map}
use Rattle.std.specs.List.{flat_map, AllByRecursion}
use Rattle.ygrammar.specs.Texts.{body_part_texts}
use Rattle.ysyntax.specs.TreeTexts.{BodyPartStands}
use Rattle.ysyntax.specs.TreeViews.{body_part_view}
use Rattle.ygrammar.proofs.rules.push_inner_texts.Given as goal

abbrev pub invariant-loop-item : goal.invariant-loop-item
invariant-loop-item l = record {
  source : l.texts.source ≡ l.fn.texts.source;
  texts : l.texts.texts ++ flat_map body_part_texts (map body_part_view (drop l.item-index l.items))
      ≡
      l.fn.texts.texts ++ flat_map body_part_texts (map body_part_view l.items);
  stands : AllByRecursion (BodyPartStands l.texts.source) (drop l.item-index l.items);
}
