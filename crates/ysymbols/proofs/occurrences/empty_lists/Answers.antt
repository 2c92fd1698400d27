use Rattle.std.proofs.Common.{◌≡◌, ◌++◌, ◌∷◌, [], ℕ, List, length, get_or, map, subst, sym, ap, ◌∙◌}
use Rattle.std.proofs.Common.{arith, length-append}
use Rattle.std.proofs.lemmas.List.{map_push}
use Rattle.ysymbols.specs.Marking.{items_of, lists_of}
use Rattle.ysymbols.proofs.FilingSteps.{pushed_empty}
use Rattle.ysymbols.proofs.occurrences.empty_lists.Goals as goal

pub loop-preserved : goal.loop-preserved
loop-preserved c =
    let ls = lists_of c.loop.lists in
    record {
      sized = ap length c.in_ok-push.ensures.items ∙ length-append c.loop.lists.items
          (c.new.result ∷ []) ∙ omega (arith, c.loop.invariant.sized);
      empty = λ s. subst (λ (x : List (List ℕ)). get_or x s [] ≡ [])
          (sym (ap (map items_of) c.in_ok-push.ensures.items ∙ map_push items_of c.loop.lists.items
          c.new.result ∙ ap (λ (l : List ℕ). ls ++ l ∷ []) c.new.ensures.items))
          (pushed_empty ls s c.loop.invariant.empty);
    }
