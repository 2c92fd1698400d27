use Rattle.std.proofs.Common.{◌≡◌, ◌∷◌, ◌+◌, ◌∙◌, List, ap, append-nil, arith, drop, sym}
use Rattle.std.proofs.lemmas.List.{drop_more}
use Rattle.ysyntax.specs.declared.tree.BodyPart.{BodyPart as CodeBodyPart}
use Rattle.ysymbols.specs.Sources.{TextsValue}
use Rattle.ygrammar.proofs.TextSteps.{one_item}
use Rattle.ygrammar.proofs.rules.push_inner_texts.Goals as goal
use Rattle.ygrammar.proofs.rules.push_inner_texts.Goals.{in_default}
use Rattle.ygrammar.proofs.rules.push_inner_texts.Goals.{in-Action+in_ok-push_text}

pub loop-item-preserved : goal.loop-item-preserved
loop-item-preserved c =
    let xs : List CodeBodyPart = c.args.items.now in
    let rest : List CodeBodyPart = drop (c.loop-item.item-index + 1) xs in
    let v = c.loop-item.invariant in
    elim c.match-item.branch [
      | in_default w ↦
          let e : c.match-item.texts ≡ c.loop-item.texts = cc w.texts-is in
          let r = one_item c.args.texts.now.source c.loop-item.texts c.match-item.texts _ rest _ _
          (drop_more xs c.loop-item.item-index _ (omega arith) ∙ ap
          (λ (y : CodeBodyPart). y ∷ rest) w.in_default.is)
          (ap (λ (t : TextsValue). t.source) e)
          (ap (λ (t : TextsValue). t.texts) e ∙ sym (append-nil c.loop-item.texts.texts))
          v.source v.texts v.stands in
          record { source = r.0; texts = r.1; stands = r.2 }
      | in-Action+in_ok-push_text w ↦
          let e : c.match-item.texts ≡ w.push_text.new.texts = cc w.texts-is in
          let r = one_item c.args.texts.now.source c.loop-item.texts c.match-item.texts _ rest _ _
          (drop_more xs c.loop-item.item-index _ (omega arith) ∙ ap
          (λ (y : CodeBodyPart). y ∷ rest) w.in-Action.is)
          (ap (λ (t : TextsValue). t.source) e ∙ ap (λ (t : TextsValue). t.source)
          w.in_ok-push_text.ensures)
          (ap (λ (t : TextsValue). t.texts) e ∙ ap (λ (t : TextsValue). t.texts)
          w.in_ok-push_text.ensures) v.source v.texts v.stands in
          record { source = r.0; texts = r.1; stands = r.2 }
    ]
