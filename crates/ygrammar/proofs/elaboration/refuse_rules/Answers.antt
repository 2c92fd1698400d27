use Rattle.std.proofs.Common.{refl, sym, subst, take, ◌≤◌}
use Rattle.ydeclarations.specs.declared.mistake.Mistake.TheVariants as mistakes
use Rattle.ygrammar.specs.Elaborated.{Decides}
use Rattle.ysymbols.specs.Marking.{AreIn}
use Rattle.ydeclarations.specs.Mistakes.{order}
use Rattle.std.proofs.Common.{◌++◌}
use Rattle.ydeclarations.specs.OutlineSites.{IsPlaced}
use Rattle.ygrammar.proofs.PlaceSteps.{passes_place}
use Rattle.ygrammar.proofs.ElaborationSteps.{clear_5, clear_6, decides, more, refuses}
use Rattle.ygrammar.proofs.MeaningSteps.{all_productive, bare_same, symbols_counted, unproductive}
use Rattle.ygrammar.proofs.elaboration.refuse_rules.Goals as goal

pub refuse_unproductive-requires-clause-within : goal.refuse_unproductive-requires-clause-within
refuse_unproductive-requires-clause-within c = subst (λ k. c.args.named.now.tokens ≤ k)
    (sym c.len-symbols.ensures) c.requires.within

pub refuse_unproductive-requires-clause-in_range : goal.refuse_unproductive-requires-clause-in_range
refuse_unproductive-requires-clause-in_range c = subst (λ k. AreIn k c.args.rules.now)
    (sym c.len-symbols.ensures) c.requires.in_range

pub returns-in_err-refuse_unproductive-clause-decides : goal.returns-in_err-refuse_unproductive-clause-decides
returns-in_err-refuse_unproductive-clause-decides c = λ t o n vs start.
    let bare = bare_same t _ _ _ n.tokens_first
    (symbols_counted t _ _ n c.len-symbols.ensures) vs in
    refuses (λ r. Decides t r) t 5 mistakes.Unproductive c.in_err-refuse_unproductive.field-0.0 _
    (λ y f. f) refl c.from_residual.ensures.1 (clear_5 t _ n start)
    (unproductive t _ _ bare c.in_err-refuse_unproductive.ensures.fruitful)

pub returns-in_err-refuse_prec-clause-decides : goal.returns-in_err-refuse_prec-clause-decides
returns-in_err-refuse_prec-clause-decides c = λ t o n vs start.
    let bare = bare_same t _ _ _ n.tokens_first
    (symbols_counted t _ _ n c.len-symbols.ensures) vs in
    refuses (λ r. Decides t r) t 6 mistakes.BadPrec c.in_err-refuse_prec.field-0.0 _
    (λ y f. f) refl c.from_residual-in_err-refuse_prec.ensures.1
    (clear_6 t (clear_5 t _ n start) (all_productive t _ bare c.in_ok-refuse_unproductive.ensures.fruitful))
    (c.in_err-refuse_prec.ensures.clears t o n.names n.tokens_first)

pub returns-clause-decides : goal.returns-clause-decides
returns-clause-decides c = λ t o n vs start.
    let bare = bare_same t _ _ _ n.tokens_first
    (symbols_counted t _ _ n c.len-symbols.ensures) vs in
    let all = all_productive t _ bare c.in_ok-refuse_unproductive.ensures.fruitful in
    decides t c.refuse_limit.result (more t (take 6 order) mistakes.BadPrec
    (clear_6 t (clear_5 t _ n start) all)
    (c.in_ok-refuse_prec.ensures.clears t o n.names n.tokens_first)) all
    (c.refuse_limit.ensures.clears t n.names vs)

pub returns-in_err-refuse_unproductive-clause-place :
    goal.returns-in_err-refuse_unproductive-clause-place
returns-in_err-refuse_unproductive-clause-place c = λ t o n vs shows ds rs out.
    passes_place (IsPlaced t (ds ++ rs)) c.in_err-refuse_unproductive.field-0.0 _
    c.from_residual.ensures.1 (c.in_err-refuse_unproductive.ensures.place t o n.names
    (bare_same t _ _ _ n.tokens_first (symbols_counted t _ _ n c.len-symbols.ensures) vs)
    shows ds rs out)

pub returns-in_err-refuse_prec-clause-place : goal.returns-in_err-refuse_prec-clause-place
returns-in_err-refuse_prec-clause-place c = λ t o n vs shows ds rs out.
    passes_place (IsPlaced t (ds ++ rs)) c.in_err-refuse_prec.field-0.0 _
    c.from_residual-in_err-refuse_prec.ensures.1
    (c.in_err-refuse_prec.ensures.place t ds rs out n.names n.tokens_first)

pub returns-clause-place : goal.returns-clause-place
returns-clause-place c = λ t o n vs shows ds rs out. c.refuse_limit.ensures.place t (ds ++ rs)
