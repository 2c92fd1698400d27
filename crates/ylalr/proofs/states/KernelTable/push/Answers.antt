use Rattle.std.proofs.Common.{◌≡◌, ◌∙◌, ◌++◌, ◌∷◌, [], ℕ, List, Some, ap, length}
use Rattle.std.proofs.Common.{arith, subst, sym}
use Rattle.std.specs.HashMap.{UpdatesBy}
use Rattle.ylalr.specs.declared.items.Item.{Item}
use Rattle.ylalr.specs.States.{AreNumbered, kernels_of}
use Rattle.ylalr.proofs.KeySteps.{kernels_length, kernels_push, numbered_more, same_keys}
use Rattle.ylalr.proofs.states.KernelTable.push.Goals as goal

pub invariant_of-self-in-Ok : goal.invariant_of-self-in-Ok
invariant_of-self-in-Ok c =
    let vs = c.self.inside.kernels.items in
    let grown = ap kernels_of c.in_ok-push.ensures.items
    ∙ kernels_push vs c.in_ok-from_slice.field-0
    ∙ ap (λ (k : List Item). kernels_of vs ++ k ∷ []) c.in_ok-from_slice.ensures.items in
    let counted : c.len-number.result ≡ length (kernels_of vs) =
    omega (arith, c.len-number.ensures, c.self.inside.kernels.ok.0, kernels_length vs) in
    let updated = subst (λ (n : ℕ). UpdatesBy same_keys (same_keys c.in_ok-key.key)
    c.self.inside.numbers c.insert.new.self (Some n)) counted c.in-Ok.ensures.updates in
    subst (λ (ks : List (List Item)). AreNumbered ks c.insert.new.self) (sym grown)
    (numbered_more (kernels_of vs) c.self.inside.numbers c.insert.new.self c.in_ok-key.key
    c.args.kernel.now c.in_ok-key.ensures.items c.self.invariant updated)
