use Rattle.std.proofs.Common.{◌∙◌, ℕ, List, Option, MatchOption, subst, sym}
use Rattle.ylalr.specs.declared.items.Item.{Item}
use Rattle.std.specs.HashMap.{get_by}
use Rattle.ylalr.specs.States.{IsKernelAt, Lacks, same_items}
use Rattle.ylalr.proofs.KeySteps.{none_there, some_at}
use Rattle.ylalr.proofs.states.KernelTable.find.Goals as goal
use Rattle.ylalr.proofs.states.KernelTable.find.Goals.{After-copied}

-- what was found, of the kernels
found : (c : After-copied) → MatchOption c.copied.result
    (Lacks c.args.self.now c.args.kernel.now) (IsKernelAt c.args.self.now c.args.kernel.now)
found c =
    let k = c.args.kernel.now in
    let o = get_by (λ v. same_items k v.items) c.self.inside.numbers in
    subst (λ (o : Option ℕ). MatchOption o (Lacks c.args.self.now k) (IsKernelAt c.args.self.now k))
    (sym (c.copied.ensures ∙ c.get.ensures.value))
    (subst (λ (ks : List (List Item)). MatchOption o (Lacks ks k) (IsKernelAt ks k))
    c.self.view_is (c.self.invariant k))

pub returns-clause-found : goal.returns-clause-found
returns-clause-found c = some_at c.copied.result _ _ (found c)

pub returns-clause-lacks : goal.returns-clause-lacks
returns-clause-lacks c = none_there c.copied.result _ _ (found c)
