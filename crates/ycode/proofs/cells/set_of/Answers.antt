use Rattle.std.proofs.Common.{◌≡◌, ◌∙◌, Bool, false, List, is_some, sym, subst}
use Rattle.ycode.specs.Bits.{HasSet, bytes_for, with_set, number_of}
use Rattle.ycode.specs.Policies.{always_at}
use Rattle.ycode.proofs.CellLoops.{set_zero, set_other, always_same, always_zero, other_same}
use Rattle.ycode.proofs.CellLoops.{other_number}
use Rattle.ycode.proofs.cells.set_of.Goals as goal

pub returns-then-is_always-clause-set : goal.returns-then-is_always-clause-set
returns-then-is_always-clause-set c = set_zero c.args.policy c.args.tables.now c.args.q c.args.usual
    c.args.sets.now c.requires.sets c.requires.usual (sym c.is_always.ensures ∙ c.if-is_always.true)

pub returns-then-is_always-clause-exact : goal.returns-then-is_always-clause-exact
returns-then-is_always-clause-exact c = always_same c.args.policy c.args.tables.now c.args.q
    c.args.sets.now (sym c.is_always.ensures ∙ c.if-is_always.true)

pub returns-then-is_always-clause-number : goal.returns-then-is_always-clause-number
returns-then-is_always-clause-number c = always_zero c.args.policy c.args.tables.now c.args.q
    c.args.sets.now (sym c.is_always.ensures ∙ c.if-is_always.true)

pub returns-clause-set : goal.returns-clause-set
returns-clause-set c =
    let p = c.args.policy in
    let v = c.args.tables.now in
    let e : is_some (always_at p v c.args.q) ≡ false = sym c.is_always.ensures ∙ c.if-is_always.false
    in
    set_other p v c.args.q c.args.usual c.in_ok-n.n c.args.sets.now c.put.new.self c.requires.sets
    c.in_ok-n.ensures.keeps e c.in_ok-n.ensures.other
    (subst (λ (x : List Bool). HasSet c.put.new.self c.in_ok-n.n x)
    (c.deref.ensures.value ∙ c.in_ok-members.ensures) c.in_ok-n.ensures.set) c.requires.usual

pub returns-clause-exact : goal.returns-clause-exact
returns-clause-exact c =
    let p = c.args.policy in
    let v = c.args.tables.now in
    let m = c.in_ok-members.members.items in
    let e : is_some (always_at p v c.args.q) ≡ false = sym c.is_always.ensures ∙ c.if-is_always.false
    in
    other_same p v c.args.q c.args.sets.now m c.requires.sets c.in_ok-members.ensures e
    c.put.new.self
    (subst (λ (x : List Bool). c.put.new.self ≡
    with_set c.args.sets.now (bytes_for c.args.sets.now.span x)) c.deref.ensures.value
    c.in_ok-n.ensures.exact)

pub returns-clause-number : goal.returns-clause-number
returns-clause-number c =
    let p = c.args.policy in
    let v = c.args.tables.now in
    let m = c.in_ok-members.members.items in
    let e : is_some (always_at p v c.args.q) ≡ false = sym c.is_always.ensures ∙ c.if-is_always.false
    in
    other_number p v c.args.q c.args.sets.now m c.requires.sets c.in_ok-members.ensures e
    c.put.new.self c.in_ok-n.n
    (subst (λ (x : List Bool). c.in_ok-n.n ≡
    number_of c.put.new.self (bytes_for c.args.sets.now.span x)) c.deref.ensures.value
    c.in_ok-n.ensures.number)
