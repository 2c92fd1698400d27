use Rattle.std.proofs.Common.{ℕ, ◌≡◌, ◌<◌, ◌≤◌, ◌+◌, ◌∙◌, List, Option, None, MatchOption, length}
use Rattle.std.proofs.Common.{ap, subst, sym, arith}
use Rattle.ylalr.specs.declared.items.Item.{Item}
use Rattle.ylalr.specs.Sets.{InRange, IsAscending}
use Rattle.ylalr.specs.States.{GotoIs, IsKernel, HasKernel, AddsOne, Finds, set_at}
use Rattle.ylalr.proofs.StateSteps.{extends_then}
use Rattle.ylalr.proofs.GotoSteps.{joins, Rowing, rowing_kept, rowing_skip, rowing_push, goto_kept}
use Rattle.ylalr.proofs.GotoSteps.{goto_none, goto_some}
use Rattle.ylalr.proofs.NumberSteps.{finds_more, finds_push}
use Rattle.ylalr.proofs.collection.gotos_of.Goals.{After-as_slice}
use Rattle.ylalr.proofs.collection.gotos_of.Goals as goal

pub fill-requires-clause-range : goal.fill-requires-clause-range
fill-requires-clause-range c = subst (InRange c.args.grammar.now.bare) (sym c.items.ensures)
    (c.requires.fit.states.are.each c.args.q c.requires.state).range

pub fill-requires-clause-order : goal.fill-requires-clause-order
fill-requires-clause-order c = subst IsAscending (sym c.items.ensures)
    (c.requires.fit.states.are.each c.args.q c.requires.state).order

within : (c : After-as_slice) → c.args.q < length c.loop-x.finder.states.closures
within c =
    let l = c.loop-x.invariant.extends.longer in let r = c.requires.state in omega arith

-- the kernels that the state leads to, in the states so far
kernels : (c : After-as_slice) (k : ℕ) → k < c.args.grammar.now.bare.symbols → IsKernel
    c.args.grammar.now.bare (set_at c.loop-x.finder.states.closures c.args.q) k
    (set_at c.fill.new.self.lists k)
kernels c k h =
    let g = c.args.grammar.now.bare in
    let v = set_at c.fill.new.self.lists k in
    subst (λ z. IsKernel g z k v) (sym (c.loop-x.invariant.extends.closures c.args.q
    c.requires.state)) (subst (λ z. IsKernel g z k v) c.items.ensures
    (c.in_ok-fill.ensures.kernels k h))

-- the kernel of the symbol
kernel : (c : After-as_slice) → IsKernel c.args.grammar.now.bare
    (set_at c.loop-x.finder.states.closures c.args.q) c.loop-x.x c.as_slice.result.now
kernel c = subst (IsKernel c.args.grammar.now.bare
    (set_at c.loop-x.finder.states.closures c.args.q) c.loop-x.x)
    (sym (c.as_slice.ensures ∙ c.list.ensures)) (kernels c c.loop-x.x
    (subst (λ t. c.loop-x.x < t) c.symbols-symbols.ensures.value c.loop-x-test.true))

pub number-requires-clause-kernel : goal.number-requires-clause-kernel
number-requires-clause-kernel c = λ n.
    let at = (goal.at.number-requires-clause-kernel c).After-as_slice in
    joins c.args.grammar.now.bare c.symbols-symbols.ensures.well_formed c.loop-x.finder.states
    c.args.q c.loop-x.x c.as_slice.result.now c.loop-x.invariant.fit.states.are (within at)
    (kernel at) n

pub loop-x-preserved-in-Some : goal.loop-x-preserved-in-Some
loop-x-preserved-in-Some c =
    let at = (goal.at.loop-x-preserved-in-Some c).After-as_slice in
    let g = c.args.grammar.now.bare in
    let s = c.loop-x.finder.states in
    let t = c.number.new.finder.states in
    let e = c.in_ok-n.ensures in
    let k = c.as_slice.result.now in
    let hk = subst (λ (o : Option ℕ). MatchOption o (length k ≡ 0) (λ n. HasKernel t k n))
    c.in-Some.is e.found in
    let nl : c.in-Some.n < length t.closures = subst (λ l. c.in-Some.n < l) e.fit.states.are.same
    hk.0 in
    let next = subst (λ (o : Option ℕ). AddsOne s o t) c.in-Some.is e.adds in
    let a = length c.args.finder.now.states.closures in
    record {
      fit = e.fit;
      extends = extends_then c.args.finder.now.states s t c.loop-x.invariant.extends e.extends;
      until = (let l = c.loop-x-test.true in omega arith);
      rowing = subst (Rowing g t c.args.q (c.loop-x.x + 1)) (sym c.in_ok-push.ensures)
          (rowing_push g t c.args.q c.loop-x.x c.in-Some.n c.loop-x.row
          (goto_some g s t c.args.q c.loop-x.x c.in-Some.n k (kernel at).advanced e.extends
          (within at) nl hk.1) (rowing_kept g s t c.args.q c.loop-x.x c.loop-x.row e.extends
          (within at) c.loop-x.invariant.rowing));
      finds = subst (λ row. Finds row a (length t.closures)) (sym c.in_ok-push.ensures)
          (finds_push c.loop-x.row a (length s.closures) c.loop-x.x c.in-Some.n
          c.loop-x.invariant.rowing.below c.loop-x.invariant.finds (length t.closures) next);
    }

pub loop-x-preserved : goal.loop-x-preserved
loop-x-preserved c =
    let at = (goal.at.loop-x-preserved c).After-as_slice in
    let g = c.args.grammar.now.bare in
    let q = c.args.q in
    let s = c.loop-x.finder.states in
    let t = c.number.new.finder.states in
    let x = c.loop-x.x in
    let n = c.after-x.result in
    let e = c.in_ok-n.ensures in
    let sized = c.in_ok-fill.ensures.sorted.sized in
    let range = c.after-x.ensures.within in
    let further = c.after-x.ensures.further in
    let value = c.symbols-symbols.ensures.value in
    let none : (k : ℕ) → x ≤ k → k < n → GotoIs g t q k None = (λ k a b.
    let hk : k < g.symbols = omega arith in
    goto_kept g s t q k None e.extends (within at) (goto_none g s q k
    (set_at c.fill.new.self.lists k) (kernels at k hk).advanced
    (ap (λ (v : List Item). length v) (c.after-x.ensures.none k a b)))) in
    record {
      fit = e.fit;
      extends = extends_then c.args.finder.now.states s t c.loop-x.invariant.extends e.extends;
      until = omega arith;
      rowing = rowing_skip g t q x n c.loop-x.row (omega arith) none
          (rowing_kept g s t q x c.loop-x.row e.extends (within at) c.loop-x.invariant.rowing);
      finds = finds_more c.loop-x.row (length c.args.finder.now.states.closures)
          (length s.closures) (length t.closures)
          (subst (λ (o : Option ℕ). AddsOne s o t) c.in_default.is e.adds)
          c.loop-x.invariant.finds;
    }
