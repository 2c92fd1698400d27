use Rattle.std.proofs.Common.{◌<◌, [], ◌∷◌, length, get_or, arith}
use Rattle.ysymbols.specs.Forms.{Nullable}
use Rattle.ysymbols.specs.Derivation.{done}
use Rattle.ylalr.specs.Collection.{bare_of}
use Rattle.yprovenance.proofs.FrontSteps.{first_none, first_there, first_stops, null_stops}
use Rattle.yprovenance.proofs.FrontSteps.{null_more, first_more}
use Rattle.yprovenance.proofs.front.front_of.Goals as goal

pub loop-s-init : goal.loop-s-init
loop-s-init c = record {
  vanished = done;
  none = first_none (bare_of c.args.automaton.now) c.args.token;
}

pub returns-then-in_first : goal.returns-then-in_first
returns-then-in_first c =
    let h : c.loop-s.s-index < length c.args.form.now = omega arith in
    first_there (bare_of c.args.automaton.now) c.args.token c.args.form.now c.loop-s.s-index h
    c.loop-s.invariant.vanished (c.in_first.ensures.0 c.if-in_first.true)

pub returns-then-not-nullable : goal.returns-then-not-nullable
returns-then-not-nullable c =
    let g = bare_of c.args.automaton.now in
    let x = c.args.form.now in
    let k = c.loop-s.s-index in
    let h : k < length x = omega arith in
    let nullable : Nullable g (get_or x k 0 ∷ []) → ⊥ = λ n. let t = c.nullable.ensures.1 n in let f = c.if-not-nullable.true in cc in (
      first_stops g c.args.token x k h c.loop-s.invariant.none
          (λ f. let t = c.in_first.ensures.1 f in let e = c.if-in_first.false in cc) nullable,
      null_stops g c.args.token x k h nullable,
    )

pub loop-s-preserved : goal.loop-s-preserved
loop-s-preserved c =
    let g = bare_of c.args.automaton.now in
    let x = c.args.form.now in
    let k = c.loop-s.s-index in
    let h : k < length x = omega arith in
    record {
      vanished = null_more g c.args.token x k h c.loop-s.invariant.vanished
          (c.nullable.ensures.0 c.if-not-nullable.false);
      none = first_more g c.args.token x k h c.loop-s.invariant.none
          (λ f. let t = c.in_first.ensures.1 f in let e = c.if-in_first.false in cc);
    }
