use Rattle.std.proofs.Common.{◌<◌, length, sym, subst}
use Rattle.ylalr.specs.Collection.{Collection}
use Rattle.yprovenance.specs.declared.reason.Cause.TheVariants.{Starts}
use Rattle.yprovenance.specs.declared.trail.Entry.{Entry}
use Rattle.yprovenance.specs.Trail.{IsTrail}
use Rattle.yprovenance.proofs.TrailSteps.{one_trail}
use Rattle.yprovenance.proofs.reasons.Reasons.chain.Goals as goal

pub search-requires-clause-trail : goal.search-requires-clause-trail
search-requires-clause-trail c =
    let m = c.self.inside.automaton.now in
    let l = c.looks.ensures.0 c.if-not-looks.false in
    let e : Entry = record {
      place = record { state = c.args.q; item = c.args.item };
      cause = Starts;
      gives = 0;
    } in
    subst (IsTrail m) (sym c.in_ok-trail.ensures) (one_trail m e (record {
      state = subst (λ (x : Collection). c.args.q < length x.states) (sym c.self.view_is)
          c.requires.state;
      item = (l.core c.args.item).1 (c.args.t, l.valid);
    }))
