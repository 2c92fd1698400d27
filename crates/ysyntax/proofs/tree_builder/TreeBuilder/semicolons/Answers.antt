use Rattle.std.proofs.Common.{◌∙◌, refl, subst, arith}
use Rattle.ysyntax.specs.declared.recogniser.State.TheVariants.{Semicolons}
use Rattle.ysyntax.proofs.TreeSteps.{Goes, one_more_semicolon}
use Rattle.ysyntax.proofs.tree_builder.TreeBuilder.semicolons.Goals as goal

pub semicolons-init : goal.semicolons-init
semicolons-init c = record {
  counted = (0, refl, omega arith);
  sites = refl;
  goes_on = c.requires;
  stands = λ source h. h;
}

pub semicolons-preserved : goal.semicolons-preserved
semicolons-preserved c = record {
  counted = one_more_semicolon c.args.self.now c.semicolons.self c.sign.new.self
      c.semicolons.invariant.counted c.semicolons-test.ensures.taken;
  sites = c.semicolons.invariant.sites ∙ c.semicolons-test.ensures.sites (λ e. cc);
  goes_on = subst (Goes Semicolons) c.semicolons-test.ensures.taken c.semicolons.invariant.goes_on;
  stands = λ source h. c.semicolons-test.ensures.stands source
      (c.semicolons.invariant.stands source h);
}

pub returns-clause-stands : goal.returns-clause-stands
returns-clause-stands c = λ source h.
    c.semicolons-test.ensures.stands source (c.semicolons.invariant.stands source h)
