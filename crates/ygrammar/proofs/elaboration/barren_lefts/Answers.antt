use Rattle.ygrammar.proofs.elaboration.barren_lefts.Goals as goal

pub returns : goal.returns
returns c = c.barren_among.ensures _ _ c.in_ok-outline.ensures.sites
