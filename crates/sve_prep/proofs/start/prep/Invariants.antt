use Rattle.std.proofs.Common.{cond, suc}
use Rattle.sve_prep.specs.Expansion.{expand, fresh, left}
use Rattle.sve_prep.specs.View.{view}
use Rattle.sve_prep.specs.Under.{IsUnderWay}
use Rattle.sve_prep.proofs.start.prep.Given as goal

abbrev pub invariant-steps : goal.invariant-steps
invariant-steps g l = record {
  under : IsUnderWay l.on (g.T.Texts.tells l.fn.texts) (g.T.Texts.tells l.texts) (λ told. expand told fresh (g.T.Texts.asked l.fn.texts) l.root) (view l.work (g.T.Texts.asked l.texts)) (g.T.Texts.halted l.fn.texts) (g.T.Texts.halted l.texts) (g.T.Texts.stops l.fn.texts) (g.T.Texts.stops l.texts);
  keeps : g.T.Texts.keeps l.fn.texts l.texts;
}

abbrev pub decreases-steps : goal.decreases-steps
decreases-steps g l = cond l.on (suc (left (view l.work (g.T.Texts.asked l.texts)))) 0
