use Rattle.aftr_engine.proofs.Attributed.{answered}
use Rattle.aftr_engine.proofs.engine.stops_are_answered.Goals as goal

pub returns : goal.returns
returns c = answered c.closings_keep_names.ensures.believed c.closings_keep_names.ensures.kept c.closings_keep_names.ensures.recovered
