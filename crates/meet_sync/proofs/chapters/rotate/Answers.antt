-- Proof of `rotate`, src/chapters.rt. A checkpoint of a place that hands out what it folds away.
use Rattle.meet_sync.proofs.Reasons.{cut_why}
use Rattle.meet_sync.proofs.chapters.rotate.Goals as goal

pub returns-clause-why : goal.returns-clause-why
returns-clause-why g c = cut_why _ _ g.O.Object.gone_of c.locked_rotate.result c.locked_rotate.ensures.why
