-- Proof of `reckon`, src/tally.rt. Where the items are that were given, by number, where these records and what is left
-- of the items are of one place, since its base.
use Rattle.std.proofs.Common.{refl, length}
use Rattle.meet_laws.proofs.Reckoned.{tally_is}
use Rattle.meet_laws.proofs.tally.reckon.Goals as goal

pub returns-clause-tally : goal.returns-clause-tally
returns-clause-tally g c = λ k mark w legal are.
    tally_is mark k c.args.base.now c.args.records.now c.args.left.now w legal are
    c.delivered-delivered.result c.rest_of-returned.result c.count_kept-kept.result c.saturating_sub-offered.result c.takers_met_on.result c.count_gots.result c.saturating_sub-awaiting.result c.count_others.result c.gave_on-gave.result (length c.args.records.now)
    c.delivered-delivered.ensures.met c.takers_met_on.ensures c.count_gots.ensures.count c.saturating_sub-awaiting.ensures c.count_kept-kept.ensures.count c.count_others.ensures.count c.saturating_sub-offered.ensures c.gave_on-gave.ensures refl c.rest_of-returned.ensures
