-- Proof of `Checker::ends_at`, src/checker/ends.rt. Whether this base is the one that stands for the base that the
-- checker began with and all records that were pushed: just this one is.
use Rattle.meet_history.proofs.Ends.{end-told}
use Rattle.meet_history.proofs.checker.Checker.ends_at.Goals as goal

pub returns-clause-ends : goal.returns-clause-ends
returns-clause-ends c = end-told c.args.self.now _ c.args.base.now c.is_same.result c.in_ok-own.ensures.sound c.in_ok-own.ensures.base c.is_same.ensures
