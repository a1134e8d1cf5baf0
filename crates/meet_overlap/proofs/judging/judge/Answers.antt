-- Proof of `judge`, src/judging.rt. Judges the calls of a concurrent history.
use Rattle.meet_overlap.specs.Reasons.{IsFound, IsReason}
use Rattle.meet_overlap.proofs.Refuting.{reason_refutes}
use Rattle.meet_overlap.proofs.judging.judge.Goals as goal

pub returns-in-Some-3-clause-no : goal.returns-in-Some-3-clause-no
returns-in-Some-3-clause-no c =
    let is : IsReason c.args.kind c.args.calls.now c.in-Some-3.reason = rw c.in-Some-3.is at c.in_ok-reason.ensures.is in
    let found : IsFound c.in-Some-3.reason = rw c.in-Some-3.is at c.in_ok-reason.ensures.found in
    reason_refutes c.args.kind c.args.calls.now c.in-Some-3.reason is found
