-- If a reason is true of calls, no history explains them.
use Rattle.std.proofs.Common.{List}
use Rattle.meet_tickets.specs.declared.places.Kind.{Kind}
use Rattle.meet_tickets.specs.declared.records.Record.{Record}
use Rattle.meet_tickets.specs.declared.records.Deed.{Deed}
use Rattle.meet_overlap.specs.declared.calls.Call.{Call}
use Rattle.meet_overlap.specs.declared.reasons.Reason.{Reason}
use Rattle.meet_overlap.specs.declared.reasons.Reason.TheVariants.{Ungiven, Untaken, Overtaken, Doubled, Overlooked}
use Rattle.meet_overlap.specs.declared.reasons.Reason.TheVariants.{Missed, Passed, Stuck}
use Rattle.meet_overlap.specs.Explaining.{Explains}
use Rattle.meet_overlap.specs.Reasons.{IsReason, IsFound}
use Rattle.meet_overlap.proofs.Missing.{missed_explains}
use Rattle.meet_overlap.proofs.NeverGiven.{ungiven_explains}
use Rattle.meet_overlap.proofs.NeverTaken.{untaken_explains}
use Rattle.meet_overlap.proofs.Overlooking.{overlooked_explains}
use Rattle.meet_overlap.proofs.Overtaking.{overtaken_explains}
use Rattle.meet_overlap.proofs.Passing.{passed_explains}
use Rattle.meet_overlap.proofs.Twice.{doubled_explains}

pub reason_refutes : (k : Kind) (calls : List Call) (reason : Reason) → IsReason k calls reason → IsFound reason → (history : List (Record Deed)) → Explains k calls history → ⊥
reason_refutes k calls (Ungiven item taker giver) is found = ungiven_explains k calls is.0.0
reason_refutes k calls (Untaken item giver taker) is found = untaken_explains k calls is.0.0
reason_refutes k calls (Overtaken item taker kept giver) is found = overtaken_explains k calls is.0
reason_refutes k calls (Doubled item first second giver) is found = doubled_explains k calls is.0
reason_refutes k calls (Overlooked item taker giver) is found = overlooked_explains k calls is.0
reason_refutes k calls (Missed item caller waiting) is found = missed_explains k calls is.0
reason_refutes k calls (Passed item caller waiting held) is found = passed_explains k calls is.0
reason_refutes k calls (Stuck stuck) is found = absurd found
