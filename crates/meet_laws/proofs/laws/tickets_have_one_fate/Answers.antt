-- Proof of `tickets_have_one_fate`, src/laws.rt. Each ticket has one fate: the one whose row of the table its records
-- fit, and no other.
use Rattle.meet_laws.proofs.Rows.{one_fate}
use Rattle.meet_laws.proofs.laws.tickets_have_one_fate.Goals as goal

pub returns : goal.returns
returns c = one_fate
