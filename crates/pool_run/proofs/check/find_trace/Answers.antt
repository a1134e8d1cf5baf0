-- Proof of `find_trace`, src/check.rt. Reads a whole trace, and says what is found of it, and the line that says so.
use Rattle.std.proofs.Common.{arith}
use Rattle.meet_run.proofs.Texts.LineLemmas.{uses-more, uses-fewer}
use Rattle.meet_run.proofs.Tracing.TraceReading.{err-follows}
use Rattle.pool_run.proofs.Checked.{fault-behind, fault-lineless, fault-headless}
use Rattle.pool_run.proofs.check.find_trace.Goals as goal

pub returns-in-Ended-clause-bad : goal.returns-in-Ended-clause-bad
returns-in-Ended-clause-bad g c = fault-lineless (g.R.Read.remaining c.args.reader.now) c.at_line.result c.at_line.ensures c.in-Ended.ensures.next.0

pub returns-in-Faulty-clause-bad : goal.returns-in-Faulty-clause-bad
returns-in-Faulty-clause-bad g c = fault-headless (g.R.Read.remaining c.args.reader.now) c.at_line-in-Faulty.result c.at_line-in-Faulty.ensures c.in-Faulty.ensures.next.0

pub returns-in-Read-clause-bad : goal.returns-in-Read-clause-bad
returns-in-Read-clause-bad g c =
    err-follows c.find_records.result (λ f names. fault-behind (g.R.Read.remaining c.args.reader.now) (g.R.Read.remaining c.next_pool_head.new.reader) c.in-Read.settings f c.in-Read.ensures.next.0 names) c.find_records.ensures.bad

pub returns-in-Read-clause-uses : goal.returns-in-Read-clause-uses
returns-in-Read-clause-uses g c =
    uses-fewer (g.R.Read.remaining c.args.reader.now) (g.R.Read.remaining c.find_records.new.reader) c.args.turns c.find_records.new.turns 0
    (uses-more (g.R.Read.remaining c.args.reader.now) (g.R.Read.remaining c.next_pool_head.new.reader) (g.R.Read.remaining c.find_records.new.reader) c.args.turns c.next_pool_head.new.turns c.find_records.new.turns c.next_pool_head.ensures.uses c.find_records.ensures.uses)
    (omega arith)
