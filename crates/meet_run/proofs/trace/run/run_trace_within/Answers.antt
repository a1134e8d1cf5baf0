-- Proof of `run_trace_within`, src/trace/run.rt.
use Rattle.std.proofs.Common.{arith}
use Rattle.meet_run.specs.Scripts.Script.{fault_of}
use Rattle.meet_run.proofs.Texts.LineLemmas.{uses-more, uses-fewer}
use Rattle.meet_run.proofs.Scripts.Ran.{follows, bad_line-ends}
use Rattle.meet_run.proofs.Tracing.Recorded.{made-behind, made-faulty, made-lineless, traces-behind, traces-faulty, traces-lineless}
use Rattle.meet_run.proofs.trace.run.run_trace_within.Goals as goal

pub returns-in-Read-clause-trace : goal.returns-in-Read-clause-trace
returns-in-Read-clause-trace g c =
    traces-behind c.in-Read.setup (g.R.Read.remaining c.args.reader.now) (g.R.Read.remaining c.next_setup.new.reader) c.trace_calls.result (g.W.Write.contents c.args.writer.now) (g.W.Write.contents c.trace_calls.new.writer) c.in-Read.ensures.next.0 c.trace_calls.ensures.trace

pub returns-in-Read-clause-uses : goal.returns-in-Read-clause-uses
returns-in-Read-clause-uses g c =
    uses-fewer (g.R.Read.remaining c.args.reader.now) (g.R.Read.remaining c.trace_calls.new.reader) c.args.turns c.trace_calls.new.turns 0
    (uses-more (g.R.Read.remaining c.args.reader.now) (g.R.Read.remaining c.next_setup.new.reader) (g.R.Read.remaining c.trace_calls.new.reader) c.args.turns c.next_setup.new.turns c.trace_calls.new.turns c.next_setup.ensures.uses c.trace_calls.ensures.uses)
    (omega arith)

pub returns-in-Ended-clause-trace : goal.returns-in-Ended-clause-trace
returns-in-Ended-clause-trace g c =
    follows (g.R.Read.remaining c.args.reader.now)
    (λ input at text is. bad_line-ends c.at_line.result 1 (fault_of input) text text (g.W.Write.contents c.args.writer.now) (g.W.Write.contents c.args.writer.now) c.at_line.ensures (at.0, at.1 text is))
    (traces-lineless (g.R.Read.remaining c.args.reader.now) (g.W.Write.contents c.args.writer.now) c.in-Ended.ensures.next.0)

pub returns-in-Faulty-clause-trace : goal.returns-in-Faulty-clause-trace
returns-in-Faulty-clause-trace g c =
    follows (g.R.Read.remaining c.args.reader.now)
    (λ input at text is. bad_line-ends c.at_line-in-Faulty.result 1 (fault_of input) text text (g.W.Write.contents c.args.writer.now) (g.W.Write.contents c.args.writer.now) c.at_line-in-Faulty.ensures (at.0, at.1 text is))
    (traces-faulty (g.R.Read.remaining c.args.reader.now) (g.W.Write.contents c.args.writer.now) c.in-Faulty.ensures.next.0)

pub returns-in-Read-clause-made : goal.returns-in-Read-clause-made
returns-in-Read-clause-made g c = λ run. made-behind c.in-Read.setup (g.R.Read.remaining c.args.reader.now) (g.R.Read.remaining c.next_setup.new.reader) c.in-Read.ensures.next.0 (c.trace_calls.ensures.made run)

pub returns-in-Ended-clause-made : goal.returns-in-Ended-clause-made
returns-in-Ended-clause-made g c = λ run. made-lineless (g.R.Read.remaining c.args.reader.now) c.in-Ended.ensures.next.0

pub returns-in-Faulty-clause-made : goal.returns-in-Faulty-clause-made
returns-in-Faulty-clause-made g c = λ run. made-faulty (g.R.Read.remaining c.args.reader.now) c.in-Faulty.ensures.next.0
