-- Proof of `trace_calls`, src/trace/run.rt. Makes the calls behind the first line, and writes their trace.
use Rattle.meet_run.proofs.Tracing.Recorded.{has-trace, traces-ended, traces-bad, traces-cut}
use Rattle.meet_run.proofs.trace.run.trace_calls.Goals as goal

pub returns-in-Err-write_run-clause-trace : goal.returns-in-Err-write_run-clause-trace
returns-in-Err-write_run-clause-trace g c =
    traces-cut c.args.setup (g.R.Read.remaining c.args.reader.now) c.in-Ok.traced.cut c.in-Ok.traced.base c.in-Ok.traced.records.items c.in-Ok.traced.fault (g.W.Write.contents c.args.writer.now) (g.W.Write.contents c.write_run.new.writer) c.cut_short-in-Err-write_run.result c.in-Err-write_run.why c.cut_short-in-Err-write_run.ensures c.in-Err-write_run.ensures.why c.in-Ok.ensures.records c.write_run.ensures.prefix

pub returns-in-None-clause-trace : goal.returns-in-None-clause-trace
returns-in-None-clause-trace g c =
    traces-ended c.args.setup (g.R.Read.remaining c.args.reader.now) c.in-Ok.traced.cut c.in-Ok.traced.base c.in-Ok.traced.records.items c.in-Ok.traced.fault (g.W.Write.contents c.args.writer.now) (g.W.Write.contents c.write_run.new.writer) c.in-Ok.ensures.records c.in-None.is c.in-Ok-write_run.ensures.written

pub returns-clause-trace : goal.returns-clause-trace
returns-clause-trace g c =
    traces-bad c.args.setup (g.R.Read.remaining c.args.reader.now) c.in-Ok.traced.cut c.in-Ok.traced.base c.in-Ok.traced.records.items c.in-Ok.traced.fault (g.W.Write.contents c.args.writer.now) (g.W.Write.contents c.write_run.new.writer) c.at_line.result c.in-Some.number c.at_line.ensures c.in-Ok.ensures.records c.in-Some.is c.in-Ok-write_run.ensures.written

pub returns-in-None-clause-made : goal.returns-in-None-clause-made
returns-in-None-clause-made g c = λ run. has-trace c.args.setup (g.R.Read.remaining c.args.reader.now) c.in-Ok.traced.cut c.in-Ok.traced.base c.in-Ok.traced.records.items c.in-Ok.traced.fault c.in-Ok.ensures.records

pub returns-clause-made : goal.returns-clause-made
returns-clause-made g c = λ run. has-trace c.args.setup (g.R.Read.remaining c.args.reader.now) c.in-Ok.traced.cut c.in-Ok.traced.base c.in-Ok.traced.records.items c.in-Ok.traced.fault c.in-Ok.ensures.records
