-- Proof of `trace_requests`, src/trace.rt. Writes the trace of the calls behind a script's first line.
use Rattle.std.proofs.Common.{◌≡◌, ◌++◌, subst, sym, ap, ◌∙◌, take, Err, Some}
use Rattle.std.proofs.lemmas.List.{take-append-drop}
use Rattle.std.specs.Prelude.{IfSome}
use Rattle.std.specs.Io.KnownBytes.{Appends}
use Rattle.meet_tickets.specs.declared.refusals.Refusal.TheVariants.{BadLine}
use Rattle.meet_run.specs.Texts.Reading.{lines_of}
use Rattle.meet_run.specs.Texts.Writing.{AppendsPrefix}
use Rattle.pool_run.specs.Scripts.{pool_trace_text, TracesTo, AreMade, IsScriptFault}
use Rattle.pool_run.proofs.Came.{everywhere}
use Rattle.pool_run.proofs.Running.{outside, by-fault}
use Rattle.pool_run.proofs.Tracing.{traces-unmade, traces-half, traces-all, traces-some, unmade-fault}
use Rattle.pool_run.proofs.trace.trace_requests.Goals as goal

pub returns-in-Err-clause-trace : goal.returns-in-Err-clause-trace
returns-in-Err-clause-trace g c =
    by-fault (λ lines r. TracesTo c.args.settings lines r (g.W.Write.contents c.args.writer.now) (g.W.Write.contents c.args.writer.now)) (g.R.Read.remaining c.args.reader.now) c.cut_short.result (outside c.in-Err.why) c.cut_short.ensures (everywhere (g.R.Read.remaining c.args.reader.now) (λ xs. TracesTo c.args.settings (lines_of xs) (Err (outside c.in-Err.why)) (g.W.Write.contents c.args.writer.now) (g.W.Write.contents c.args.writer.now)) (λ xs. traces-unmade c.args.settings (lines_of xs) c.in-Err.why (g.W.Write.contents c.args.writer.now) c.in-Err.ensures.why))

pub returns-in-Err-write_pool_trace-clause-trace : goal.returns-in-Err-write_pool_trace-clause-trace
returns-in-Err-write_pool_trace-clause-trace g c =
    let t = c.in-Ok.left.0 in
    let whole : c.past.result.now ++ c.since.result.now ≡ t.written = ap (λ x. x ++ c.since.result.now) c.past.ensures ∙ (ap (λ x. take t.gone t.written ++ x) c.since.ensures ∙ take-append-drop t.gone t.written) in
    by-fault (λ lines r. TracesTo c.args.settings lines r (g.W.Write.contents c.args.writer.now) (g.W.Write.contents c.write_pool_trace.new.writer)) (g.R.Read.remaining c.args.reader.now) c.cut_short-in-Err-write_pool_trace.result (outside c.in-Err-write_pool_trace.why) c.cut_short-in-Err-write_pool_trace.ensures (traces-half c.args.settings (g.R.Read.remaining c.args.reader.now) c.in-Ok.left.0 c.in-Ok.left.1 c.in-Err-write_pool_trace.why (g.W.Write.contents c.args.writer.now) (g.W.Write.contents c.write_pool_trace.new.writer) c.in-Ok.ensures.made c.in-Err-write_pool_trace.ensures.why (subst (λ rs. AppendsPrefix (g.W.Write.contents c.args.writer.now) (g.W.Write.contents c.write_pool_trace.new.writer) (pool_trace_text c.args.settings rs)) whole c.write_pool_trace.ensures.prefix))

pub returns-in-None-clause-trace : goal.returns-in-None-clause-trace
returns-in-None-clause-trace g c =
    let t = c.in-Ok.left.0 in
    let whole : c.past.result.now ++ c.since.result.now ≡ t.written = ap (λ x. x ++ c.since.result.now) c.past.ensures ∙ (ap (λ x. take t.gone t.written ++ x) c.since.ensures ∙ take-append-drop t.gone t.written) in
    traces-all c.args.settings (g.R.Read.remaining c.args.reader.now) c.in-Ok.left.0 (g.W.Write.contents c.args.writer.now) (g.W.Write.contents c.write_pool_trace.new.writer) (subst (λ o. IfSome (g.R.Read.remaining c.args.reader.now) (λ xs. AreMade c.args.settings (lines_of xs) c.in-Ok.left.0 o)) c.in-None.is c.in-Ok.ensures.made) (subst (λ rs. Appends (g.W.Write.contents c.args.writer.now) (g.W.Write.contents c.write_pool_trace.new.writer) (pool_trace_text c.args.settings rs)) whole c.in-Ok-write_pool_trace.ensures.written)

pub returns-clause-trace : goal.returns-clause-trace
returns-clause-trace g c =
    let t = c.in-Ok.left.0 in
    let whole : c.past.result.now ++ c.since.result.now ≡ t.written = ap (λ x. x ++ c.since.result.now) c.past.ensures ∙ (ap (λ x. take t.gone t.written ++ x) c.since.ensures ∙ take-append-drop t.gone t.written) in
    by-fault (λ lines r. TracesTo c.args.settings lines r (g.W.Write.contents c.args.writer.now) (g.W.Write.contents c.write_pool_trace.new.writer)) (g.R.Read.remaining c.args.reader.now) c.at_line.result (record { why = BadLine; line = Some c.in-Some.number }) c.at_line.ensures (traces-some c.args.settings (g.R.Read.remaining c.args.reader.now) c.in-Ok.left.0 c.in-Some.number (g.W.Write.contents c.args.writer.now) (g.W.Write.contents c.write_pool_trace.new.writer) (subst (λ o. IfSome (g.R.Read.remaining c.args.reader.now) (λ xs. AreMade c.args.settings (lines_of xs) c.in-Ok.left.0 o)) c.in-Some.is c.in-Ok.ensures.made) (subst (λ rs. Appends (g.W.Write.contents c.args.writer.now) (g.W.Write.contents c.write_pool_trace.new.writer) (pool_trace_text c.args.settings rs)) whole c.in-Ok-write_pool_trace.ensures.written))

pub returns-in-Err-clause-faults : goal.returns-in-Err-clause-faults
returns-in-Err-clause-faults g c =
    subst IsScriptFault (sym c.cut_short.ensures) (unmade-fault c.args.settings c.in-Err.why c.in-Err.ensures.why)
