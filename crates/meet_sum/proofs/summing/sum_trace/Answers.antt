-- Proof of `sum_trace`, src/summing.rt. Reads a trace, of either format, and says what it holds.
use Rattle.std.proofs.Common.{None, sym, ap, subst, ◌∙◌}
use Rattle.std.specs.Io.KnownBytes.{Appends}
use Rattle.meet_run.specs.declared.text.faults.RunFault.{RunFault}
use Rattle.meet_run.specs.Tracing.Traces.{IsReadWith}
use Rattle.meet_run.specs.Texts.Writing.{AppendsPrefix}
use Rattle.meet_sum.proofs.SumsTold.{sum-short, sum-done}
use Rattle.meet_sum.proofs.summing.sum_trace.Goals as goal

pub returns-in-Ok-write_whole : goal.returns-in-Ok-write_whole
returns-in-Ok-write_whole g c =
    let trace = c.in_ok-trace.trace in
    let old = g.W.Write.contents c.args.writer.now in
    let new = g.W.Write.contents c.write_whole.new.writer in
    sum-done (g.R.Read.remaining c.args.reader.now) trace c.in_ok-trace.records.items c.in_ok-trace.ensures.read c.in-Ok.said.0 c.in-Ok.said.1.items
    (λ lines own. c.in-Ok.ensures.said lines (subst (IsReadWith lines trace) (sym c.as_slice.ensures.value) own)) old new
    (subst (λ t. Appends old new t) c.as_slice-2.ensures.value c.in-Ok-write_whole.ensures.ok)

pub returns : goal.returns
returns g c =
    let trace = c.in_ok-trace.trace in
    let old = g.W.Write.contents c.args.writer.now in
    let new = g.W.Write.contents c.write_whole.new.writer in
    sum-short (g.R.Read.remaining c.args.reader.now) trace c.in_ok-trace.records.items c.in_ok-trace.ensures.read c.in-Ok.said.0 c.in-Ok.said.1.items
    (λ lines own. c.in-Ok.ensures.said lines (subst (IsReadWith lines trace) (sym c.as_slice.ensures.value) own)) old new c.cut_short-in-Err-write_whole.result
    (c.cut_short-in-Err-write_whole.ensures ∙ ap (λ w. let x : RunFault = record { why = w; line = None } in x) c.in-Err-write_whole.ensures.fault)
    (subst (λ t. AppendsPrefix old new t) c.as_slice-2.ensures.value c.in-Err-write_whole.ensures.prefix)
