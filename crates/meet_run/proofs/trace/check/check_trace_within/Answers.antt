-- Proof of `check_trace_within`, src/trace/check.rt. Checks the trace that this reader gives.
use Rattle.std.proofs.Common.{None, ap, subst, ◌∙◌}
use Rattle.std.proofs.lemmas.Result.{err_from_is_err_and}
use Rattle.meet_run.specs.declared.text.faults.RunFault.{RunFault}
use Rattle.meet_run.specs.Texts.Writing.{AppendsPrefix}
use Rattle.meet_run.proofs.Tracing.TraceReading.{check-unread, check-broken}
use Rattle.meet_run.proofs.trace.check.check_trace_within.Goals as goal

pub returns-in_err-legal-clause-check : goal.returns-in_err-legal-clause-check
returns-in_err-legal-clause-check g c =
    let failed = err_from_is_err_and c.from_residual.result c.from_residual.ensures.1 in
    rw (failed.1, failed.2) (check-unread (g.R.Read.remaining c.args.reader.now) (g.W.Write.contents c.args.writer.now) c.in_err-legal.field-0.0 c.in_err-legal.ensures.faults c.in_err-legal.ensures.bad)

pub returns-clause-check : goal.returns-clause-check
returns-clause-check g c =
    check-broken (g.R.Read.remaining c.args.reader.now) (g.W.Write.contents c.args.writer.now) (g.W.Write.contents c.write_whole.new.writer) c.cut_short.result c.in_ok-legal.legal c.in_ok-legal.text.items
    (c.cut_short.ensures ∙ ap (λ w. let x : RunFault = record { why = w; line = None } in x) c.in-Err.ensures.fault) c.in_ok-legal.ensures.found
    (subst (λ t. AppendsPrefix (g.W.Write.contents c.args.writer.now) (g.W.Write.contents c.write_whole.new.writer) t) c.as_slice.ensures.value c.in-Err.ensures.prefix)
