-- Proof of `trace_pool_within`, src/trace.rt.
use Rattle.std.proofs.Common.{arith, inr, refl, ap, subst, sym, Err}
use Rattle.std.proofs.lemmas.Result.{err_from_is_err_and}
use Rattle.meet_tickets.specs.declared.refusals.Refusal.TheVariants.{ReadFault}
use Rattle.meet_run.specs.declared.text.faults.RunFault.{RunFault}
use Rattle.meet_run.proofs.Texts.LineLemmas.{uses-more, uses-fewer}
use Rattle.meet_run.proofs.Scripts.Ran.{appends-nothing}
use Rattle.pool_run.proofs.Headed.{text-behind, text-headless, text-lineless, text-none}
use Rattle.pool_run.proofs.Tracing.{traces-none}
use Rattle.pool_run.specs.Scripts.{IsHeadless, TracesTo}
use Rattle.pool_run.proofs.trace.trace_pool_within.Goals as goal

pub returns-in-Read-clause-trace : goal.returns-in-Read-clause-trace
returns-in-Read-clause-trace g c =
    text-behind TracesTo (g.R.Read.remaining c.args.reader.now) (g.R.Read.remaining c.next_settings.new.reader) c.in-Read.settings c.trace_requests.result (g.W.Write.contents c.args.writer.now) (g.W.Write.contents c.trace_requests.new.writer) c.in-Read.ensures.next.0 c.trace_requests.ensures.trace

pub returns-in-Read-clause-uses : goal.returns-in-Read-clause-uses
returns-in-Read-clause-uses g c =
    uses-fewer (g.R.Read.remaining c.args.reader.now) (g.R.Read.remaining c.trace_requests.new.reader) c.args.turns c.trace_requests.new.turns 0
    (uses-more (g.R.Read.remaining c.args.reader.now) (g.R.Read.remaining c.next_settings.new.reader) (g.R.Read.remaining c.trace_requests.new.reader) c.args.turns c.next_settings.new.turns c.trace_requests.new.turns c.next_settings.ensures.uses c.trace_requests.ensures.uses)
    (omega arith)

pub returns-in-Ended-clause-trace : goal.returns-in-Ended-clause-trace
returns-in-Ended-clause-trace g c =
    text-lineless TracesTo (g.R.Read.remaining c.args.reader.now) (Err c.at_line.result) (g.W.Write.contents c.args.writer.now) (g.W.Write.contents c.args.writer.now) c.in-Ended.ensures.next.0 (subst (λ f. IsHeadless (Err f) (g.W.Write.contents c.args.writer.now) (g.W.Write.contents c.args.writer.now)) (sym c.at_line.ensures) (refl, appends-nothing (g.W.Write.contents c.args.writer.now)))

pub returns-in-Faulty-clause-trace : goal.returns-in-Faulty-clause-trace
returns-in-Faulty-clause-trace g c =
    text-headless TracesTo (g.R.Read.remaining c.args.reader.now) (Err c.at_line-in-Faulty.result) (g.W.Write.contents c.args.writer.now) (g.W.Write.contents c.args.writer.now) c.in-Faulty.ensures.next.0 (subst (λ f. IsHeadless (Err f) (g.W.Write.contents c.args.writer.now) (g.W.Write.contents c.args.writer.now)) (sym c.at_line-in-Faulty.ensures) (refl, appends-nothing (g.W.Write.contents c.args.writer.now)))

pub returns-in_err-line-clause-trace : goal.returns-in_err-line-clause-trace
returns-in_err-line-clause-trace g c =
    let failed = err_from_is_err_and c.from_residual.result c.from_residual.ensures.1 in
    let fault = c.in_err-line.field-0.0 in
    let unread = c.in_err-line.ensures.faults.0 in
    rw (failed.1, failed.2) (text-none TracesTo (g.R.Read.remaining c.args.reader.now) fault fault.why (g.W.Write.contents c.args.writer.now) (ap (λ l. let x : RunFault = record { why = fault.why; line = l } in x) c.in_err-line.ensures.faults.1) unread (λ s lines. traces-none s lines fault.why (g.W.Write.contents c.args.writer.now) unread))

pub returns-clause-trace : goal.returns-clause-trace
returns-clause-trace g c =
    text-none TracesTo (g.R.Read.remaining c.args.reader.now) c.cut_short.result ReadFault (g.W.Write.contents c.args.writer.now) c.cut_short.ensures (inr refl) (λ s lines. traces-none s lines ReadFault (g.W.Write.contents c.args.writer.now) (inr refl))
