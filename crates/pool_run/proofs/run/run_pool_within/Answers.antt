-- Proof of `run_pool_within`, src/run.rt. Runs the pool's script that this reader gives, and writes its replies: the
-- first line names what the pool is made with, each other line is a call.
use Rattle.std.proofs.Common.{arith, inr, refl, ap, subst, sym, Err}
use Rattle.std.proofs.lemmas.Result.{err_from_is_err_and}
use Rattle.meet_tickets.specs.declared.refusals.Refusal.TheVariants.{ReadFault}
use Rattle.meet_run.specs.declared.text.faults.RunFault.{RunFault}
use Rattle.meet_run.proofs.Texts.LineLemmas.{uses-more, uses-fewer}
use Rattle.meet_run.proofs.Scripts.Ran.{appends-nothing}
use Rattle.pool_run.proofs.Headed.{text-behind, text-headless, text-lineless, text-none}
use Rattle.pool_run.proofs.Running.{runs-none}
use Rattle.pool_run.specs.Scripts.{IsHeadless, RunsTo}
use Rattle.pool_run.proofs.run.run_pool_within.Goals as goal

pub returns-in-Read-clause-script : goal.returns-in-Read-clause-script
returns-in-Read-clause-script g c =
    text-behind RunsTo (g.R.Read.remaining c.args.reader.now) (g.R.Read.remaining c.next_settings.new.reader) c.in-Read.settings c.run_requests.result (g.W.Write.contents c.args.writer.now) (g.W.Write.contents c.run_requests.new.writer) c.in-Read.ensures.next.0 c.run_requests.ensures.script

pub returns-in-Read-clause-uses : goal.returns-in-Read-clause-uses
returns-in-Read-clause-uses g c =
    uses-fewer (g.R.Read.remaining c.args.reader.now) (g.R.Read.remaining c.run_requests.new.reader) c.args.turns c.run_requests.new.turns 0
    (uses-more (g.R.Read.remaining c.args.reader.now) (g.R.Read.remaining c.next_settings.new.reader) (g.R.Read.remaining c.run_requests.new.reader) c.args.turns c.next_settings.new.turns c.run_requests.new.turns c.next_settings.ensures.uses c.run_requests.ensures.uses)
    (omega arith)

pub returns-in-Ended-clause-script : goal.returns-in-Ended-clause-script
returns-in-Ended-clause-script g c =
    text-lineless RunsTo (g.R.Read.remaining c.args.reader.now) (Err c.at_line.result) (g.W.Write.contents c.args.writer.now) (g.W.Write.contents c.args.writer.now) c.in-Ended.ensures.next.0 (subst (λ f. IsHeadless (Err f) (g.W.Write.contents c.args.writer.now) (g.W.Write.contents c.args.writer.now)) (sym c.at_line.ensures) (refl, appends-nothing (g.W.Write.contents c.args.writer.now)))

pub returns-in-Faulty-clause-script : goal.returns-in-Faulty-clause-script
returns-in-Faulty-clause-script g c =
    text-headless RunsTo (g.R.Read.remaining c.args.reader.now) (Err c.at_line-in-Faulty.result) (g.W.Write.contents c.args.writer.now) (g.W.Write.contents c.args.writer.now) c.in-Faulty.ensures.next.0 (subst (λ f. IsHeadless (Err f) (g.W.Write.contents c.args.writer.now) (g.W.Write.contents c.args.writer.now)) (sym c.at_line-in-Faulty.ensures) (refl, appends-nothing (g.W.Write.contents c.args.writer.now)))

pub returns-in_err-line-clause-script : goal.returns-in_err-line-clause-script
returns-in_err-line-clause-script g c =
    let failed = err_from_is_err_and c.from_residual.result c.from_residual.ensures.1 in
    let fault = c.in_err-line.field-0.0 in
    let unread = c.in_err-line.ensures.faults.0 in
    rw (failed.1, failed.2) (text-none RunsTo (g.R.Read.remaining c.args.reader.now) fault fault.why (g.W.Write.contents c.args.writer.now) (ap (λ l. let x : RunFault = record { why = fault.why; line = l } in x) c.in_err-line.ensures.faults.1) unread (λ s lines. runs-none s lines fault.why (g.W.Write.contents c.args.writer.now) unread))

pub returns-clause-script : goal.returns-clause-script
returns-clause-script g c =
    text-none RunsTo (g.R.Read.remaining c.args.reader.now) c.cut_short.result ReadFault (g.W.Write.contents c.args.writer.now) c.cut_short.ensures (inr refl) (λ s lines. runs-none s lines ReadFault (g.W.Write.contents c.args.writer.now) (inr refl))
