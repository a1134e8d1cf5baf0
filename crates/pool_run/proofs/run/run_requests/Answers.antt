-- Proof of `run_requests`, src/run.rt. Runs the calls behind the first line.
use Rattle.std.proofs.Common.{inl, inr, subst, sym, arith, ◌+◌, Err, Some, refl}
use Rattle.std.specs.Prelude.{IfSome}
use Rattle.meet_tickets.specs.declared.refusals.Refusal.TheVariants.{BadLine, ReadFault}
use Rattle.meet_run.proofs.Texts.LineLemmas.{uses-more, uses-none, ends-in-turns, at-end-before}
use Rattle.meet_run.proofs.Scripts.Ran.{appends-nothing}
use Rattle.meet_run.specs.Texts.Reading.{lines_of}
use Rattle.pool_run.specs.Scripts.{RunsTo, IsScriptFault}
use Rattle.pool_run.proofs.Came.{everywhere}
use Rattle.pool_run.proofs.Running.{outside, by-fault, under-none, under-more, runs-ended, runs-cut_last, runs-faulty, runs-cut, runs-half, runs-unmade, runs-unread, refused-fault}
use Rattle.pool_run.proofs.run.run_requests.Goals as goal

pub loop-request-init : goal.loop-request-init
loop-request-init g c = record {
  under = under-none c.args.settings (g.R.Read.remaining c.args.reader.now) (g.W.Write.contents c.args.writer.now) c.in-Ok.stepper c.in-Ok.ensures.fresh;
  uses = uses-none (g.R.Read.remaining c.args.reader.now) c.args.turns.now c.args.turns.now (omega arith);
  few = omega arith;
  room = c.requires.room;
}

pub loop-request-preserved : goal.loop-request-preserved
loop-request-preserved g c =
    let invariant = c.loop-request.invariant in
    record {
      under = under-more c.args.settings (g.R.Read.remaining c.args.reader.now) (g.R.Read.remaining c.loop-request.reader) (g.W.Write.contents c.args.writer.now) (g.W.Write.contents c.loop-request.writer) c.loop-request.read c.loop-request.stepper c.loop-request.invariant.under (g.R.Read.remaining c.next_request.new.reader) (g.W.Write.contents c.serve.new.writer) c.in-Read.request c.serve.new.replies.items c.serve.new.stepper c.in-Read.ensures.next.0 c.in-Ok-serve.ensures.turn c.in-Ok-serve.ensures.written;
      uses = uses-more (g.R.Read.remaining c.args.reader.now) (g.R.Read.remaining c.loop-request.reader) (g.R.Read.remaining c.next_request.new.reader) c.args.turns.now c.loop-request.turns c.next_request.new.turns invariant.uses c.next_request.ensures.uses;
      few = omega (arith, invariant.few, c.in-Read.ensures.next.1);
      room = c.next_request.ensures.room;
    }

pub returns-in-Err-clause-script : goal.returns-in-Err-clause-script
returns-in-Err-clause-script g c =
    by-fault (λ lines r. RunsTo c.args.settings lines r (g.W.Write.contents c.args.writer.now) (g.W.Write.contents c.args.writer.now)) (g.R.Read.remaining c.args.reader.now) c.cut_short-in-Err.result (outside c.in-Err.why) c.cut_short-in-Err.ensures (everywhere (g.R.Read.remaining c.args.reader.now) (λ xs. RunsTo c.args.settings (lines_of xs) (Err (outside c.in-Err.why)) (g.W.Write.contents c.args.writer.now) (g.W.Write.contents c.args.writer.now)) (λ xs. runs-unmade c.args.settings (lines_of xs) c.in-Err.why (g.W.Write.contents c.args.writer.now) c.in-Err.ensures.why))

pub returns-in-Err-serve-clause-script : goal.returns-in-Err-serve-clause-script
returns-in-Err-serve-clause-script g c =
    let after = g.W.Write.contents c.serve.new.writer in
    let why = c.in-Err-serve.why in
    let ends : IfSome (g.R.Read.remaining c.args.reader.now) (λ xs. RunsTo c.args.settings (lines_of xs) (Err (outside why)) (g.W.Write.contents c.args.writer.now) after) = elim c.in-Err-serve.ensures.why [
      | inl memory ↦ runs-cut c.args.settings (g.R.Read.remaining c.args.reader.now) (g.R.Read.remaining c.loop-request.reader) (g.W.Write.contents c.args.writer.now) (g.W.Write.contents c.loop-request.writer) c.loop-request.read c.loop-request.stepper c.loop-request.invariant.under after why (inl memory) (c.in-Err-serve.ensures.memory memory)
      | inr fault ↦ (let half = c.in-Err-serve.ensures.half fault in
          subst (λ w. IfSome (g.R.Read.remaining c.args.reader.now) (λ xs. RunsTo c.args.settings (lines_of xs) (Err (outside w)) (g.W.Write.contents c.args.writer.now) after)) (sym fault) (runs-half c.args.settings (g.R.Read.remaining c.args.reader.now) (g.R.Read.remaining c.loop-request.reader) (g.W.Write.contents c.args.writer.now) (g.W.Write.contents c.loop-request.writer) c.loop-request.read c.loop-request.stepper c.loop-request.invariant.under (g.R.Read.remaining c.next_request.new.reader) after c.in-Read.request c.serve.new.replies.items c.serve.new.stepper c.in-Read.ensures.next.0 half.0 half.1))
    ] in
    by-fault (λ lines r. RunsTo c.args.settings lines r (g.W.Write.contents c.args.writer.now) after) (g.R.Read.remaining c.args.reader.now) c.cut_short-in-Err-serve.result (outside why) c.cut_short-in-Err-serve.ensures ends

pub returns-in-Ok-close-clause-script : goal.returns-in-Ok-close-clause-script
returns-in-Ok-close-clause-script g c =
    runs-ended c.args.settings (g.R.Read.remaining c.args.reader.now) (g.R.Read.remaining c.loop-request.reader) (g.W.Write.contents c.args.writer.now) (g.W.Write.contents c.loop-request.writer) c.loop-request.read c.loop-request.stepper c.loop-request.invariant.under (g.W.Write.contents c.close.new.writer) c.in-Ended.ensures.next.0 c.in-Ok-close.ensures.written

pub returns-in-Err-close-clause-script : goal.returns-in-Err-close-clause-script
returns-in-Err-close-clause-script g c =
    let after = g.W.Write.contents c.close.new.writer in
    let why = c.in-Err-close.why in
    let ends : IfSome (g.R.Read.remaining c.args.reader.now) (λ xs. RunsTo c.args.settings (lines_of xs) (Err (outside why)) (g.W.Write.contents c.args.writer.now) after) = elim c.in-Err-close.ensures.why [
      | inl memory ↦ runs-cut c.args.settings (g.R.Read.remaining c.args.reader.now) (g.R.Read.remaining c.loop-request.reader) (g.W.Write.contents c.args.writer.now) (g.W.Write.contents c.loop-request.writer) c.loop-request.read c.loop-request.stepper c.loop-request.invariant.under after why (inl memory) (c.in-Err-close.ensures.memory memory)
      | inr fault ↦ subst (λ w. IfSome (g.R.Read.remaining c.args.reader.now) (λ xs. RunsTo c.args.settings (lines_of xs) (Err (outside w)) (g.W.Write.contents c.args.writer.now) after)) (sym fault) (runs-cut_last c.args.settings (g.R.Read.remaining c.args.reader.now) (g.R.Read.remaining c.loop-request.reader) (g.W.Write.contents c.args.writer.now) (g.W.Write.contents c.loop-request.writer) c.loop-request.read c.loop-request.stepper c.loop-request.invariant.under after c.in-Ended.ensures.next.0 (c.in-Err-close.ensures.half fault))
    ] in
    by-fault (λ lines r. RunsTo c.args.settings lines r (g.W.Write.contents c.args.writer.now) after) (g.R.Read.remaining c.args.reader.now) c.cut_short-in-Err-close.result (outside why) c.cut_short-in-Err-close.ensures ends

pub returns-in-Faulty-clause-script : goal.returns-in-Faulty-clause-script
returns-in-Faulty-clause-script g c =
    by-fault (λ lines r. RunsTo c.args.settings lines r (g.W.Write.contents c.args.writer.now) (g.W.Write.contents c.loop-request.writer)) (g.R.Read.remaining c.args.reader.now) c.at_line.result (record { why = BadLine; line = Some (c.loop-request.read + 1) }) c.at_line.ensures (runs-faulty c.args.settings (g.R.Read.remaining c.args.reader.now) (g.R.Read.remaining c.loop-request.reader) (g.W.Write.contents c.args.writer.now) (g.W.Write.contents c.loop-request.writer) c.loop-request.read c.loop-request.stepper c.loop-request.invariant.under c.in-Faulty.ensures.next.0)

pub returns-in-Broken-clause-script : goal.returns-in-Broken-clause-script
returns-in-Broken-clause-script g c =
    by-fault (λ lines r. RunsTo c.args.settings lines r (g.W.Write.contents c.args.writer.now) (g.W.Write.contents c.loop-request.writer)) (g.R.Read.remaining c.args.reader.now) c.cut_short-in-Broken.result (outside ReadFault) c.cut_short-in-Broken.ensures (runs-cut c.args.settings (g.R.Read.remaining c.args.reader.now) (g.R.Read.remaining c.loop-request.reader) (g.W.Write.contents c.args.writer.now) (g.W.Write.contents c.loop-request.writer) c.loop-request.read c.loop-request.stepper c.loop-request.invariant.under (g.W.Write.contents c.loop-request.writer) ReadFault (inr refl) (appends-nothing (g.W.Write.contents c.loop-request.writer)))

pub returns-in-Err-serve-clause-uses : goal.returns-in-Err-serve-clause-uses
returns-in-Err-serve-clause-uses g c =
    uses-more (g.R.Read.remaining c.args.reader.now) (g.R.Read.remaining c.loop-request.reader) (g.R.Read.remaining c.next_request.new.reader) c.args.turns.now c.loop-request.turns c.next_request.new.turns c.loop-request.invariant.uses c.next_request.ensures.uses

pub returns-in-Ok-close-clause-uses : goal.returns-in-Ok-close-clause-uses
returns-in-Ok-close-clause-uses g c =
    uses-more (g.R.Read.remaining c.args.reader.now) (g.R.Read.remaining c.loop-request.reader) (g.R.Read.remaining c.next_request.new.reader) c.args.turns.now c.loop-request.turns c.next_request.new.turns c.loop-request.invariant.uses c.next_request.ensures.uses

pub returns-in-Err-close-clause-uses : goal.returns-in-Err-close-clause-uses
returns-in-Err-close-clause-uses g c =
    uses-more (g.R.Read.remaining c.args.reader.now) (g.R.Read.remaining c.loop-request.reader) (g.R.Read.remaining c.next_request.new.reader) c.args.turns.now c.loop-request.turns c.next_request.new.turns c.loop-request.invariant.uses c.next_request.ensures.uses

pub returns-in-Faulty-clause-uses : goal.returns-in-Faulty-clause-uses
returns-in-Faulty-clause-uses g c =
    uses-more (g.R.Read.remaining c.args.reader.now) (g.R.Read.remaining c.loop-request.reader) (g.R.Read.remaining c.next_request.new.reader) c.args.turns.now c.loop-request.turns c.next_request.new.turns c.loop-request.invariant.uses c.next_request.ensures.uses

pub returns-in-Broken-clause-uses : goal.returns-in-Broken-clause-uses
returns-in-Broken-clause-uses g c =
    uses-more (g.R.Read.remaining c.args.reader.now) (g.R.Read.remaining c.loop-request.reader) (g.R.Read.remaining c.next_request.new.reader) c.args.turns.now c.loop-request.turns c.next_request.new.turns c.loop-request.invariant.uses c.next_request.ensures.uses

pub returns-in-Ok-close-clause-ends : goal.returns-in-Ok-close-clause-ends
returns-in-Ok-close-clause-ends g c =
    ends-in-turns (g.R.Read.remaining c.args.reader.now) (g.R.Read.remaining c.loop-request.reader) c.args.turns.now c.loop-request.turns c.loop-request.invariant.uses
    (at-end-before (g.R.Read.remaining c.loop-request.reader) (g.R.Read.remaining c.next_request.new.reader) c.in-Ended.ensures.next.1 c.in-Ended.ensures.next.2)
    (omega (arith, c.in-Ended.ensures.next.3))

pub returns-in-Err-clause-faults : goal.returns-in-Err-clause-faults
returns-in-Err-clause-faults g c =
    subst IsScriptFault (sym c.cut_short-in-Err.ensures) (refused-fault c.args.settings c.in-Err.why c.in-Err.ensures.why)

pub returns-then-turns-eq0-clause-script : goal.returns-then-turns-eq0-clause-script
returns-then-turns-eq0-clause-script g c =
    by-fault (λ lines r. RunsTo c.args.settings lines r (g.W.Write.contents c.args.writer.now) (g.W.Write.contents c.args.writer.now)) (g.R.Read.remaining c.args.reader.now) c.cut_short.result (outside ReadFault) c.cut_short.ensures (everywhere (g.R.Read.remaining c.args.reader.now) (λ xs. RunsTo c.args.settings (lines_of xs) (Err (outside ReadFault)) (g.W.Write.contents c.args.writer.now) (g.W.Write.contents c.args.writer.now)) (λ xs. runs-unread c.args.settings (lines_of xs) (g.W.Write.contents c.args.writer.now)))
