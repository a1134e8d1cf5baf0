-- Proof of `make_requests`, src/trace.rt. Makes the calls behind a script's first line, up to the first line that is
-- none, and tells that line's number.
use Rattle.std.proofs.Common.{arith}
use Rattle.meet_run.proofs.Texts.LineLemmas.{uses-more, uses-none, ends-in-turns, at-end-before}
use Rattle.pool_run.proofs.Tracing.{making-none, making-more, made-all, made-some}
use Rattle.pool_run.proofs.trace.make_requests.Goals as goal

pub loop-request-init : goal.loop-request-init
loop-request-init g c = record {
  making = making-none c.args.settings (g.R.Read.remaining c.args.reader.now) c.in_ok-stepper.stepper c.in_ok-stepper.ensures.fresh;
  uses = uses-none (g.R.Read.remaining c.args.reader.now) c.args.turns.now c.args.turns.now (omega arith);
  few = omega arith;
  room = c.requires.room;
}

pub loop-request-preserved : goal.loop-request-preserved
loop-request-preserved g c =
    let invariant = c.loop-request.invariant in
    record {
      making = making-more c.args.settings (g.R.Read.remaining c.args.reader.now) (g.R.Read.remaining c.loop-request.reader) c.loop-request.read c.loop-request.stepper c.loop-request.invariant.making (g.R.Read.remaining c.next_request.new.reader) c.in-Read.request c.answer.new.replies.items c.answer.new.self c.in-Read.ensures.next.0 c.in_ok-answer-in-Read.ensures.turn;
      uses = uses-more (g.R.Read.remaining c.args.reader.now) (g.R.Read.remaining c.loop-request.reader) (g.R.Read.remaining c.next_request.new.reader) c.args.turns.now c.loop-request.turns c.next_request.new.turns invariant.uses c.next_request.ensures.uses;
      few = omega (arith, invariant.few, c.in-Read.ensures.next.1);
      room = c.next_request.ensures.room;
    }

pub returns-in-Ended-clause-made : goal.returns-in-Ended-clause-made
returns-in-Ended-clause-made g c =
    made-all c.args.settings (g.R.Read.remaining c.args.reader.now) (g.R.Read.remaining c.loop-request.reader) c.loop-request.read c.loop-request.stepper c.loop-request.invariant.making c.in-Ended.ensures.next.0

pub returns-in-Faulty-clause-made : goal.returns-in-Faulty-clause-made
returns-in-Faulty-clause-made g c =
    made-some c.args.settings (g.R.Read.remaining c.args.reader.now) (g.R.Read.remaining c.loop-request.reader) c.loop-request.read c.loop-request.stepper c.loop-request.invariant.making c.in-Faulty.ensures.next.0

pub returns-in_err-answer-in-Read-clause-uses : goal.returns-in_err-answer-in-Read-clause-uses
returns-in_err-answer-in-Read-clause-uses g c =
    uses-more (g.R.Read.remaining c.args.reader.now) (g.R.Read.remaining c.loop-request.reader) (g.R.Read.remaining c.next_request.new.reader) c.args.turns.now c.loop-request.turns c.next_request.new.turns c.loop-request.invariant.uses c.next_request.ensures.uses

pub returns-in-Ended-clause-uses : goal.returns-in-Ended-clause-uses
returns-in-Ended-clause-uses g c =
    uses-more (g.R.Read.remaining c.args.reader.now) (g.R.Read.remaining c.loop-request.reader) (g.R.Read.remaining c.next_request.new.reader) c.args.turns.now c.loop-request.turns c.next_request.new.turns c.loop-request.invariant.uses c.next_request.ensures.uses

pub returns-in-Faulty-clause-uses : goal.returns-in-Faulty-clause-uses
returns-in-Faulty-clause-uses g c =
    uses-more (g.R.Read.remaining c.args.reader.now) (g.R.Read.remaining c.loop-request.reader) (g.R.Read.remaining c.next_request.new.reader) c.args.turns.now c.loop-request.turns c.next_request.new.turns c.loop-request.invariant.uses c.next_request.ensures.uses

pub returns-in-Broken-clause-uses : goal.returns-in-Broken-clause-uses
returns-in-Broken-clause-uses g c =
    uses-more (g.R.Read.remaining c.args.reader.now) (g.R.Read.remaining c.loop-request.reader) (g.R.Read.remaining c.next_request.new.reader) c.args.turns.now c.loop-request.turns c.next_request.new.turns c.loop-request.invariant.uses c.next_request.ensures.uses

pub returns-in-Ended-clause-ends : goal.returns-in-Ended-clause-ends
returns-in-Ended-clause-ends g c =
    λ none. ends-in-turns (g.R.Read.remaining c.args.reader.now) (g.R.Read.remaining c.loop-request.reader) c.args.turns.now c.loop-request.turns c.loop-request.invariant.uses
    (at-end-before (g.R.Read.remaining c.loop-request.reader) (g.R.Read.remaining c.next_request.new.reader) c.in-Ended.ensures.next.1 c.in-Ended.ensures.next.2)
    (omega (arith, c.in-Ended.ensures.next.3))
