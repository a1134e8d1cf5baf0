-- Proof of `run_all`, src/one_thread/all_calls.rt. The replies to these calls, one after another, on a place of this
-- setup, and the records that they write; those that checkpoints folded away are in the base.
use Rattle.std.proofs.Common.{◌∙◌, ◌++◌, refl}
use Rattle.meet_history.specs.OneThread.{turn}
use Rattle.meet_history.specs.Stepping.{place_of}
use Rattle.meet_history.proofs.ManyTurns.{part-step, place-step}
use Rattle.meet_history.proofs.one_thread.all_calls.run_all.Goals as goal

pub loop-call-preserved : goal.loop-call-preserved
loop-call-preserved c =
    let invariant = c.loop-call.invariant in
    let takes = c.in_ok-answer.ensures.takes in
    let written = (turn c.loop-call.stepper.setup (place_of c.loop-call.stepper) c.call-item.result).records in
    record {
      setup = takes.setup ∙ invariant.setup;
      replies = part-step (λ t. t.replies) (λ t rest. refl) c.args.setup _ _ _ c.args.calls.now c.loop-call.call-index c.call-item.result _ _ _ invariant.setup c.loop-call-test.true c.call-item.is invariant.replies c.in_ok-answer.ensures.replies takes.place;
      records = (
        invariant.records.0 ++ written,
        takes.written invariant.records.0 invariant.records.1,
        part-step (λ t. t.records) (λ t rest. refl) c.args.setup _ _ _ c.args.calls.now c.loop-call.call-index c.call-item.result invariant.records.0 _ _ invariant.setup c.loop-call-test.true c.call-item.is invariant.records.2 refl takes.place,
      );
      place = place-step c.args.setup _ _ _ _ c.args.calls.now c.loop-call.call-index c.call-item.result invariant.setup c.loop-call-test.true c.call-item.is invariant.place takes.place;
    }
