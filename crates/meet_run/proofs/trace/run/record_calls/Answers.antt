-- Proof of `record_calls`, src/trace/run.rt. Makes the calls behind the first line: what they leave, up to the first
-- faulty line, and the number of that line, if there is one.
use Rattle.std.proofs.Common.{◌≡◌, ◌++◌, [], refl, ap, subst, ◌∙◌, arith}
use Rattle.meet_history.specs.OneThread.{Turn, turn}
use Rattle.meet_history.specs.Stepping.{place_of, HasWritten}
use Rattle.meet_run.proofs.Texts.LineLemmas.{uses-more, uses-none}
use Rattle.meet_run.proofs.Tracing.Recorded.{recorded-none, recorded-more, recorded-end, recorded-fault}
use Rattle.meet_run.proofs.trace.run.record_calls.Goals as goal

pub loop-call-init : goal.loop-call-init
loop-call-init g c = record {
  setup = c.in_ok-stepper.ensures.setup;
  recorded = ([], c.in_ok-stepper.ensures.written, recorded-none c.args.setup (g.R.Read.remaining c.args.reader.now) (place_of c.in_ok-stepper.stepper) c.in_ok-stepper.ensures.place);
  uses = uses-none (g.R.Read.remaining c.args.reader.now) c.args.turns.now c.args.turns.now (omega arith);
  few = omega arith;
  room = c.requires.room;
}

pub returns-in_err-answer-in-Read-clause-uses : goal.returns-in_err-answer-in-Read-clause-uses
returns-in_err-answer-in-Read-clause-uses g c =
    uses-more (g.R.Read.remaining c.args.reader.now) (g.R.Read.remaining c.loop-call.reader) (g.R.Read.remaining c.next_call.new.reader) c.args.turns.now c.loop-call.turns c.next_call.new.turns c.loop-call.invariant.uses c.next_call.ensures.uses

pub loop-call-preserved : goal.loop-call-preserved
loop-call-preserved g c =
    let invariant = c.loop-call.invariant in
    let same : turn c.loop-call.stepper.setup (place_of c.loop-call.stepper) c.in-Read.call ≡ turn c.args.setup (place_of c.loop-call.stepper) c.in-Read.call = ap (λ s. turn s (place_of c.loop-call.stepper) c.in-Read.call) invariant.setup in
    let takes = c.in_ok-answer-in-Read.ensures.takes in
    record {
      setup = takes.setup ∙ invariant.setup;
      recorded = (
        invariant.recorded.0 ++ (turn c.args.setup (place_of c.loop-call.stepper) c.in-Read.call).records,
        subst (λ (t : Turn). HasWritten c.answer.new.self (invariant.recorded.0 ++ t.records)) same (takes.written invariant.recorded.0 invariant.recorded.1),
        recorded-more c.args.setup (place_of c.loop-call.stepper) invariant.recorded.0 c.loop-call.read (g.R.Read.remaining c.args.reader.now) (g.R.Read.remaining c.loop-call.reader) (g.R.Read.remaining c.next_call.new.reader) c.in-Read.call (place_of c.answer.new.self) invariant.recorded.2 c.in-Read.ensures.next.0 (takes.place ∙ ap (λ (t : Turn). t.place) same),
      );
      uses = uses-more (g.R.Read.remaining c.args.reader.now) (g.R.Read.remaining c.loop-call.reader) (g.R.Read.remaining c.next_call.new.reader) c.args.turns.now c.loop-call.turns c.next_call.new.turns c.loop-call.invariant.uses c.next_call.ensures.uses;
      few = omega (arith, invariant.few, c.in-Read.ensures.next.1);
      room = c.next_call.ensures.room;
    }

pub returns-in-Ended-clause-records : goal.returns-in-Ended-clause-records
returns-in-Ended-clause-records g c =
    let was = c.loop-call.invariant.recorded in
    rw (c.left_by.ensures.cut, c.left_by.ensures.base, c.left_by.ensures.records, c.left_by.ensures.fault)
    (recorded-end c.args.setup (place_of c.loop-call.stepper) was.0 c.loop-call.read (g.R.Read.remaining c.args.reader.now) (g.R.Read.remaining c.loop-call.reader) c.loop-call.stepper c.loop-call.invariant.setup refl was.1 was.2 c.in-Ended.ensures.next.0)

pub returns-in-Faulty-clause-records : goal.returns-in-Faulty-clause-records
returns-in-Faulty-clause-records g c =
    let was = c.loop-call.invariant.recorded in
    rw (c.left_by-in-Faulty.ensures.cut, c.left_by-in-Faulty.ensures.base, c.left_by-in-Faulty.ensures.records, c.left_by-in-Faulty.ensures.fault)
    (recorded-fault c.args.setup (place_of c.loop-call.stepper) was.0 c.loop-call.read (g.R.Read.remaining c.args.reader.now) (g.R.Read.remaining c.loop-call.reader) c.loop-call.stepper c.loop-call.invariant.setup refl was.1 was.2 c.in-Faulty.ensures.next.0)

pub returns-in-Faulty-clause-uses : goal.returns-in-Faulty-clause-uses
returns-in-Faulty-clause-uses g c =
    uses-more (g.R.Read.remaining c.args.reader.now) (g.R.Read.remaining c.loop-call.reader) (g.R.Read.remaining c.next_call.new.reader) c.args.turns.now c.loop-call.turns c.next_call.new.turns c.loop-call.invariant.uses c.next_call.ensures.uses

pub returns-in-Broken-clause-uses : goal.returns-in-Broken-clause-uses
returns-in-Broken-clause-uses g c =
    uses-more (g.R.Read.remaining c.args.reader.now) (g.R.Read.remaining c.loop-call.reader) (g.R.Read.remaining c.next_call.new.reader) c.args.turns.now c.loop-call.turns c.next_call.new.turns c.loop-call.invariant.uses c.next_call.ensures.uses
