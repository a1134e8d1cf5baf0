-- Proof of `run_calls`, src/script/run.rt. Runs the calls behind the first line.
use Rattle.std.proofs.Common.{◌≡◌, subst, sym, ap, ◌∙◌, arith, ◌+◌, true, Err}
use Rattle.std.specs.Io.KnownBytes.{Appends}
use Rattle.meet_history.specs.OneThread.{turn, standing_of}
use Rattle.meet_run.specs.Scripts.Script.{replies_text, fault_of, text_before, output_of}
use Rattle.meet_run.specs.Scripts.Wording.{last_line}
use Rattle.meet_run.specs.Texts.Writing.{AppendsPrefix}
use Rattle.meet_history.specs.Served.{serves}
use Rattle.meet_history.specs.Stepping.{place_of}
use Rattle.meet_run.proofs.Texts.LineLemmas.{uses-more, ends-in-turns, at-end-before}
use Rattle.meet_run.proofs.Scripts.Ran.{ran-more, runs-cut, runs-closed, runs-unclosed, ran-faulty, follows, bad_line-ends}
use Rattle.meet_run.proofs.script.run.run_calls.Goals as goal

pub serve-requires : goal.serve-requires
serve-requires g c = record { served = subst (λ s. serves s.kind.order c.in-Read.call.verb ≡ true) (sym c.loop-call.invariant.setup) c.in-Read.ensures.fits.served }

pub loop-call-preserved : goal.loop-call-preserved
loop-call-preserved g c =
    let invariant = c.loop-call.invariant in
    let same : turn c.loop-call.stepper.setup (place_of c.loop-call.stepper) c.in-Read.call ≡ turn c.args.setup (place_of c.loop-call.stepper) c.in-Read.call = ap (λ s. turn s (place_of c.loop-call.stepper) c.in-Read.call) invariant.setup in
    record {
      setup = c.in-Ok-serve.ensures.takes.setup ∙ invariant.setup;
      ran = ran-more c.args.setup (g.R.Read.remaining c.args.reader.now) (g.R.Read.remaining c.loop-call.reader) (g.W.Write.contents c.args.writer.now) (g.W.Write.contents c.loop-call.writer) c.loop-call.read (place_of c.loop-call.stepper) invariant.ran (g.R.Read.remaining c.next_call.new.reader) (g.W.Write.contents c.serve.new.writer) c.in-Read.call (place_of c.serve.new.stepper) c.in-Read.ensures.next.0 (subst (λ t. Appends (g.W.Write.contents c.loop-call.writer) (g.W.Write.contents c.serve.new.writer) (replies_text t.replies)) same c.in-Ok-serve.ensures.written) (c.in-Ok-serve.ensures.takes.place ∙ ap (λ t. t.place) same);
      uses = uses-more (g.R.Read.remaining c.args.reader.now) (g.R.Read.remaining c.loop-call.reader) (g.R.Read.remaining c.next_call.new.reader) c.args.turns.now c.loop-call.turns c.next_call.new.turns invariant.uses c.next_call.ensures.uses;
      few = omega (arith, invariant.few, c.in-Read.ensures.next.1);
      room = c.next_call.ensures.room;
    }

pub returns-in-Err-serve-clause-script : goal.returns-in-Err-serve-clause-script
returns-in-Err-serve-clause-script g c =
    let invariant = c.loop-call.invariant in
    let same : turn c.loop-call.stepper.setup (place_of c.loop-call.stepper) c.in-Read.call ≡ turn c.args.setup (place_of c.loop-call.stepper) c.in-Read.call = ap (λ s. turn s (place_of c.loop-call.stepper) c.in-Read.call) invariant.setup in
    runs-cut c.args.setup (g.R.Read.remaining c.args.reader.now) (g.R.Read.remaining c.loop-call.reader) (g.W.Write.contents c.args.writer.now) (g.W.Write.contents c.loop-call.writer) c.loop-call.read (place_of c.loop-call.stepper) invariant.ran (g.R.Read.remaining c.next_call.new.reader) (g.W.Write.contents c.serve.new.writer) c.in-Read.call c.cut_short-in-Err-serve.result c.in-Err-serve.why c.in-Read.ensures.next.0
    (subst (λ t. AppendsPrefix (g.W.Write.contents c.loop-call.writer) (g.W.Write.contents c.serve.new.writer) (replies_text t.replies)) same c.serve.ensures.prefix) c.cut_short-in-Err-serve.ensures c.in-Err-serve.ensures.why

pub returns-in-Ok-close-clause-script : goal.returns-in-Ok-close-clause-script
returns-in-Ok-close-clause-script g c =
    let invariant = c.loop-call.invariant in
    runs-closed c.args.setup (g.R.Read.remaining c.args.reader.now) (g.R.Read.remaining c.loop-call.reader) (g.W.Write.contents c.args.writer.now) (g.W.Write.contents c.loop-call.writer) c.loop-call.read (place_of c.loop-call.stepper) invariant.ran (g.W.Write.contents c.close.new.writer) c.in-Ended.ensures.next.0
    (subst (λ s. Appends (g.W.Write.contents c.loop-call.writer) (g.W.Write.contents c.close.new.writer) (last_line ((place_of c.loop-call.stepper).gone + (place_of c.loop-call.stepper).records) (standing_of s (place_of c.loop-call.stepper)))) invariant.setup c.in-Ok-close.ensures.written)

pub returns-in-Err-close-clause-script : goal.returns-in-Err-close-clause-script
returns-in-Err-close-clause-script g c =
    let invariant = c.loop-call.invariant in
    runs-unclosed c.args.setup (g.R.Read.remaining c.args.reader.now) (g.R.Read.remaining c.loop-call.reader) (g.W.Write.contents c.args.writer.now) (g.W.Write.contents c.loop-call.writer) c.loop-call.read (place_of c.loop-call.stepper) invariant.ran (g.W.Write.contents c.close.new.writer) c.cut_short-in-Err-close.result c.in-Err-close.why c.in-Ended.ensures.next.0
    (subst (λ s. AppendsPrefix (g.W.Write.contents c.loop-call.writer) (g.W.Write.contents c.close.new.writer) (last_line ((place_of c.loop-call.stepper).gone + (place_of c.loop-call.stepper).records) (standing_of s (place_of c.loop-call.stepper)))) invariant.setup c.close.ensures.prefix)
    (λ memory. c.close.ensures.memory (c.in-Err-close.is ∙ ap (λ w. Err w) memory)) c.cut_short-in-Err-close.ensures c.in-Err-close.ensures.why

pub returns-in-Faulty-clause-script : goal.returns-in-Faulty-clause-script
returns-in-Faulty-clause-script g c =
    follows (g.R.Read.remaining c.args.reader.now)
    (λ rest at input h. bad_line-ends c.at_line.result (c.loop-call.read + 1) (fault_of input) (text_before input) (output_of input) (g.W.Write.contents c.args.writer.now) (g.W.Write.contents c.loop-call.writer) c.at_line.ensures (at input h))
    (ran-faulty c.args.setup (g.R.Read.remaining c.args.reader.now) (g.R.Read.remaining c.loop-call.reader) (g.W.Write.contents c.args.writer.now) (g.W.Write.contents c.loop-call.writer) c.loop-call.read (place_of c.loop-call.stepper) c.loop-call.invariant.ran c.in-Faulty.ensures.next.0)

pub returns-in-Err-serve-clause-uses : goal.returns-in-Err-serve-clause-uses
returns-in-Err-serve-clause-uses g c =
    uses-more (g.R.Read.remaining c.args.reader.now) (g.R.Read.remaining c.loop-call.reader) (g.R.Read.remaining c.next_call.new.reader) c.args.turns.now c.loop-call.turns c.next_call.new.turns c.loop-call.invariant.uses c.next_call.ensures.uses

pub returns-in-Ok-close-clause-uses : goal.returns-in-Ok-close-clause-uses
returns-in-Ok-close-clause-uses g c =
    uses-more (g.R.Read.remaining c.args.reader.now) (g.R.Read.remaining c.loop-call.reader) (g.R.Read.remaining c.next_call.new.reader) c.args.turns.now c.loop-call.turns c.next_call.new.turns c.loop-call.invariant.uses c.next_call.ensures.uses

pub returns-in-Faulty-clause-uses : goal.returns-in-Faulty-clause-uses
returns-in-Faulty-clause-uses g c =
    uses-more (g.R.Read.remaining c.args.reader.now) (g.R.Read.remaining c.loop-call.reader) (g.R.Read.remaining c.next_call.new.reader) c.args.turns.now c.loop-call.turns c.next_call.new.turns c.loop-call.invariant.uses c.next_call.ensures.uses

pub returns-in-Broken-clause-uses : goal.returns-in-Broken-clause-uses
returns-in-Broken-clause-uses g c =
    uses-more (g.R.Read.remaining c.args.reader.now) (g.R.Read.remaining c.loop-call.reader) (g.R.Read.remaining c.next_call.new.reader) c.args.turns.now c.loop-call.turns c.next_call.new.turns c.loop-call.invariant.uses c.next_call.ensures.uses

pub returns-in-Err-close-clause-uses : goal.returns-in-Err-close-clause-uses
returns-in-Err-close-clause-uses g c =
    uses-more (g.R.Read.remaining c.args.reader.now) (g.R.Read.remaining c.loop-call.reader) (g.R.Read.remaining c.next_call.new.reader) c.args.turns.now c.loop-call.turns c.next_call.new.turns c.loop-call.invariant.uses c.next_call.ensures.uses

pub returns-in-Ok-close-clause-ends : goal.returns-in-Ok-close-clause-ends
returns-in-Ok-close-clause-ends g c =
    ends-in-turns (g.R.Read.remaining c.args.reader.now) (g.R.Read.remaining c.loop-call.reader) c.args.turns.now c.loop-call.turns c.loop-call.invariant.uses
    (at-end-before (g.R.Read.remaining c.loop-call.reader) (g.R.Read.remaining c.next_call.new.reader) c.in-Ended.ensures.next.1 c.in-Ended.ensures.next.2)
    (omega (arith, c.in-Ended.ensures.next.3))
