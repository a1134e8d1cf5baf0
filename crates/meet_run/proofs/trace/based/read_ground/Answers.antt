-- Proof of `read_ground`, src/trace/based.rt. Reads a base's numbers.
use Rattle.std.proofs.Common.{◌≡◌, ℕ, Some, None, sym, ap, subst, ◌∙◌}
use Rattle.meet_tickets.specs.Bases.{Based}
use Rattle.meet_history.specs.Pieces.{bare_base}
use Rattle.meet_run.specs.Texts.Reading.{lines_of, Both}
use Rattle.meet_run.specs.Tracing.BaseGrammar.{numbers_of}
use Rattle.meet_run.specs.Tracing.BasedTraces.{told_from, told_behind}
use Rattle.meet_run.proofs.Tracing.TraceReading.{names-it}
use Rattle.meet_run.proofs.Tracing.Laid.{ground-read, ground-none, ground-end, ground-long}
use Rattle.meet_run.proofs.trace.based.read_ground.Goals as goal

pub returns-in-Some-clause-ground : goal.returns-in-Some-clause-ground
returns-in-Some-clause-ground g c =
    let is : numbers_of c.read_line.new.line.items ≡ Some c.in-Some.numbers = sym (c.read_numbers.ensures ∙ ap numbers_of c.as_slice.ensures.value) ∙ c.in-Some.is in
    subst (λ (b : Based). Both (g.R.Read.remaining c.args.reader.now) (g.R.Read.remaining c.read_line.new.reader) (λ xs ys. told_behind c.args.kind (lines_of xs) ≡ told_from c.args.kind b 3 (lines_of ys))) (sym c.new.ensures.base)
    (subst (λ (n : ℕ). Both (g.R.Read.remaining c.args.reader.now) (g.R.Read.remaining c.read_line.new.reader) (λ xs ys. told_behind c.args.kind (lines_of xs) ≡ told_from c.args.kind (bare_base n c.in-Some.numbers.1) 3 (lines_of ys))) (sym c.number.ensures.value)
    (ground-read c.args.kind (g.R.Read.remaining c.args.reader.now) (g.R.Read.remaining c.read_line.new.reader) c.read_line.new.line.items c.in-Some.numbers c.in-Line.ensures.read.0 is))

pub returns-in-None-clause-bad : goal.returns-in-None-clause-bad
returns-in-None-clause-bad g c =
    let is : numbers_of c.read_line.new.line.items ≡ None = sym (c.read_numbers.ensures ∙ ap numbers_of c.as_slice.ensures.value) ∙ c.in-None.is in
    names-it (g.R.Read.remaining c.args.reader.now) (λ rest. (told_behind c.args.kind (lines_of rest)).fault) c.at_line.result 2 c.at_line.ensures (ground-none c.args.kind (g.R.Read.remaining c.args.reader.now) (g.R.Read.remaining c.read_line.new.reader) c.read_line.new.line.items c.in-Line.ensures.read.0 is)

pub returns-in-End-clause-bad : goal.returns-in-End-clause-bad
returns-in-End-clause-bad g c =
    names-it (g.R.Read.remaining c.args.reader.now) (λ rest. (told_behind c.args.kind (lines_of rest)).fault) c.at_line-in-End.result 2 c.at_line-in-End.ensures (ground-end c.args.kind (g.R.Read.remaining c.args.reader.now) (g.R.Read.remaining c.read_line.new.reader) c.in-End.ensures.read.0 c.in-End.ensures.read.1)

pub returns-in-TooLong-clause-bad : goal.returns-in-TooLong-clause-bad
returns-in-TooLong-clause-bad g c =
    names-it (g.R.Read.remaining c.args.reader.now) (λ rest. (told_behind c.args.kind (lines_of rest)).fault) c.at_line-in-TooLong.result 2 c.at_line-in-TooLong.ensures (ground-long c.args.kind (g.R.Read.remaining c.args.reader.now) c.in-TooLong.ensures.read)
