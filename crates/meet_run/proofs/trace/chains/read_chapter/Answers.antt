-- Proof of `read_chapter`, src/trace/chains.rt. Reads a part, of which the first line was read, as a whole trace; how
-- many lines stand before the next one, and whether there is one.
use Rattle.std.proofs.Common.{subst}
use Rattle.meet_run.specs.Tracing.Chains.{IsPart}
use Rattle.meet_run.specs.Texts.Reading.{lines_of}
use Rattle.meet_run.specs.Tracing.Traces.{IsRead, NamesLine, trace_fault_in}
use Rattle.meet_run.proofs.Tracing.ReadParts.{chapter-faulty, chapter-too-long}
use Rattle.meet_run.proofs.trace.chains.read_chapter.Goals as goal

pub returns-in-Err-clause-bad : goal.returns-in-Err-clause-bad
returns-in-Err-clause-bad g c = λ plain.
    chapter-faulty c.args.line.now.items (g.R.Read.remaining c.args.reader.now) (g.R.Read.remaining c.read_part.new.reader) c.args.before c.in_ok-lines.lines c.read_part.new.text.items c.read_part.new.line.items c.in_ok-lines.next c.in-Err.fault c.in_text.result
    (c.in_ok-lines.ensures.part plain) (subst (λ t. NamesLine c.in-Err.fault (trace_fault_in (lines_of t))) c.as_slice-part.ensures.value c.in-Err.ensures.bad) c.in-Err.ensures.faults c.in_text.ensures.line c.in_text.ensures.outside

pub returns-in-TooLong-clause-bad : goal.returns-in-TooLong-clause-bad
returns-in-TooLong-clause-bad g c = λ plain.
    chapter-too-long c.args.line.now.items (g.R.Read.remaining c.args.reader.now) (g.R.Read.remaining c.read_part.new.reader) c.args.before c.in_ok-lines.lines c.read_part.new.text.items c.read_part.new.line.items c.in-Ok.trace c.at_line.result
    (subst (λ n. IsPart c.args.line.now.items (g.R.Read.remaining c.args.reader.now) (g.R.Read.remaining c.read_part.new.reader) c.in_ok-lines.lines n c.read_part.new.text.items c.read_part.new.line.items) c.in-TooLong.is (c.in_ok-lines.ensures.part plain))
    (subst (λ t. IsRead (lines_of t) c.in-Ok.trace) c.as_slice-part.ensures.value c.in-Ok.ensures.read) c.at_line.ensures
