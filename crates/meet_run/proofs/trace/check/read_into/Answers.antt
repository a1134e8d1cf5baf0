-- Proof of `read_into`, src/trace/check.rt. Reads a whole trace, of either format, by at most so many reads, and keeps
-- its records where they are wanted.
use Rattle.std.proofs.Common.{sym, ap, ◌∙◌, arith}
use Rattle.meet_run.specs.Texts.Reading.{lines_of}
use Rattle.meet_run.specs.Tracing.TraceGrammar.{head_of}
use Rattle.meet_run.specs.Tracing.BaseGrammar.{based_head_of}
use Rattle.meet_run.specs.Tracing.Traces.{NamesLine, trace_fault_in}
use Rattle.meet_run.proofs.Texts.LineLemmas.{uses-more, uses-fewer, ends-more}
use Rattle.meet_run.proofs.Tracing.TraceReading.{plain-came, based-came, well-follows, err-follows, fault-behind, fault-based, fault-first, fault-long, fault-none, names-it}
use Rattle.meet_run.proofs.trace.check.read_into.Goals as goal

pub returns-in-End-clause-bad : goal.returns-in-End-clause-bad
returns-in-End-clause-bad g c =
    names-it (g.R.Read.remaining c.args.reader.now) (λ input. trace_fault_in (lines_of input)) c.at_line-in-End.result 1 c.at_line-in-End.ensures (fault-none (g.R.Read.remaining c.args.reader.now) (g.R.Read.remaining c.read_line.new.reader) c.in-End.ensures.read.0 c.in-End.ensures.read.1)

pub returns-in-TooLong-clause-bad : goal.returns-in-TooLong-clause-bad
returns-in-TooLong-clause-bad g c =
    names-it (g.R.Read.remaining c.args.reader.now) (λ input. trace_fault_in (lines_of input)) c.at_line-in-TooLong.result 1 c.at_line-in-TooLong.ensures (fault-long (g.R.Read.remaining c.args.reader.now) c.in-TooLong.ensures.read)

pub returns-in-Some-clause-bad : goal.returns-in-Some-clause-bad
returns-in-Some-clause-bad g c =
    err-follows c.read_plain.result (λ f names. fault-behind (g.R.Read.remaining c.args.reader.now) (g.R.Read.remaining c.read_line.new.reader) c.read_line.new.line.items c.in-Some.kind (NamesLine f) c.in-Line.ensures.read.0 (sym (c.read_head.ensures.read ∙ ap head_of c.as_slice.ensures.value) ∙ c.in-Some.is) names) c.read_plain.ensures.bad

pub returns-in-Some-clause-uses : goal.returns-in-Some-clause-uses
returns-in-Some-clause-uses g c =
    uses-fewer (g.R.Read.remaining c.args.reader.now) (g.R.Read.remaining c.read_plain.new.reader) c.args.turns c.read_plain.new.turns 0
    (uses-more (g.R.Read.remaining c.args.reader.now) (g.R.Read.remaining c.read_line.new.reader) (g.R.Read.remaining c.read_plain.new.reader) c.args.turns c.read_line.new.turns c.read_plain.new.turns c.read_line.ensures.uses c.read_plain.ensures.uses)
    (omega arith)

pub returns-in-Some-read_based_head-clause-bad : goal.returns-in-Some-read_based_head-clause-bad
returns-in-Some-read_based_head-clause-bad g c =
    err-follows c.read_based.result (λ f names. fault-based (g.R.Read.remaining c.args.reader.now) (g.R.Read.remaining c.read_line.new.reader) c.read_line.new.line.items c.in-Some-read_based_head.kind (NamesLine f) c.in-Line.ensures.read.0 (sym (c.read_head.ensures.read ∙ ap head_of c.as_slice.ensures.value) ∙ c.in-None.is) (sym (c.read_based_head.ensures ∙ ap based_head_of c.as_slice-in-None.ensures.value) ∙ c.in-Some-read_based_head.is) names) c.read_based.ensures.bad

pub returns-in-Some-read_based_head-clause-uses : goal.returns-in-Some-read_based_head-clause-uses
returns-in-Some-read_based_head-clause-uses g c =
    uses-fewer (g.R.Read.remaining c.args.reader.now) (g.R.Read.remaining c.read_based.new.reader) c.args.turns c.read_based.new.turns 0
    (uses-more (g.R.Read.remaining c.args.reader.now) (g.R.Read.remaining c.read_line.new.reader) (g.R.Read.remaining c.read_based.new.reader) c.args.turns c.read_line.new.turns c.read_based.new.turns c.read_line.ensures.uses c.read_based.ensures.uses)
    (omega arith)

pub returns-in-Line-clause-bad : goal.returns-in-Line-clause-bad
returns-in-Line-clause-bad g c =
    names-it (g.R.Read.remaining c.args.reader.now) (λ input. trace_fault_in (lines_of input)) c.at_line.result 1 c.at_line.ensures (fault-first (g.R.Read.remaining c.args.reader.now) (g.R.Read.remaining c.read_line.new.reader) c.read_line.new.line.items c.in-Line.ensures.read.0 (sym (c.read_head.ensures.read ∙ ap head_of c.as_slice.ensures.value) ∙ c.in-None.is) (sym (c.read_based_head.ensures ∙ ap based_head_of c.as_slice-in-None.ensures.value) ∙ c.in-None-read_based_head.is))

pub returns-in-Some-clause-read : goal.returns-in-Some-clause-read
returns-in-Some-clause-read g c =
    plain-came (g.R.Read.remaining c.args.reader.now) (g.R.Read.remaining c.read_line.new.reader) c.read_line.new.line.items c.in-Some.kind c.args.kept.now.wanted c.read_plain.new.kept c.read_plain.result c.in-Line.ensures.read.0 (sym (c.read_head.ensures.read ∙ ap head_of c.as_slice.ensures.value) ∙ c.in-Some.is) c.read_plain.ensures.pushed c.read_plain.ensures.kind c.read_plain.ensures.own c.read_plain.ensures.base c.read_plain.ensures.kept

pub returns-in-Some-clause-ends : goal.returns-in-Some-clause-ends
returns-in-Some-clause-ends g c =
    well-follows c.read_plain.result (ends-more (g.R.Read.remaining c.args.reader.now) (g.R.Read.remaining c.read_line.new.reader) c.args.turns c.read_line.new.turns c.read_line.ensures.uses) c.read_plain.ensures.ends

pub returns-in-Some-read_based_head-clause-read : goal.returns-in-Some-read_based_head-clause-read
returns-in-Some-read_based_head-clause-read g c =
    based-came (g.R.Read.remaining c.args.reader.now) (g.R.Read.remaining c.read_line.new.reader) c.read_line.new.line.items c.in-Some-read_based_head.kind c.args.kept.now.wanted c.read_based.new.kept c.read_based.result c.in-Line.ensures.read.0 (sym (c.read_head.ensures.read ∙ ap head_of c.as_slice.ensures.value) ∙ c.in-None.is) (sym (c.read_based_head.ensures ∙ ap based_head_of c.as_slice-in-None.ensures.value) ∙ c.in-Some-read_based_head.is) c.read_based.ensures.checked c.read_based.ensures.kind c.read_based.ensures.kept

pub returns-in-Some-read_based_head-clause-ends : goal.returns-in-Some-read_based_head-clause-ends
returns-in-Some-read_based_head-clause-ends g c =
    well-follows c.read_based.result (ends-more (g.R.Read.remaining c.args.reader.now) (g.R.Read.remaining c.read_line.new.reader) c.args.turns c.read_line.new.turns c.read_line.ensures.uses) c.read_based.ensures.ends
