-- Proof of `find_chain`, src/trace/chains.rt. Reads a whole chain, and says what is found of it, and the line that says
-- so.
use Rattle.std.proofs.Common.{arith}
use Rattle.meet_run.specs.Tracing.Chains.{chain_fault_in}
use Rattle.meet_run.specs.Texts.Reading.{lines_of}
use Rattle.meet_run.proofs.Texts.LineLemmas.{uses-more, uses-fewer}
use Rattle.meet_run.proofs.Tracing.ReadParts.{whole-found, whole-faulty, no-line, long-line}
use Rattle.meet_run.proofs.Tracing.TraceReading.{names-it}
use Rattle.meet_run.proofs.trace.chains.find_chain.Goals as goal

pub returns-in-Line-clause-found : goal.returns-in-Line-clause-found
returns-in-Line-clause-found g c =
    whole-found (g.R.Read.remaining c.args.reader.now) (g.R.Read.remaining c.read_line.new.reader) c.read_line.new.line.items c.find_chapters.result (λ found. found.0) (λ found. found.1.items) c.in-Line.ensures.read.0 c.find_chapters.ensures.found

pub returns-in-Line-clause-bad : goal.returns-in-Line-clause-bad
returns-in-Line-clause-bad g c =
    whole-faulty (g.R.Read.remaining c.args.reader.now) (g.R.Read.remaining c.read_line.new.reader) c.read_line.new.line.items c.find_chapters.result c.in-Line.ensures.read.0 c.find_chapters.ensures.bad

pub returns-in-Line-clause-uses : goal.returns-in-Line-clause-uses
returns-in-Line-clause-uses g c =
    uses-fewer (g.R.Read.remaining c.args.reader.now) (g.R.Read.remaining c.find_chapters.new.reader) c.args.turns c.find_chapters.new.turns 0
    (uses-more (g.R.Read.remaining c.args.reader.now) (g.R.Read.remaining c.read_line.new.reader) (g.R.Read.remaining c.find_chapters.new.reader) c.args.turns c.read_line.new.turns c.find_chapters.new.turns c.read_line.ensures.uses c.find_chapters.ensures.uses)
    (omega arith)

pub returns-in-End-clause-bad : goal.returns-in-End-clause-bad
returns-in-End-clause-bad g c =
    names-it (g.R.Read.remaining c.args.reader.now) (λ input. chain_fault_in (lines_of input)) c.at_line.result 1 c.at_line.ensures (no-line (g.R.Read.remaining c.args.reader.now) (g.R.Read.remaining c.read_line.new.reader) c.in-End.ensures.read.0 c.in-End.ensures.read.1)

pub returns-in-TooLong-clause-bad : goal.returns-in-TooLong-clause-bad
returns-in-TooLong-clause-bad g c =
    names-it (g.R.Read.remaining c.args.reader.now) (λ input. chain_fault_in (lines_of input)) c.at_line-in-TooLong.result 1 c.at_line-in-TooLong.ensures (long-line (g.R.Read.remaining c.args.reader.now) c.in-TooLong.ensures.read)
