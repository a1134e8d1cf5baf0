-- Proof of `next_head`, src/trace/next.rt. Reads a trace's first line.
use Rattle.std.proofs.Common.{◌∙◌, ap}
use Rattle.meet_run.specs.Tracing.TraceGrammar.{head_of}
use Rattle.meet_run.specs.Tracing.TraceSpelling.{FitsHead}
use Rattle.meet_run.proofs.Texts.NextLemmas.{head-too_long, next-is, fits-read}
use Rattle.meet_run.proofs.trace.next.next_head.Goals as goal

pub returns-clause-fits : goal.returns-clause-fits
returns-clause-fits g c = fits-read FitsHead c.next_of.result c.read_line-came.result c.read_head.result c.next_of.ensures c.read_head.ensures.fits

pub returns-clause-next : goal.returns-clause-next
returns-clause-next g c =
    let line = c.read_line-came.new.line.items in
    next-is head_of c.next_of.result c.read_line-came.result c.read_head.result (g.R.Read.remaining c.args.reader.now) (g.R.Read.remaining c.read_line-came.new.reader) c.args.turns.now c.read_line-came.new.turns line
    (λ l long. head-too_long l long) c.read_line-came.ensures.read c.read_line-came.ensures.spends c.next_of.ensures (c.read_head.ensures.read ∙ ap head_of c.as_slice.ensures.value)
