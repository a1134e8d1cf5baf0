-- Proof of `next_pool_head`, src/next.rt. Reads a trace's first line.
use Rattle.std.proofs.Common.{◌∙◌, ap}
use Rattle.meet_run.proofs.Texts.NextLemmas.{next-is, fits-read}
use Rattle.pool_run.specs.FirstLines.{pool_head_of}
use Rattle.pool_run.specs.Spelling.{FitsPoolHead}
use Rattle.pool_run.proofs.HeadLemmas.{head-too_long}
use Rattle.pool_run.proofs.next.next_pool_head.Goals as goal

pub returns-clause-fits : goal.returns-clause-fits
returns-clause-fits g c = fits-read FitsPoolHead c.next_of.result c.read_line-came.result c.read_head.result c.next_of.ensures c.read_head.ensures.fits

pub returns-clause-next : goal.returns-clause-next
returns-clause-next g c =
    let line = c.read_line-came.new.line.items in
    next-is pool_head_of c.next_of.result c.read_line-came.result c.read_head.result (g.R.Read.remaining c.args.reader.now) (g.R.Read.remaining c.read_line-came.new.reader) c.args.turns.now c.read_line-came.new.turns line
    (λ l long. head-too_long l long) c.read_line-came.ensures.read c.read_line-came.ensures.spends c.next_of.ensures (c.read_head.ensures.read ∙ ap pool_head_of c.as_slice.ensures.value)
