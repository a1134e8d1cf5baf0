-- Proof of `next_request`, src/next.rt. Reads the line of a call.
use Rattle.std.proofs.Common.{◌∙◌, ap}
use Rattle.meet_run.proofs.Texts.NextLemmas.{next-is, fits-read}
use Rattle.pool_run.specs.Requests.{request_of}
use Rattle.pool_run.specs.Spelling.{FitsRequest}
use Rattle.pool_run.proofs.RequestLemmas.{request-too_long}
use Rattle.pool_run.proofs.next.next_request.Goals as goal

pub returns-clause-fits : goal.returns-clause-fits
returns-clause-fits g c = fits-read FitsRequest c.next_of.result c.read_line-came.result c.read_request.result c.next_of.ensures c.read_request.ensures.fits

pub returns-clause-next : goal.returns-clause-next
returns-clause-next g c =
    let line = c.read_line-came.new.line.items in
    next-is request_of c.next_of.result c.read_line-came.result c.read_request.result (g.R.Read.remaining c.args.reader.now) (g.R.Read.remaining c.read_line-came.new.reader) c.args.turns.now c.read_line-came.new.turns line
    (λ l long. request-too_long l long) c.read_line-came.ensures.read c.read_line-came.ensures.spends c.next_of.ensures (c.read_request.ensures.read ∙ ap request_of c.as_slice.ensures.value)
