-- Proof of `next_call`, src/script/next.rt. Reads the line of a call.
use Rattle.std.proofs.Common.{◌∙◌, ap}
use Rattle.meet_run.specs.Scripts.Grammar.{call_of}
use Rattle.meet_run.specs.Scripts.Spelling.{FitsCall}
use Rattle.meet_run.proofs.Scripts.ScriptLemmas.{call-too_long}
use Rattle.meet_run.proofs.Texts.NextLemmas.{next-is, fits-read}
use Rattle.meet_run.proofs.script.next.next_call.Goals as goal

pub returns-clause-fits : goal.returns-clause-fits
returns-clause-fits g c = fits-read (FitsCall c.args.order) c.next_of.result c.read_line-came.result c.read_call.result c.next_of.ensures c.read_call.ensures.fits

pub returns-clause-next : goal.returns-clause-next
returns-clause-next g c =
    let line = c.read_line-came.new.line.items in
    next-is (call_of c.args.order) c.next_of.result c.read_line-came.result c.read_call.result (g.R.Read.remaining c.args.reader.now) (g.R.Read.remaining c.read_line-came.new.reader) c.args.turns.now c.read_line-came.new.turns line
    (λ l long. call-too_long c.args.order l long) c.read_line-came.ensures.read c.read_line-came.ensures.spends c.next_of.ensures (c.read_call.ensures.read ∙ ap (call_of c.args.order) c.as_slice.ensures.value)
