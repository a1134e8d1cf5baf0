-- Proof of `next_setup`, src/script/next.rt. Reads a script's first line.
use Rattle.std.proofs.Common.{◌∙◌, ap}
use Rattle.meet_run.specs.Scripts.Grammar.{setup_of}
use Rattle.meet_history.specs.Limits.{IsInLimits}
use Rattle.meet_run.proofs.Scripts.ScriptLemmas.{setup-too_long}
use Rattle.meet_run.proofs.Texts.NextLemmas.{next-is, fits-read}
use Rattle.meet_run.proofs.script.next.next_setup.Goals as goal

pub returns-clause-fits : goal.returns-clause-fits
returns-clause-fits g c = fits-read IsInLimits c.next_of.result c.read_line-came.result c.read_setup.result c.next_of.ensures c.read_setup.ensures.fits

pub returns-clause-next : goal.returns-clause-next
returns-clause-next g c =
    let line = c.read_line-came.new.line.items in
    next-is setup_of c.next_of.result c.read_line-came.result c.read_setup.result (g.R.Read.remaining c.args.reader.now) (g.R.Read.remaining c.read_line-came.new.reader) c.args.turns.now c.read_line-came.new.turns line
    (λ l long. setup-too_long l long) c.read_line-came.ensures.read c.read_line-came.ensures.spends c.next_of.ensures (c.read_setup.ensures.read ∙ ap setup_of c.as_slice.ensures.value)
