-- Proof of `next_settings`, src/next.rt. Reads a script's first line.
use Rattle.std.proofs.Common.{◌∙◌, ap}
use Rattle.meet_run.proofs.Texts.NextLemmas.{next-is, fits-read}
use Rattle.pool_run.specs.FirstLines.{settings_of}
use Rattle.pool_run.specs.Spelling.{FitsSettings}
use Rattle.pool_run.proofs.SettingsLemmas.{settings-too_long}
use Rattle.pool_run.proofs.next.next_settings.Goals as goal

pub returns-clause-fits : goal.returns-clause-fits
returns-clause-fits g c = fits-read FitsSettings c.next_of.result c.read_line-came.result c.read_settings.result c.next_of.ensures c.read_settings.ensures.fits

pub returns-clause-next : goal.returns-clause-next
returns-clause-next g c =
    let line = c.read_line-came.new.line.items in
    next-is settings_of c.next_of.result c.read_line-came.result c.read_settings.result (g.R.Read.remaining c.args.reader.now) (g.R.Read.remaining c.read_line-came.new.reader) c.args.turns.now c.read_line-came.new.turns line
    (λ l long. settings-too_long l long) c.read_line-came.ensures.read c.read_line-came.ensures.spends c.next_of.ensures (c.read_settings.ensures.read ∙ ap settings_of c.as_slice.ensures.value)
