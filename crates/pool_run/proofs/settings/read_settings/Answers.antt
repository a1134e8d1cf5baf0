-- Proof of `read_settings`, src/settings.rt. What the pool of a script's first line is made with, whether or not it can
-- be made; or none where the line is at fault.
use Rattle.std.proofs.Common.{◌≤◌, length, arith}
use Rattle.pool_run.proofs.SettingsLemmas.{settings-limits}
use Rattle.pool_run.proofs.settings.read_settings.Goals as goal

pub returns-clause-fits : goal.returns-clause-fits
returns-clause-fits c =
    let short : length c.args.line.now ≤ 128 = omega (arith, c.if-line-gt-LONGEST_LINE.false) in
    settings-limits c.args.line.now c.read_long_settings.result short c.read_long_settings.ensures
