-- Proof of `settings_have_one_spelling`, src/spellings.rt. A script's first line reads as what a pool is made with
-- exactly where it is its one spelling, its numbers are below 2^64, and it has at most 128 bytes.
use Rattle.pool_run.proofs.SettingsLemmas.{settings-have-one-spelling}
use Rattle.pool_run.proofs.spellings.settings_have_one_spelling.Goals as goal

pub returns : goal.returns
returns c = settings-have-one-spelling
