-- What stays true from turn to turn of `bears`, src/at_size.rt.
use Rattle.meet_sync_tests.proofs.at_size.bears.Given as goal

abbrev pub ghosts-loading-N-Ledger : goal.ghosts-loading-N-Ledger
ghosts-loading-N-Ledger a call = record { name = call.parts.blanks.records.name; parts = call.parts.blanks.records.parts }

abbrev pub ghosts-loading-N-Ledgers : goal.ghosts-loading-N-Ledgers
ghosts-loading-N-Ledgers a call = record { folds = call.parts.blanks.folds.name; moments = call.parts.blanks.moments; cap = 1048576 }
