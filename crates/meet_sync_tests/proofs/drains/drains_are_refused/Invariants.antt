-- What stays true from turn to turn of `drains_are_refused`, src/drains.rt.
use Rattle.meet_sync_tests.proofs.drains.drains_are_refused.Given as goal

abbrev pub ghosts-in_vain-N-Ledger : goal.ghosts-in_vain-N-Ledger
ghosts-in_vain-N-Ledger a call = record { name = call.parts.blanks.records.name; parts = call.parts.blanks.records.parts }

abbrev pub ghosts-in_vain-N-Ledgers : goal.ghosts-in_vain-N-Ledgers
ghosts-in_vain-N-Ledgers a call = record { folds = call.parts.blanks.folds.name; moments = call.parts.blanks.moments; cap = 3 }
