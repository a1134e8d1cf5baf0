-- What stays true from turn to turn of `trying`, src/tending.rt.
use Rattle.meet_sync_tests.proofs.tending.trying.Given as goal

abbrev pub ghosts-tried-N-Ledger : goal.ghosts-tried-N-Ledger
ghosts-tried-N-Ledger a call = record { name = call.parts.blanks.records.name; parts = call.parts.blanks.records.parts }

abbrev pub ghosts-tried-N-Ledgers : goal.ghosts-tried-N-Ledgers
ghosts-tried-N-Ledgers a call = record { folds = call.parts.blanks.folds.name; moments = call.parts.blanks.moments; cap = call.cap }
