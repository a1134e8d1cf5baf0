-- What stays true from turn to turn of `forgets`, src/growth/checkpoints.rt.
use Rattle.meet_growth_tests.proofs.growth.checkpoints.forgets.Given as goal

abbrev pub ghosts-cuts-N-Ledger : goal.ghosts-cuts-N-Ledger
ghosts-cuts-N-Ledger a call = record { name = call.parts.blanks.records.name; parts = call.parts.blanks.records.parts }

abbrev pub ghosts-cuts-N-Ledgers : goal.ghosts-cuts-N-Ledgers
ghosts-cuts-N-Ledgers a call = record { folds = call.parts.blanks.folds.name; moments = call.parts.blanks.moments; cap = call.day.cap }
