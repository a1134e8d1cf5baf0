-- What stays true from turn to turn of `wanders`, src/chance.rt.
use Rattle.meet_wakes_tests.proofs.chance.wanders.Given as goal

abbrev pub ghosts-walking-N-Ledger : goal.ghosts-walking-N-Ledger
ghosts-walking-N-Ledger a call = record { name = call.parts.blanks.records.name; parts = call.parts.blanks.records.parts }

abbrev pub ghosts-walking-N-Ledgers : goal.ghosts-walking-N-Ledgers
ghosts-walking-N-Ledgers a call = record { folds = call.parts.blanks.folds.name; moments = call.parts.blanks.moments; cap = 1048576 }
