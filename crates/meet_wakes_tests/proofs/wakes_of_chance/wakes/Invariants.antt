-- What stays true from turn to turn of `wakes`, src/wakes_of_chance.rt.
use Rattle.meet_wakes_tests.proofs.wakes_of_chance.wakes.Given as goal

abbrev pub ghosts-walking-N-Ledger : goal.ghosts-walking-N-Ledger
ghosts-walking-N-Ledger a call = record { name = call.parts.blanks.records.name; parts = call.parts.blanks.records.parts }

abbrev pub ghosts-walking-N-Ledgers : goal.ghosts-walking-N-Ledgers
ghosts-walking-N-Ledgers a call = record { folds = call.parts.blanks.folds.name; moments = call.parts.blanks.moments; cap = 100000 }
