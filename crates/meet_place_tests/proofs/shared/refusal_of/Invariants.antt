-- What stays true from turn to turn of `refusal_of`, src/shared.rt.
use Rattle.meet_place_tests.proofs.shared.refusal_of.Given as goal

abbrev pub ghosts-refusal-N-Ledger : goal.ghosts-refusal-N-Ledger
ghosts-refusal-N-Ledger a call = record { name = call.blanks.records.name; parts = call.blanks.records.parts }

abbrev pub ghosts-refusal-N-Ledgers : goal.ghosts-refusal-N-Ledgers
ghosts-refusal-N-Ledgers a call = record { folds = call.blanks.folds.name; moments = call.blanks.moments; cap = 100 }
