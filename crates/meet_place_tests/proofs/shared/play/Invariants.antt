-- What stays true from turn to turn of `play`, src/shared.rt.
use Rattle.meet_place_tests.proofs.shared.play.Given as goal

abbrev pub ghosts-meeting-N-Ledger : goal.ghosts-meeting-N-Ledger
ghosts-meeting-N-Ledger a call = record { name = call.blanks.records.name; parts = call.blanks.records.parts }

abbrev pub ghosts-meeting-N-Ledgers : goal.ghosts-meeting-N-Ledgers
ghosts-meeting-N-Ledgers a call = record { folds = call.blanks.folds.name; moments = call.blanks.moments; cap = 1000000 }
