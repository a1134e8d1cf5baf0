-- What stays true from turn to turn of `a_lost_seat_leaves_a_history`, src/chapters.rt.
use Rattle.meet_sync_tests.proofs.chapters.a_lost_seat_leaves_a_history.Given as goal

abbrev pub ghosts-without_seat_1-N-Ledger : goal.ghosts-without_seat_1-N-Ledger
ghosts-without_seat_1-N-Ledger a call = record { name = call.parts.blanks.records.name; parts = call.parts.blanks.records.parts }

abbrev pub ghosts-without_seat_1-N-Ledgers : goal.ghosts-without_seat_1-N-Ledgers
ghosts-without_seat_1-N-Ledgers a call = record { folds = call.parts.blanks.folds.name; moments = call.parts.blanks.moments; cap = 8 }
