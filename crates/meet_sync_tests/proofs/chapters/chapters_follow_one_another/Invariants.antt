-- What stays true from turn to turn of `chapters_follow_one_another`, src/chapters.rt.
use Rattle.meet_sync_tests.proofs.chapters.chapters_follow_one_another.Given as goal

abbrev pub ghosts-of_two_seats-N-Ledger : goal.ghosts-of_two_seats-N-Ledger
ghosts-of_two_seats-N-Ledger a call = record { name = call.parts.blanks.records.name; parts = call.parts.blanks.records.parts }

abbrev pub ghosts-of_two_seats-N-Ledgers : goal.ghosts-of_two_seats-N-Ledgers
ghosts-of_two_seats-N-Ledgers a call = record { folds = call.parts.blanks.folds.name; moments = call.parts.blanks.moments; cap = 8 }
