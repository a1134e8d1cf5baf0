-- What stays true from turn to turn of `seat_is_missing`, src/closing.rt.
use Rattle.meet_sync_tests.proofs.closing.seat_is_missing.Given as goal

abbrev pub ghosts-falls_short-N-Ledger : goal.ghosts-falls_short-N-Ledger
ghosts-falls_short-N-Ledger a call = record { name = call.parts.blanks.records.name; parts = call.parts.blanks.records.parts }

abbrev pub ghosts-falls_short-N-Ledgers : goal.ghosts-falls_short-N-Ledgers
ghosts-falls_short-N-Ledgers a call = record { folds = call.parts.blanks.folds.name; moments = call.parts.blanks.moments; cap = call.story.cap }
