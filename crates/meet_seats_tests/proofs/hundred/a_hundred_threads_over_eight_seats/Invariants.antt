-- What stays true from turn to turn of `a_hundred_threads_over_eight_seats`, src/hundred.rt.
use Rattle.meet_tickets.specs.Limits.{most_records}
use Rattle.meet_seats_tests.proofs.hundred.a_hundred_threads_over_eight_seats.Given as goal

-- the ledgers of the queue that is made
abbrev pub ghosts-hundred-N-Ledger : goal.ghosts-hundred-N-Ledger
ghosts-hundred-N-Ledger g a = record { name = a.parts.blanks.records.name; parts = a.parts.blanks.records.parts }

abbrev pub ghosts-hundred-N-Ledgers : goal.ghosts-hundred-N-Ledgers
ghosts-hundred-N-Ledgers g a = record { folds = a.parts.blanks.folds.name; moments = a.parts.blanks.moments; cap = most_records }
