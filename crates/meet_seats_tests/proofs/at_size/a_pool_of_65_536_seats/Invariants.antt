-- What stays true from turn to turn of `a_pool_of_65_536_seats`, src/at_size.rt.
use Rattle.meet_tickets.specs.Limits.{most_records}
use Rattle.meet_seats_tests.proofs.at_size.a_pool_of_65_536_seats.Given as goal

-- the ledgers of the queue that is made
abbrev pub ghosts-filled-N-Ledger : goal.ghosts-filled-N-Ledger
ghosts-filled-N-Ledger g a = record { name = a.parts.blanks.records.name; parts = a.parts.blanks.records.parts }

abbrev pub ghosts-filled-N-Ledgers : goal.ghosts-filled-N-Ledgers
ghosts-filled-N-Ledgers g a = record { folds = a.parts.blanks.folds.name; moments = a.parts.blanks.moments; cap = most_records }
