-- What stays true from turn to turn of `each_seat_is_given_out_once`, src/one_thread.rt.
use Rattle.meet_tickets.specs.Limits.{most_records}
use Rattle.meet_seats_tests.proofs.one_thread.each_seat_is_given_out_once.Given as goal

-- the ledgers of the queue that is made
abbrev pub ghosts-looked-N-Ledger : goal.ghosts-looked-N-Ledger
ghosts-looked-N-Ledger g a = record { name = a.parts.blanks.records.name; parts = a.parts.blanks.records.parts }

abbrev pub ghosts-looked-N-Ledgers : goal.ghosts-looked-N-Ledgers
ghosts-looked-N-Ledgers g a = record { folds = a.parts.blanks.folds.name; moments = a.parts.blanks.moments; cap = most_records }
