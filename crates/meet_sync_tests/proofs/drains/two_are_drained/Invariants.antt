-- What stays true from turn to turn of `two_are_drained`, src/drains.rt.
use Rattle.meet_tickets.specs.Limits.{most_records}
use Rattle.meet_sync_tests.proofs.drains.two_are_drained.Given as goal

abbrev pub ghosts-a_day-N-Ledger : goal.ghosts-a_day-N-Ledger
ghosts-a_day-N-Ledger a call = record { name = call.parts.blanks.records.name; parts = call.parts.blanks.records.parts }

abbrev pub ghosts-a_day-N-Ledgers : goal.ghosts-a_day-N-Ledgers
ghosts-a_day-N-Ledgers a call = record { folds = call.parts.blanks.folds.name; moments = call.parts.blanks.moments; cap = most_records }
