-- What stays true from turn to turn of `a_new_queue`, src/growth/fresh.rt.
use Rattle.meet_tickets.specs.Limits.{most_records}
use Rattle.meet_growth_tests.proofs.growth.fresh.a_new_queue.Given as goal

-- the ledgers of the queue that is made
abbrev pub ghosts-is_made-N-Ledger : goal.ghosts-is_made-N-Ledger
ghosts-is_made-N-Ledger a call = record { name = call.parts.blanks.records.name; parts = call.parts.blanks.records.parts }

abbrev pub ghosts-is_made-N-Ledgers : goal.ghosts-is_made-N-Ledgers
ghosts-is_made-N-Ledgers a call = record { folds = call.parts.blanks.folds.name; moments = call.parts.blanks.moments; cap = most_records }
