-- What `run_queue` calls `run_at` with, src/tasks.rt.
use Rattle.meet_tickets.specs.Limits.{most_records}
use Rattle.meet_tasks.proofs.tasks.run_queue.Given as goal

-- the ledgers of the queue that is made, and its order
abbrev pub ghosts-run_at-N-Ledger : goal.ghosts-run_at-N-Ledger
ghosts-run_at-N-Ledger g a = record { name = a.parts.blanks.records.name; parts = a.parts.blanks.records.parts }

abbrev pub ghosts-run_at-N-Ledgers : goal.ghosts-run_at-N-Ledgers
ghosts-run_at-N-Ledgers g a = record { folds = a.parts.blanks.folds.name; moments = a.parts.blanks.moments; cap = most_records }

abbrev pub ghosts-run_at-N-QueueLedgers : goal.ghosts-run_at-N-QueueLedgers
ghosts-run_at-N-QueueLedgers g a = record { order = a.order }
