-- What stays true from turn to turn of `run`, src/withdrawals.rt.
use Rattle.meet_tickets.specs.Limits.{most_records}
use Rattle.bench.proofs.withdrawals.run.Given as goal

-- the ledgers of the queue that is made
abbrev pub ghosts-run_at-N-Ledger : goal.ghosts-run_at-N-Ledger
ghosts-run_at-N-Ledger g a = record { name = a.parts.blanks.records.name; parts = a.parts.blanks.records.parts }

abbrev pub ghosts-run_at-N-Ledgers : goal.ghosts-run_at-N-Ledgers
ghosts-run_at-N-Ledgers g a = record { folds = a.parts.blanks.folds.name; moments = a.parts.blanks.moments; cap = most_records }
