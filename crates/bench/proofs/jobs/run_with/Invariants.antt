-- What stays true from turn to turn of `run_with`, src/jobs.rt.
use Rattle.meet_tickets.specs.Limits.{most_records}
use Rattle.bench.proofs.jobs.run_with.Given as goal

-- the ledgers of the pool that is made
abbrev pub ghosts-run_at-N-Ledger : goal.ghosts-run_at-N-Ledger
ghosts-run_at-N-Ledger g a = record { name = a.parts.blanks.records.name; parts = a.parts.blanks.records.parts }

abbrev pub ghosts-run_at-N-Ledgers : goal.ghosts-run_at-N-Ledgers
ghosts-run_at-N-Ledgers g a = record { folds = a.parts.blanks.folds.name; moments = a.parts.blanks.moments; cap = most_records }

-- what it is made with
abbrev pub ghosts-run_at-N-PoolLedgers : goal.ghosts-run_at-N-PoolLedgers
ghosts-run_at-N-PoolLedgers g a =
    record { settings = record { sizes = a.parts.sizes; queue = a.parts.queue; policy = a.parts.policy } }
