-- What stays true from turn to turn of `run_jobs`, src/jobs.rt.
use Rattle.ibisbookcase.specs.Limits.{most_records}
use Rattle.examples.proofs.jobs.run_jobs.Given as goal

-- the ledgers of the pool that is made
abbrev pub ghosts-run_all-N-Ledger : goal.ghosts-run_all-N-Ledger
ghosts-run_all-N-Ledger g a = record { name = a.parts.blanks.records.name; parts = a.parts.blanks.records.parts }

abbrev pub ghosts-run_all-N-Ledgers : goal.ghosts-run_all-N-Ledgers
ghosts-run_all-N-Ledgers g a = record { folds = a.parts.blanks.folds.name; moments = a.parts.blanks.moments; cap = most_records }

-- what it is made with
abbrev pub ghosts-run_all-N-PoolLedgers : goal.ghosts-run_all-N-PoolLedgers
ghosts-run_all-N-PoolLedgers g a =
    record { settings = record { sizes = a.parts.sizes; queue = a.parts.queue; policy = a.parts.policy } }
