-- What stays true from turn to turn of `run_pool`, src/runs.rt.
use Rattle.meet_tickets.specs.Limits.{most_records}
use Rattle.pool_callers.proofs.runs.run_pool.Given as goal

-- the ledgers of the pool that is made
abbrev pub ghosts-at_parts-N-Ledger : goal.ghosts-at_parts-N-Ledger
ghosts-at_parts-N-Ledger g a = record { name = a.parts.blanks.records.name; parts = a.parts.blanks.records.parts }

abbrev pub ghosts-at_parts-N-Ledgers : goal.ghosts-at_parts-N-Ledgers
ghosts-at_parts-N-Ledgers g a = record { folds = a.parts.blanks.folds.name; moments = a.parts.blanks.moments; cap = most_records }

-- what it is made with
abbrev pub ghosts-at_parts-N-PoolLedgers : goal.ghosts-at_parts-N-PoolLedgers
ghosts-at_parts-N-PoolLedgers g a =
    record { settings = record { sizes = a.parts.sizes; queue = a.parts.queue; policy = a.parts.policy } }
