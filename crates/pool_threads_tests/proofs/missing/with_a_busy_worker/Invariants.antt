-- What stays true from turn to turn of `with_a_busy_worker`, src/missing.rt.
use Rattle.meet_tickets.specs.Limits.{most_records}
use Rattle.pool_threads_tests.proofs.missing.with_a_busy_worker.Given as goal

-- the ledgers of the pool that is made
abbrev pub ghosts-play_busy-N-Ledger : goal.ghosts-play_busy-N-Ledger
ghosts-play_busy-N-Ledger g a = record { name = a.parts.blanks.records.name; parts = a.parts.blanks.records.parts }

abbrev pub ghosts-play_busy-N-Ledgers : goal.ghosts-play_busy-N-Ledgers
ghosts-play_busy-N-Ledgers g a = record { folds = a.parts.blanks.folds.name; moments = a.parts.blanks.moments; cap = most_records }

-- what it is made with
abbrev pub ghosts-play_busy-N-PoolLedgers : goal.ghosts-play_busy-N-PoolLedgers
ghosts-play_busy-N-PoolLedgers g a =
    record { settings = record { sizes = a.parts.sizes; queue = a.parts.queue; policy = a.parts.policy } }
