-- What stays true from turn to turn of `lives_long`, src/forgetting.rt.
use Rattle.meet_tickets.specs.Limits.{most_records}
use Rattle.pool_threads_tests.proofs.forgetting.lives_long.Given as goal

-- the ledgers of the pool that is made
abbrev pub ghosts-play_long-N-Ledger : goal.ghosts-play_long-N-Ledger
ghosts-play_long-N-Ledger g a = record { name = a.parts.blanks.records.name; parts = a.parts.blanks.records.parts }

abbrev pub ghosts-play_long-N-Ledgers : goal.ghosts-play_long-N-Ledgers
ghosts-play_long-N-Ledgers g a = record { folds = a.parts.blanks.folds.name; moments = a.parts.blanks.moments; cap = most_records }

-- what it is made with
abbrev pub ghosts-play_long-N-PoolLedgers : goal.ghosts-play_long-N-PoolLedgers
ghosts-play_long-N-PoolLedgers g a =
    record { settings = record { sizes = a.parts.sizes; queue = a.parts.queue; policy = a.parts.policy } }
