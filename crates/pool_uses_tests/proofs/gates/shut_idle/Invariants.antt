-- What stays true from turn to turn of `shut_idle`, src/gates.rt.
use Rattle.meet_tickets.specs.Limits.{most_records}
use Rattle.pool_uses_tests.proofs.gates.shut_idle.Given as goal

-- the ledgers of the pool that is made
abbrev pub ghosts-play_shut-N-Ledger : goal.ghosts-play_shut-N-Ledger
ghosts-play_shut-N-Ledger g a = record { name = a.parts.blanks.records.name; parts = a.parts.blanks.records.parts }

abbrev pub ghosts-play_shut-N-Ledgers : goal.ghosts-play_shut-N-Ledgers
ghosts-play_shut-N-Ledgers g a = record { folds = a.parts.blanks.folds.name; moments = a.parts.blanks.moments; cap = most_records }

-- what it is made with
abbrev pub ghosts-play_shut-N-PoolLedgers : goal.ghosts-play_shut-N-PoolLedgers
ghosts-play_shut-N-PoolLedgers g a =
    record { settings = record { sizes = a.parts.sizes; queue = a.parts.queue; policy = a.parts.policy } }
