-- What stays true from turn to turn of `left_idle`, src/ends.rt.
use Rattle.meet_tickets.specs.Limits.{most_records}
use Rattle.pool_uses_tests.proofs.ends.left_idle.Given as goal

-- the ledgers of the pool that is made
abbrev pub ghosts-play_idle-N-Ledger : goal.ghosts-play_idle-N-Ledger
ghosts-play_idle-N-Ledger g a = record { name = a.parts.blanks.records.name; parts = a.parts.blanks.records.parts }

abbrev pub ghosts-play_idle-N-Ledgers : goal.ghosts-play_idle-N-Ledgers
ghosts-play_idle-N-Ledgers g a = record { folds = a.parts.blanks.folds.name; moments = a.parts.blanks.moments; cap = most_records }

-- what it is made with
abbrev pub ghosts-play_idle-N-PoolLedgers : goal.ghosts-play_idle-N-PoolLedgers
ghosts-play_idle-N-PoolLedgers g a =
    record { settings = record { sizes = a.parts.sizes; queue = a.parts.queue; policy = a.parts.policy } }
