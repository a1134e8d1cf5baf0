-- What stays true from turn to turn of `without_its_seat`, src/ends.rt.
use Rattle.meet_tickets.specs.Limits.{most_records}
use Rattle.pool_uses_tests.proofs.ends.without_its_seat.Given as goal

-- the ledgers of the pool that is made
abbrev pub ghosts-play_missing-N-Ledger : goal.ghosts-play_missing-N-Ledger
ghosts-play_missing-N-Ledger g a = record { name = a.parts.blanks.records.name; parts = a.parts.blanks.records.parts }

abbrev pub ghosts-play_missing-N-Ledgers : goal.ghosts-play_missing-N-Ledgers
ghosts-play_missing-N-Ledgers g a = record { folds = a.parts.blanks.folds.name; moments = a.parts.blanks.moments; cap = most_records }

-- what it is made with
abbrev pub ghosts-play_missing-N-PoolLedgers : goal.ghosts-play_missing-N-PoolLedgers
ghosts-play_missing-N-PoolLedgers g a =
    record { settings = record { sizes = a.parts.sizes; queue = a.parts.queue; policy = a.parts.policy } }
