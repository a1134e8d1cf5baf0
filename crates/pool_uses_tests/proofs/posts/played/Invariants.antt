-- What stays true from turn to turn of `played`, src/posts.rt.
use Rattle.meet_tickets.specs.Limits.{most_records}
use Rattle.pool_uses_tests.proofs.posts.played.Given as goal

-- the ledgers of the pool that is made
abbrev pub ghosts-play-N-Ledger : goal.ghosts-play-N-Ledger
ghosts-play-N-Ledger g a = record { name = a.parts.blanks.records.name; parts = a.parts.blanks.records.parts }

abbrev pub ghosts-play-N-Ledgers : goal.ghosts-play-N-Ledgers
ghosts-play-N-Ledgers g a = record { folds = a.parts.blanks.folds.name; moments = a.parts.blanks.moments; cap = most_records }

-- what it is made with
abbrev pub ghosts-play-N-PoolLedgers : goal.ghosts-play-N-PoolLedgers
ghosts-play-N-PoolLedgers g a =
    record { settings = record { sizes = a.parts.sizes; queue = a.parts.queue; policy = a.parts.policy } }
