-- What stays true from turn to turn of `passes`, src/growth.rt.
use Rattle.meet_tickets.specs.Limits.{most_records}
use Rattle.pool_threads_tests.proofs.growth.passes.Given as goal

-- the ledgers of the pool that is made
abbrev pub ghosts-lives-N-Ledger : goal.ghosts-lives-N-Ledger
ghosts-lives-N-Ledger g a = record { name = a.parts.blanks.records.name; parts = a.parts.blanks.records.parts }

abbrev pub ghosts-lives-N-Ledgers : goal.ghosts-lives-N-Ledgers
ghosts-lives-N-Ledgers g a = record { folds = a.parts.blanks.folds.name; moments = a.parts.blanks.moments; cap = most_records }

-- what it is made with
abbrev pub ghosts-lives-N-PoolLedgers : goal.ghosts-lives-N-PoolLedgers
ghosts-lives-N-PoolLedgers g a =
    record { settings = record { sizes = a.parts.sizes; queue = a.parts.queue; policy = a.parts.policy } }
