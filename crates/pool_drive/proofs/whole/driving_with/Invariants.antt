-- What stays true from turn to turn of `driving_with`, src/whole.rt.
use Rattle.meet_tickets.specs.Limits.{most_records}
use Rattle.pool_drive.proofs.whole.driving_with.Given as goal

-- the ledgers of the pool that is made
abbrev pub ghosts-driving-N-Ledger : goal.ghosts-driving-N-Ledger
ghosts-driving-N-Ledger g a = record { name = a.parts.blanks.records.name; parts = a.parts.blanks.records.parts }

abbrev pub ghosts-driving-N-Ledgers : goal.ghosts-driving-N-Ledgers
ghosts-driving-N-Ledgers g a = record { folds = a.parts.blanks.folds.name; moments = a.parts.blanks.moments; cap = most_records }

-- what it is made with
abbrev pub ghosts-driving-N-PoolLedgers : goal.ghosts-driving-N-PoolLedgers
ghosts-driving-N-PoolLedgers g a =
    record { settings = record { sizes = a.parts.sizes; queue = a.parts.queue; policy = a.parts.policy } }
