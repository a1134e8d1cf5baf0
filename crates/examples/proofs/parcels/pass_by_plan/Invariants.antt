-- What stays true from turn to turn of `pass_by_plan`, src/parcels.rt.
use Rattle.examples.proofs.parcels.pass_by_plan.Given as goal

-- the ledgers of the queue that is made
abbrev pub ghosts-pass-N-Ledger : goal.ghosts-pass-N-Ledger
ghosts-pass-N-Ledger g a = record { name = a.parts.blanks.records.name; parts = a.parts.blanks.records.parts }

abbrev pub ghosts-pass-N-Ledgers : goal.ghosts-pass-N-Ledgers
ghosts-pass-N-Ledgers g a = record { folds = a.parts.blanks.folds.name; moments = a.parts.blanks.moments; cap = a.plan.cap }
