-- What stays true from turn to turn of `hold`, src/queues.rt.
use Rattle.soak.proofs.queues.hold.Given as goal

abbrev pub ghosts-held-N-Ledger : goal.ghosts-held-N-Ledger
ghosts-held-N-Ledger a call = record { name = call.parts.blanks.records.name; parts = call.parts.blanks.records.parts }

abbrev pub ghosts-held-N-Ledgers : goal.ghosts-held-N-Ledgers
ghosts-held-N-Ledgers a call = record { folds = call.parts.blanks.folds.name; moments = call.parts.blanks.moments; cap = call.round.cap }
