-- What stays true from turn to turn of `happens`, src/steps.rt.
use Rattle.meet_shop.proofs.steps.happens.Given as goal

abbrev pub ghosts-stepping-N-Ledger : goal.ghosts-stepping-N-Ledger
ghosts-stepping-N-Ledger a call = record { name = call.parts.blanks.records.name; parts = call.parts.blanks.records.parts }

abbrev pub ghosts-stepping-N-Ledgers : goal.ghosts-stepping-N-Ledgers
ghosts-stepping-N-Ledgers a call = record { folds = call.parts.blanks.folds.name; moments = call.parts.blanks.moments; cap = 100 }
