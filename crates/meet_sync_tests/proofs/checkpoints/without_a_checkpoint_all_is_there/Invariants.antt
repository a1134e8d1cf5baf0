-- What stays true from turn to turn of `without_a_checkpoint_all_is_there`, src/checkpoints.rt.
use Rattle.meet_sync_tests.proofs.checkpoints.without_a_checkpoint_all_is_there.Given as goal

abbrev pub ghosts-whole-N-Ledger : goal.ghosts-whole-N-Ledger
ghosts-whole-N-Ledger a call = record { name = call.parts.blanks.records.name; parts = call.parts.blanks.records.parts }

abbrev pub ghosts-whole-N-Ledgers : goal.ghosts-whole-N-Ledgers
ghosts-whole-N-Ledgers a call = record { folds = call.parts.blanks.folds.name; moments = call.parts.blanks.moments; cap = 5 }
