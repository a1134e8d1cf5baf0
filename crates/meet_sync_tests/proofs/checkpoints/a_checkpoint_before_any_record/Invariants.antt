-- What stays true from turn to turn of `a_checkpoint_before_any_record`, src/checkpoints.rt.
use Rattle.meet_sync_tests.proofs.checkpoints.a_checkpoint_before_any_record.Given as goal

abbrev pub ghosts-five_records-N-Ledger : goal.ghosts-five_records-N-Ledger
ghosts-five_records-N-Ledger a call = record { name = call.parts.blanks.records.name; parts = call.parts.blanks.records.parts }

abbrev pub ghosts-five_records-N-Ledgers : goal.ghosts-five_records-N-Ledgers
ghosts-five_records-N-Ledgers a call = record { folds = call.parts.blanks.folds.name; moments = call.parts.blanks.moments; cap = 5 }
