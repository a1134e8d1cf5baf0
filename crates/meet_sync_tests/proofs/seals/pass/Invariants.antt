-- What stays true from turn to turn of `pass`, src/seals.rt.
use Rattle.meet_sync_tests.proofs.seals.pass.Given as goal

abbrev pub ghosts-passing-N-Ledger : goal.ghosts-passing-N-Ledger
ghosts-passing-N-Ledger a call = record { name = call.parts.blanks.records.name; parts = call.parts.blanks.records.parts }

abbrev pub ghosts-passing-N-Ledgers : goal.ghosts-passing-N-Ledgers
ghosts-passing-N-Ledgers a call = record { folds = call.parts.blanks.folds.name; moments = call.parts.blanks.moments; cap = 100 }
