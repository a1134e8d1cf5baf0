-- What stays true from turn to turn of `started`, src/whole.rt.
use Rattle.meet_drive.proofs.whole.started.Given as goal

-- the ledger of the queue that is made
abbrev pub ghosts-driving-N-Ledger : goal.ghosts-driving-N-Ledger
ghosts-driving-N-Ledger g a = record { name = a.parts.blanks.records.name; parts = a.parts.blanks.records.parts }

abbrev pub ghosts-driving-N-Ledgers : goal.ghosts-driving-N-Ledgers
ghosts-driving-N-Ledgers g a = record { folds = a.parts.blanks.folds.name; moments = a.parts.blanks.moments; cap = a.cap }
