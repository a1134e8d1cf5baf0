-- What stays true from turn to turn of `pipe_squares`, src/pipeline.rt.
use Rattle.ibisbookcase.specs.Limits.{most_records}
use Rattle.examples.proofs.pipeline.pipe_squares.Given as goal

-- the ledgers of the queues that are made
abbrev pub ghosts-pipe-M-Ledger : goal.ghosts-pipe-M-Ledger
ghosts-pipe-M-Ledger g a = record { name = a.first.blanks.records.name; parts = a.first.blanks.records.parts }

abbrev pub ghosts-pipe-M-Ledgers : goal.ghosts-pipe-M-Ledgers
ghosts-pipe-M-Ledgers g a = record { folds = a.first.blanks.folds.name; moments = a.first.blanks.moments; cap = most_records }

abbrev pub ghosts-pipe-N-Ledger : goal.ghosts-pipe-N-Ledger
ghosts-pipe-N-Ledger g a = record { name = a.second.blanks.records.name; parts = a.second.blanks.records.parts }

abbrev pub ghosts-pipe-N-Ledgers : goal.ghosts-pipe-N-Ledgers
ghosts-pipe-N-Ledgers g a = record { folds = a.second.blanks.folds.name; moments = a.second.blanks.moments; cap = most_records }
