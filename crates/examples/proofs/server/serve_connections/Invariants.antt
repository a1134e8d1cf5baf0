-- What stays true from turn to turn of `serve_connections`, src/server.rt.
use Rattle.ibisbookcase.specs.Limits.{most_records}
use Rattle.examples.proofs.server.serve_connections.Given as goal

-- the ledgers of the queue that is made
abbrev pub ghosts-open_server-N-Ledger : goal.ghosts-open_server-N-Ledger
ghosts-open_server-N-Ledger g a = record { name = a.parts.blanks.records.name; parts = a.parts.blanks.records.parts }

abbrev pub ghosts-open_server-N-Ledgers : goal.ghosts-open_server-N-Ledgers
ghosts-open_server-N-Ledgers g a = record { folds = a.parts.blanks.folds.name; moments = a.parts.blanks.moments; cap = most_records }
