-- What stays true from turn to turn of `put_then_poll`, src/moments.rt.
use Rattle.ibisbookcase.specs.Limits.{most_records}
use Rattle.examples.proofs.moments.put_then_poll.Given as goal

-- the ledgers of the queue that is made
abbrev pub ghosts-put_and_poll_at-N-Ledger : goal.ghosts-put_and_poll_at-N-Ledger
ghosts-put_and_poll_at-N-Ledger g a = record { name = a.parts.blanks.records.name; parts = a.parts.blanks.records.parts }

abbrev pub ghosts-put_and_poll_at-N-Ledgers : goal.ghosts-put_and_poll_at-N-Ledgers
ghosts-put_and_poll_at-N-Ledgers g a = record { folds = a.parts.blanks.folds.name; moments = a.parts.blanks.moments; cap = most_records }
