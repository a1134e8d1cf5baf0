-- What stays true from turn to turn of `a_place_lives`, src/growth.rt.
use Rattle.meet_place_tests.proofs.growth.a_place_lives.Given as goal

abbrev pub ghosts-lives-N-Ledger : goal.ghosts-lives-N-Ledger
ghosts-lives-N-Ledger a call = record { name = call.parts.blanks.records.name; parts = call.parts.blanks.records.parts }

abbrev pub ghosts-lives-N-Ledgers : goal.ghosts-lives-N-Ledgers
ghosts-lives-N-Ledgers a call = record { folds = call.parts.blanks.folds.name; moments = call.parts.blanks.moments; cap = call.parts.book.cap }
