-- What stays true from turn to turn of `played`, src/plays.rt.
use Rattle.meet_shop.proofs.plays.played.Given as goal

abbrev pub ghosts-playing-N-Ledger : goal.ghosts-playing-N-Ledger
ghosts-playing-N-Ledger a call = record { name = call.parts.blanks.records.name; parts = call.parts.blanks.records.parts }

abbrev pub ghosts-playing-N-Ledgers : goal.ghosts-playing-N-Ledgers
ghosts-playing-N-Ledgers a call = record { folds = call.parts.blanks.folds.name; moments = call.parts.blanks.moments; cap = call.story.cap }
