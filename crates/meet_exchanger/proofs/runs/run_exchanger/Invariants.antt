-- What `run_exchanger` calls `at_site` with, src/runs.rt.
use Rattle.meet_exchanger.proofs.runs.run_exchanger.Given as goal

-- the exchanger that is made
abbrev pub ghosts-at_site : goal.ghosts-at_site
ghosts-at_site g a = record { site = a.exchanger }
