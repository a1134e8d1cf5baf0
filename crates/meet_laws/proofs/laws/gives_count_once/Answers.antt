-- Proof of `gives_count_once`, src/laws.rt. Each give request counts once, by where its item is: delivered, returned,
-- kept or offered.
use Rattle.meet_laws.proofs.Tallied.{counted_once}
use Rattle.meet_laws.proofs.laws.gives_count_once.Goals as goal

pub returns : goal.returns
returns c = counted_once
