-- Proof of `fates_move`, src/laws.rt. Along the prefixes of a legal history each ticket's fate stays or moves on, from
-- a few fates to a few others.
use Rattle.meet_laws.proofs.Moves.{fates_move_on}
use Rattle.meet_laws.proofs.laws.fates_move.Goals as goal

pub returns : goal.returns
returns c = fates_move_on
