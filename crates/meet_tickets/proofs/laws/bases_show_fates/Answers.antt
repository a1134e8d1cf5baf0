-- Proof of `bases_show_fates`, src/laws.rt. Each entry of a well-formed base shows its ticket's fate, and any other
-- ticket up to its last is past, and stays so.
use Rattle.meet_tickets.proofs.Told.FatesOn.{shows_fates}
use Rattle.meet_tickets.proofs.laws.bases_show_fates.Goals as goal

pub returns : goal.returns
returns c = shows_fates
