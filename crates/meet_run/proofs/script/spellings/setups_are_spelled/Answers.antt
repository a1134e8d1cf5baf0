-- Proof of `setups_are_spelled`, src/script/spellings.rt. A first line reads as a place exactly where it spells it,
-- with any options at their default left out, and the place is in its limits.
use Rattle.meet_run.proofs.Scripts.SetupLemmas.{setups-are-spelled}
use Rattle.meet_run.proofs.script.spellings.setups_are_spelled.Goals as goal

pub returns : goal.returns
returns c = setups-are-spelled
