-- Proof of `columns_are_true`, src/laws.rt.
use Rattle.meet_draw.proofs.TrueColumns.{columns-are-true}
use Rattle.meet_draw.proofs.laws.columns_are_true.Goals as goal

pub returns : goal.returns
returns c = columns-are-true
