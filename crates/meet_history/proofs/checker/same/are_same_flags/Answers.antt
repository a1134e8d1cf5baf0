-- Proof of `are_same_flags`, src/checker/same.rt. Whether two lists of flagged seats are the same.
use Rattle.std.proofs.lemmas.Bool.Decides.{Decides-eqb}
use Rattle.std.proofs.lemmas.Slice.Eq.{slice_eq-Decides}
use Rattle.meet_history.proofs.checker.same.are_same_flags.Goals as goal

pub returns : goal.returns
returns c = slice_eq-Decides Decides-eqb _ _ _ c.eq.ensures
