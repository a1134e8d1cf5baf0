-- Proof of `Seated::len`, src/seated.rt. How many nodes there are.
use Rattle.std.proofs.Common.{◌∙◌, ap, sym, length}
use Rattle.meet_line.proofs.Sitting.{length-line}
use Rattle.meet_line.proofs.seated.Seated.len.Goals as goal

pub returns-clause-count : goal.returns-clause-count
returns-clause-count g c = sym (length-line c.self.inside.spots.items c.self.inside.first c.self.inside.last c.self.inside.len _ c.self.invariant) ∙ ap (λ v. length v.entries) c.self.view_is
