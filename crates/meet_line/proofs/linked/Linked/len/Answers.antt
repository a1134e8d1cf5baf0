-- Proof of `Linked::len`, src/linked.rt. How many entries there are.
use Rattle.std.proofs.Common.{◌∙◌, ap, sym, length}
use Rattle.meet_line.proofs.Stored.{length-entries}
use Rattle.meet_line.proofs.linked.Linked.len.Goals as goal

pub returns-clause-count : goal.returns-clause-count
returns-clause-count g c = c.len.ensures ∙ sym (length-entries c.self.inside.slots.items c.self.inside.roll.places c.self.invariant.holds.held) ∙ ap (λ v. length v.entries) c.self.view_is
