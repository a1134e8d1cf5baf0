-- Proof of `Linked::buckets`, src/linked.rt. How many buckets there are.
use Rattle.std.proofs.Common.{◌+◌, ◌≤◌, subst, arith, length}
use Rattle.meet_line.proofs.Stored.{length-entries}
use Rattle.meet_line.proofs.linked.Linked.buckets.Goals as goal

pub returns-clause-enough : goal.returns-clause-enough
returns-clause-enough g c =
    subst (λ v. length v.entries + v.room ≤ c.buckets.result) c.self.view_is (omega (arith, c.self.invariant.table, c.buckets.ensures.count, length-entries c.self.inside.slots.items c.self.inside.roll.places c.self.invariant.holds.held))
