-- Proof of `Linked::meet_first`, src/linked.rt. The first entry leaves, if there is one.
use Rattle.std.proofs.Common.{◌∙◌, ap, sym, drop}
use Rattle.meet_line.proofs.Stored.{stands-first, taken-out, first-met}
use Rattle.meet_line.proofs.linked.Linked.meet_first.Goals as goal

pub take_out-met-requires-clause-stands : goal.take_out-met-requires-clause-stands
take_out-met-requires-clause-stands g c = (stands-first c.self.inside.roll.places c.in_ok-key.key (sym c.first.ensures ∙ c.in_ok-key.was)).0

pub invariant_of-self : goal.invariant_of-self
invariant_of-self g c =
    let at = (stands-first c.self.inside.roll.places c.in_ok-key.key (sym c.first.ensures ∙ c.in_ok-key.was)).0 in
    (taken-out c.self.inside.roll c.self.inside.slots.items c.self.inside.room c.self.invariant c.take_out-met.new.roll c.take_out-met.new.slots.items c.in_ok-key.key c.take_out-met.result at (c.take_out-met.ensures.places at.front at.place at.rest at.all at.own) c.take_out-met.ensures.width c.take_out-met.ensures.buckets c.take_out-met.ensures.slots c.take_out-met.ensures.entry).stored

pub returns-clause-entries : goal.returns-clause-entries
returns-clause-entries g c =
    let first = stands-first c.self.inside.roll.places c.in_ok-key.key (sym c.first.ensures ∙ c.in_ok-key.was) in
    let at = first.0 in
    let out = taken-out c.self.inside.roll c.self.inside.slots.items c.self.inside.room c.self.invariant c.take_out-met.new.roll c.take_out-met.new.slots.items c.in_ok-key.key c.take_out-met.result at (c.take_out-met.ensures.places at.front at.place at.rest at.all at.own) c.take_out-met.ensures.width c.take_out-met.ensures.buckets c.take_out-met.ensures.slots c.take_out-met.ensures.entry in
    (first-met _ _ _ _ _ _ _ _ _ out first.1).1 ∙ ap (λ v. drop 1 v.entries) c.self.view_is
