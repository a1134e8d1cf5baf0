-- Proof of `Linked::meet_last`, src/linked.rt. The last entry leaves, if there is one.
use Rattle.std.proofs.Common.{◌-◌, ◌+◌, ◌∙◌, ap, sym, subst, take, length, option_to_list}
use Rattle.std.specs.Prelude.{slice_get}
use Rattle.meet_line.specs.Rolled.{IsLastKey}
use Rattle.meet_line.proofs.Stored.{taken-out, last-met, within-slots}
use Rattle.meet_line.proofs.linked.Linked.meet_last.Goals as goal

pub take_out-met-requires-clause-wide : goal.take_out-met-requires-clause-wide
take_out-met-requires-clause-wide g c =
    let last = subst (IsLastKey c.self.inside.roll.places) c.in_ok-key.was c.last.ensures in
    within-slots c.self.inside.roll c.self.inside.slots.items c.self.inside.room c.self.invariant c.in_ok-key.key last.0

pub invariant_of-self : goal.invariant_of-self
invariant_of-self g c =
    let at = (subst (IsLastKey c.self.inside.roll.places) c.in_ok-key.was c.last.ensures).0 in
    (taken-out c.self.inside.roll c.self.inside.slots.items c.self.inside.room c.self.invariant c.take_out-met.new.roll c.take_out-met.new.slots.items c.in_ok-key.key c.take_out-met.result at (c.take_out-met.ensures.places at.front at.place at.rest at.all at.own) c.take_out-met.ensures.width c.take_out-met.ensures.buckets c.take_out-met.ensures.slots c.take_out-met.ensures.entry).stored

pub returns-clause-entry : goal.returns-clause-entry
returns-clause-entry g c =
    let last = subst (IsLastKey c.self.inside.roll.places) c.in_ok-key.was c.last.ensures in
    let at = last.0 in
    let out = taken-out c.self.inside.roll c.self.inside.slots.items c.self.inside.room c.self.invariant c.take_out-met.new.roll c.take_out-met.new.slots.items c.in_ok-key.key c.take_out-met.result at (c.take_out-met.ensures.places at.front at.place at.rest at.all at.own) c.take_out-met.ensures.width c.take_out-met.ensures.buckets c.take_out-met.ensures.slots c.take_out-met.ensures.entry in
    (last-met _ _ _ _ _ _ _ _ _ out last.1).0 ∙ ap (λ v. slice_get v.entries (length v.entries - 1)) c.self.view_is

pub returns-clause-entries : goal.returns-clause-entries
returns-clause-entries g c =
    let last = subst (IsLastKey c.self.inside.roll.places) c.in_ok-key.was c.last.ensures in
    let at = last.0 in
    let out = taken-out c.self.inside.roll c.self.inside.slots.items c.self.inside.room c.self.invariant c.take_out-met.new.roll c.take_out-met.new.slots.items c.in_ok-key.key c.take_out-met.result at (c.take_out-met.ensures.places at.front at.place at.rest at.all at.own) c.take_out-met.ensures.width c.take_out-met.ensures.buckets c.take_out-met.ensures.slots c.take_out-met.ensures.entry in
    (last-met _ _ _ _ _ _ _ _ _ out last.1).1 ∙ ap (λ v. take (length v.entries - 1) v.entries) c.self.view_is

pub returns-clause-room : goal.returns-clause-room
returns-clause-room g c =
    let at = (subst (IsLastKey c.self.inside.roll.places) c.in_ok-key.was c.last.ensures).0 in
    let out = taken-out c.self.inside.roll c.self.inside.slots.items c.self.inside.room c.self.invariant c.take_out-met.new.roll c.take_out-met.new.slots.items c.in_ok-key.key c.take_out-met.result at (c.take_out-met.ensures.places at.front at.place at.rest at.all at.own) c.take_out-met.ensures.width c.take_out-met.ensures.buckets c.take_out-met.ensures.slots c.take_out-met.ensures.entry in
    ap (λ v. v.room + 1) c.self.view_is ∙ ap (λ o. c.args.self.now.room + length (option_to_list o)) (sym out.is)
