-- Proof of `Linked::entry`, src/linked.rt. The entry of this ticket, if it is there.
use Rattle.std.proofs.Common.{◌∙◌, ◌==◌, ap, subst, None, Some, find, option_map, arith}
use Rattle.std.proofs.lemmas.List.{get_or_read}
use Rattle.meet_line.specs.Rolled.{IsFound}
use Rattle.meet_line.proofs.Stored.{found-nobody, found-slot, within-slots}
use Rattle.meet_line.proofs.linked.Linked.entry.Goals as goal

pub returns-in_err-key : goal.returns-in_err-key
returns-in_err-key g c =
    let nobody : IsFound c.self.inside.roll.places c.self.inside.roll.buckets c.args.ticket None c.find.result.looked = subst (λ t. IsFound c.self.inside.roll.places c.self.inside.roll.buckets t None c.find.result.looked) c.number.ensures.value (subst (λ o. IsFound c.self.inside.roll.places c.self.inside.roll.buckets c.number.result o c.find.result.looked) c.in_err-key.was c.find.ensures) in
    ap (option_map (λ e. e.now)) c.from_residual.ensures ∙ (found-nobody c.self.inside.roll c.self.inside.slots.items c.self.inside.room c.self.invariant c.args.ticket c.find.result.looked nobody).0 ∙ ap (λ v. find (λ e. e.ticket == c.args.ticket) v.entries) c.self.view_is

pub index-requires : goal.index-requires
index-requires g c =
    let there = subst (λ o. IsFound c.self.inside.roll.places c.self.inside.roll.buckets c.number.result o c.find.result.looked) c.in_ok-key.was c.find.ensures in
    omega (arith, within-slots c.self.inside.roll c.self.inside.slots.items c.self.inside.room c.self.invariant c.in_ok-key.key there.0, c.self.inside.slots.ok.0)

pub returns : goal.returns
returns g c =
    let there : IsFound c.self.inside.roll.places c.self.inside.roll.buckets c.args.ticket (Some c.in_ok-key.key) c.find.result.looked = subst (λ t. IsFound c.self.inside.roll.places c.self.inside.roll.buckets t (Some c.in_ok-key.key) c.find.result.looked) c.number.ensures.value (subst (λ o. IsFound c.self.inside.roll.places c.self.inside.roll.buckets c.number.result o c.find.result.looked) c.in_ok-key.was c.find.ensures) in
    let within = within-slots c.self.inside.roll c.self.inside.slots.items c.self.inside.room c.self.invariant c.in_ok-key.key there.0 in
    c.as_ref.ensures.value ∙ get_or_read c.self.inside.slots.items c.in_ok-key.key c.index.result.now within c.index.ensures None
    ∙ found-slot c.self.inside.roll c.self.inside.slots.items c.self.inside.room c.self.invariant c.args.ticket c.in_ok-key.key there.0 there.1
    ∙ ap (λ v. find (λ e. e.ticket == c.args.ticket) v.entries) c.self.view_is
