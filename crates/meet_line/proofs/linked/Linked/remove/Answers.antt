-- Proof of `Linked::remove`, src/linked.rt. The entry of this ticket leaves, if it is there.
use Rattle.std.proofs.Common.{◌≡◌, ◌+◌, ◌≤◌, ◌∙◌, ◌==◌, ap, sym, arith, subst, None, Some, find, length, option_to_list}
use Rattle.meet_tickets.specs.BySeat.{without_first}
use Rattle.meet_tickets.specs.declared.lines.Entry.{Entry}
use Rattle.meet_line.specs.Rolled.{IsFound}
use Rattle.meet_line.specs.Stored.{entries_of, fellows, IsLookedAt}
use Rattle.meet_line.proofs.Stored.{taken-out, found-met, looked-met, found-nobody, within-slots, held-rest, looked-few, some_same, TakenOut}
use Rattle.meet_line.proofs.linked.Linked.remove.Given.{Over}
use Rattle.meet_line.proofs.linked.Linked.remove.Goals.{After-find-found, After-take_out-removed}
use Rattle.meet_line.proofs.linked.Linked.remove.Goals as goal

pub returns-in_err-key-clause-entry : goal.returns-in_err-key-clause-entry
returns-in_err-key-clause-entry g c =
    let nobody : IsFound c.self.inside.roll.places c.self.inside.roll.buckets c.args.ticket None c.find-found.result.looked = subst (λ t. IsFound c.self.inside.roll.places c.self.inside.roll.buckets t None c.find-found.result.looked) c.number.ensures.value (subst (λ o. IsFound c.self.inside.roll.places c.self.inside.roll.buckets c.number.result o c.find-found.result.looked) c.in_err-key.was c.find-found.ensures) in
    c.from_residual.ensures ∙ (found-nobody c.self.inside.roll c.self.inside.slots.items c.self.inside.room c.self.invariant c.args.ticket c.find-found.result.looked nobody).0 ∙ ap (λ v. find (λ e. e.ticket == c.args.ticket) v.entries) c.self.view_is

pub returns-in_err-key-clause-entries : goal.returns-in_err-key-clause-entries
returns-in_err-key-clause-entries g c =
    let nobody : IsFound c.self.inside.roll.places c.self.inside.roll.buckets c.args.ticket None c.find-found.result.looked = subst (λ t. IsFound c.self.inside.roll.places c.self.inside.roll.buckets t None c.find-found.result.looked) c.number.ensures.value (subst (λ o. IsFound c.self.inside.roll.places c.self.inside.roll.buckets c.number.result o c.find-found.result.looked) c.in_err-key.was c.find-found.ensures) in
    (found-nobody c.self.inside.roll c.self.inside.slots.items c.self.inside.room c.self.invariant c.args.ticket c.find-found.result.looked nobody).1 ∙ ap (λ v. without_first (λ e. e.ticket == c.args.ticket) v.entries) c.self.view_is

pub returns-in_err-key-clause-looked : goal.returns-in_err-key-clause-looked
returns-in_err-key-clause-looked g c =
    let nobody : IsFound c.self.inside.roll.places c.self.inside.roll.buckets c.args.ticket None c.find-found.result.looked = subst (λ t. IsFound c.self.inside.roll.places c.self.inside.roll.buckets t None c.find-found.result.looked) c.number.ensures.value (subst (λ o. IsFound c.self.inside.roll.places c.self.inside.roll.buckets c.number.result o c.find-found.result.looked) c.in_err-key.was c.find-found.ensures) in
    subst (λ v. IsLookedAt v.buckets c.args.ticket v.entries c.from_residual.result c.find-found.result.looked) c.self.view_is (
    subst (λ o. IsLookedAt c.self.inside.roll.buckets c.args.ticket (entries_of c.self.inside.slots.items c.self.inside.roll.places) o c.find-found.result.looked) (sym c.from_residual.ensures) (
    (found-nobody c.self.inside.roll c.self.inside.slots.items c.self.inside.room c.self.invariant c.args.ticket c.find-found.result.looked nobody).2
    )
    )

pub take_out-removed-requires-clause-wide : goal.take_out-removed-requires-clause-wide
take_out-removed-requires-clause-wide g c =
    let there = subst (λ o. IsFound c.self.inside.roll.places c.self.inside.roll.buckets c.number.result o c.find-found.result.looked) c.in_ok-key.was c.find-found.ensures in
    within-slots c.self.inside.roll c.self.inside.slots.items c.self.inside.room c.self.invariant c.in_ok-key.key there.0

pub invariant_of-self-2 : goal.invariant_of-self-2
invariant_of-self-2 g c =
    let at = (subst (λ o. IsFound c.self.inside.roll.places c.self.inside.roll.buckets c.number.result o c.find-found.result.looked) c.in_ok-key.was c.find-found.ensures).0 in
    (taken-out c.self.inside.roll c.self.inside.slots.items c.self.inside.room c.self.invariant c.take_out-removed.new.roll c.take_out-removed.new.slots.items c.in_ok-key.key c.take_out-removed.result at (c.take_out-removed.ensures.places at.front at.place at.rest at.all at.own) c.take_out-removed.ensures.width c.take_out-removed.ensures.buckets c.take_out-removed.ensures.slots c.take_out-removed.ensures.entry).stored

-- what is found, and what its removal leaves
removed : (g : Over) (c : After-take_out-removed g) → (there : IsFound c.self.inside.roll.places c.self.inside.roll.buckets c.args.ticket (Some c.in_ok-key.key) c.find-found.result.looked) × TakenOut c.self.inside.roll c.take_out-removed.new.roll c.self.inside.slots.items c.take_out-removed.new.slots.items c.self.inside.room there.0.place.ticket there.0.front there.0.rest c.take_out-removed.result
removed g c =
    let there : IsFound c.self.inside.roll.places c.self.inside.roll.buckets c.args.ticket (Some c.in_ok-key.key) c.find-found.result.looked = subst (λ t. IsFound c.self.inside.roll.places c.self.inside.roll.buckets t (Some c.in_ok-key.key) c.find-found.result.looked) c.number.ensures.value (subst (λ o. IsFound c.self.inside.roll.places c.self.inside.roll.buckets c.number.result o c.find-found.result.looked) c.in_ok-key.was c.find-found.ensures) in
    let at = there.0 in
    (there, taken-out c.self.inside.roll c.self.inside.slots.items c.self.inside.room c.self.invariant c.take_out-removed.new.roll c.take_out-removed.new.slots.items c.in_ok-key.key c.take_out-removed.result at (c.take_out-removed.ensures.places at.front at.place at.rest at.all at.own) c.take_out-removed.ensures.width c.take_out-removed.ensures.buckets c.take_out-removed.ensures.slots c.take_out-removed.ensures.entry)

pub returns-clause-entry : goal.returns-clause-entry
returns-clause-entry g c =
    let r = removed g (goal.at.returns-clause-entry g c).After-take_out-removed in
    (found-met _ _ _ _ _ _ _ _ _ r.1 c.args.ticket r.0.1 c.self.invariant.tickets).0 ∙ ap (λ v. find (λ e. e.ticket == c.args.ticket) v.entries) c.self.view_is

pub returns-clause-entries : goal.returns-clause-entries
returns-clause-entries g c =
    let r = removed g (goal.at.returns-clause-entries g c).After-take_out-removed in
    (found-met _ _ _ _ _ _ _ _ _ r.1 c.args.ticket r.0.1 c.self.invariant.tickets).1 ∙ ap (λ v. without_first (λ e. e.ticket == c.args.ticket) v.entries) c.self.view_is

pub returns-clause-room : goal.returns-clause-room
returns-clause-room g c =
    let r = removed g (goal.at.returns-clause-room g c).After-take_out-removed in
    ap (λ v. v.room + 1) c.self.view_is ∙ ap (λ o. c.args.self.now.room + length (option_to_list o)) (sym r.1.is)

pub returns-clause-looked : goal.returns-clause-looked
returns-clause-looked g c =
    let r = removed g (goal.at.returns-clause-looked g c).After-take_out-removed in
    subst (λ v. IsLookedAt v.buckets c.args.ticket v.entries c.take_out-removed.result c.find-found.result.looked) c.self.view_is (
    looked-met _ _ _ _ _ _ _ _ _ r.1 c.self.inside.roll.buckets c.args.ticket c.find-found.result.looked r.0.2 (held-rest c.self.inside.roll c.self.inside.slots.items c.self.inside.room c.self.invariant c.in_ok-key.key r.0.0)
    )

pub returns-in_err-key-clause-few : goal.returns-in_err-key-clause-few
returns-in_err-key-clause-few g c =
    let nobody : IsFound c.self.inside.roll.places c.self.inside.roll.buckets c.args.ticket None c.find-found.result.looked = subst (λ t. IsFound c.self.inside.roll.places c.self.inside.roll.buckets t None c.find-found.result.looked) c.number.ensures.value (subst (λ o. IsFound c.self.inside.roll.places c.self.inside.roll.buckets c.number.result o c.find-found.result.looked) c.in_err-key.was c.find-found.ensures) in
    let looked = (found-nobody c.self.inside.roll c.self.inside.slots.items c.self.inside.room c.self.invariant c.args.ticket c.find-found.result.looked nobody).2 in
    subst (λ v. c.find-found.result.looked ≤ fellows v.buckets c.args.ticket v.entries) c.self.view_is (omega (arith, looked))

pub returns-clause-few : goal.returns-clause-few
returns-clause-few g c =
    let r = removed g (goal.at.returns-clause-few g c).After-take_out-removed in
    let looked = looked-met _ _ _ _ _ _ _ _ _ r.1 c.self.inside.roll.buckets c.args.ticket c.find-found.result.looked r.0.2 (held-rest c.self.inside.roll c.self.inside.slots.items c.self.inside.room c.self.invariant c.in_ok-key.key r.0.0) in
    let own : (e : Entry _) → c.take_out-removed.result ≡ Some e → e.ticket ≡ c.args.ticket = λ e is. let same : r.1.entry ≡ e = some_same r.1.entry e (sym r.1.is ∙ is) in ap (λ a. a.ticket) (sym same) ∙ r.1.own ∙ r.0.1 in
    subst (λ v. c.find-found.result.looked ≤ fellows v.buckets c.args.ticket v.entries) c.self.view_is (looked-few c.self.inside.roll.buckets c.args.ticket (entries_of c.self.inside.slots.items c.self.inside.roll.places) c.take_out-removed.result c.find-found.result.looked own looked)
