-- Proof of `Seated::push_back`, src/seated.rt. A node comes to the end.
use Rattle.std.proofs.Common.{◌≡◌, ◌≢◌, ◌+◌, ◌∙◌, ◌++◌, ◌∷◌, [], ap, sym, subst, All, arith}
use Rattle.meet_line.specs.Stored.{slot_at}
use Rattle.meet_line.specs.Seated.{Fits, IsLinked, IsSeated, slots_of, seats_of, line_of}
use Rattle.meet_line.proofs.Sitting.{sat, free-slot, free-place, last-within, seats-are, seated-closed}
use Rattle.meet_line.proofs.seated.Seated.push_back.Given.{Over}
use Rattle.meet_line.proofs.seated.Seated.push_back.Goals.{After-link}
use Rattle.meet_line.proofs.seated.Seated.push_back.Goals as goal

-- the node that came
came : (g : Over) (c : After-link g) → IsSeated c.link.new.spots.items c.link.new.first c.link.new.last (c.self.inside.len + 1) (seats_of c.self.inside.spots.items c.self.inside.first c.self.inside.len ++ c.args.entry.seat ∷ []) × (line_of (slots_of c.link.new.spots.items) (seats_of c.self.inside.spots.items c.self.inside.first c.self.inside.len ++ c.args.entry.seat ∷ []) ≡ line_of (slots_of c.self.inside.spots.items) (seats_of c.self.inside.spots.items c.self.inside.first c.self.inside.len) ++ c.args.entry ∷ [])
came g c =
    let fits = subst (λ v. Fits v.width v.entries c.args.entry) (sym c.self.view_is) c.requires.fits in
    let fresh = subst (λ v. All (λ e. e.ticket ≢ c.args.entry.ticket) v.entries) (sym c.self.view_is) c.requires.fresh in
    let linked = subst (λ k. IsLinked c.self.inside.spots.items c.link.new.spots.items c.self.inside.first c.link.new.first c.self.inside.last c.link.new.last k c.args.entry) c.number-key.ensures.value c.link.ensures in
    let out = sat c.self.inside.spots.items c.self.inside.first c.self.inside.last c.self.inside.len _ c.self.invariant c.args.entry c.link.new.spots.items c.link.new.first c.link.new.last fits fresh linked in
    (out.0, out.1)

pub link-requires-clause-free : goal.link-requires-clause-free
link-requires-clause-free g c =
    ap (slot_at (slots_of c.self.inside.spots.items)) c.number-key.ensures.value
    ∙ free-slot c.self.inside.spots.items c.self.inside.first c.self.inside.last c.self.inside.len _ c.self.invariant c.args.entry (subst (λ v. Fits v.width v.entries c.args.entry) (sym c.self.view_is) c.requires.fits)

pub link-requires-clause-last : goal.link-requires-clause-last
link-requires-clause-last g c = last-within c.self.inside.spots.items c.self.inside.first c.self.inside.last c.self.inside.len _ c.self.invariant

pub invariant_of-self : goal.invariant_of-self
invariant_of-self g c = seated-closed _ _ _ _ _ (came g (goal.at.invariant_of-self g c).After-link).0

pub returns-clause-entries : goal.returns-clause-entries
returns-clause-entries g c =
    let out = came g (goal.at.returns-clause-entries g c).After-link in
    ap (line_of (slots_of c.link.new.spots.items)) (seats-are _ _ _ _ _ out.0) ∙ out.1 ∙ ap (λ v. v.entries ++ c.args.entry ∷ []) c.self.view_is

pub overflow_add-self : goal.overflow_add-self
overflow_add-self g c =
    omega (arith, free-place c.self.inside.spots.items c.self.inside.first c.self.inside.last c.self.inside.len _ c.self.invariant c.args.entry (subst (λ v. Fits v.width v.entries c.args.entry) (sym c.self.view_is) c.requires.fits), c.self.inside.spots.ok.0)
