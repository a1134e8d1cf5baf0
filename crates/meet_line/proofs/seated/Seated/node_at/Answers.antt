-- Proof of `Seated::node_at`, src/seated.rt. The node of this seat.
use Rattle.std.proofs.Common.{◌≡◌, ◌∙◌, ap, sym, subst, None, arith}
use Rattle.meet_line.specs.Stored.{slot_at}
use Rattle.meet_line.specs.Seated.{Sits, slots_of}
use Rattle.meet_line.proofs.Relinks.{field-read}
use Rattle.meet_line.proofs.Sitting.{sits-within, seat_split}
use Rattle.meet_line.proofs.seated.Seated.node_at.Goals as goal

pub index-requires : goal.index-requires
index-requires g c =
    let at = subst (λ v. Sits v.entries c.args.key) (sym c.self.view_is) c.requires in
    omega (arith, sits-within c.self.inside.spots.items c.self.inside.first c.self.inside.last c.self.inside.len _ c.self.invariant c.args.key at, c.self.inside.spots.ok.0)

pub returns : goal.returns
returns g c front e rest all own =
    let at = subst (λ v. Sits v.entries c.args.key) (sym c.self.view_is) c.requires in
    let within = sits-within c.self.inside.spots.items c.self.inside.first c.self.inside.last c.self.inside.len _ c.self.invariant c.args.key at in
    let read : c.index.result.now.entry ≡ slot_at (slots_of c.self.inside.spots.items) c.args.key = sym (field-read (λ s. s.entry) c.self.inside.spots.items c.args.key c.index.result.now None within c.index.ensures) in
    c.as_ref.ensures.value ∙ read ∙ (seat_split c.self.inside.spots.items c.self.inside.first c.self.inside.last c.self.inside.len _ c.self.invariant front e rest c.args.key (ap (λ v. v.entries) c.self.view_is ∙ all) own).3
