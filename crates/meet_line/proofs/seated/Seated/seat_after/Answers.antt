-- Proof of `Seated::seat_after`, src/seated.rt. The seat of the node behind the one of this seat, if there is one.
use Rattle.std.proofs.Common.{◌≡◌, ◌∙◌, ap, sym, subst, None, arith}
use Rattle.meet_line.specs.Seated.{Sits, after_at}
use Rattle.meet_line.proofs.Relinks.{field-read}
use Rattle.meet_line.proofs.Sitting.{sits-within, after-is}
use Rattle.meet_line.proofs.seated.Seated.seat_after.Goals as goal

pub index-requires : goal.index-requires
index-requires g c =
    let at = subst (λ v. Sits v.entries c.args.key) (sym c.self.view_is) c.requires in
    omega (arith, sits-within c.self.inside.spots.items c.self.inside.first c.self.inside.last c.self.inside.len _ c.self.invariant c.args.key at, c.self.inside.spots.ok.0)

pub returns : goal.returns
returns g c front e rest all own =
    let items = c.self.inside.spots.items in
    let at = subst (λ v. Sits v.entries c.args.key) (sym c.self.view_is) c.requires in
    let within = sits-within items c.self.inside.first c.self.inside.last c.self.inside.len _ c.self.invariant c.args.key at in
    let read : c.index.result.now.after ≡ after_at items c.args.key = sym (field-read (λ s. s.after) items c.args.key c.index.result.now None within c.index.ensures) in
    c.key.ensures ∙ read ∙ after-is items c.self.inside.first c.self.inside.last c.self.inside.len _ c.self.invariant front e rest c.args.key (ap (λ v. v.entries) c.self.view_is ∙ all) own
