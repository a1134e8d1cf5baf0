-- Proof of `Seated::widen`, src/seated.rt. Makes a place for each of this many seats.
use Rattle.std.proofs.Common.{◌≡◌, ◌-◌, ◌∙◌, ap, length, arith, rules}
use Rattle.meet_line.specs.Seated.{slots_of, line_of, seated, IsPadded}
use Rattle.meet_line.proofs.Relinks.{padded-ok}
use Rattle.meet_line.proofs.Sitting.{more, seats-are, seated-closed}
use Rattle.meet_line.proofs.seated.Seated.widen.Goals as goal

pub invariant_of-self : goal.invariant_of-self
invariant_of-self g c =
    let same : c.widen_spots.new.spots.items ≡ c.self.inside.spots.items = search rules in
    rw same c.self.invariant

pub returns-then-is_err-clause-unchanged : goal.returns-then-is_err-clause-unchanged
returns-then-is_err-clause-unchanged g c =
    let same : c.widen_spots.new.spots.items ≡ c.self.inside.spots.items = search rules in
    ap (λ xs. seated xs c.self.inside.first c.self.inside.len) same ∙ c.self.view_is

pub invariant_of-self-2 : goal.invariant_of-self-2
invariant_of-self-2 g c =
    let came : IsPadded c.self.inside.spots.items c.widen_spots.new.spots.items (c.args.seats - length c.self.inside.spots.items) = padded-ok c.widen_spots.result (search rules) c.widen_spots.ensures.more in
    seated-closed _ _ _ _ _ (more c.self.inside.spots.items c.self.inside.first c.self.inside.last c.self.inside.len _ c.self.invariant c.widen_spots.new.spots.items (c.args.seats - length c.self.inside.spots.items) came).0

pub returns-clause-entries : goal.returns-clause-entries
returns-clause-entries g c =
    let came : IsPadded c.self.inside.spots.items c.widen_spots.new.spots.items (c.args.seats - length c.self.inside.spots.items) = padded-ok c.widen_spots.result (search rules) c.widen_spots.ensures.more in
    let wide = more c.self.inside.spots.items c.self.inside.first c.self.inside.last c.self.inside.len _ c.self.invariant c.widen_spots.new.spots.items (c.args.seats - length c.self.inside.spots.items) came in
    ap (line_of (slots_of c.widen_spots.new.spots.items)) (seats-are _ _ _ _ _ wide.0) ∙ wide.1 ∙ ap (λ v. v.entries) c.self.view_is

pub returns-clause-wide : goal.returns-clause-wide
returns-clause-wide g c =
    let came : IsPadded c.self.inside.spots.items c.widen_spots.new.spots.items (c.args.seats - length c.self.inside.spots.items) = padded-ok c.widen_spots.result (search rules) c.widen_spots.ensures.more in
    omega (arith, (more c.self.inside.spots.items c.self.inside.first c.self.inside.last c.self.inside.len _ c.self.invariant c.widen_spots.new.spots.items (c.args.seats - length c.self.inside.spots.items) came).2)

pub returns-clause-width : goal.returns-clause-width
returns-clause-width g c =
    let came : IsPadded c.self.inside.spots.items c.widen_spots.new.spots.items (c.args.seats - length c.self.inside.spots.items) = padded-ok c.widen_spots.result (search rules) c.widen_spots.ensures.more in
    omega (arith, (more c.self.inside.spots.items c.self.inside.first c.self.inside.last c.self.inside.len _ c.self.invariant c.widen_spots.new.spots.items (c.args.seats - length c.self.inside.spots.items) came).2, ap (λ v. v.width) c.self.view_is)
