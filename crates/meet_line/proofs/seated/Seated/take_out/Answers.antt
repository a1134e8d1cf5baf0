-- Proof of `Seated::take_out`, src/seated.rt. The node of this seat leaves.
use Rattle.std.proofs.Common.{◌≡◌, ℕ, ◌-◌, ◌≤◌, ◌∙◌, ◌∷◌, ◌++◌, List, Some, length, ap, sym, subst, arith}
use Rattle.std.proofs.Math.Path.{ap₂}
use Rattle.std.proofs.lemmas.List.{length-append}
use Rattle.meet_tickets.specs.declared.lines.Entry.{Entry}
use Rattle.meet_line.specs.Seated.{Sits, slots_of, line_of, IsSeated}
use Rattle.meet_line.proofs.Sitting.{seat_split, risen, sits-within, sits-after, sits-before, seats-are, seated-closed}
use Rattle.meet_line.proofs.seated.Seated.take_out.Given.{Over}
use Rattle.meet_line.proofs.seated.Seated.take_out.Goals.{After-unlink-taken}
use Rattle.meet_line.proofs.seated.Seated.take_out.Goals as goal

-- the node that leaves, by where it stands
at-entry : (g : Over) (c : After-unlink-taken g) → (front : List (Entry g.row.T.Denot)) (e : Entry g.row.T.Denot) (rest : List (Entry g.row.T.Denot)) → c.args.self.now.entries ≡ front ++ e ∷ rest → e.seat ≡ c.args.key → (xs : List ℕ) × (ys : List ℕ) × IsSeated c.unlink-taken.new.spots.items c.unlink-taken.new.first c.unlink-taken.new.last (c.self.inside.len - 1) (xs ++ ys) × (line_of (slots_of c.unlink-taken.new.spots.items) (xs ++ ys) ≡ front ++ rest) × (length c.unlink-taken.new.spots.items ≡ length c.self.inside.spots.items) × (1 ≤ c.self.inside.len) × (c.unlink-taken.result ≡ Some e)
at-entry g c front e rest all own =
    let there = seat_split c.self.inside.spots.items c.self.inside.first c.self.inside.last c.self.inside.len _ c.self.invariant front e rest c.args.key (ap (λ v. v.entries) c.self.view_is ∙ all) own in
    let out = risen c.self.inside.spots.items c.self.inside.first c.self.inside.last c.self.inside.len _ c.self.invariant there.0 c.args.key there.1 c.unlink-taken.new.spots.items c.unlink-taken.new.first c.unlink-taken.new.last there.2 c.unlink-taken.ensures.gone in (
      there.0,
      there.1,
      out.0,
      out.1 ∙ ap₂ ◌++◌ there.4 there.5,
      out.2,
      out.3,
      c.unlink-taken.ensures.entry ∙ there.3,
    )

pub unlink-taken-requires-clause-there : goal.unlink-taken-requires-clause-there
unlink-taken-requires-clause-there g c =
    sits-within c.self.inside.spots.items c.self.inside.first c.self.inside.last c.self.inside.len _ c.self.invariant c.args.key (subst (λ v. Sits v.entries c.args.key) (sym c.self.view_is) c.requires)

pub unlink-taken-requires-clause-after : goal.unlink-taken-requires-clause-after
unlink-taken-requires-clause-after g c =
    sits-after c.self.inside.spots.items c.self.inside.first c.self.inside.last c.self.inside.len _ c.self.invariant c.args.key (subst (λ v. Sits v.entries c.args.key) (sym c.self.view_is) c.requires)

pub unlink-taken-requires-clause-before : goal.unlink-taken-requires-clause-before
unlink-taken-requires-clause-before g c =
    sits-before c.self.inside.spots.items c.self.inside.first c.self.inside.last c.self.inside.len _ c.self.invariant c.args.key (subst (λ v. Sits v.entries c.args.key) (sym c.self.view_is) c.requires)

pub overflow_sub-self : goal.overflow_sub-self
overflow_sub-self g c =
    (at-entry g (goal.at.overflow_sub-self g c).After-unlink-taken c.requires.front c.requires.entry c.requires.rest c.requires.all c.requires.own).5

pub invariant_of-self : goal.invariant_of-self
invariant_of-self g c =
    seated-closed _ _ _ _ _ (at-entry g (goal.at.invariant_of-self g c).After-unlink-taken c.requires.front c.requires.entry c.requires.rest c.requires.all c.requires.own).2

pub returns-clause-entries : goal.returns-clause-entries
returns-clause-entries g c front e rest all own =
    let out = at-entry g (goal.at.returns-clause-entries g c).After-unlink-taken front e rest all own in (
      out.6,
      ap (line_of (slots_of c.unlink-taken.new.spots.items)) (seats-are _ _ _ _ _ out.2) ∙ out.3,
    )

pub returns-clause-width : goal.returns-clause-width
returns-clause-width g c =
    let out = at-entry g (goal.at.returns-clause-width g c).After-unlink-taken c.requires.front c.requires.entry c.requires.rest c.requires.all c.requires.own in
    out.4 ∙ ap (λ v. v.width) c.self.view_is

pub returns-clause-count : goal.returns-clause-count
returns-clause-count g c =
    let at = c.requires in
    let out = at-entry g (goal.at.returns-clause-count g c).After-unlink-taken at.front at.entry at.rest at.all at.own in
    let left = ap (line_of (slots_of c.unlink-taken.new.spots.items)) (seats-are _ _ _ _ _ out.2) ∙ out.3 in
    omega (arith, ap length left, ap length at.all, length-append at.front (at.entry ∷ at.rest), length-append at.front at.rest)
