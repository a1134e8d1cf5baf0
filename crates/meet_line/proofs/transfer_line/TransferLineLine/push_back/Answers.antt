-- Proof of `TransferLine::push_back`, src/transfer_line.rt. A node that waits comes to its place, another to the ring.
use Rattle.std.proofs.Common.{◌≢◌, ◌-◌, ◌<◌, ◌∙◌, ◌++◌, ◌∷◌, [], ap, sym, subst, length, All}
use Rattle.meet_line.specs.Merged.{merged, Comes}
use Rattle.meet_line.proofs.Merging.{all-from_merged}
use Rattle.meet_line.proofs.MergedLine.{waiting-come, buffered-come, fits-seat}
use Rattle.meet_line.proofs.transfer_line.TransferLineLine.push_back.Goals as goal

pub push_back-requires-clause-fresh : goal.push_back-requires-clause-fresh
push_back-requires-clause-fresh g c =
    let fresh : All (λ e. e.ticket ≢ c.args.entry.ticket) (merged c.self.inside.seats.entries c.self.inside.ring.entries) = subst (λ v. All (λ e. e.ticket ≢ c.args.entry.ticket) (merged v.waiting v.buffered)) (sym c.self.view_is) c.requires.fresh in
    (all-from_merged (λ e. e.ticket ≢ c.args.entry.ticket) c.self.inside.seats.entries c.self.inside.ring.entries fresh).0

pub push_back-requires-clause-fits : goal.push_back-requires-clause-fits
push_back-requires-clause-fits g c =
    let fits : Comes c.self.inside.seats.width (merged c.self.inside.seats.entries c.self.inside.ring.entries) c.args.entry = subst (λ v. Comes v.width (merged v.waiting v.buffered) c.args.entry) (sym c.self.view_is) c.requires.fits in
    fits-seat c.self.inside.seats.entries c.self.inside.ring.entries c.self.inside.ring.room c.self.invariant c.self.inside.seats.width c.args.entry fits c.if-entry.true

pub invariant_of-self : goal.invariant_of-self
invariant_of-self g c =
    let above : All (λ e. e.ticket < c.args.entry.ticket) (merged c.self.inside.seats.entries c.self.inside.ring.entries) = subst (λ v. All (λ e. e.ticket < c.args.entry.ticket) (merged v.waiting v.buffered)) (sym c.self.view_is) c.requires.fits.above in
    let some : 0 < c.self.inside.ring.room - length c.self.inside.seats.entries = subst (λ v. 0 < v.room) (sym c.self.view_is) c.requires.room in
    (waiting-come c.self.inside.seats.entries c.self.inside.ring.entries c.self.inside.ring.room c.self.invariant c.push_back.new.self.entries c.args.entry above some c.push_back.ensures.entries).kept

pub push_back-requires-else-entry-clause-fresh : goal.push_back-requires-else-entry-clause-fresh
push_back-requires-else-entry-clause-fresh g c =
    let fresh : All (λ e. e.ticket ≢ c.args.entry.ticket) (merged c.self.inside.seats.entries c.self.inside.ring.entries) = subst (λ v. All (λ e. e.ticket ≢ c.args.entry.ticket) (merged v.waiting v.buffered)) (sym c.self.view_is) c.requires.fresh in
    (all-from_merged (λ e. e.ticket ≢ c.args.entry.ticket) c.self.inside.seats.entries c.self.inside.ring.entries fresh).1

pub invariant_of-self-else-entry : goal.invariant_of-self-else-entry
invariant_of-self-else-entry g c =
    let above : All (λ e. e.ticket < c.args.entry.ticket) (merged c.self.inside.seats.entries c.self.inside.ring.entries) = subst (λ v. All (λ e. e.ticket < c.args.entry.ticket) (merged v.waiting v.buffered)) (sym c.self.view_is) c.requires.fits.above in
    let some : 0 < c.self.inside.ring.room - length c.self.inside.seats.entries = subst (λ v. 0 < v.room) (sym c.self.view_is) c.requires.room in
    (buffered-come c.self.inside.seats.entries c.self.inside.ring.entries c.self.inside.ring.room c.self.invariant c.push_back-else-entry.new.self.entries c.push_back-else-entry.new.self.room c.args.entry above some c.push_back-else-entry.ensures.entries c.push_back-else-entry.ensures.room).kept

pub returns-then-entry-clause-entries : goal.returns-then-entry-clause-entries
returns-then-entry-clause-entries g c =
    let above : All (λ e. e.ticket < c.args.entry.ticket) (merged c.self.inside.seats.entries c.self.inside.ring.entries) = subst (λ v. All (λ e. e.ticket < c.args.entry.ticket) (merged v.waiting v.buffered)) (sym c.self.view_is) c.requires.fits.above in
    let some : 0 < c.self.inside.ring.room - length c.self.inside.seats.entries = subst (λ v. 0 < v.room) (sym c.self.view_is) c.requires.room in
    (waiting-come c.self.inside.seats.entries c.self.inside.ring.entries c.self.inside.ring.room c.self.invariant c.push_back.new.self.entries c.args.entry above some c.push_back.ensures.entries).line ∙ ap (λ v. merged v.waiting v.buffered ++ c.args.entry ∷ []) c.self.view_is

pub returns-else-entry-clause-entries : goal.returns-else-entry-clause-entries
returns-else-entry-clause-entries g c =
    let above : All (λ e. e.ticket < c.args.entry.ticket) (merged c.self.inside.seats.entries c.self.inside.ring.entries) = subst (λ v. All (λ e. e.ticket < c.args.entry.ticket) (merged v.waiting v.buffered)) (sym c.self.view_is) c.requires.fits.above in
    let some : 0 < c.self.inside.ring.room - length c.self.inside.seats.entries = subst (λ v. 0 < v.room) (sym c.self.view_is) c.requires.room in
    (buffered-come c.self.inside.seats.entries c.self.inside.ring.entries c.self.inside.ring.room c.self.invariant c.push_back-else-entry.new.self.entries c.push_back-else-entry.new.self.room c.args.entry above some c.push_back-else-entry.ensures.entries c.push_back-else-entry.ensures.room).line ∙ ap (λ v. merged v.waiting v.buffered ++ c.args.entry ∷ []) c.self.view_is
