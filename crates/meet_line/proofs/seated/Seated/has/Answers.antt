-- Proof of `Seated::has`, src/seated.rt. Whether the node of this seat, if there is one, is of this ticket.
use Rattle.std.proofs.Common.{◌≡◌, ◌<◌, ◌==◌, ◌∙◌, ap, sym, true, false, None, Some, inl, inr, length, arith}
use Rattle.std.proofs.lemmas.Bool.Decides.{eqb_tells}
use Rattle.meet_line.specs.Stored.{slot_at}
use Rattle.meet_line.specs.Seated.{Sits, slots_of, seats_of, line_of, seat_found}
use Rattle.meet_line.proofs.Relinks.{field-read}
use Rattle.meet_line.proofs.Sitting.{sits-within, slot-own, slot-found}
use Rattle.meet_line.proofs.seated.Seated.has.Given.{Over}
use Rattle.meet_line.proofs.seated.Seated.has.Goals.{After-eq}
use Rattle.meet_line.proofs.seated.Seated.has.Goals as goal

pub returns-then-key-len-clause-own : goal.returns-then-key-len-clause-own
returns-then-key-len-clause-own g c front e rest all own =
    let at : Sits (line_of (slots_of c.self.inside.spots.items) (seats_of c.self.inside.spots.items c.self.inside.first c.self.inside.len)) c.args.key = record { front = front; entry = e; rest = rest; all = ap (λ v. v.entries) c.self.view_is ∙ all; own = own } in
    absurd (omega (arith, sits-within c.self.inside.spots.items c.self.inside.first c.self.inside.last c.self.inside.len _ c.self.invariant c.args.key at, c.if-key-len.true, c.len.ensures, c.self.inside.spots.ok.0))

pub returns-in-None-clause-own : goal.returns-in-None-clause-own
returns-in-None-clause-own g c front e rest all own =
    let within : c.args.key < length c.self.inside.spots.items = omega (arith, c.if-key-len.false, c.len.ensures, c.self.inside.spots.ok.0) in
    let here : slot_at (slots_of c.self.inside.spots.items) c.args.key ≡ None = field-read (λ s. s.entry) c.self.inside.spots.items c.args.key c.index.result.now None within c.index.ensures ∙ c.in-None.is in
    let clash : None ≡ Some e = slot-own c.self.inside.spots.items c.self.inside.first c.self.inside.last c.self.inside.len _ c.self.invariant c.args.key None here front e rest (ap (λ v. v.entries) c.self.view_is ∙ all) own in
    absurd (cc)

-- the entry at the place
placed : (g : Over) (c : After-eq g) → slot_at (slots_of c.self.inside.spots.items) c.args.key ≡ Some c.in-Some.entry
placed g c =
    let within : c.args.key < length c.self.inside.spots.items = omega (arith, c.if-key-len.false, c.len.ensures, c.self.inside.spots.ok.0) in
    field-read (λ s. s.entry) c.self.inside.spots.items c.args.key c.index.result.now None within c.index.ensures ∙ c.in-Some.is

pub returns-in-Some-clause-found : goal.returns-in-Some-clause-found
returns-in-Some-clause-found g c is =
    let same : c.in-Some.entry.ticket ≡ c.args.ticket = elim (eqb_tells c.in-Some.entry.ticket c.args.ticket) [ inl y ↦ y.1 | inr n ↦ let clash : true ≡ false = sym is ∙ c.eq.ensures ∙ n.0 in absurd (cc) ] in
    ap (λ v. seat_found v.entries c.args.ticket) (sym c.self.view_is)
    ∙ slot-found c.self.inside.spots.items c.self.inside.first c.self.inside.last c.self.inside.len _ c.self.invariant c.args.key c.args.ticket c.in-Some.entry (placed g (goal.at.returns-in-Some-clause-found g c).After-eq) same

pub returns-in-Some-clause-own : goal.returns-in-Some-clause-own
returns-in-Some-clause-own g c front e rest all own =
    let both : Some c.in-Some.entry ≡ Some e = slot-own c.self.inside.spots.items c.self.inside.first c.self.inside.last c.self.inside.len _ c.self.invariant c.args.key (Some c.in-Some.entry) (placed g (goal.at.returns-in-Some-clause-own g c).After-eq) front e rest (ap (λ v. v.entries) c.self.view_is ∙ all) own in
    let same : c.in-Some.entry ≡ e = cc in
    c.eq.ensures ∙ ap (λ a. a.ticket == c.args.ticket) same
