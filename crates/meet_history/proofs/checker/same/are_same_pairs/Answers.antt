-- Proof of `are_same_pairs`, src/checker/same.rt. Whether two lists of tickets that were met are the same.
use Rattle.std.proofs.Common.{◌≡◌, refl, ap}
use Rattle.std.specs.Bool.{Decides}
use denote.Enum.Bare.{sameb}
use Rattle.std.proofs.lemmas.Bool.Decides.{Decides-eqb, Decides-and, Decides-like}
use Rattle.std.proofs.lemmas.Slice.Eq.{slice_eq-Decides}
use Rattle.meet_tickets.specs.declared.places.Side.{Side}
use Rattle.meet_tickets.specs.declared.places.Side.TheVariants.{Giver, Taker}
use Rattle.meet_tickets.specs.contracts.places.Side.{the_type}
use Rattle.meet_tickets.specs.declared.bases.OpenPair.{OpenPair}
use Rattle.meet_history.proofs.checker.same.are_same_pairs.Goals as goal

side-decides : (a b : Side) → Decides (sameb the_type a b) (a ≡ b)
side-decides Giver Giver = (λ same. refl, λ same. refl)
side-decides Giver Taker = (λ same. cc, λ same. cc)
side-decides Taker Giver = (λ same. cc, λ same. cc)
side-decides Taker Taker = (λ same. refl, λ same. refl)

pub returns : goal.returns
returns c = slice_eq-Decides (λ (a b : OpenPair). Decides-like _
    (λ same. (λ i. record { ticket = same.0 i; seat = same.1.0 i; side = same.1.1.0 i; partner = same.1.1.1.0 i; mark = same.1.1.1.1 i }))
    (λ same. (ap (λ (x : OpenPair). x.ticket) same, (ap (λ (x : OpenPair). x.seat) same, (ap (λ (x : OpenPair). x.side) same, (ap (λ (x : OpenPair). x.partner) same, ap (λ (x : OpenPair). x.mark) same)))))
    (Decides-and _ _ (Decides-eqb a.ticket b.ticket) (Decides-and _ _ (Decides-eqb a.seat b.seat) (Decides-and _ _ (side-decides a.side b.side) (Decides-and _ _ (Decides-eqb a.partner b.partner) (Decides-eqb a.mark b.mark)))))) _ _ _ c.eq.ensures
