-- Proof of `are_same_cut`, src/checker/same.rt. Whether two lists of tickets that were cut are the same.
use Rattle.std.proofs.Common.{◌≡◌, ◌==◌, ℕ, refl, ap, Option, Some, None}
use Rattle.std.specs.Bool.{Decides}
use Rattle.std.specs.Option.{option_eq}
use Rattle.std.proofs.lemmas.Bool.Decides.{Decides-eqb, Decides-and, Decides-like}
use Rattle.std.proofs.lemmas.Slice.Eq.{slice_eq-Decides}
use Rattle.meet_tickets.specs.declared.bases.OpenCut.{OpenCut}
use Rattle.meet_history.proofs.checker.same.are_same_cut.Goals as goal

item-decides : (a b : Option ℕ) → Decides (option_eq (λ x y. x == y) a b) (a ≡ b)
item-decides None None = (λ same. refl, λ same. refl)
item-decides None (Some b) = (λ same. cc, λ same. cc)
item-decides (Some a) None = (λ same. cc, λ same. cc)
item-decides (Some a) (Some b) = Decides-like _ (λ same. ap (λ x. Some x) same) (λ same. cc) (Decides-eqb a b)

pub returns : goal.returns
returns c = slice_eq-Decides (λ (a b : OpenCut). Decides-like _
    (λ same. (λ i. record { ticket = same.0 i; seat = same.1.0 i; item = same.1.1 i }))
    (λ same. (ap (λ (x : OpenCut). x.ticket) same, (ap (λ (x : OpenCut). x.seat) same, ap (λ (x : OpenCut). x.item) same)))
    (Decides-and _ _ (Decides-eqb a.ticket b.ticket) (Decides-and _ _ (Decides-eqb a.seat b.seat) (item-decides a.item b.item)))) _ _ _ c.eq.ensures
