-- Interrupts of several seats, one after another.
use Rattle.std.proofs.Common.{◌≡◌, ℕ, ◌+◌, ◌++◌, ◌∙◌, ap, refl, subst, true, false, List, [], ◌∷◌}
use Rattle.std.specs.Prelude.{not, nat_eq}
use Rattle.std.proofs.lemmas.List.{append_assoc, map-append}
use Rattle.meet_tickets.specs.declared.records.Record.{Record}
use Rattle.meet_tickets.specs.declared.records.Deed.{Deed}
use Rattle.meet_place.proofs.Later.{later_both}
use Rattle.meet_place.proofs.Numbered.{passes, falls}
use Rattle.meet_place.specs.Seats.{SeatView}
use Rattle.meet_sync.specs.Asking.{InterruptedAs}
use Rattle.meet_sync.specs.Stopping.{AreInterrupts, Interrupts, others, seat_of}
use Rattle.meet_sync.specs.declared.asked.Interrupted.{Interrupted}
use Rattle.meet_sync.specs.declared.asked.Interrupted.TheVariants.{Cut, Flagged}

-- an interrupt, whatever came of it
pub interrupted_one : {N : Type 0} (seat : SeatView Deed) (target : ℕ) (interrupted : Interrupted N) → InterruptedAs seat target interrupted
    → Interrupts seat (seat_of interrupted) (target ∷ [])
interrupted_one seat target (Cut s t) (same, above, adds) = (same, _, adds, ((t, refl), _))
interrupted_one seat target (Flagged s) (same, adds) = (same, _, adds, ((0, refl), _))

together : (number : ℕ) (first second : List ℕ) (xs ys : List (Record Deed)) → AreInterrupts number first xs
    → AreInterrupts number second ys → AreInterrupts number (first ++ second) (xs ++ ys)
together number [] second [] ys p q = q
together number [] second (x ∷ xs) ys p q = absurd p
together number (target ∷ first) second [] ys p q = absurd p
together number (target ∷ first) second (x ∷ xs) ys (here, p) q = (here, together number first second xs ys p q)

-- those that were interrupted, and then others
interrupted_then : (seat between after : SeatView Deed) (first second : List ℕ) → Interrupts seat between first
    → Interrupts between after second → Interrupts seat after (first ++ second)
interrupted_then seat between after first second ((number, past, later), xs, (made, list, entries), p)
    ((number2, past2, later2), ys, (made2, list2, entries2), q) = (
      (
        number2 ∙ number,
        past2 ∙ past,
        later_both seat.moment between.moment after.moment seat.list between.list after.list later later2,
      ),
      xs ++ ys,
      (
        made ++ made2,
        list2 ∙ ap (λ l. l ++ made2) list ∙ append_assoc seat.list made made2,
        map-append (λ receipt. receipt.entry) made made2 ∙ (λ i. entries i ++ entries2 i),
      ),
      together seat.number first second xs ys p (subst (λ n. AreInterrupts n second ys) number q),
    )

-- one more of the others
pub interrupted_more : (seat between after : SeatView Deed) (own number : ℕ) → nat_eq number own ≡ false
    → Interrupts seat between (others own number) → Interrupts between after (number ∷ []) → Interrupts seat after (others own (number + 1))
interrupted_more seat between after own number differs p q =
    subst (Interrupts seat after) (passes (λ n. not (nat_eq n own)) number (others own number) refl (ap not differs))
    (interrupted_then seat between after (others own number) (number ∷ []) p q)

-- the seat itself is none of them
pub interrupted_same : (seat between : SeatView Deed) (own number : ℕ) → nat_eq number own ≡ true
    → Interrupts seat between (others own number) → Interrupts seat between (others own (number + 1))
interrupted_same seat between own number is p =
    subst (Interrupts seat between) (falls (λ n. not (nat_eq n own)) number (others own number) refl (ap not is)) p
