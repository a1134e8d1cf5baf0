-- What interrupts of several seats, one after another, leave in the list of who interrupts them (our choice).
use Rattle.std.specs.Prelude.{◌≡◌, ℕ, ⊤, nat_eq, not, List, [], ◌∷◌, filter}
use Rattle.std.specs.List.{range_with_len}
use Rattle.meet_tickets.specs.declared.records.Record.{Record}
use Rattle.meet_tickets.specs.declared.records.Deed.{Deed}
use Rattle.meet_tickets.specs.declared.records.Deed.TheVariants.{Interrupt}
use Rattle.meet_core.specs.QueueRecords.{made}
use Rattle.meet_place.specs.Seats.{SeatView, Adds, SameSeat}
use Rattle.meet_sync.specs.declared.asked.Interrupted.{Interrupted}
use Rattle.meet_sync.specs.declared.asked.Interrupted.TheVariants.{Cut, Flagged}

-- the seats below this number but for one, in order
abbrev pub others : (own below : ℕ) → List ℕ
others own below = filter (λ number. not (nat_eq number own)) (range_with_len 0 below)

-- a seat's record of the interrupt of this target, which cut a ticket of it, or none, which is told as 0
abbrev pub IsInterrupt : (number target : ℕ) → Record Deed → Type 0
IsInterrupt number target entry = (ticket : ℕ) × (entry ≡ made number ticket (Interrupt target))

-- one for each target, in order
abbrev pub AreInterrupts : (number : ℕ) → (targets : List ℕ) → List (Record Deed) → Type 0
AreInterrupts number [] [] = ⊤
AreInterrupts number (target ∷ targets) (entry ∷ records) =
    IsInterrupt number target entry × AreInterrupts number targets records
AreInterrupts number targets records = ⊥

-- a seat interrupted these targets, one after another, and has a receipt for each
abbrev pub Interrupts : (old new : SeatView Deed) → (targets : List ℕ) → Type 0
Interrupts old new targets = SameSeat old new
    × (records : List (Record Deed)) × Adds old.list new.list records × AreInterrupts old.number targets records

module _ {N : Type 0} where
  -- the seat that an interrupt hands back
  abbrev pub seat_of : Interrupted N → SeatView Deed
  seat_of (Cut seat ticket) = seat
  seat_of (Flagged seat) = seat
