-- The end of a task.
use Rattle.std.proofs.Common.{◌≡◌, ◌↔◌, ℕ, ◌<◌, ◌⊎◌, inl, inr, List, [], ◌∷◌, ◌++◌, arith}
use Rattle.atomic_table.specs.Seated.{TableId}
use Rattle.meet_tickets.specs.declared.refusals.Refusal.{Refusal}
use Rattle.meet_tickets.specs.declared.refusals.Refusal.TheVariants.{Memory, SeatMissing}
use Rattle.meet_exchange.specs.declared.seats.Back.{Back}
use Rattle.meet_exchange.specs.Closed.{AreOf, seat_of}

-- one seat more that is given back
pub of_snoc : {T : Type 0} (z : TableId) (bs : List (Back T)) (b : Back T) → AreOf z bs → (seat_of b).arena ≡ z → AreOf z (bs ++ b ∷ [])
of_snoc z [] b all e = (e, tt)
of_snoc z (x ∷ bs) b all e = (all.0, of_snoc z bs b all.1 e)

-- if no seat is missing, memory alone is a reason
pub memory_alone : (why : Refusal) (a b : ℕ) → (why ≡ SeatMissing) ↔ (a < b) → (why ≡ SeatMissing) ⊎ (why ≡ Memory) → a ≡ b → why ≡ Memory
memory_alone why a b missing (inl e) all = let l : a < b = missing.0 e in absurd (omega arith)
memory_alone why a b missing (inr e) all = e
