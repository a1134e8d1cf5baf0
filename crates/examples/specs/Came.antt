-- What came of an offer.
use Rattle.std.specs.Prelude.{◌≡◌, ◌≢◌, ℕ, ◌⊎◌, ◌<◌, [], ◌∷◌}
use Rattle.atomic_table.specs.Seated.{TableId}
use Rattle.meet_exchange.specs.Rounds.{part}
use Rattle.meet_exchange.specs.Seats.{SeatView, PendingView, Went}
use Rattle.meet_exchange.specs.Words.{code_in}
use Rattle.meet_exchange.specs.Calls.{StandsAt}
use Rattle.meet_exchange.specs.declared.records.SlotDeed.TheVariants.{Collected, Withdrawn}
use Rattle.meet_exchange.specs.declared.seats.Back.{Back}
use Rattle.meet_exchange.specs.declared.seats.Back.TheVariants.{Free, Held}
use Rattle.examples.specs.declared.parcels.passing.Parcel.{Parcel}

-- the seat s is that of the offer p with one part more, which names the parcel that came: another's, or the own one,
-- taken back after a look that saw no answer
abbrev pub Came : PendingView → (s : SeatView) → Parcel → Type 0
Came p s parcel = Went p.seat s (part p.slot p.round (Collected parcel.mark) ∷ []) []
    ⊎ ((parcel.mark ≡ p.mark) × (w : ℕ) × (code_in w ≢ 4)
    × Went p.seat s (part p.slot p.round Withdrawn ∷ []) ((p.slot, w) ∷ []))

-- the offer q is the offer p, which stands: one look saw no answer, and then its parcel was posted no more
abbrev pub Stands : (p q : PendingView) → Type 0
Stands p q = StandsAt p.slot p.round p.mark q
    × (w : ℕ) × (u : ℕ) × (code_in w ≢ 4) × (code_in u ≢ 2) × Went p.seat q.seat [] ((p.slot, w) ∷ (p.slot, u) ∷ [])

-- a seat of this arena, which has so many slots
abbrev pub IsOf : TableId → (slots : ℕ) → Back Parcel → Type 0
IsOf z slots (Free seat) = seat.arena ≡ z
IsOf z slots (Held pending) = (pending.seat.arena ≡ z) × (pending.slot < slots)
