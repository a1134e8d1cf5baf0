-- An exchange that waits: how it stands from turn to turn, and how it ends (our choice).
use Rattle.std.specs.Prelude.{◌≡◌, ◌≢◌, ℕ, ◌+◌, ◌-◌, ◌<◌, ◌⊎◌, List, [], ◌∷◌, Option, Some, None}
use Rattle.atomic_table.specs.Seated.{TableId}
use Rattle.meet_exchange.specs.declared.records.SlotDeed.TheVariants.{Posted, Collected}
use Rattle.meet_exchange.specs.declared.endings.Gathered.{Gathered}
use Rattle.meet_exchange.specs.declared.endings.Gathered.TheVariants.{Got, NotYet}
use Rattle.meet_exchange.specs.declared.waiting.Going.{Going}
use Rattle.meet_exchange.specs.declared.waiting.Going.TheVariants.{Tries, Waits, Stays}
use Rattle.meet_exchange.specs.declared.waiting.Exchanged.{Exchanged}
use Rattle.meet_exchange.specs.declared.waiting.Exchanged.TheVariants.{Swapped, TimedOut, Worn, Memory}
use Rattle.meet_exchange.specs.declared.waiting.Next.{Next}
use Rattle.meet_exchange.specs.declared.waiting.Next.TheVariants.{Goes, Ends}
use Rattle.meet_exchange.specs.Words.{code_in}
use Rattle.meet_exchange.specs.Rounds.{part}
use Rattle.meet_exchange.specs.Calls.{StandsAt}
use Rattle.meet_exchange.specs.Seats.{SeatView, PendingView, Went}
use Rattle.meet_exchange.specs.Ways.{IsWithin, MayStand, IsOver, SawFree, SawTaken, HasCome}
use Rattle.meet_exchange.specs.Ways.{HasSwapped, HasCollected, HasTimedOut, HasWorn, HasNoRoom}

-- how an exchange of the seat v ends: with another seat's item, or with its own, of the mark a
module _ {T : Type 0} (mark : T → ℕ) (v : SeatView) (a n first : ℕ) (limit : Option ℕ) where
  abbrev pub EndsAs : Exchanged T → Type 0
  EndsAs (Swapped s x) = HasSwapped v a n first limit s (mark x) ⊎ HasCollected v a n first limit s (mark x)
  EndsAs (TimedOut s x) = (mark x ≡ a) × HasTimedOut v a n first limit s
  EndsAs (Worn s x) = (mark x ≡ a) × HasWorn v a n first limit s
  EndsAs (Memory s x) = (mark x ≡ a) × HasNoRoom v a n first limit s

-- the seat that an exchange ends with
abbrev pub seat_after : {T : Type 0} → Exchanged T → SeatView
seat_after (Swapped s x) = s
seat_after (TimedOut s x) = s
seat_after (Worn s x) = s
seat_after (Memory s x) = s

-- of a look for the answer to an offer of the seat v, in the slot k and the round r and with the mark a: an answer was
-- seen, and is collected; or none was seen
module _ {T : Type 0} (mark : T → ℕ) (v : SeatView) (k r a : ℕ) where
  abbrev pub Gathers : Gathered T → Type 0
  Gathers (Got s x) = (w : ℕ) × (code_in w ≡ 4) × Went v s (part k r (Collected (mark x)) ∷ []) ((k, w) ∷ [])
  Gathers (NotYet p) = StandsAt k r a p × (w : ℕ) × (code_in w ≢ 4) × Went v p.seat [] ((k, w) ∷ [])

-- ## From turn to turn

-- what is left of a limit after so many turns
abbrev pub more_after : (limit : Option ℕ) → (turns : ℕ) → Option ℕ
more_after None turns = None
more_after (Some most) turns = Some (most - turns)

module _ (v : SeatView) (a n first : ℕ) (limit : Option ℕ) where
  -- its offer stands, since so many looks
  abbrev pub HasPosted : PendingView → (turns looks : ℕ) → Type 0
  HasPosted p turns looks = (p.mark ≡ a) × MayStand limit p.slot turns looks × (words : List (ℕ × ℕ))
      × SawFree p.slot p.round looks words
      × HasCome v a n first limit p.seat p.slot turns (part p.slot p.round (Posted a) ∷ []) words

  -- its offer was to be taken back, and was gone
  abbrev pub HasStayed : PendingView → Type 0
  HasStayed p = (p.mark ≡ a) × (turns : ℕ) × (looks : ℕ) × MayStand limit p.slot turns looks
      × IsOver limit p.slot turns looks × (words : List (ℕ × ℕ)) × SawTaken p.slot p.round looks words
      × HasCome v a n first limit p.seat p.slot turns (part p.slot p.round (Posted a) ∷ []) words

module _ {T : Type 0} (mark : T → ℕ) (v : SeatView) (a n first : ℕ) (limit : Option ℕ) where
  -- it tries a slot, with this left of its limit
  abbrev pub IsTrying : (more : Option ℕ) → SeatView → T → ℕ → Type 0
  IsTrying more s x k = (mark x ≡ a) × (turns : ℕ) × (more ≡ more_after limit turns)
      × IsWithin limit turns
      × HasCome v a n first limit s k turns [] []

  -- its offer stands; in a slot above 0 its looks were counted
  abbrev pub IsWaiting : (more : Option ℕ) → PendingView → (counted : ℕ) → Type 0
  IsWaiting more p counted = (turns : ℕ) × (looks : ℕ) × (more ≡ more_after limit (turns + looks))
      × (0 < p.slot → counted ≡ looks) × HasPosted v a n first limit p turns looks

  abbrev pub IsGoing : (more : Option ℕ) → Going T → Type 0
  IsGoing more (Tries s x k) = IsTrying more s x k
  IsGoing more (Waits p counted) = IsWaiting more p counted
  IsGoing more (Stays p) = HasStayed v a n first limit p

  abbrev pub GoesOn : Next T → Type 0
  GoesOn (Goes going more) = IsGoing more going
  GoesOn (Ends end) = EndsAs mark v a n first limit end

module _ {T : Type 0} (z : TableId) (slots : ℕ) where
  -- in this arena, which has so many slots
  abbrev pub IsIn : Going T → Type 0
  IsIn (Tries s x k) = (s.arena ≡ z) × (k < slots)
  IsIn (Waits p turns) = (p.seat.arena ≡ z) × (p.slot < slots)
  IsIn (Stays p) = (p.seat.arena ≡ z) × (p.slot < slots)

  abbrev pub StaysIn : Next T → Type 0
  StaysIn (Goes going more) = IsIn going
  StaysIn (Ends end) = Unit {0}
