-- The way of an exchange that waits, from slot to slot: what it saw and did there, and in how many turns (our choice).
use Rattle.std.specs.Prelude.{◌≡◌, ◌≢◌, ℕ, ◌+◌, ◌/◌, ◌%◌, ◌<◌, ◌≤◌, ◌⊎◌, List, [], ◌∷◌, ◌++◌, length}
use Rattle.std.specs.Prelude.{Option, Some, None}
use Rattle.meet_exchange.specs.declared.records.Part.{Part}
use Rattle.meet_exchange.specs.declared.records.SlotDeed.TheVariants.{Posted, Withdrawn, Swapped, Collected}
use Rattle.meet_tickets.specs.Limits.{last_round}
use Rattle.meet_exchange.specs.Words.{code_in, number_in}
use Rattle.meet_exchange.specs.Rounds.{part}
use Rattle.meet_exchange.specs.Seats.{SeatView, Went}
use Rattle.meet_exchange.specs.Calls.{HasRound}

-- ## What was seen in a slot

-- these words are of the slot k, and show no answer
abbrev pub ShowNone : (k : ℕ) → List (ℕ × ℕ) → Type 0
ShowNone k [] = Unit {0}
ShowNone k (x ∷ xs) = (x.0 ≡ k) × (code_in x.1 ≢ 4) × ShowNone k xs

-- contended: a look at a word neither free nor posted, or at one in whose place the step after it found another
abbrev pub SawContended : (k : ℕ) → List (ℕ × ℕ) → Type 0
SawContended k words = (w : ℕ) × (((words ≡ (k, w) ∷ []) × (code_in w ≢ 0) × (code_in w ≢ 2))
    ⊎ ((u : ℕ) × (words ≡ (k, w) ∷ (k, u) ∷ []) × (u ≢ w) × (HasRound w ⊎ (code_in w ≡ 2))))

-- free in the round r, which isn't the last; and then, as an item was posted there, so many looks that saw no answer
abbrev pub SawFree : (k r looks : ℕ) → List (ℕ × ℕ) → Type 0
SawFree k r looks words = (w : ℕ) × (later : List (ℕ × ℕ)) × (words ≡ (k, w) ∷ later) × HasRound w
    × (number_in w ≡ r) × ShowNone k later × (length later ≡ looks)

-- the same, and then a word that shows the item posted no more, and any number of such looks after it
abbrev pub SawTaken : (k r looks : ℕ) → List (ℕ × ℕ) → Type 0
SawTaken k r looks words = (before : List (ℕ × ℕ)) × (u : ℕ) × (later : List (ℕ × ℕ))
    × (words ≡ before ++ (k, u) ∷ later) × SawFree k r looks before × (code_in u ≢ 2) × ShowNone k later

-- posted in the round r
abbrev pub SawPosted : (k r : ℕ) → List (ℕ × ℕ) → Type 0
SawPosted k r words = (w : ℕ) × (words ≡ (k, w) ∷ []) × (code_in w ≡ 2) × (number_in w ≡ r)

-- free in the last round
abbrev pub SawWorn : (k : ℕ) → List (ℕ × ℕ) → Type 0
SawWorn k words = (w : ℕ) × (words ≡ (k, w) ∷ []) × (code_in w ≡ 0) × (number_in w ≡ last_round)

-- ## The limit, in turns

-- it is reached after so many turns, and they are within it
abbrev pub IsReached : (limit : Option ℕ) → (turns : ℕ) → Type 0
IsReached None turns = ⊥
IsReached (Some most) turns = most ≤ turns

abbrev pub IsWithin : (limit : Option ℕ) → (turns : ℕ) → Type 0
IsWithin None turns = Unit {0}
IsWithin (Some most) turns = turns ≤ most

-- ## The way

-- for so many looks an offer stands in a slot above 0
abbrev pub patience : ℕ
patience = 1000

module _ (limit : Option ℕ) where
  -- after so many turns, an offer in the slot k may have stood for so many looks
  abbrev pub MayStand : (k turns looks : ℕ) → Type 0
  MayStand k turns looks = IsWithin limit (turns + looks) × (0 < k → looks ≤ patience)

  -- and it may stand no longer
  abbrev pub IsOver : (k turns looks : ℕ) → Type 0
  IsOver k turns looks = (limit ≡ Some (turns + looks)) ⊎ ((0 < k) × (looks ≡ patience))

-- in an arena of n slots, an exchange of an item of the mark a that begins in the slot `first` comes to try the slot k:
-- in so many turns, and with these parts and these words behind it; from slot to slot only before its limit is reached
pub data Comes (a n first : ℕ) (limit : Option ℕ) : (k turns : ℕ) → List Part → List (ℕ × ℕ) → Type 0 where
  -- at first
  begins : Comes a n first limit first 0 [] []
  -- from a slot that was contended to the next, and to the first after the last
  goes_on : {k turns : ℕ} {parts : List Part} {words : List (ℕ × ℕ)} (more : List (ℕ × ℕ))
      → Comes a n first limit k turns parts words → SawContended k more → ¬ IsReached limit (turns + 1)
      → Comes a n first limit ((k + 1) % n) (turns + 1) parts (words ++ more)
  -- from a slot above 0, where the item was posted and then taken back, to the slot of half the number
  comes_back : {k turns : ℕ} {parts : List Part} {words : List (ℕ × ℕ)} (r : ℕ) (more : List (ℕ × ℕ))
      → Comes a n first limit k turns parts words → 0 < k → SawFree k r patience more
      → ¬ IsReached limit (turns + patience)
      → Comes a n first limit (k / 2) (turns + patience)
      (parts ++ part k r (Posted a) ∷ part k r Withdrawn ∷ []) (words ++ more)

-- of an exchange of the seat v
module _ (v : SeatView) (a n first : ℕ) (limit : Option ℕ) where
  -- the seat s came to the slot k, and then did these parts and saw these words
  abbrev pub HasCome : (s : SeatView) → (k turns : ℕ) → List Part → List (ℕ × ℕ) → Type 0
  HasCome s k turns parts words = (k < n) × (done : List Part) × (seen : List (ℕ × ℕ))
      × Comes a n first limit k turns done seen × Went v s (done ++ parts) (seen ++ words)

  -- it took another seat's item, and gave its own
  abbrev pub HasSwapped : SeatView → (b : ℕ) → Type 0
  HasSwapped s b = (k : ℕ) × (turns : ℕ) × (r : ℕ) × (words : List (ℕ × ℕ)) × SawPosted k r words
      × HasCome s k turns (part k r (Swapped a b) ∷ []) words

  -- it posted its item, and got that of the seat that took it, once it saw the answer: while the offer might stand, or
  -- when it was to be taken back and was gone
  abbrev pub HasCollected : SeatView → (b : ℕ) → Type 0
  HasCollected s b = (k : ℕ) × (turns : ℕ) × (r : ℕ) × (looks : ℕ) × (words : List (ℕ × ℕ))
      × MayStand limit k turns looks × ((SawFree k r looks words × ¬ IsOver limit k turns looks)
      ⊎ (SawTaken k r looks words × IsOver limit k turns looks))
      × (answer : ℕ) × (code_in answer ≡ 4)
      × HasCome s k turns (part k r (Posted a) ∷ part k r (Collected b) ∷ []) (words ++ (k, answer) ∷ [])

  -- its limit was reached: by a slot that was contended, or while its offer stood, which it took back
  abbrev pub HasTimedOut : SeatView → Type 0
  HasTimedOut s = (k : ℕ) × (turns : ℕ) × (words : List (ℕ × ℕ))
      × ((SawContended k words × IsReached limit (turns + 1) × HasCome s k turns [] words)
      ⊎ ((r : ℕ) × (looks : ℕ) × MayStand limit k turns looks × SawFree k r looks words × (limit ≡ Some (turns + looks))
      × HasCome s k turns (part k r (Posted a) ∷ part k r Withdrawn ∷ []) words))

  -- it came to a slot that is worn
  abbrev pub HasWorn : SeatView → Type 0
  HasWorn s = (k : ℕ) × (turns : ℕ) × (words : List (ℕ × ℕ)) × SawWorn k words × HasCome s k turns [] words

  -- it came to a slot, and its list had no room for an offer
  abbrev pub HasNoRoom : SeatView → Type 0
  HasNoRoom s = (k : ℕ) × (turns : ℕ) × HasCome s k turns [] [] × (s.room < 2)
