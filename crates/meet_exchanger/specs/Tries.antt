-- How an exchange ends, and what its seat did before: which slots it tried in vain, and what happened in the last
-- (our choice).
use Rattle.std.specs.Prelude.{◌≡◌, ◌≢◌, ℕ, ◌<◌, ◌⊎◌, List, [], ◌∷◌, Option, Some, None, ⊤, Bool, true, false}
use Rattle.meet_exchange.specs.declared.records.SlotDeed.TheVariants.{Posted, Withdrawn, Swapped, Collected}
use Rattle.meet_exchange.specs.declared.waiting.Exchanged.{Exchanged}
use Rattle.meet_exchange.specs.declared.waiting.Exchanged.TheVariants.{Swapped as GotIts, TimedOut, Worn as Ended, Memory as Refused}
use Rattle.meet_exchange.specs.Rounds.{part}
use Rattle.meet_exchange.specs.Seats.{SeatView, PendingView, Went}
use Rattle.meet_exchange.specs.Ways.{SawContended, SawFree, SawTaken, SawPosted, SawWorn}
use Rattle.meet_exchanger.specs.declared.attempts.Attempt.{Attempt}
use Rattle.meet_exchanger.specs.declared.attempts.Attempt.TheVariants.{Met, Contended, TookBack, Worn, Memory}

-- ## One attempt of the seat v in the slot k

module _ (v : SeatView) (k : ℕ) where
  -- others were at work there, and the seat did nothing
  abbrev pub IsContended : SeatView → Type 0
  IsContended s = (words : List (ℕ × ℕ)) × SawContended k words × Went v s [] words

  -- it posted its item, of the mark a, saw no answer, and took the item back
  abbrev pub HasTakenBack : (a : ℕ) → SeatView → Type 0
  HasTakenBack a s = (r : ℕ) × (looks : ℕ) × (words : List (ℕ × ℕ)) × SawFree k r looks words
      × Went v s (part k r (Posted a) ∷ part k r Withdrawn ∷ []) words

  -- it took an item of the mark b, and gave its own
  abbrev pub HasSwapped : (a b : ℕ) → SeatView → Type 0
  HasSwapped a b s = (r : ℕ) × (words : List (ℕ × ℕ)) × SawPosted k r words
      × Went v s (part k r (Swapped a b) ∷ []) words

  -- it posted its item, and collected one of the mark b, which another seat gave for it
  abbrev pub HasCollected : (a b : ℕ) → SeatView → Type 0
  HasCollected a b s = (r : ℕ) × (looks : ℕ) × (words : List (ℕ × ℕ))
      × (SawFree k r looks words ⊎ SawTaken k r looks words)
      × Went v s (part k r (Posted a) ∷ part k r (Collected b) ∷ []) words

  abbrev pub HasMet : (a b : ℕ) → SeatView → Type 0
  HasMet a b s = HasSwapped a b s ⊎ HasCollected a b s

  -- the slot was free in its last round, and the seat did nothing
  abbrev pub IsWorn : SeatView → Type 0
  IsWorn s = (words : List (ℕ × ℕ)) × SawWorn k words × Went v s [] words

-- ## The whole exchange of an item of the mark a, among n slots

-- the seat is v after attempts in vain, each in one of the slots
pub data Tried (a n : ℕ) (v : SeatView) : SeatView → Type 0 where
  no_more : Tried a n v v
  once_more : {s u : SeatView} (k : ℕ) → Tried a n v s → k < n → IsContended s k u ⊎ HasTakenBack s k a u → Tried a n v u

module _ {T : Type 0} (mark : T → ℕ) (v : SeatView) (a n : ℕ) (MayTimeOut : Type 0) where
  -- with another seat's item, in one of the slots; or with its own: its time was up, and its last attempt was in the
  -- slot 0, to which all come that wait; or a slot was worn; or its list had no room
  abbrev pub EndsAs : Exchanged T → Type 0
  EndsAs (GotIts s x) = (u : SeatView) × Tried a n v u × (k : ℕ) × (k < n) × HasMet u k a (mark x) s
  EndsAs (TimedOut s x) = MayTimeOut × (mark x ≡ a) × (u : SeatView) × Tried a n v u
      × (IsContended u 0 s ⊎ HasTakenBack u 0 a s)
  EndsAs (Ended s x) = (mark x ≡ a) × (u : SeatView) × Tried a n v u × (k : ℕ) × (k < n) × IsWorn u k s
  EndsAs (Refused s x) = (mark x ≡ a) × Tried a n v s × (s.room < 2)

-- only an exchange with a limit can time out
abbrev pub MayTimeOut : (limit : Option ℕ) → Type 0
MayTimeOut None = ⊥
MayTimeOut (Some milliseconds) = ⊤

-- ## From step to step

module _ {T : Type 0} (mark : T → ℕ) (v : SeatView) (k a : ℕ) where
  abbrev pub TriesAs : Attempt T → Type 0
  TriesAs (Met s x) = HasMet v k a (mark x) s
  TriesAs (Contended s x) = (mark x ≡ a) × IsContended v k s
  TriesAs (TookBack s x up) = (mark x ≡ a) × HasTakenBack v k a s
  TriesAs (Worn s x) = (mark x ≡ a) × IsWorn v k s
  TriesAs (Memory s x) = (mark x ≡ a) × (s ≡ v) × (v.room < 2)

-- the seat of an attempt
abbrev pub comes_from : {T : Type 0} → Attempt T → SeatView
comes_from (Met s x) = s
comes_from (Contended s x) = s
comes_from (TookBack s x up) = s
comes_from (Worn s x) = s
comes_from (Memory s x) = s

-- not taken back since its time was up
abbrev pub IsUntimed : {T : Type 0} → Attempt T → Type 0
IsUntimed (Met s x) = ⊤
IsUntimed (Contended s x) = ⊤
IsUntimed (TookBack s x up) = up ≡ false
IsUntimed (Worn s x) = ⊤
IsUntimed (Memory s x) = ⊤

module _ (v : SeatView) (a : ℕ) (p : PendingView) where
  -- the seat v has posted its item, of the mark a, and saw no answer since
  abbrev pub HasPosted : Type 0
  HasPosted = (p.mark ≡ a) × (looks : ℕ) × (words : List (ℕ × ℕ)) × SawFree p.slot p.round looks words
      × Went v p.seat (part p.slot p.round (Posted a) ∷ []) words

  -- and then it was to be taken back, and was gone
  abbrev pub HasLost : Type 0
  HasLost = (p.mark ≡ a) × (looks : ℕ) × (words : List (ℕ × ℕ)) × SawTaken p.slot p.round looks words
      × Went v p.seat (part p.slot p.round (Posted a) ∷ []) words
