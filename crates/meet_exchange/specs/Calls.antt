-- What the calls of an arena answer (our choice), of the seat v in the slot k.
use Rattle.std.specs.Prelude.{◌≡◌, ◌≢◌, ℕ, ◌<◌, ◌≤◌, ◌⊎◌, [], ◌∷◌}
use Rattle.meet_tickets.specs.Limits.{last_round}
use Rattle.meet_exchange.specs.declared.records.SlotDeed.TheVariants.{Posted as DeedPosted, Withdrawn}
use Rattle.meet_exchange.specs.declared.records.SlotDeed.TheVariants.{Swapped as DeedSwapped, Collected}
use Rattle.meet_exchange.specs.declared.offers.Offered.{Offered}
use Rattle.meet_exchange.specs.declared.offers.Offered.TheVariants.{Posted, Swapped, Contended, Worn, Memory}
use Rattle.meet_exchange.specs.declared.endings.Gathered.{Gathered}
use Rattle.meet_exchange.specs.declared.endings.Gathered.TheVariants.{Got, NotYet}
use Rattle.meet_exchange.specs.declared.endings.TakenBack.{TakenBack}
use Rattle.meet_exchange.specs.declared.endings.TakenBack.TheVariants.{Back, Late}
use Rattle.meet_exchange.specs.Words.{code_in, number_in}
use Rattle.meet_exchange.specs.Rounds.{part}
use Rattle.meet_exchange.specs.Seats.{SeatView, PendingView, Went}

-- a word of a free slot that has a round left
abbrev pub HasRound : ℕ → Type 0
HasRound w = (code_in w ≡ 0) × (number_in w < last_round)

-- where an offer stands, and what it offers
abbrev pub StandsAt : (k r a : ℕ) → PendingView → Type 0
StandsAt k r a p = (p.slot ≡ k) × (p.round ≡ r) × (p.mark ≡ a)

module _ {T : Type 0} (mark : T → ℕ) (v : SeatView) (k : ℕ) where
  -- after the word of a free slot: posted there, or another word was found instead; worn only in the last round
  abbrev pub Posts : (seen : ℕ) → T → Offered T → Type 0
  Posts seen item (Posted p) = HasRound seen × StandsAt k (number_in seen) (mark item) p
      × Went v p.seat (part k (number_in seen) (DeedPosted (mark item)) ∷ []) []
  Posts seen item (Swapped s x) = ⊥
  Posts seen item (Contended s x w) = HasRound seen × (w ≢ seen) × (x ≡ item) × (2 ≤ s.room) × Went v s [] ((k, w) ∷ [])
  Posts seen item (Worn s x) = (number_in seen ≡ last_round) × (x ≡ item) × (2 ≤ s.room) × Went v s [] []
  Posts seen item (Memory s x) = ⊥

  -- after that of a posted one: swapped there, or another word was found instead
  abbrev pub Swaps : (seen : ℕ) → T → Offered T → Type 0
  Swaps seen item (Posted p) = ⊥
  Swaps seen item (Swapped s x) = Went v s (part k (number_in seen) (DeedSwapped (mark item) (mark x)) ∷ []) []
  Swaps seen item (Contended s x w) = (w ≢ seen) × (x ≡ item) × (2 ≤ s.room) × Went v s [] ((k, w) ∷ [])
  Swaps seen item (Worn s x) = ⊥
  Swaps seen item (Memory s x) = ⊥

  -- of an offer whose look saw this word. Contended tells the word that failed it: that of the look, of a slot neither
  -- free nor posted, or the other word that the step after the look found
  abbrev pub Looked : (seen : ℕ) → T → Offered T → Type 0
  Looked seen item (Posted p) = HasRound seen × StandsAt k (number_in seen) (mark item) p
      × Went v p.seat (part k (number_in seen) (DeedPosted (mark item)) ∷ []) ((k, seen) ∷ [])
  Looked seen item (Swapped s x) = (code_in seen ≡ 2)
      × Went v s (part k (number_in seen) (DeedSwapped (mark item) (mark x)) ∷ []) ((k, seen) ∷ [])
  Looked seen item (Contended s x w) = (x ≡ item) × (2 ≤ s.room)
      × (((w ≡ seen) × (code_in seen ≢ 0) × (code_in seen ≢ 2) × Went v s [] ((k, seen) ∷ []))
      ⊎ ((w ≢ seen) × (HasRound seen ⊎ (code_in seen ≡ 2)) × Went v s [] ((k, seen) ∷ (k, w) ∷ [])))
  Looked seen item (Worn s x) = (code_in seen ≡ 0) × (number_in seen ≡ last_round) × (x ≡ item) × (2 ≤ s.room)
      × Went v s [] ((k, seen) ∷ [])
  Looked seen item (Memory s x) = ⊥

  -- of an offer: Memory before the look, with nothing changed, or else as the look saw it
  abbrev pub Answers : T → Offered T → Type 0
  Answers item (Memory s x) = (s ≡ v) × (x ≡ item)
  Answers item answer = (seen : ℕ) × Looked seen item answer

  -- of the collecting of an offer in the round r with the mark a: got, or a look that saw no answer
  abbrev pub Collects : (r a : ℕ) → Gathered T → Type 0
  Collects r a (Got s x) = Went v s (part k r (Collected (mark x)) ∷ []) []
  Collects r a (NotYet p) = StandsAt k r a p × (w : ℕ) × (code_in w ≢ 4) × Went v p.seat [] ((k, w) ∷ [])

  -- of its withdrawal: back, or a step that saw it posted no more
  abbrev pub Withdraws : (r a : ℕ) → TakenBack T → Type 0
  Withdraws r a (Back s x) = (mark x ≡ a) × Went v s (part k r Withdrawn ∷ []) []
  Withdraws r a (Late p) = StandsAt k r a p × (w : ℕ) × (code_in w ≢ 2) × Went v p.seat [] ((k, w) ∷ [])

-- not refused for memory
abbrev pub IsServed : {T : Type 0} → Offered T → Type 0
IsServed (Posted p) = Unit {0}
IsServed (Swapped s x) = Unit {0}
IsServed (Contended s x w) = Unit {0}
IsServed (Worn s x) = Unit {0}
IsServed (Memory s x) = ⊥
