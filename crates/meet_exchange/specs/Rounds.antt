-- The history of a slot, and what each seat's part in it is. In Exchanger both threads of a round get the other's item;
-- that a round has a poster, who may take its item back, and a seat that swaps, is our choice.
use Rattle.std.specs.Prelude.{◌≡◌, ◌≢◌, ℕ, suc, ◌<◌, ◌==◌, true, false, Bool, cond, List, [], ◌∷◌, ◌++◌, filter}
use Rattle.std.specs.Prelude.{Option, Some, None}
use Rattle.meet_exchange.specs.declared.records.SlotDeed.{SlotDeed}
use Rattle.meet_exchange.specs.declared.records.SlotDeed.TheVariants.{Posted, Withdrawn, Swapped, Collected}
use Rattle.meet_exchange.specs.declared.records.RoundEnd.{RoundEnd}
use Rattle.meet_exchange.specs.declared.records.RoundEnd.TheVariants.{Posted as Stands, Withdrawn as EndWithdrawn}
use Rattle.meet_exchange.specs.declared.records.RoundEnd.TheVariants.{Swapped as Exchanged}
use Rattle.meet_exchange.specs.declared.records.Part.{Part}
use Rattle.meet_exchange.specs.declared.records.Round.{Round}

-- the round that this seat posted, with this item's mark, and its end
abbrev pub round_of : ℕ → ℕ → RoundEnd → Round
round_of seat mark end = record { seat = seat; mark = mark; end = end }

-- ended: taken back by its seat, or swapped and then collected
abbrev pub HasEnded : RoundEnd → Type 0
HasEnded Stands = ⊥
HasEnded EndWithdrawn = Unit {0}
HasEnded (Exchanged by mark collected) = collected ≡ true

-- its seats are seats of an arena of n, and no seat swaps with itself
abbrev pub IsPlayed : (n : ℕ) → Round → RoundEnd → Type 0
IsPlayed n round Stands = round.seat < n
IsPlayed n round EndWithdrawn = round.seat < n
IsPlayed n round (Exchanged by mark collected) = (round.seat < n) × (by < n) × (round.seat ≢ by)

-- the history of a slot of an arena of n seats: each round is posted by a seat, and then taken back by it, or swapped
-- by another seat and then perhaps collected; all but the last have ended
abbrev pub IsHistory : (n : ℕ) → List Round → Type 0
IsHistory n [] = Unit {0}
IsHistory n (x ∷ []) = IsPlayed n x x.end
IsHistory n (x ∷ y ∷ ys) = HasEnded x.end × IsPlayed n x x.end × IsHistory n (y ∷ ys)

-- ## A seat's part

-- an entry of a seat's list: what it did in the slot k, in the round r
abbrev pub part : (k r : ℕ) → SlotDeed → Part
part k r deed = record { slot = k; round = r; deed = deed }

-- what the poster does after its post: it takes its item back, or gets b, which the other seat gave
abbrev pub poster_part : (k r : ℕ) → RoundEnd → List Part
poster_part k r Stands = []
poster_part k r EndWithdrawn = part k r Withdrawn ∷ []
poster_part k r (Exchanged by b collected) = cond collected (part k r (Collected b) ∷ []) []

-- what the seat x does in a round that another posted with a: it gives b and gets a
abbrev pub taker_part : (x k r a : ℕ) → RoundEnd → List Part
taker_part x k r a Stands = []
taker_part x k r a EndWithdrawn = []
taker_part x k r a (Exchanged by b collected) = cond (by == x) (part k r (Swapped b a) ∷ []) []

-- what the seat x does in a round
abbrev pub parts_in : (x k r : ℕ) → Round → List Part
parts_in x k r round = cond (round.seat == x) (part k r (Posted round.mark) ∷ poster_part k r round.end) []
    ++ taker_part x k r round.mark round.end

-- what it does in the slot k, whose first round has the number r
abbrev pub parts_of : (x k r : ℕ) → List Round → List Part
parts_of x k r [] = []
parts_of x k r (round ∷ rounds) = parts_in x k r round ++ parts_of x k (suc r) rounds

-- of a list the entries of the slot k
abbrev pub in_slot : (k : ℕ) → List Part → List Part
in_slot k list = filter (λ p. p.slot == k) list

-- ## What is left

-- the mark of the item that a round leaves in its slot, and whether that was offered; else it answers an offer
abbrev pub left_at_end : Round → RoundEnd → Option (ℕ × Bool)
left_at_end round Stands = Some (round.mark, true)
left_at_end round EndWithdrawn = None
left_at_end round (Exchanged by b false) = Some (b, false)
left_at_end round (Exchanged by b true) = None

-- only the last round can leave one
abbrev pub left_in : List Round → Option (ℕ × Bool)
left_in [] = None
left_in (x ∷ []) = left_at_end x x.end
left_in (x ∷ y ∷ ys) = left_in (y ∷ ys)
