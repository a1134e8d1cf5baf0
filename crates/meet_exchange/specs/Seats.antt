-- What contracts see of an arena, of a seat and of an offer that stands (our choice).
use Rattle.std.specs.Prelude.{◌≡◌, ℕ, suc, ◌<◌, List, [], ◌∷◌, ◌++◌, Option, Some, None}
use Rattle.std.specs.Prelude.{nat_lt, ◌||◌, if◌then◌else◌}
use Rattle.atomic_table.specs.Table.{Me}
use Rattle.atomic_table.specs.Seated.{TableId}
use Rattle.meet_tickets.specs.Limits.{most_seats, most_slots, last_round}
use Rattle.meet_tickets.specs.declared.refusals.Refusal.{Refusal}
use Rattle.meet_tickets.specs.declared.refusals.Refusal.TheVariants.{BadSizes}
use Rattle.meet_exchange.specs.declared.records.Part.{Part}
use Rattle.meet_exchange.specs.declared.views.Duty.TheVariants.{Offering}
use Rattle.meet_exchange.specs.declared.views.InHand.TheVariants.{Nothing, At}
use Rattle.meet_exchange.specs.declared.views.Trail.{Trail}
use Rattle.meet_exchange.specs.Rule.{top}

-- an arena: which it is, how many slots and seats it has, and the number of each slot's first round
pub record ArenaView : Type 0 where
  pub id : TableId
  pub slots : ℕ
  pub seats : ℕ
  pub start : ℕ

-- a seat: which arena it is of, its number, its parts in order, how many more its list has room for, and all words that
-- it saw, by a look or by a step that failed, each with its slot
pub record SeatView : Type 0 where
  pub arena : TableId
  pub number : ℕ
  pub list : List Part
  pub room : ℕ
  pub seen : List (ℕ × ℕ)

-- a seat whose item was posted: the slot, the round, and the item's mark
pub record PendingView : Type 0 where
  pub seat : SeatView
  pub slot : ℕ
  pub round : ℕ
  pub mark : ℕ

-- the seat s is the seat v once it has done these parts more, and seen these words more
pub record Went (v s : SeatView) (parts : List Part) (words : List (ℕ × ℕ)) : Type 0 where
  pub arena : s.arena ≡ v.arena
  pub number : s.number ≡ v.number
  pub list : s.list ≡ v.list ++ parts
  pub seen : s.seen ≡ v.seen ++ words

-- these are new seats of one arena, numbered from i on
abbrev pub AreNew : TableId → (i : ℕ) → List SeatView → Type 0
AreNew z i [] = Unit {0}
AreNew z i (s ∷ ss) = (s.arena ≡ z) × (s.number ≡ i) × (s.list ≡ []) × (s.seen ≡ []) × AreNew z (suc i) ss

-- why an arena of these sizes is refused, memory aside
abbrev pub sizes_refusal : (slots seats : ℕ) → Option Refusal
sizes_refusal slots seats =
    if (nat_lt slots 1 || nat_lt most_slots slots) || (nat_lt seats 1 || nat_lt most_seats seats) then Some BadSizes
    else None

-- ## What a seat keeps

module _ {S : Type 0} where
  -- its token has one trail, of the seat's number and with its list, and holds no slot
  abbrev pub IsAlone : (number : ℕ) → List Part → Me S (List Trail) → Type 0
  IsAlone number list m = (m ≡ (top m.0 ∷ [], [])) × ((top m.0).number ≡ number) × ((top m.0).list ≡ list)

  -- and nothing in hand
  abbrev pub IsIdle : (number : ℕ) → List Part → Me S (List Trail) → Type 0
  IsIdle number list m = IsAlone number list m × ((top m.0).hand ≡ Nothing)

  -- or an offer
  abbrev pub HasOffer : (number slot round mark : ℕ) → List Part → Me S (List Trail) → Type 0
  HasOffer number slot round mark list m = IsAlone number list m × ((top m.0).hand ≡ At slot round (Offering mark))
      × (round < last_round)

-- a seat as contracts see it, from its token, its number and its list
abbrev pub view_of : {S : Type 0} → TableId → (number : ℕ) → List Part → (room : ℕ) → Me S (List Trail) → SeatView
view_of z number list room m = record { arena = z; number = number; list = list; room = room; seen = (top m.0).seen }
