-- The end of an arena: its rounds, each seat's list, and what is left (our choice).
use Rattle.std.specs.Prelude.{◌≡◌, ℕ, zero, suc, ◌+◌, ◌==◌, ◌⊎◌, Bool, true, false, List, [], ◌∷◌, ◌++◌}
use Rattle.std.specs.Prelude.{length}
use Rattle.std.specs.Prelude.{Option, Some, None, slice_index_or, slice_index}
use mathlib.Core.Option.{some}
use lib.ListN.{get_elem?}
use Rattle.atomic_table.specs.Seated.{TableId}
use Rattle.atomic_table.specs.declared.shared.Seat.{Seat as Token}
use Rattle.meet_exchange.specs.declared.records.Part.{Part}
use Rattle.meet_exchange.specs.declared.records.Round.{Round}
use Rattle.meet_exchange.specs.declared.views.Trail.{Trail}
use Rattle.meet_exchange.specs.declared.seats.Back.{Back}
use Rattle.meet_exchange.specs.declared.seats.Back.TheVariants.{Free, Held}
use Rattle.meet_exchange.specs.declared.left.LeftIn.{LeftIn}
use Rattle.meet_exchange.specs.declared.left.Standing.{Standing}
use Rattle.meet_exchange.specs.declared.left.Standing.TheVariants.{Offered, Ready}
use Rattle.meet_exchange.specs.Words.{code_in, number_in}
use Rattle.meet_exchange.specs.Rounds.{left_in}
use Rattle.meet_exchange.specs.Rule.{top}
use Rattle.meet_exchange.specs.Closing.{IsSettled, lists_of}
use Rattle.meet_exchange.specs.Seats.{SeatView}

module _ {T : Type 0} where
  -- the seat of a back
  abbrev pub seat_of : Back T → SeatView
  seat_of (Free seat) = seat
  seat_of (Held pending) = pending.seat

  -- all are seats of this arena
  abbrev pub AreOf : TableId → List (Back T) → Type 0
  AreOf z [] = Unit {0}
  AreOf z (b ∷ bs) = ((seat_of b).arena ≡ z) × AreOf z bs

  -- the lists of seats that are given back, each with its seat's number
  abbrev pub back_lists : List (Back T) → List (ℕ × List Part)
  back_lists [] = []
  back_lists (b ∷ bs) = ((seat_of b).number, (seat_of b).list) ∷ back_lists bs

  -- its number, its list and its token
  abbrev pub IsBack : Back T → ℕ → List Part → Token (Option T) (List Trail) → Type 0
  IsBack b number list token = (token.table_id ≡ (seat_of b).arena) × (number ≡ (seat_of b).number)
      × (list ≡ (seat_of b).list) × (token.me ≡ (top token.me.0 ∷ [], [])) × ((top token.me.0).number ≡ number)
      × ((top token.me.0).list ≡ list) × IsSettled (top token.me.0).hand

-- the entry of this index; none where there is none
abbrev pub entry_at : {A : Type 0} → List (List A) → ℕ → List A
entry_at lists i = slice_index_or lists i []

-- each list of these, which have their seats' numbers, is the one of that index
abbrev pub AreAt : List (List Part) → List (ℕ × List Part) → Type 0
AreAt lists [] = Unit {0}
AreAt lists (p ∷ ps) = (entry_at lists p.0 ≡ p.1) × AreAt lists ps

-- a list of the seat x is among them
abbrev pub HasList : ℕ → List (ℕ × List Part) → Type 0
HasList x [] = ⊥
HasList x (p ∷ ps) = (p.0 ≡ x) ⊎ HasList x ps

-- lists with the numbers of their seats, from i on
abbrev pub numbered : (i : ℕ) → List (List Part) → List (ℕ × List Part)
numbered i [] = []
numbered i (list ∷ lists) = (i, list) ∷ numbered (suc i) lists

-- ## What is gathered

-- the lists that have the lists of all these trails at their seats' numbers have those of all these backs
abbrev pub Covers : {T : Type 0} → List Trail → List (Back T) → Type 0
Covers vs bs = (lists : List (List Part)) → AreAt lists (lists_of vs) → AreAt lists (back_lists bs)

-- each seat that has a trail among these is given back
abbrev pub AreBack : {T : Type 0} → List Trail → List (Back T) → Type 0
AreBack vs bs = (x : ℕ) → HasList x (lists_of vs) → HasList x (back_lists bs)

-- ## What is left

-- whether it was offered, or else answers an offer
abbrev pub standing_of : Bool → Standing
standing_of true = Offered
standing_of false = Ready

module _ {T : Type 0} where
  -- the slot k, whose word is w, adds its item
  abbrev pub Adds : (k w : ℕ) → Option T → (before after : List (LeftIn T)) → Type 0
  Adds k w None before after = after ≡ before
  Adds k w (Some x) before after = after ≡ before
      ++ record { slot = k; round = number_in w; item = x; standing = standing_of (code_in w == 2) } ∷ []

  -- what was taken out of the first n slots
  abbrev pub TakenUpTo : List ℕ → List (Option T) → (n : ℕ) → List (LeftIn T) → Type 0
  TakenUpTo words values zero left = left ≡ []
  TakenUpTo words values (suc k) left = (value : Option T) × (get_elem? values k ≡ some value)
      × (before : List (LeftIn T)) × TakenUpTo words values k before × Adds k (slice_index words k) value before left

module _ {T : Type 0} (mark : T → ℕ) (start : ℕ) (rounds : ℕ → List Round) where
  -- the last round of the slot k leaves its item: in this slot and round, of this mark, with this standing
  abbrev pub AddsLeft : (k : ℕ) → Option (ℕ × Bool) → (before after : List (LeftIn T)) → Type 0
  AddsLeft k None before after = after ≡ before
  AddsLeft k (Some it) before after = (x : LeftIn T) × (after ≡ before ++ x ∷ []) × (x.slot ≡ k)
      × (x.round + 1 ≡ start + length (rounds k)) × (mark x.item ≡ it.0) × (x.standing ≡ standing_of it.1)

  -- the items that the rounds of the first n slots leave, by rising slot, and no others
  abbrev pub IsLeft : (n : ℕ) → List (LeftIn T) → Type 0
  IsLeft zero left = left ≡ []
  IsLeft (suc k) left = (before : List (LeftIn T)) × IsLeft k before × AddsLeft k (left_in (rounds k)) before left
