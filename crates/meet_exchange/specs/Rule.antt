-- The rule of an arena: what the words, the items at home and the trails of its seats have in common, at all times.
use Rattle.std.specs.Prelude.{◌≡◌, ℕ, zero, suc, ◌+◌, ◌<◌, ◌≤◌, List, [], ◌∷◌, length, slice_index, Option, Some}
use Rattle.std.specs.Prelude.{None}
use mathlib.Core.Option.{Option as Perhaps, some, none}
use lib.ListN.{get_elem?}
use Rattle.atomic_table.specs.Table.{State}
use Rattle.atomic_table.specs.Seated.{TableId}
use Rattle.meet_tickets.specs.Limits.{most_seats, last_round}
use Rattle.meet_exchange.specs.declared.views.InHand.TheVariants.{Nothing}
use Rattle.meet_exchange.specs.declared.views.Trail.{Trail}
use Rattle.meet_exchange.specs.declared.views.Plan.{Plan}
use Rattle.meet_exchange.specs.Words.{word_of}
use Rattle.meet_exchange.specs.Rounds.{parts_of, in_slot}
use Rattle.meet_exchange.specs.Stages.{Stage, Cell, cell_of, running, rounds, AllPlayed, AllEnded, code, owner}
use Rattle.meet_exchange.specs.Stages.{duties_in, with_round, in_hand}
use Rattle.meet_exchange.specs.Stages.Stage.{free, claimed, posted, taken, answered, seen, collected, withdrawn}

module _ {T : Type 0} (mark : T → ℕ) where
  -- an item of this mark
  abbrev pub IsItem : ℕ → Perhaps (Option T) → Type 0
  IsItem a h = (x : T) × (h ≡ some (Some x)) × (mark x ≡ a)

  -- what is at home in each stage
  abbrev pub AtHome : Stage → Perhaps (Option T) → Type 0
  AtHome free h = h ≡ some None
  AtHome (claimed o) h = h ≡ none
  AtHome (posted o a) h = IsItem a h
  AtHome (taken o a j b) h = h ≡ none
  AtHome (answered o a j b) h = IsItem b h
  AtHome (seen o a j b) h = IsItem b h
  AtHome (collected o a j b) h = h ≡ none
  AtHome (withdrawn o a) h = h ≡ none

  -- a slot, its word and what is at home there
  pub record SlotFits (plan : Plan) (c : Cell) (word : ℕ) (home : Perhaps (Perhaps (Option T))) : Type 0 where
    pub value : Perhaps (Option T)
    pub there : home ≡ some value
    pub item : AtHome c.stage value
    pub word_is : word ≡ word_of (code c.stage) (owner c.stage) (plan.start + length c.past)
    pub owner_fits : owner c.stage < plan.seats
    pub round_fits : plan.start + length c.past ≤ last_round
    pub ended : AllEnded plan.seats c.past
    pub played : AllPlayed plan.seats (running c.stage)

-- a seat's trail in the token j: its parts and what it has in hand are those of the slots
pub record SeatFits (plan : Plan) (cells : ℕ → Cell) (token_of : ℕ → ℕ) (j : ℕ) (v : Trail) : Type 0 where
  pub token : token_of v.number ≡ j
  pub number : v.number < plan.seats
  pub list : (k : ℕ) → in_slot k v.list ≡ parts_of v.number k plan.start (rounds (cells k))
  pub hand : (k : ℕ) → in_hand k v.hand
      ≡ with_round (plan.start + length (cells k).past) (duties_in v.number (cells k).stage)

-- no trail of the seat x is among them
abbrev pub IsNew : ℕ → List Trail → Type 0
IsNew x [] = Unit {0}
IsNew x (v ∷ vs) = ¬ (v.number ≡ x) × IsNew x vs

-- each of a token's trails fits, and no two are of one seat
abbrev pub TokenFits : Plan → (ℕ → Cell) → (ℕ → ℕ) → ℕ → List Trail → Type 0
TokenFits plan cells token_of j [] = Unit {0}
TokenFits plan cells token_of j (v ∷ vs) = SeatFits plan cells token_of j v × IsNew v.number vs
    × TokenFits plan cells token_of j vs

-- the rule: some slots are behind the words, the items and the trails, and each fits
pub record Kept {T : Type 0} (mark : T → ℕ) (plan : Plan) (s : State (Option T) (List Trail)) : Type 0 where
  pub cells : ℕ → Cell
  pub token_of : ℕ → ℕ
  pub wide : length s.words ≡ plan.slots
  pub few : plan.seats ≤ most_seats
  pub each_slot : (k : ℕ) → k < plan.slots
      → SlotFits mark plan (cells k) (slice_index s.words k) (get_elem? s.homes k)
  pub beyond : (k : ℕ) → plan.slots ≤ k → cells k ≡ cell_of [] free
  pub each_token : (j : ℕ) (v : List Trail) → get_elem? s.views j ≡ some v
      → TokenFits plan cells token_of j v

-- ## Tokens

-- the trail of a new seat
abbrev pub fresh : ℕ → Trail
fresh i = record { number = i; list = []; hand = Nothing; seen = [] }

-- the trails of n new seats, numbered from i on
abbrev pub fresh_from : ℕ → ℕ → List Trail
fresh_from i zero = []
fresh_from i (suc n) = fresh i ∷ fresh_from (suc i) n

-- all but the first
abbrev pub others : List Trail → List Trail
others [] = []
others (v ∷ vs) = vs

-- a token fits a table that has a word for each slot
abbrev pub Fits : TableId → Plan → TableId → ℕ → Type 0
Fits z plan y slot = (y ≡ z) × (slot < plan.slots) × (z.words ≡ plan.slots)

-- stands where there is no trail
abbrev pub nobody : Trail
nobody = record { number = 0; list = []; hand = Nothing; seen = [] }

-- the trail of a token that has one
abbrev pub top : List Trail → Trail
top [] = nobody
top (v ∷ vs) = v
