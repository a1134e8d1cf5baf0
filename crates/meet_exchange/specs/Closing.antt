-- What is known once no step can follow.
use Rattle.std.specs.Prelude.{◌≡◌, ℕ, ◌+◌, ◌/◌, ◌%◌, ◌<◌, ◌≤◌, List, [], ◌∷◌, length, Bool, true, false, Option, Some}
use Rattle.std.specs.Prelude.{None, slice_index, slice_set}
use mathlib.Core.Option.{some}
use lib.ListN.{get_elem?}
use Rattle.meet_exchange.specs.declared.records.Round.{Round}
use Rattle.meet_exchange.specs.declared.records.Part.{Part}
use Rattle.meet_exchange.specs.declared.views.Plan.{Plan}
use Rattle.meet_exchange.specs.declared.views.InHand.{InHand}
use Rattle.meet_exchange.specs.declared.views.InHand.TheVariants.{Nothing, At}
use Rattle.meet_exchange.specs.declared.views.Duty.TheVariants.{Claimed, Offering, Ready, Took, Gathered, TookBack}
use Rattle.meet_exchange.specs.declared.views.Trail.{Trail}
use Rattle.meet_exchange.specs.Words.{round_unit}
use Rattle.meet_exchange.specs.Rounds.{IsHistory, left_in, parts_of, in_slot}

-- what the last word and the last value of a slot say of its rounds
abbrev pub LastFits : {T : Type 0} → (T → ℕ) → (start : ℕ) → List Round → (word : ℕ) → Option T → Type 0
LastFits mark start rds word None = left_in rds ≡ None
LastFits mark start rds word (Some x) = (offered : Bool) × (left_in rds ≡ Some (mark x, offered))
    × (offered ≡ true → word % 8 ≡ 2) × (offered ≡ false → word % 8 ≡ 4) × (word / round_unit + 1 ≡ start + length rds)

-- a seat that is free or has an offer
abbrev pub IsSettled : InHand → Type 0
IsSettled Nothing = Unit {0}
IsSettled (At k r Claimed) = ⊥
IsSettled (At k r (Offering a)) = Unit {0}
IsSettled (At k r (Ready a)) = ⊥
IsSettled (At k r (Took b)) = ⊥
IsSettled (At k r Gathered) = ⊥
IsSettled (At k r TookBack) = ⊥

-- all are
abbrev pub AllSettled : List Trail → Type 0
AllSettled [] = Unit {0}
AllSettled (v ∷ vs) = IsSettled v.hand × AllSettled vs

-- no list of the seat x is among them
abbrev pub IsNewList : ℕ → List (ℕ × List Part) → Type 0
IsNewList x [] = Unit {0}
IsNewList x (v ∷ vs) = ¬ (v.0 ≡ x) × IsNewList x vs

-- each list, with its seat's number, is that seat's part in the rounds; and each is of another seat
abbrev pub AreParts : ℕ → ℕ → (ℕ → List Round) → List (ℕ × List Part) → Type 0
AreParts n start rounds [] = Unit {0}
AreParts n start rounds (v ∷ vs) = (v.0 < n) × ((k : ℕ) → in_slot k v.1 ≡ parts_of v.0 k start (rounds k))
    × IsNewList v.0 vs × AreParts n start rounds vs

-- the lists of trails, each with its seat's number
abbrev pub lists_of : List Trail → List (ℕ × List Part)
lists_of [] = []
lists_of (v ∷ vs) = (v.number, v.list) ∷ lists_of vs

-- what the rule says once no step can follow, and one token has the trails of all seats
pub record Closing {T : Type 0} (mark : T → ℕ) (plan : Plan) (lists : List (ℕ × List Part)) (words : List ℕ)
    (values : List (Option T)) : Type 0 where
  pub rounds : ℕ → List Round
  pub history : (k : ℕ) → IsHistory plan.seats (rounds k)
  pub beyond : (k : ℕ) → plan.slots ≤ k → rounds k ≡ []
  pub parts : AreParts plan.seats plan.start rounds lists
  pub last : (k : ℕ) (value : Option T) → k < plan.slots → get_elem? values k ≡ some value
      → LastFits mark plan.start (rounds k) (slice_index words k) value

-- lists, each put at its seat's number
abbrev pub put_all : List (ℕ × List Part) → List (List Part) → List (List Part)
put_all [] lists = lists
put_all (p ∷ ps) lists = put_all ps (slice_set lists p.0 p.1)
