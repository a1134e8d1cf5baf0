-- The stages that a slot goes through, and what each says of its word and of what the seats have in hand.
use Rattle.std.specs.Prelude.{ℕ, true, false, ◌==◌, cond, List, [], ◌∷◌, ◌++◌}
use Rattle.meet_exchange.specs.declared.records.RoundEnd.TheVariants.{Posted as Stands, Withdrawn as EndWithdrawn}
use Rattle.meet_exchange.specs.declared.records.RoundEnd.TheVariants.{Swapped as Exchanged}
use Rattle.meet_exchange.specs.declared.records.Round.{Round}
use Rattle.meet_exchange.specs.declared.views.Duty.{Duty}
use Rattle.meet_exchange.specs.declared.views.Duty.TheVariants.{Claimed, Offering, Ready, Took, Gathered, TookBack}
use Rattle.meet_exchange.specs.declared.views.InHand.{InHand}
use Rattle.meet_exchange.specs.declared.views.InHand.TheVariants.{Nothing, At}
use Rattle.meet_exchange.specs.Rounds.{round_of, IsPlayed, HasEnded}

-- claimed by o, who posts a; taken by j, who gives b; answered, and then seen to be by o; and the two ends before the
-- slot is cleared
pub data Stage : Type 0 where
  free : Stage
  claimed : ℕ → Stage
  posted : ℕ → ℕ → Stage
  taken : ℕ → ℕ → ℕ → ℕ → Stage
  answered : ℕ → ℕ → ℕ → ℕ → Stage
  seen : ℕ → ℕ → ℕ → ℕ → Stage
  collected : ℕ → ℕ → ℕ → ℕ → Stage
  withdrawn : ℕ → ℕ → Stage

-- a slot: its rounds that were cleared, and the stage of the one that runs
pub record Cell : Type 0 where
  pub past : List Round
  pub stage : Stage

abbrev pub cell_of : List Round → Stage → Cell
cell_of rds st = record { past = rds; stage = st }

-- the round that runs, once it was posted
abbrev pub running : Stage → List Round
running free = []
running (claimed o) = []
running (posted o a) = round_of o a Stands ∷ []
running (taken o a j b) = round_of o a (Exchanged j b false) ∷ []
running (answered o a j b) = round_of o a (Exchanged j b false) ∷ []
running (seen o a j b) = round_of o a (Exchanged j b false) ∷ []
running (collected o a j b) = round_of o a (Exchanged j b true) ∷ []
running (withdrawn o a) = round_of o a EndWithdrawn ∷ []

-- all rounds of a slot
abbrev pub rounds : Cell → List Round
rounds c = c.past ++ running c.stage

-- all were played by seats of the arena
abbrev pub AllPlayed : ℕ → List Round → Type 0
AllPlayed n [] = Unit {0}
AllPlayed n (x ∷ xs) = IsPlayed n x x.end × AllPlayed n xs

-- and have ended
abbrev pub AllEnded : ℕ → List Round → Type 0
AllEnded n [] = Unit {0}
AllEnded n (x ∷ xs) = HasEnded x.end × IsPlayed n x x.end × AllEnded n xs

-- the code and the owner that the word shows
abbrev pub code : Stage → ℕ
code free = 0
code (claimed o) = 1
code (posted o a) = 2
code (taken o a j b) = 3
code (answered o a j b) = 4
code (seen o a j b) = 4
code (collected o a j b) = 1
code (withdrawn o a) = 1

abbrev pub owner : Stage → ℕ
owner free = 0
owner (claimed o) = o
owner (posted o a) = o
owner (taken o a j b) = o
owner (answered o a j b) = o
owner (seen o a j b) = o
owner (collected o a j b) = o
owner (withdrawn o a) = o

-- what the seat x has in hand while the slot is in a stage
abbrev pub duties_in : ℕ → Stage → List Duty
duties_in x free = []
duties_in x (claimed o) = cond (o == x) (Claimed ∷ []) []
duties_in x (posted o a) = cond (o == x) (Offering a ∷ []) []
duties_in x (taken o a j b) = cond (o == x) (Offering a ∷ []) [] ++ cond (j == x) (Took b ∷ []) []
duties_in x (answered o a j b) = cond (o == x) (Offering a ∷ []) []
duties_in x (seen o a j b) = cond (o == x) (Ready a ∷ []) []
duties_in x (collected o a j b) = cond (o == x) (Gathered ∷ []) []
duties_in x (withdrawn o a) = cond (o == x) (TookBack ∷ []) []

-- with the round that it has it in
abbrev pub with_round : ℕ → List Duty → List (Duty × ℕ)
with_round r [] = []
with_round r (d ∷ ds) = (d, r) ∷ with_round r ds

-- what a seat has in hand in the slot k
abbrev pub in_hand : ℕ → InHand → List (Duty × ℕ)
in_hand k Nothing = []
in_hand k (At k' r d) = cond (k' == k) ((d, r) ∷ []) []
