-- The rounds of a slot, rebuilt from the seats' lists in three sweeps: the posts, what ended them, what was collected.
use Rattle.std.specs.Prelude.{ℕ, ◌+◌, ◌-◌, true, false, List, [], ◌∷◌, slice_set, slice_index_or}
use Rattle.meet_exchange.specs.declared.records.SlotDeed.{SlotDeed}
use Rattle.meet_exchange.specs.declared.records.SlotDeed.TheVariants.{Posted, Withdrawn, Swapped, Collected}
use Rattle.meet_exchange.specs.declared.records.RoundEnd.{RoundEnd}
use Rattle.meet_exchange.specs.declared.records.RoundEnd.TheVariants.{Posted as Stands, Withdrawn as EndWithdrawn}
use Rattle.meet_exchange.specs.declared.records.RoundEnd.TheVariants.{Swapped as Exchanged}
use Rattle.meet_exchange.specs.declared.records.Part.{Part}
use Rattle.meet_exchange.specs.declared.records.Round.{Round}
use Rattle.meet_exchange.specs.declared.rebuild.Pass.{Pass}
use Rattle.meet_exchange.specs.declared.rebuild.Pass.TheVariants.{Posts, Ends, Collects}
use Rattle.meet_exchange.specs.Rounds.{round_of, in_slot}

-- a round of which nothing is known yet
abbrev pub blank : Round
blank = round_of 0 0 Stands

-- what a part of the seat x makes of its round in each sweep
abbrev pub posts_in : ℕ → SlotDeed → Round → Round
posts_in x (Posted m) t = round_of x m Stands
posts_in x Withdrawn t = t
posts_in x (Swapped g h) t = t
posts_in x (Collected h) t = t

abbrev pub ends_in : ℕ → SlotDeed → Round → Round
ends_in x (Posted m) t = t
ends_in x Withdrawn t = round_of t.seat t.mark EndWithdrawn
ends_in x (Swapped g h) t = round_of t.seat t.mark (Exchanged x g false)
ends_in x (Collected h) t = t

abbrev pub collected_end : RoundEnd → RoundEnd
collected_end Stands = Stands
collected_end EndWithdrawn = EndWithdrawn
collected_end (Exchanged j b c) = Exchanged j b true

abbrev pub collects_in : ℕ → SlotDeed → Round → Round
collects_in x (Posted m) t = t
collects_in x Withdrawn t = t
collects_in x (Swapped g h) t = t
collects_in x (Collected h) t = round_of t.seat t.mark (collected_end t.end)

module _ (w : ℕ → SlotDeed → Round → Round) (start : ℕ) where
  -- a part changes the entry of its round
  abbrev pub written : ℕ → Part → List Round → List Round
  written x p rds = slice_set rds (p.round - start) (w x p.deed (slice_index_or rds (p.round - start) blank))

  -- the parts of the seat x, and then those of all seats in the slot k
  abbrev pub all_written : ℕ → List Part → List Round → List Round
  all_written x [] rds = rds
  all_written x (p ∷ ps) rds = all_written x ps (written x p rds)

  abbrev pub swept : ℕ → List (ℕ × List Part) → List Round → List Round
  swept k [] rds = rds
  swept k (l ∷ ls) rds = swept k ls (all_written l.0 (in_slot k l.1) rds)

-- of each sweep
abbrev pub writer : Pass → ℕ → SlotDeed → Round → Round
writer Posts = posts_in
writer Ends = ends_in
writer Collects = collects_in

-- whether a deed is a post, and how many of a list are
abbrev pub is_post : SlotDeed → ℕ
is_post (Posted m) = 1
is_post Withdrawn = 0
is_post (Swapped g h) = 0
is_post (Collected h) = 0

abbrev pub posts_among : List Part → ℕ
posts_among [] = 0
posts_among (p ∷ ps) = is_post p.deed + posts_among ps

-- how many rounds of the slot k the lists posted
abbrev pub posts_of : ℕ → List (ℕ × List Part) → ℕ
posts_of k [] = 0
posts_of k (l ∷ ls) = posts_among (in_slot k l.1) + posts_of k ls

-- the three sweeps, over the lists of all seats
abbrev pub rebuilt_from : (start k : ℕ) → List (ℕ × List Part) → List Round → List Round
rebuilt_from start k lists blanks =
    swept collects_in start k lists (swept ends_in start k lists (swept posts_in start k lists blanks))
