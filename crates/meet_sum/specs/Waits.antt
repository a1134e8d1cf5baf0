-- How long tickets stood in the line, in records.
use Rattle.std.specs.Prelude.{◌≡◌, ℕ, ◌+◌, ◌-◌, ◌<◌, ◌≤◌, Bool, true, false, Option, Some, None, IfSome, unwrap_or}
use Rattle.std.specs.Prelude.{option_and_then, List, ◌∷◌, ◌++◌, map, length, All, if◌then◌else◌}
use Rattle.meet_tickets.specs.declared.records.Record.{Record}
use Rattle.meet_tickets.specs.declared.records.Deed.{Deed}
use Rattle.meet_tickets.specs.Bases.{Based}
use Rattle.meet_tickets.specs.Fates.{opening}
use Rattle.meet_sum.specs.declared.stories.Asked.{Asked}
use Rattle.meet_sum.specs.declared.stories.AtOnce.{AtOnce}
use Rattle.meet_sum.specs.declared.stories.AtOnce.TheVariants.{Waits, IsKept}
use Rattle.meet_sum.specs.declared.stories.Story.{Story}
use Rattle.meet_sum.specs.declared.waits.Wait.{Wait}
use Rattle.meet_sum.specs.Stories.{story_in}

-- whether the ticket of a request stands in the line, at first
abbrev pub joins : AtOnce → Bool
joins Waits = true
joins IsKept = true
joins how = false

-- how long the ticket of a story stood in the line, if it did, where the first so many of all records open a base: from
-- the record that asked for it, or the beginning for one of the base, to that which took it out, or to the last
abbrev pub stay_told : (opened all : ℕ) → Story → Option ℕ
stay_told opened all s = option_and_then
    (λ a. if joins a.how then Some ((unwrap_or s.went all - opened) - (unwrap_or s.came 0 - opened)) else None) s.asked

-- the ticket and the seat of a story, and how long it stood in the line
pub record IsStay (opened all : ℕ) (s : Story) (wait : Wait) : Type 0 where
  pub stay : stay_told opened all s ≡ Some wait.records
  pub own : (a : Asked) × (s.asked ≡ Some a) × (a.ticket ≡ wait.ticket) × (a.seat ≡ wait.seat)

-- which of these stood longest, or that none stood: longer than each before it, and no shorter than each behind it
abbrev pub IsLongest : (opened all : ℕ) → List Story → Option Wait → Type 0
IsLongest opened all stories None = All (λ s. stay_told opened all s ≡ None) stories
IsLongest opened all stories (Some wait) = (before : List Story) × (s : Story) × (after : List Story)
    × (stories ≡ before ++ s ∷ after) × IsStay opened all s wait
    × All (λ x. IfSome (stay_told opened all x) (λ n. n < wait.records)) before
    × All (λ x. IfSome (stay_told opened all x) (λ n. n ≤ wait.records)) after

-- the stories of these tickets, by a base and the records since
abbrev pub stories_on : Based → List (Record Deed) → (tickets : List ℕ) → List Story
stories_on b records tickets = map (story_in (opening b ++ records)) tickets

-- which of these tickets stood longest in the line, the first such, or that none stood there
abbrev pub IsLongestWait : Based → List (Record Deed) → (tickets : List ℕ) → Option Wait → Type 0
IsLongestWait b records tickets wait =
    IsLongest (length (opening b)) (length (opening b) + length records) (stories_on b records tickets) wait
