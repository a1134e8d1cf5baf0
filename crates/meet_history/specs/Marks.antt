-- What the line of a history's marks shows of itself.
use Rattle.std.specs.Prelude.{◌≡◌, ℕ, ◌-◌, ◌<◌, List, length, slice_index_or, Option, Some, None, is_some, not}
use Rattle.std.specs.Prelude.{if◌then◌else◌}
use Rattle.meet_tickets.specs.declared.lines.Entry.{Entry}
use Rattle.meet_tickets.specs.declared.places.End.{End}
use Rattle.meet_tickets.specs.declared.places.End.TheVariants.{Front, Back}
use Rattle.meet_history.specs.declared.checker.place.line.ByEnd.{ByEnd}
use Rattle.meet_history.specs.declared.checker.place.line.ByEnd.TheVariants.{Front as AtFront, Back as AtBack}

-- the end at which an entry is met, the entries that stand there, and room for more
pub record MarkedLine : Type 0 where
  pub end : End
  pub entries : List (Entry ℕ)
  pub room : ℕ  -- how many entries more it takes without growth
  pub newest : ℕ  -- no entry's ticket is above this one

-- the end at which they are met
abbrev pub met_end : ByEnd → End
met_end (AtFront line) = Front
met_end (AtBack line) = Back

-- the entries, at whichever end they are met
abbrev pub entries_of : ByEnd → List (Entry ℕ)
entries_of (AtFront line) = line.entries
entries_of (AtBack line) = line.entries

-- the room, at whichever end they are met
abbrev pub room_of : ByEnd → ℕ
room_of (AtFront line) = line.room
room_of (AtBack line) = line.room

-- the ticket of the last entry, or 0 where there is none
abbrev pub IsNewest : List (Entry ℕ) → ℕ → Type 0
IsNewest line newest = (length line ≡ 0 → newest ≡ 0)
    × ((d : Entry ℕ) → 0 < length line → newest ≡ (slice_index_or line (length line - 1) d).ticket)

-- one for a giver, else 0
abbrev pub one_if_gives : Entry ℕ → ℕ
one_if_gives e = if is_some e.item then 1 else 0

-- one for a kept entry, else 0
abbrev pub one_if_kept : Entry ℕ → ℕ
one_if_kept e = if not e.waits then 1 else 0

-- the same of an entry that may be there
abbrev pub count_if_gives : Option (Entry ℕ) → ℕ
count_if_gives None = 0
count_if_gives (Some e) = one_if_gives e

abbrev pub count_if_kept : Option (Entry ℕ) → ℕ
count_if_kept None = 0
count_if_kept (Some e) = one_if_kept e
