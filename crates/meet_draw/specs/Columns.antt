-- The columns of a picture: whose each is, and what its seat has open.
use Rattle.std.specs.Prelude.{ℕ, ◌==◌, nat_lt, Bool, true, false, Option, Some, None, List, [], ◌∷◌, ◌++◌, length, map}
use Rattle.std.specs.Prelude.{min, max, slice_set, if◌then◌else◌}
use Rattle.std.specs.List.{list_any, position}
use Rattle.std.specs.Option.{option_map_or}
use Rattle.meet_tickets.specs.declared.records.Deed.{Deed}
use Rattle.meet_tickets.specs.declared.records.Deed.TheVariants.{GiveWaits, GiveMeets, GiveFails, GiveKept, TakeWaits}
use Rattle.meet_tickets.specs.declared.records.Deed.TheVariants.{TakeMeets, TakeFails, EntryInterrupted, Done, Got}
use Rattle.meet_tickets.specs.declared.records.Deed.TheVariants.{Withdrawn, Interrupt}
use Rattle.meet_draw.specs.declared.columns.Lane.{Lane}
use Rattle.meet_draw.specs.declared.columns.Lane.TheVariants.{Clear, Waits, Settled}
use Rattle.meet_draw.specs.declared.columns.Column.{Column}
use Rattle.meet_draw.specs.declared.columns.Change.{Change}
use Rattle.meet_draw.specs.declared.columns.Change.TheVariants.{Nothing, Opens, Ends, Owed, Settles}

-- what a record with this ticket changes: its seat's ticket waits, or ends; or a ticket that waits is met or cut
abbrev pub change_of : (ticket : ℕ) → Deed → Change
change_of t (GiveWaits m) = Opens t
change_of t (GiveMeets m u) = Settles u
change_of t (GiveFails m) = Nothing
change_of t (GiveKept m) = Nothing
change_of t TakeWaits = Opens t
change_of t (TakeMeets m u) = Settles u
change_of t TakeFails = Nothing
change_of t (EntryInterrupted side) = Nothing
change_of t Done = Ends
change_of t (Got m u) = Ends
change_of t (Withdrawn cause) = Ends
change_of t (Interrupt target) = Settles t

-- nothing is drawn there
abbrev pub is_clear : Lane → Bool
is_clear Clear = true
is_clear (Waits t) = false
is_clear Settled = false

-- this ticket waits there
abbrev pub waits_as : (ticket : ℕ) → Lane → Bool
waits_as u Clear = false
waits_as u (Waits t) = t == u
waits_as u Settled = false

-- a seat's column where nothing is drawn
abbrev pub clear_column : (seat : ℕ) → Column
clear_column i = record { seat = i; lane = Clear }

-- the columns with one of this seat: a seat keeps its column; one without takes a new one where there are fewer than so
-- many, else the first that is clear, else it has none
abbrev pub with_column : (most seat : ℕ) → List Column → List Column
with_column most i columns =
    if list_any (λ c. c.seat == i) columns then columns else (
    if nat_lt (length columns) most then columns ++ clear_column i ∷ []
    else option_map_or (λ j. slice_set columns j (clear_column i)) (position (λ c. is_clear c.lane) columns) columns)

-- what a change leaves in a column, of its own seat or another's
abbrev pub lane_after : Change → (own : Bool) → Lane → Lane
lane_after Nothing own lane = lane
lane_after (Opens t) own lane = if own then Waits t else lane
lane_after Ends own lane = if own then Clear else lane
lane_after Owed own lane = if own then Settled else lane
lane_after (Settles u) own lane = if waits_as u lane then Settled else lane

-- a column behind a change by this seat
abbrev pub column_after : (seat : ℕ) → Change → Column → Column
column_after i change c = record c { lane = lane_after change (c.seat == i) c.lane }

-- the columns behind it
abbrev pub changed : (seat : ℕ) → Change → List Column → List Column
changed i change columns = map (column_after i change) columns

-- from the left one of two places up to the right one, if there are both
abbrev pub between : Option ℕ → Option ℕ → ℕ × ℕ
between (Some a) (Some b) = (min a b, max a b)
between (Some a) None = (0, 0)
between None b = (0, 0)

-- from where to where a row of this seat links: its column, and that of the ticket which it meets or cuts
abbrev pub span_of : (seat : ℕ) → Change → List Column → ℕ × ℕ
span_of i (Settles u) columns =
    between (position (λ c. c.seat == i) columns) (position (λ c. waits_as u c.lane) columns)
span_of i change columns = (0, 0)
