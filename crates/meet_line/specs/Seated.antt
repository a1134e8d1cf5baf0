-- A line with a place for each seat: what it shows of itself, and how it is kept (our choice). Seats are the keys.
use Rattle.std.specs.Prelude.{◌≡◌, ◌≢◌, ℕ, ◌-◌, ◌<◌, ◌≤◌, ◌==◌, Option, Some, None, true, All, find, option_map}
use Rattle.std.specs.Prelude.{List, [], ◌∷◌, ◌++◌, map, length, slice_index_or, slice_set, replicate}
use Rattle.std.specs.Option.{option_map_or}
use Rattle.meet_tickets.specs.declared.lines.Entry.{Entry}
use Rattle.meet_line.specs.declared.spots.Spot.{Spot}
use Rattle.meet_line.specs.Runs.{IsRing, followed}
use Rattle.meet_line.specs.Nodes.{put_end}
use Rattle.meet_line.specs.Rolled.{Placed, Rolled}
use Rattle.meet_line.specs.Stored.{slot_at, entries_of, IsStored}

-- what places of seats show of themselves
pub record Seated (T : Type 0) : Type 0 where
  pub entries : List (Entry T)  -- in order of arrival
  pub width : ℕ  -- how many seats have a place

-- what a line with a place for each seat shows of itself
pub record Roomy (T : Type 0) : Type 0 where
  pub entries : List (Entry T)  -- in order of arrival
  pub room : ℕ  -- how many more may come without growth
  pub width : ℕ  -- how many seats have a place

-- what stands at the places, and their links to what came just after and just before
abbrev pub slots_of : {T : Type 0} → List (Spot T) → List (Option (Entry T))
slots_of spots = map (λ s. s.entry) spots

abbrev pub afters_of : {T : Type 0} → List (Spot T) → List (Option ℕ)
afters_of spots = map (λ s. s.after) spots

abbrev pub befores_of : {T : Type 0} → List (Spot T) → List (Option ℕ)
befores_of spots = map (λ s. s.before) spots

-- links between places, of which this is the first
abbrev pub linked : List (Option ℕ) → (first : Option ℕ) → Option ℕ → Option ℕ
linked links first None = first
linked links first (Some k) = slice_index_or links k None

-- links, where the one of this place, if it is one, is `to`
abbrev pub relinked : List (Option ℕ) → (at to : Option ℕ) → List (Option ℕ)
relinked links None to = links
relinked links (Some k) to = slice_set links k to

-- a link within so many places
abbrev pub IsBelow : Option ℕ → ℕ → Type 0
IsBelow None count = Unit {0}
IsBelow (Some k) count = k < count

-- the seats of the neighbours of a place's node
abbrev pub after_at : {T : Type 0} → List (Spot T) → ℕ → Option ℕ
after_at spots k = linked (afters_of spots) None (Some k)

abbrev pub before_at : {T : Type 0} → List (Spot T) → ℕ → Option ℕ
before_at spots k = linked (befores_of spots) None (Some k)

-- the node at this place has left, and its neighbours are linked
pub record IsUnlinked {T : Type 0} (old new : List (Spot T)) (first first' last last' : Option ℕ) (k : ℕ) : Type 0 where
  pub slots : slots_of new ≡ slice_set (slots_of old) k None
  pub afters : afters_of new ≡ relinked (afters_of old) (before_at old k) (after_at old k)
  pub befores : befores_of new ≡ relinked (befores_of old) (after_at old k) (before_at old k)
  pub first_is : first' ≡ put_end first (before_at old k) (after_at old k)
  pub last_is : last' ≡ put_end last (after_at old k) (before_at old k)

-- a node has come to this place, behind the last one
pub record IsLinked {T : Type 0} (old new : List (Spot T)) (first first' last last' : Option ℕ) (k : ℕ) (entry : Entry T) : Type 0 where
  pub slots : slots_of new ≡ slice_set (slots_of old) k (Some entry)
  pub afters : afters_of new ≡ relinked (slice_set (afters_of old) k None) last (Some k)
  pub befores : befores_of new ≡ slice_set (befores_of old) k last
  pub first_is : first' ≡ put_end first last (Some k)
  pub last_is : last' ≡ Some k

-- so many empty places have come
pub record IsPadded {T : Type 0} (old new : List (Spot T)) (more : ℕ) : Type 0 where
  pub slots : slots_of new ≡ slots_of old ++ replicate more None
  pub afters : afters_of new ≡ afters_of old ++ replicate more None
  pub befores : befores_of new ≡ befores_of old ++ replicate more None

-- the seats in order of arrival
abbrev pub seats_of : {T : Type 0} → List (Spot T) → (first : Option ℕ) → (len : ℕ) → List ℕ
seats_of spots first len = followed len (linked (afters_of spots) first) first

-- the places of these seats, by their tickets
abbrev pub placed : {T : Type 0} → List (Option (Entry T)) → ℕ → Placed
placed slots k = record { key = k; ticket = option_map_or (λ e. e.ticket) (slot_at slots k) 0 }

abbrev pub seat_roll : {T : Type 0} → List (Option (Entry T)) → List ℕ → Rolled
seat_roll slots seats = record { places = map (placed slots) seats; width = length slots; buckets = length slots }

-- the entries of these seats
abbrev pub line_of : {T : Type 0} → List (Option (Entry T)) → List ℕ → List (Entry T)
line_of slots seats = entries_of slots (map (placed slots) seats)

-- what these fields show
abbrev pub seated : {T : Type 0} → List (Spot T) → (first : Option ℕ) → (len : ℕ) → Seated T
seated spots first len = record {
  entries = line_of (slots_of spots) (seats_of spots first len);
  width = length spots;
}

-- these fields keep a line of these seats
pub record IsSeated {T : Type 0} (spots : List (Spot T)) (first last : Option ℕ) (len : ℕ) (seats : List ℕ) : Type 0 where
  pub ring : IsRing (linked (afters_of spots) first) (linked (befores_of spots) last) seats
  pub stored : IsStored (seat_roll (slots_of spots) seats) (slots_of spots) (length spots - len)
  pub counted : len ≡ length seats
  pub within : len ≤ length spots
  pub own : (k : ℕ) (e : Entry T) → slot_at (slots_of spots) k ≡ Some e → e.seat ≡ k
  pub waits : (k : ℕ) (e : Entry T) → slot_at (slots_of spots) k ≡ Some e → e.waits ≡ true

-- the seat of the first of these entries
abbrev pub first_seat : {T : Type 0} → List (Entry T) → Option ℕ
first_seat [] = None
first_seat (e ∷ line) = Some e.seat

-- an entry of this seat stands there, between these
pub record Sits {T : Type 0} (line : List (Entry T)) (seat : ℕ) : Type 0 where
  pub front : List (Entry T)
  pub entry : Entry T
  pub rest : List (Entry T)
  pub all : line ≡ front ++ entry ∷ rest
  pub own : entry.seat ≡ seat

-- the entry of this seat leaves, and the others keep their order
abbrev pub IsRisen : {T : Type 0} → (old new : List (Entry T)) → (seat : ℕ) → Option (Entry T) → Type 0
IsRisen {T} old new seat result = (front : List (Entry T)) (e : Entry T) (rest : List (Entry T))
    → old ≡ front ++ e ∷ rest → e.seat ≡ seat → (result ≡ Some e) × (new ≡ front ++ rest)

-- the seat of the entry of a ticket, if it is there
abbrev pub seat_found : {T : Type 0} → List (Entry T) → (ticket : ℕ) → Option ℕ
seat_found line ticket = option_map (λ e. e.seat) (find (λ e. e.ticket == ticket) line)

-- the seat of the last entry, which stands there
abbrev pub IsLastSeat : {T : Type 0} → List (Entry T) → Option ℕ → Type 0
IsLastSeat line None = line ≡ []
IsLastSeat line (Some seat) = (at : Sits line seat) × (at.rest ≡ [])

-- an entry may come: it waits, its seat has a place, and nothing that waits is of its seat
pub record Fits {T : Type 0} (width : ℕ) (line : List (Entry T)) (entry : Entry T) : Type 0 where
  pub waits : entry.waits ≡ true
  pub within : entry.seat < width
  pub free : All (λ f. f.waits ≡ true → f.seat ≢ entry.seat) line
