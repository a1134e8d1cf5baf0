-- The line of a transfer queue: nodes that wait, and buffered items, merged by their tickets (our choice).
use Rattle.std.specs.Prelude.{◌≡◌, ℕ, ◌<◌, ◌≤◌, Bool, true, false, nat_lt, List, [], ◌∷◌, length, All, AllPairs}
use Rattle.std.specs.Prelude.{if◌then◌else◌}
use Rattle.meet_tickets.specs.declared.lines.Entry.{Entry}
use Rattle.meet_line.specs.Seated.{Fits}

-- what such a line shows of itself
pub record Merged (T : Type 0) : Type 0 where
  pub waiting : List (Entry T)  -- those that wait, in order of arrival
  pub buffered : List (Entry T)  -- the others, in order of arrival
  pub room : ℕ  -- how many more may come without growth
  pub width : ℕ  -- how many seats have a place

-- a line with one more, before the first of a greater ticket
abbrev pub with_placed : {T : Type 0} → Entry T → List (Entry T) → List (Entry T)
with_placed e [] = e ∷ []
with_placed e (f ∷ line) = if nat_lt e.ticket f.ticket then e ∷ f ∷ line else f ∷ with_placed e line

-- two lines as one
abbrev pub merged : {T : Type 0} → (waiting buffered : List (Entry T)) → List (Entry T)
merged [] buffered = buffered
merged (e ∷ waiting) buffered = with_placed e (merged waiting buffered)

-- each ticket is below those that came later
abbrev pub Rises : {T : Type 0} → List (Entry T) → Type 0
Rises line = AllPairs (λ e f. e.ticket < f.ticket) line

-- whether the first of both lines is a buffered one
abbrev pub is_buffered_next : {T : Type 0} → (waiting buffered : List (Entry T)) → Bool
is_buffered_next waiting [] = false
is_buffered_next [] (f ∷ buffered) = true
is_buffered_next (e ∷ waiting) (f ∷ buffered) = nat_lt f.ticket e.ticket

-- these lines are kept, with room for more in the ring than those that wait need
pub record IsMerged {T : Type 0} (waiting buffered : List (Entry T)) (room : ℕ) : Type 0 where
  pub seats : Rises waiting
  pub rises : Rises (merged waiting buffered)
  pub within : length waiting ≤ room

-- an entry may come: its ticket is the greatest, and if it waits, its seat's place is free
pub record Comes {T : Type 0} (width : ℕ) (line : List (Entry T)) (entry : Entry T) : Type 0 where
  pub above : All (λ e. e.ticket < entry.ticket) line
  pub seated : entry.waits ≡ true → Fits width line entry
