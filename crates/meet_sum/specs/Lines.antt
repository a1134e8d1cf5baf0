-- How long the line is, and where it was longest.
use Rattle.std.specs.Prelude.{◌≡◌, ℕ, ◌+◌, ◌<◌, ◌≤◌, List, length, take, Contains}
use Rattle.meet_tickets.specs.declared.lines.Entry.{Entry}
use Rattle.meet_tickets.specs.declared.places.Kind.{Kind}
use Rattle.meet_tickets.specs.declared.records.Record.{Record}
use Rattle.meet_tickets.specs.declared.records.Deed.{Deed}
use Rattle.meet_tickets.specs.Bases.{Based, moment_of_base, IsWellFormed, IsLegalOn}
use Rattle.meet_tickets.specs.BySeat.{Moment, moment_of}
use Rattle.meet_sum.specs.declared.line.LongestLine.{LongestLine}

-- how many entries stand in the line that these records leave after a base
abbrev pub line_behind : Kind → Based → List (Record Deed) → ℕ
line_behind k b records = length (moment_of k (moment_of_base b) records).seats.line

-- each entry of the line has a ticket above 0
abbrev pub IsNumbered : Moment → Type 0
IsNumbered m = (e : Entry ℕ) → Contains m.seats.line e → 0 < e.ticket

-- of f at 0, 1 and so on up to `last` the greatest is `most`, and the first such is that at `at`
pub record IsPeak (f : ℕ → ℕ) (last most at : ℕ) : Type 0 where
  pub within : at ≤ last
  pub there : f at ≡ most
  pub most_of_all : (j : ℕ) → j ≤ last → f j ≤ most
  pub first : (j : ℕ) → j < at → f j < most

-- the longest line of these records: none behind more or fewer of them is longer, and none behind fewer is as long;
-- records are numbered on from those of the base
abbrev pub IsLongestLine : Kind → Based → List (Record Deed) → LongestLine → Type 0
IsLongestLine k b records longest = (n : ℕ) × (longest.behind ≡ b.gone + n)
    × IsPeak (λ j. line_behind k b (take j records)) (length records) longest.entries n

-- whatever kind of place they are legal at, this is the longest line
abbrev pub FindsLongestLine : Based → List (Record Deed) → LongestLine → Type 0
FindsLongestLine b records longest =
    (k : Kind) → IsWellFormed k b → IsLegalOn k b records → IsLongestLine k b records longest
