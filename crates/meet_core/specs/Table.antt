-- What a table of the seats shows of itself.
use Rattle.std.specs.Prelude.{ℕ, ◌*◌, nat_le, min, max, Bool, false, List, slice_index_or, if◌then◌else◌}
use Rattle.meet_tickets.specs.Limits.{most_seats}
use Rattle.meet_tickets.specs.declared.lines.Hold.{Hold}
use Rattle.meet_tickets.specs.declared.lines.Hold.TheVariants.{Free, Waiting, Handed, Served, Cut}

-- by seat, from 0: what it holds, and whether it is flagged
pub record Table (T : Type 0) : Type 0 where
  pub holds : List (Hold T)
  pub flags : List Bool

-- what a seat holds; a seat that isn't there holds nothing
abbrev pub hold_at : {T : Type 0} → List (Hold T) → ℕ → Hold T
hold_at holds seat = slice_index_or holds seat Free

-- whether a seat is flagged; one that isn't there never is
abbrev pub flag_at : List Bool → ℕ → Bool
flag_at flags seat = slice_index_or flags seat false

-- what a seat holds has no item in it
abbrev pub HasNoItem : {T : Type 0} → Hold T → Type 0
HasNoItem Free = Unit {0}
HasNoItem (Waiting t) = Unit {0}
HasNoItem (Handed t u mark) = Unit {0}
HasNoItem (Served t u item) = ⊥
HasNoItem (Cut t item) = ⊥

-- how many seats a table of so many has that grows to have `count`: as many as it had, where these are enough; else
-- that many, and twice as many as it had, where a place may have so many
abbrev pub grown : (was count : ℕ) → ℕ
grown was count = if nat_le count was then was else min most_seats (max count (2 * was))
