-- What a base shows of itself that is told piece by piece.
use Rattle.std.specs.Prelude.{◌≡◌, ℕ, Bool, true, false, List, ◌==◌, if◌then◌else◌}
use Rattle.std.specs.Ordering.{nat_cmp}
use Rattle.std.specs.BTreeMap.{is_at}
use Rattle.std.specs.List.{list_any}
use Rattle.meet_tickets.specs.declared.lines.Entry.{Entry}
use Rattle.meet_tickets.specs.declared.bases.OpenPair.{OpenPair}
use Rattle.meet_tickets.specs.declared.bases.OpenCut.{OpenCut}
use Rattle.meet_tickets.specs.declared.places.Kind.{Kind}
use Rattle.meet_tickets.specs.Bases.{Based, held_in, named_in, IsWellFormed}
use Rattle.meet_tickets.specs.Meeting.{kept_count}

-- whether a number is among the keys of a set
abbrev pub has_number : (keys : List ℕ) → ℕ → Bool
has_number keys n = list_any (is_at (nat_cmp n)) keys

-- the base so far, of a place of this kind
pub record Grounded : Type 0 where
  pub kind : Kind
  pub base : Based

-- the tickets and partners that it names
abbrev pub named_at : Based → ℕ → Bool
named_at b n = list_any (λ u. u == n) (named_in b)

-- the seats of its open tickets
abbrev pub held_at : Based → ℕ → Bool
held_at b n = list_any (λ h. h.seat == n) (held_in b)

-- the seats that wait in its line
abbrev pub waiting_at : List (Entry ℕ) → ℕ → Bool
waiting_at line n = list_any (λ e. if e.waits then e.seat == n else false) line

-- the base of these lists
abbrev pub base_of : (gone last : ℕ) → List (Entry ℕ) → List OpenPair → List OpenCut → (flags : List ℕ) → Based
base_of gone last line pairs cut flags =
    record { gone = gone; last = last; line = line; pairs = pairs; cut = cut; flags = flags }

-- the numbers of new are those of old, and this one
abbrev pub Adds : (old : List ℕ) → ℕ → (new : List ℕ) → Type 0
Adds old t new = (n : ℕ) → has_number new n ≡ (if n == t then true else has_number old n)

-- a base is well formed, and these are the numbers that it names, the seats that it holds and those that wait, and so
-- many items are kept
abbrev pub IsGround : Kind → Based → (named held waiting : List ℕ) → (kept : ℕ) → Type 0
IsGround k b named held waiting kept = IsWellFormed k b × ((n : ℕ) → has_number named n ≡ named_at b n)
    × ((n : ℕ) → has_number held n ≡ held_at b n) × ((n : ℕ) → has_number waiting n ≡ waiting_at b.line n)
    × (kept ≡ kept_count b.line)
