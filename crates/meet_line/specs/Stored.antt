-- A line whose entries stand in slots by the keys of a roll: what it shows, and how it is kept (our choice).
use Rattle.std.specs.Prelude.{◌≡◌, ◌≢◌, ℕ, ◌+◌, ◌%◌, ◌==◌, ◌≤◌, Option, Some, None, AllPairs, count_by}
use Rattle.std.specs.Prelude.{List, [], ◌∷◌, ◌++◌, map, length, slice_index_or}
use Rattle.std.specs.List.{filter_map}
use Rattle.meet_tickets.specs.declared.lines.Entry.{Entry}
use Rattle.meet_line.specs.Runs.{occurs, IsDistinct}
use Rattle.meet_line.specs.Rolled.{Placed, Rolled}

-- what a line with a table of buckets shows of itself
pub record Bucketed (T : Type 0) : Type 0 where
  pub entries : List (Entry T)  -- in order of arrival
  pub room : ℕ  -- how many more may come without growth
  pub buckets : ℕ  -- how many there are: none yet, or a power of two
  pub looked : ℕ  -- how many nodes the last removal looked at

-- the entry under a key, if one is there
abbrev pub slot_at : {T : Type 0} → List (Option (Entry T)) → ℕ → Option (Entry T)
slot_at slots key = slice_index_or slots key None

-- the entries of these places, in their order
abbrev pub entries_of : {T : Type 0} → List (Option (Entry T)) → List Placed → List (Entry T)
entries_of slots places = filter_map (λ p. slot_at slots p.key) places

-- the keys of these places
abbrev pub keys_in : List Placed → List ℕ
keys_in places = map (λ p. p.key) places

-- each place's slot has an entry, of the place's ticket
abbrev pub AreHeld : {T : Type 0} → List (Option (Entry T)) → List Placed → Type 0
AreHeld slots [] = Unit {0}
AreHeld {T} slots (p ∷ places) =
    ((e : Entry T) × (slot_at slots p.key ≡ Some e) × (e.ticket ≡ p.ticket)) × AreHeld slots places

-- the slots hold the entries of these places, and no other
pub record Holds {T : Type 0} (slots : List (Option (Entry T))) (places : List Placed) : Type 0 where
  pub held : AreHeld slots places
  pub distinct : IsDistinct (keys_in places)
  pub free : (key : ℕ) → occurs key (keys_in places) ≡ 0 → slot_at slots key ≡ None

-- a roll, slots and room that keep a line
pub record IsStored {T : Type 0} (roll : Rolled) (slots : List (Option (Entry T))) (room : ℕ) : Type 0 where
  pub holds : Holds slots roll.places
  pub wide : roll.width ≤ length slots
  pub keys : length roll.places + room ≤ roll.width
  pub table : length roll.places + room ≤ roll.buckets
  pub tickets : AllPairs (λ e f. e.ticket ≢ f.ticket) (entries_of slots roll.places)

-- how many of these entries are in the bucket of a ticket, of so many buckets
abbrev pub fellows : {T : Type 0} → (buckets ticket : ℕ) → List (Entry T) → ℕ
fellows buckets ticket line = count_by (λ e. e.ticket % buckets == ticket % buckets) line

-- how many nodes are looked at for a ticket: its own and those of its bucket that came later; all of the bucket, where
-- it isn't there
abbrev pub IsLookedAt : {T : Type 0} → (buckets ticket : ℕ) → List (Entry T) → Option (Entry T) → (looked : ℕ) → Type 0
IsLookedAt buckets ticket line None looked = looked ≡ fellows buckets ticket line
IsLookedAt {T} buckets ticket line (Some e) looked = (front : List (Entry T)) × (rest : List (Entry T))
    × (line ≡ front ++ e ∷ rest) × (looked ≡ fellows buckets ticket rest + 1)
