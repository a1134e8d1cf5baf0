-- What a table of seats holds outside the line, as a base names it.
use Rattle.std.specs.Prelude.{ℕ, Option, Some, None, option_map, List, map, if◌then◌else◌}
use Rattle.std.specs.List.{range_with_len, filter_map}
use Rattle.meet_tickets.specs.declared.lines.Hold.{Hold}
use Rattle.meet_tickets.specs.declared.lines.Hold.TheVariants.{Free, Waiting, Handed, Served, Cut}
use Rattle.meet_tickets.specs.declared.places.Side.TheVariants.{Giver, Taker}
use Rattle.meet_tickets.specs.declared.bases.OpenPair.{OpenPair}
use Rattle.meet_tickets.specs.declared.bases.OpenCut.{OpenCut}
use Rattle.meet_core.specs.Table.{Table, hold_at, flag_at}

-- the open ticket of a seat that was met
abbrev pub pair_of : {T : Type 0} → (T → ℕ) → (seat : ℕ) → Hold T → Option OpenPair
pair_of mark i Free = None
pair_of mark i (Waiting t) = None
pair_of mark i (Handed t u m) = Some (record { ticket = t; seat = i; side = Giver; partner = u; mark = m })
pair_of mark i (Served t u item) = Some (record { ticket = t; seat = i; side = Taker; partner = u; mark = mark item })
pair_of mark i (Cut t item) = None

-- the open ticket of a seat that was cut
abbrev pub cut_of : {T : Type 0} → (T → ℕ) → (seat : ℕ) → Hold T → Option OpenCut
cut_of mark i Free = None
cut_of mark i (Waiting t) = None
cut_of mark i (Handed t u m) = None
cut_of mark i (Served t u item) = None
cut_of mark i (Cut t item) = Some (record { ticket = t; seat = i; item = option_map mark item })

-- what a table has of them at a seat, and the seat itself where it is flagged
abbrev pub pair_at : {T : Type 0} → (T → ℕ) → Table T → (seat : ℕ) → Option OpenPair
pair_at mark table i = pair_of mark i (hold_at table.holds i)

abbrev pub cut_at : {T : Type 0} → (T → ℕ) → Table T → (seat : ℕ) → Option OpenCut
cut_at mark table i = cut_of mark i (hold_at table.holds i)

abbrev pub flagged_at : {T : Type 0} → Table T → (seat : ℕ) → Option ℕ
flagged_at table i = if flag_at table.flags i then Some i else None

-- what the first seats have, in their order
abbrev pub gathered : {X : Type 0} → (ℕ → Option X) → (count : ℕ) → List X
gathered f count = filter_map (λ o. o) (map f (range_with_len 0 count))
