-- What is left in a queue: the items that lie there, each with its giver's ticket.
use Rattle.std.specs.Prelude.{ℕ, Option, Some, None, option_map, List, ◌++◌, reverse, if◌then◌else◌}
use Rattle.std.specs.List.{filter_map}
use Rattle.meet_tickets.specs.declared.lines.Entry.{Entry}
use Rattle.meet_tickets.specs.declared.lines.Hold.{Hold}
use Rattle.meet_tickets.specs.declared.lines.Hold.TheVariants.{Free, Waiting, Handed, Served, Cut}
use Rattle.meet_tickets.specs.declared.places.End.{End}
use Rattle.meet_tickets.specs.declared.places.End.TheVariants.{Front, Back}
use Rattle.meet_core.specs.declared.left.Left.{Left}
use Rattle.meet_core.specs.declared.left.LeftStanding.{LeftStanding}
use Rattle.meet_core.specs.declared.left.LeftStanding.TheVariants.{Offered, Kept, Ready}
use Rattle.meet_core.specs.Queue.{Queue}

-- the item of this ticket, where it has one
abbrev pub left_of : {T : Type 0} → (ticket : ℕ) → LeftStanding → Option T → Option (Left T)
left_of t standing item = option_map (λ own. record { ticket = t; item = own; standing = standing }) item

-- what an entry of the line leaves: a giver's its item, offered where it waits, and else kept; a taker's nothing
abbrev pub left_of_entry : {T : Type 0} → Entry T → Option (Left T)
left_of_entry e = left_of e.ticket (if e.waits then Offered else Kept) e.item

-- what a seat leaves by what it holds: a taker that was met its giver's item, a giver that was cut its own; both are
-- ready
abbrev pub left_of_hold : {T : Type 0} → Hold T → Option (Left T)
left_of_hold Free = None
left_of_hold (Waiting t) = None
left_of_hold (Handed t u mark) = None
left_of_hold (Served t u item) = left_of u Ready (Some item)
left_of_hold (Cut t item) = left_of t Ready item

-- the entries of a line in the order in which they would be met
abbrev pub as_met : {E : Type 0} → End → List E → List E
as_met Front line = line
as_met Back line = reverse line

-- what the line leaves, as it would be met
abbrev pub left_in_line : {T : Type 0} → End → List (Entry T) → List (Left T)
left_in_line end line = filter_map left_of_entry (as_met end line)

-- what the seats leave, rising
abbrev pub left_at_seats : {T : Type 0} → List (Hold T) → List (Left T)
left_at_seats holds = filter_map left_of_hold holds

-- all items that are left in a queue, each once: the line's as they would be met, and then the seats'
abbrev pub left_in : {T : Type 0} → End → Queue T → List (Left T)
left_in end q = left_in_line end q.line ++ left_at_seats q.table.holds
