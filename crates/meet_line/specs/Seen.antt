-- A line as histories see it: items by their marks.
use Rattle.std.specs.Prelude.{ℕ, option_map}
use Rattle.meet_tickets.specs.declared.lines.Entry.{Entry}

-- an entry as histories see it, its item by its mark
abbrev pub marked_entry : {T : Type 0} → (T → ℕ) → Entry T → Entry ℕ
marked_entry mark e = record { ticket = e.ticket; seat = e.seat; item = option_map mark e.item; waits = e.waits }
