-- A queue as histories see it: items by their marks.
use Rattle.std.specs.Prelude.{ℕ, option_map, map}
use Rattle.meet_tickets.specs.declared.lines.Hold.{Hold}
use Rattle.meet_tickets.specs.declared.lines.Hold.TheVariants.{Free, Waiting, Handed, Served, Cut}
use Rattle.meet_tickets.specs.BySeat.{Seats, Moment}
use Rattle.meet_line.specs.Seen.{marked_entry}
use Rattle.meet_core.specs.Queue.{Queue, seats_of}

-- what a seat holds, an item by its mark
abbrev pub marked_hold : {T : Type 0} → (T → ℕ) → Hold T → Hold ℕ
marked_hold mark Free = Free
marked_hold mark (Waiting t) = Waiting t
marked_hold mark (Handed t u m) = Handed t u m
marked_hold mark (Served t u item) = Served t u (mark item)
marked_hold mark (Cut t item) = Cut t (option_map mark item)

-- the seats as histories see them: the line, what they hold, and their flags
abbrev pub marked : {T : Type 0} → (T → ℕ) → Seats T → Seats ℕ
marked mark s =
    record { line = map (marked_entry mark) s.line; holds = λ i. marked_hold mark (s.holds i); flags = s.flags }

-- the moment that a queue shows
abbrev pub moment_of_queue : {T : Type 0} → (T → ℕ) → Queue T → Moment
moment_of_queue mark q = record { last = q.last; seats = marked mark (seats_of q) }
