-- What a queue answers when it is asked about itself.
use Rattle.std.specs.Prelude.{ℕ, Option, None, List, slice_get, if◌then◌else◌}
use Rattle.std.specs.Option.{option_and_then}
use Rattle.meet_tickets.specs.declared.lines.Entry.{Entry}
use Rattle.meet_tickets.specs.declared.places.Side.TheVariants.{Giver}
use Rattle.meet_tickets.specs.declared.places.Order.{Order}
use Rattle.meet_tickets.specs.Limits.{told_capacity}
use Rattle.meet_tickets.specs.Meeting.{keeps, count_on}

-- SynchronousQueue.size is 0; LinkedTransferQueue.size counts the givers, kept or waiting
abbrev pub size_of : Order → List (Entry ℕ) → ℕ
size_of order line = if keeps order then count_on Giver line else 0

-- SynchronousQueue.remainingCapacity, and that of LinkedTransferQueue
abbrev pub remaining_of : Order → ℕ
remaining_of order = if keeps order then told_capacity else 0

-- SynchronousQueue.peek is always empty; LinkedTransferQueue.peek is the first giver's item
abbrev pub peek_of : Order → List (Entry ℕ) → Option ℕ
peek_of order line = if keeps order then option_and_then (λ e. e.item) (slice_get line 0) else None
