-- What a caller in C sees of a queue.
use Rattle.std.specs.Prelude.{ℕ, ◌+◌, length, Option, Some, None}
use Rattle.std.specs.Option.{option_map_or, unwrap_or}
use Rattle.meet_tickets.specs.Meeting.{waiting_count, kept_count}
use Rattle.meet_tickets.specs.BySeat.{open_ticket, settled_of}
use Rattle.meet_core.specs.Queue.{seats_of, count_of}
use Rattle.meet_queues.specs.Probes.{size_of, remaining_of, peek_of}
use Rattle.meet_c.specs.declared.queues.Look.{Look}
use Rattle.meet_c.specs.Stepped.{QueueBook}

-- one if there is a number, else 0
abbrev pub count_of_option : Option ℕ → ℕ
count_of_option None = 0
count_of_option (Some n) = 1

-- the probes of a queue, and the counts of its log
abbrev pub look_at : QueueBook → Look
look_at book = record {
  size = size_of book.object.kind.order book.object.queue.line;
  remaining_capacity = remaining_of book.object.kind.order;
  has_first = count_of_option (peek_of book.object.kind.order book.object.queue.line);
  first = unwrap_or (peek_of book.object.kind.order book.object.queue.line) 0;
  waiting = waiting_count book.object.queue.line;
  uncollected = settled_of (count_of book.object.queue) (seats_of book.object.queue).holds;
  kept = kept_count book.object.queue.line;
  records = length book.records;
  written = book.base.gone + length book.records;
}

-- a seat's open ticket, or 0
abbrev pub open_at : QueueBook → (seat : ℕ) → ℕ
open_at book seat = option_map_or (λ t. t) (open_ticket ((seats_of book.object.queue).holds seat)) 0
