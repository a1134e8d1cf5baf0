-- The limits of a place's numbers, each with its source: our choice where Java has none.
use Rattle.std.specs.Prelude.{ℕ}

-- the most seats of a place, which are numbered from 0 (our choice)
abbrev pub most_seats : ℕ
most_seats = 65536

-- the most records of a place, and of a script or a trace (our choice)
abbrev pub most_records : ℕ
most_records = 1048576

-- the greatest bound on the items that a transfer queue keeps (our choice)
abbrev pub most_kept : ℕ
most_kept = 1048576

-- the last ticket, 2 ^ 63 - 1 (our choice)
abbrev pub last_ticket : ℕ
last_ticket = 9223372036854775807

-- the most records that may be folded away, 2 ^ 63 - 1 (our choice)
abbrev pub most_gone : ℕ
most_gone = 9223372036854775807

-- what remaining_capacity says of every transfer queue (LinkedTransferQueue.remainingCapacity)
abbrev pub told_capacity : ℕ
told_capacity = 2147483647

-- the most slots of an exchanger, which are numbered from 0 (our choice)
abbrev pub most_slots : ℕ
most_slots = 64

-- the last round of an exchanger's slot, 2 ^ 44 - 1 (our choice)
abbrev pub last_round : ℕ
last_round = 17592186044415
