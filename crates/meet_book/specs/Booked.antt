-- What a book shows of itself.
use Rattle.std.specs.Prelude.{ℕ, List}
use Rattle.meet_tickets.specs.declared.records.Record.{Record}

-- its object, the records of the object's steps in order, their room, and its cap
pub record Booked (O B D : Type 0) : Type 0 where
  pub object : O
  pub base : B  -- what stands for the records that were folded away
  pub records : List (Record D)
  pub room : ℕ  -- how many records more may come without growth
  pub cap : ℕ  -- how many records it may have
