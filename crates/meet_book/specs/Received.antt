-- What a receipt shows of itself.
use Rattle.std.specs.Prelude.{ℕ}
use Rattle.meet_tickets.specs.declared.records.Record.{Record}

-- a record, and where it stands
pub record Received (D : Type 0) : Type 0 where
  pub place : ℕ  -- the record's number in its book, from 1
  pub entry : Record D
