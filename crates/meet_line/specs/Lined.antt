-- What a line shows of itself.
use Rattle.std.specs.Prelude.{ℕ, List}
use Rattle.meet_tickets.specs.declared.lines.Entry.{Entry}

-- the entries, and room for more
pub record Lined (T : Type 0) : Type 0 where
  pub entries : List (Entry T)  -- in order of arrival
  pub room : ℕ  -- how many more may come without growth
