-- What a book that is ready for its calls has room for.
use Rattle.std.specs.Prelude.{ℕ, min}

-- the records for which there is room at most, whatever the cap (our choice)
abbrev pub ready_records : ℕ
ready_records = 4096

-- room for the lesser of the cap and so many (our choice)
abbrev pub ready_room : (cap : ℕ) → ℕ
ready_room cap = min cap ready_records
