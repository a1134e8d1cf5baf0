-- What was written of a text.
use Rattle.std.specs.Prelude.{◌≡◌, ℕ, ◌<◌, Option, List, ◌++◌, length}
use Rattle.std.specs.Io.KnownBytes.{Appends}

-- a text begins with this prefix
abbrev pub IsPrefix : (prefix whole : List ℕ) → Type 0
IsPrefix prefix whole = (rest : List ℕ) × (whole ≡ prefix ++ rest)

-- the known bytes grew by a prefix of this text
abbrev pub AppendsPrefix : (old new : Option (List ℕ)) → (whole : List ℕ) → Type 0
AppendsPrefix old new whole = (prefix : List ℕ) × Appends old new prefix × IsPrefix prefix whole

-- and by less than the whole of it
abbrev pub AppendsLess : (old new : Option (List ℕ)) → (whole : List ℕ) → Type 0
AppendsLess old new whole = (prefix : List ℕ) × Appends old new prefix × IsPrefix prefix whole
    × (length prefix < length whole)
