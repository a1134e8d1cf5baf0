-- What a reader in blocks still has to give.
use Rattle.std.specs.Prelude.{ℕ, List, Option}
use Rattle.std.specs.Io.KnownBytes.{prepend_known}

-- what is left of the block that was read last, and the reader that gives the blocks
pub record Blocked (R : Type 0) : Type 0 where
  pub unread : List ℕ
  pub reader : R

-- the bytes that are left of the block, and then those of the reader, where these are known
abbrev pub known_of : {R : Type 0} → (remaining : R → Option (List ℕ)) → Blocked R → Option (List ℕ)
known_of remaining b = prepend_known b.unread (remaining b.reader)
