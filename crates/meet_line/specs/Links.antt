-- A link between the nodes of a line, in one word (our choice).
use Rattle.std.specs.Prelude.{ℕ, Option, Some, None}
use Rattle.std.proofs.Common.{zero, suc}

-- the key that a word links to: 0 links to none, and every other to the key that is one less
abbrev pub key_of : ℕ → Option ℕ
key_of zero = None
key_of (suc key) = Some key

-- the word that links to a key, or to none
abbrev pub code_of : Option ℕ → ℕ
code_of None = 0
code_of (Some key) = suc key
