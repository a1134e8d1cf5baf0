-- The words of a line, and numbers as words.
use Rattle.std.specs.Prelude.{◌≡◌, ◌≢◌, ◌<◌, length, get_or, ℕ, ◌^◌, nat_lt, ◌&&◌, ◌==◌, Option, Some, None, List, []}
use Rattle.std.specs.Prelude.{◌∷◌, if◌then◌else◌, decimal}
use Rattle.std.specs.Str.{bytes_eq}
use Rattle.std.specs.Str.Parse.{digits_value}

-- a text up to its first space
unfoldable pub word_of : List ℕ → List ℕ
word_of [] = []
word_of (b ∷ bs) = if b == 32 then [] else b ∷ word_of bs

-- a text from its first space on
unfoldable pub rest_of : List ℕ → List ℕ
rest_of [] = []
rest_of (b ∷ bs) = if b == 32 then b ∷ bs else rest_of bs

-- what stands behind a prefix, where a text begins with it
unfoldable pub behind : (prefix text : List ℕ) → Option (List ℕ)
behind [] text = Some text
behind (c ∷ prefix) [] = None
behind (c ∷ prefix) (b ∷ text) = if b == c then behind prefix text else None

-- a number, where it is below 2^64 and the word is its one spelling
unfoldable pub number_if : (word : List ℕ) → ℕ → Option ℕ
number_if word n = if nat_lt n (2 ^ 64) && bytes_eq word (decimal n) then Some n else None

-- the number that a word spells
unfoldable pub number_spelled : (word : List ℕ) → Option ℕ
number_spelled word = number_if word (digits_value 10 word)

-- a word with no sign, and no 0 in front
pub record BeginsAsNumber (word : List ℕ) : Type 0 where
  pub some : 0 < length word
  pub unsigned : get_or word 0 0 ≢ 43
  pub lead : get_or word 0 0 ≡ 48 → length word ≡ 1
