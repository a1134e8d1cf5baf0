-- The word of a slot: what is going on there, by whom, and in which round (our choice).
use Rattle.std.specs.Prelude.{ℕ, ◌+◌, ◌*◌, ◌/◌, ◌%◌}

-- how far apart the words of two rounds are
abbrev pub round_unit : ℕ
round_unit = 524288

-- the word of this code, of the seat that claimed the round, 0 while nobody did, and of this round
abbrev pub word_of : (code owner round : ℕ) → ℕ
word_of c o r = c + 8 * o + round_unit * r

-- the code in a word: 0 free, 1 held, 2 posted, 3 taken, 4 answered
abbrev pub code_in : ℕ → ℕ
code_in w = w % 8

-- the round in a word
abbrev pub number_in : ℕ → ℕ
number_in w = w / round_unit
