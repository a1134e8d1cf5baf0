-- What stays true from turn to turn of `read_digits`, src/text/words.rt.
use Rattle.std.proofs.Common.{◌≡◌, ◌<◌, ◌^◌, drop}
use Rattle.std.specs.Str.Parse.{AllDigits, digits_value, digits_value_after}
use Rattle.meet_run.proofs.text.words.read_digits.Given as goal

-- what is left is all that the word's digits still hang on, and its number
abbrev pub invariant-loop-byte : goal.invariant-loop-byte
invariant-loop-byte l = record {
  digits : AllDigits 10 (drop l.byte-index l.word) → AllDigits 10 l.word;
  left : AllDigits 10 l.word → AllDigits 10 (drop l.byte-index l.word);
  value : digits_value_after 10 l.number (drop l.byte-index l.word) ≡ digits_value 10 l.word;
  small : l.number < 2 ^ 64;
}
