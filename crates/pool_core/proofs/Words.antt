-- The least number of a set, by its words.
use Rattle.std.proofs.Common.{◌≡◌, ℕ, ◌+◌, ◌*◌, ◌/◌, ◌%◌, ◌<◌, ◌≤◌, ◌==◌, sym, ap, ap₂, ◌∙◌, Bool, true, false, not, cond, Some, None, List, length, get_or, arith, inl, inr, ◌⊎◌}
use Rattle.std.specs.Prelude.{position, nat_lt}
use Rattle.std.specs.Int.{bit_at}
use Rattle.std.specs.List.{position_or_len}
use Rattle.std.proofs.lemmas.Bool.{cases_lt}
use Rattle.std.proofs.lemmas.Bool.Decides.{nat_tests}
use Rattle.std.proofs.lemmas.List.{get_or_past}
use Rattle.std.proofs.lemmas.List.Sums.{fails_before_first}
use Rattle.std.proofs.lemmas.List.Quantifiers.{position-Some}
use Rattle.std.proofs.lemmas.Nat.Bits.{bit_at-zero}
use Rattle.pool_core.specs.Numbers.{holds}

abbrev some : ℕ → Bool
some word = not (word == 0)

no-word : (word : ℕ) → some word ≡ false → word ≡ 0
no-word word is = grind (arith, nat_tests)

a-word : (word : ℕ) → some word ≡ true → 0 < word
a-word word is = grind (arith, nat_tests)

pub position-None : {X : Type 0} (p : X → Bool) (xs : List X) (d : X) → position p xs ≡ None → (k : ℕ) → k < length xs → p (get_or xs k d) ≡ false
position-None p xs d none k below = by_order (cases_lt (position_or_len p xs) (length xs))
  where
    by_order : (position_or_len p xs < length xs) ⊎ (length xs ≤ position_or_len p xs) → p (get_or xs k d) ≡ false
    by_order (inl lt) = absurd (let test : nat_lt (position_or_len p xs) (length xs) ≡ true = grind (arith, nat_tests) in let no : Some (position_or_len p xs) ≡ None = sym (ap (λ b. cond b (Some (position_or_len p xs)) None) test) ∙ none in cc)
    by_order (inr ge) = fails_before_first p xs k d (omega arith)

-- no word is there, so no number is
pub none-held : (words : List ℕ) → position some words ≡ None → (n : ℕ) → holds words n ≡ 0
none-held words none n = by_order (cases_lt (n / 64) (length words))
  where
    by_order : (n / 64 < length words) ⊎ (length words ≤ n / 64) → holds words n ≡ 0
    by_order (inl lt) = ap (λ word. bit_at word (n % 64)) (no-word (get_or words (n / 64) 0) (position-None some words 0 none (n / 64) lt)) ∙ bit_at-zero (n % 64)
    by_order (inr ge) = ap (λ word. bit_at word (n % 64)) (get_or_past words (n / 64) 0 ge) ∙ bit_at-zero (n % 64)

module _ (words : List ℕ) (place bit : ℕ) (found : position some words ≡ Some place) where
  abbrev word : ℕ
  word = get_or words place 0

  pub word-there : 0 < word
  word-there = a-word word (position-Some some words place 0 found).1

  -- the lowest bit of the first word is the least number
  pub least-held : bit < 64 → bit_at word bit ≡ 1 → holds words (place * 64 + bit) ≡ 1
  least-held within is =
      let high : (place * 64 + bit) / 64 ≡ place = omega arith in
      let low : (place * 64 + bit) % 64 ≡ bit = omega arith in
      ap₂ (λ h l. bit_at (get_or words h 0) l) high low ∙ is

  pub none-below : bit < 64 → ((k : ℕ) → k < bit → bit_at word k ≡ 0) → (n : ℕ) → n < place * 64 + bit → holds words n ≡ 0
  none-below within least n below = by_order (cases_lt (n / 64) place)
    where
      by_order : (n / 64 < place) ⊎ (place ≤ n / 64) → holds words n ≡ 0
      by_order (inl lt) = ap (λ x. bit_at x (n % 64)) (no-word (get_or words (n / 64) 0) ((position-Some some words place 0 found).2 (n / 64) lt)) ∙ bit_at-zero (n % 64)
      by_order (inr ge) =
          let high : n / 64 ≡ place = omega arith in
          ap (λ h. bit_at (get_or words h 0) (n % 64)) high ∙ least (n % 64) (omega arith)
