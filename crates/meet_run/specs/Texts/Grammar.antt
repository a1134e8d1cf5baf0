-- What lines of scripts and traces say alike: a seat, the order of a place, an option.
use Rattle.std.specs.Prelude.{ℕ, nat_lt, nat_le, Bool, true, ◌&&◌, Option, Some, None, option_and_then}
use Rattle.std.specs.Prelude.{List, codes, if◌then◌else◌}
use Rattle.std.specs.Option.{option_map_or}
use Rattle.std.specs.Str.{bytes_eq}
use Rattle.meet_tickets.specs.declared.places.Order.{Order}
use Rattle.meet_tickets.specs.declared.places.Order.TheVariants.{Fair, Unfair, Transfer}
use Rattle.meet_tickets.specs.Meeting.{keeps}
use Rattle.meet_tickets.specs.Limits.{most_seats}
use Rattle.meet_run.specs.Texts.Words.{word_of, rest_of, behind, number_spelled}

-- one step after another, where each may fail
infixl 10 ◌>>=◌
abbrev pub ◌>>=◌ : {A B : Type 0} → Option A → (A → Option B) → Option B
o >>= f = option_and_then f o

-- a value, where a test passes
abbrev pub provided : {A : Type 0} → Bool → A → Option A
provided test x = if test then Some x else None

-- a seat's number
unfoldable pub seat_in : ℕ → Option ℕ
seat_in n = provided (nat_lt n most_seats) n

-- the seat of a word
unfoldable pub seat_of : (word : List ℕ) → Option ℕ
seat_of word = number_spelled word >>= seat_in

-- the order of a place
unfoldable pub order_of : (word : List ℕ) → Option Order
order_of word =
    if bytes_eq word (codes "fair") then Some Fair else (
    if bytes_eq word (codes "unfair") then Some Unfair else (
    if bytes_eq word (codes "transfer") then Some Transfer else None))

-- an option's number, from 1 on, and the rest of its line
unfoldable pub option_value : (most : ℕ) → (word rest : List ℕ) → Option (Option ℕ × List ℕ)
option_value most word rest = do
  n ← number_spelled word
  provided (nat_le 1 n && nat_le n most) (Some n, rest)

-- an option by its name with a space on either side: its number, if it stands there, and the rest of its line
unfoldable pub option_in : (name : List ℕ) → (most : ℕ) → (rest : List ℕ) → Option (Option ℕ × List ℕ)
option_in name most rest =
    option_map_or (λ text. option_value most (word_of text) (rest_of text)) (behind name rest) (Some (None, rest))

-- only a place that keeps items has a bound
abbrev pub may_have : Order → (bound : Option ℕ) → Bool
may_have order None = true
may_have order (Some n) = keeps order
