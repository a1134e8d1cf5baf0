-- What contracts see of seats that are given back (our choice).
use Rattle.std.specs.Prelude.{ℕ, ◌+◌, ◌==◌, not, min, Bool, Option, Some, None, List, length, filter, sum_by}
use Rattle.std.specs.Prelude.{IsPermutation}
use Rattle.std.specs.List.{list_any, range_with_len}
use Rattle.meet_tickets.specs.Limits.{most_seats}
use Rattle.std.specs.List.Sorted.{IsNonDecreasingBy}
use Rattle.meet_book.specs.Received.{Received}
use Rattle.meet_place.specs.declared.seats.Past.{Past}
use Rattle.meet_place.specs.declared.seats.Back.{Back}
use Rattle.meet_place.specs.declared.seats.Back.TheVariants.{Free, Held}

module _ {D N : Type 0} where
  -- its seat's number
  abbrev pub number_of : Back D N → ℕ
  number_of (Free seat) = seat.number
  number_of (Held p) = p.number

  -- its seat's receipts, in order
  abbrev pub list_of : Back D N → List (Received D)
  list_of (Free seat) = seat.list
  list_of (Held p) = p.list

  -- its seat's share of the number of records: how many receipts it ever got
  abbrev pub share_of : Back D N → ℕ
  share_of (Free seat) = seat.past.trimmed + length seat.list
  share_of (Held p) = p.past.trimmed + length p.list

  -- how many records its seat's checkpoints folded away
  abbrev pub folded_of : Back D N → ℕ
  folded_of (Free seat) = seat.past.folded
  folded_of (Held p) = p.past.folded

  -- what all these seats' shares are together
  abbrev pub shares_in : List (Back D N) → ℕ
  shares_in seats = sum_by share_of seats

  -- how many records the checkpoints of all these seats folded away
  abbrev pub folded_in : List (Back D N) → ℕ
  folded_in seats = sum_by folded_of seats

  -- the seat of this number, with this behind it, this moment, these receipts and so much room; held, where a ticket
  -- is open, with that and its mark
  abbrev pub back_of : ℕ → Past → (moment : ℕ) → List (Received D) → ℕ → Option (ℕ × Option ℕ) → Back D N
  back_of number past moment list room None =
      Free (record { number = number; past = past; moment = moment; list = list; room = room })
  back_of number past moment list room (Some held) =
      Held (record { number = number; past = past; moment = moment; list = list; ticket = held.0; mark = held.1 })

  -- these are the same seats, in the order of their numbers
  pub record AreOrdered (seats ordered : List (Back D N)) : Type 0 where
    pub same : IsPermutation seats ordered
    pub rising : IsNonDecreasingBy number_of ordered

  -- the seat of this number is among these
  abbrev pub is_back : List (Back D N) → (number : ℕ) → Bool
  is_back seats number = list_any (λ back. number_of back == number) seats

  -- the numbers of those of so many seats that aren't among these, in rising order
  abbrev pub missing_of : (made : ℕ) → List (Back D N) → List ℕ
  missing_of made seats = filter (λ number. not (is_back seats number)) (range_with_len 0 (min made most_seats))
