-- What a drain leaves in its seat's list, and what it hands out (BlockingQueue.drainTo).
use Rattle.std.specs.Prelude.{◌≡◌, ℕ, ⊤, Option, Some, None, IsSome, List, [], ◌∷◌, map, min}
use Rattle.meet_tickets.specs.declared.records.Record.{Record}
use Rattle.meet_tickets.specs.declared.records.Deed.{Deed}
use Rattle.meet_tickets.specs.declared.records.Deed.TheVariants.{TakeMeets}
use Rattle.meet_core.specs.declared.answers.Polled.TheVariants.{Meets}
use Rattle.meet_core.specs.declared.calls.queue_calls.QueueAnswer.{QueueAnswer}
use Rattle.meet_core.specs.declared.calls.queue_calls.QueueAnswer.TheVariants.{Polled}
use Rattle.meet_core.specs.QueueRecords.{made}
use Rattle.meet_core.specs.QueueSteps.{queue_available}
use Rattle.meet_core.specs.Queue.{Queue, count_of}
use Rattle.meet_place.specs.Seats.{SeatView, AddsFrom}

-- an item that was taken: by the poll of this ticket, from this giver
pub record Taken (T : Type 0) : Type 0 where
  pub ticket : ℕ
  pub giver : ℕ
  pub item : T

module _ {T : Type 0} where
  -- the record of its poll
  abbrev pub taken_record : (T → ℕ) → (seat : ℕ) → Taken T → Record Deed
  taken_record mark seat taken = made seat taken.ticket (TakeMeets (mark taken.item) taken.giver)

  -- one receipt for each item came to the list's end, of the poll that took it, in the items' order; all under one
  -- hold, so that the records follow one another
  abbrev pub DrainedTo : (T → ℕ) → (old new : SeatView Deed) → List T → Type 0
  DrainedTo mark old new items = (last : ℕ) × (all : List (Taken T)) × (map (λ taken. taken.item) all ≡ items)
      × AddsFrom last old.list new.list (map (taken_record mark old.number) all)

  -- the item that an answer brings, where it is to a poll that met
  abbrev pub item_told : QueueAnswer T → Option T
  item_told (Polled (Meets t u item)) = Some item
  item_told answer = None

  -- each of the answers brings an item
  abbrev pub AllBring : List (QueueAnswer T) → Type 0
  AllBring [] = ⊤
  AllBring (answer ∷ answers) = IsSome (item_told answer) × AllBring answers

  -- these are the items that the answers bring, in order
  abbrev pub AreItemsOf : List (QueueAnswer T) → List T → Type 0
  AreItemsOf answers items = map item_told answers ≡ map (λ item. Some item) items

-- so many are the least of what was there to be taken when the drain looked, of `max`, and of what was there at its own
-- hold; both times the queue had so many seats
abbrev pub IsLeastFor : (T : Type 0) → (seats max count : ℕ) → Type 0
IsLeastFor T seats max count = (looked held : Queue T) × (count_of looked ≡ seats) × (count_of held ≡ seats)
    × (count ≡ min (min (queue_available looked) max) (queue_available held))
