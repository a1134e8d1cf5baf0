-- What is chosen of a queue for threads while the program runs: its order, as the flag `fair` of SynchronousQueue is.
use Rattle.std.specs.Prelude.{◌≡◌, ℕ, ◌+◌, ◌<◌, ◌≤◌, None, List, length, map}
use Rattle.meet_tickets.specs.declared.places.Kind.{Kind}
use Rattle.meet_tickets.specs.declared.places.Order.{Order}
use Rattle.meet_tickets.specs.declared.places.Order.TheVariants.{Fair, Unfair, Transfer}
use Rattle.meet_tickets.specs.declared.records.Deed.{Deed}
use Rattle.meet_tickets.specs.declared.records.Record.{Record}
use Rattle.meet_tickets.specs.Bases.{Based}
use Rattle.meet_book.specs.Listed.{FirstDiffer}
use Rattle.meet_place.specs.Backs.{list_of, AreOrdered, shares_in, folded_in}
use Rattle.meet_place.specs.declared.seats.Back.{Back}
use Rattle.meet_sync.specs.declared.closing.QueueFault.{QueueFault}
use Rattle.meet_sync.specs.declared.closing.QueueFault.TheVariants.{SeatMissing, Memory, Differs}
use Rattle.meet_chosen.specs.declared.queue.ChosenBook.{ChosenBook}
use Rattle.meet_chosen.specs.declared.queue.ChosenBook.TheVariants.{Fair as FairBook, Unfair as UnfairBook}
use Rattle.meet_chosen.specs.declared.queue.ChosenBook.TheVariants.{Transfer as TransferBook}
use Rattle.meet_chosen.specs.declared.queue.ChosenQueue.{ChosenQueue}
use Rattle.meet_chosen.specs.declared.queue.ChosenQueue.TheVariants.{Fair as FairOne, Unfair as UnfairOne}
use Rattle.meet_chosen.specs.declared.queue.ChosenQueue.TheVariants.{Transfer as TransferOne}

module _ {T G N : Type 0} where
  -- the order of a queue
  abbrev pub order_of : ChosenQueue T G N → Order
  order_of (FairOne queue) = Fair
  order_of (UnfairOne queue) = Unfair
  order_of (TransferOne queue) = Transfer

  -- its kind: it keeps as many items as are given, where it keeps any
  abbrev pub kind_of : ChosenQueue T G N → Kind
  kind_of queue = record { order = order_of queue; bound = None }

  -- how many seats it has
  abbrev pub seats_in : ChosenQueue T G N → ℕ
  seats_in (FairOne queue) = queue
  seats_in (UnfairOne queue) = queue
  seats_in (TransferOne queue) = queue

module _ {T : Type 0} where
  -- what stands for the records that a book folded away, and those since
  abbrev pub base_in : ChosenBook T → Based
  base_in (FairBook book) = book.base
  base_in (UnfairBook book) = book.base
  base_in (TransferBook book) = book.base

  abbrev pub records_in : ChosenBook T → List (Record Deed)
  records_in (FairBook book) = book.records
  records_in (UnfairBook book) = book.records
  records_in (TransferBook book) = book.records

module _ {T G N : Type 0} where
  -- this is why a queue isn't closed with these seats. Fewer seats than were made, or no memory: the queue and the
  -- seats come back. A difference: the book comes back, with as many records as the seats' shares are together, and the
  -- seats, in the order of their numbers, by which this is the first difference (our choice)
  abbrev pub ChosenFaultFits : ChosenQueue T G N → List (Back Deed N)
      → QueueFault (ChosenQueue T G N) (ChosenBook T) N → Type 0
  ChosenFaultFits chosen seats (SeatMissing have made queue back) =
      (have ≡ length seats) × (made ≡ seats_in chosen) × (have < made) × (queue ≡ chosen) × (back.items ≡ seats)
  ChosenFaultFits chosen seats (Memory queue back) =
      (seats_in chosen ≤ length seats) × (queue ≡ chosen) × (back.items ≡ seats)
  ChosenFaultFits chosen seats (Differs seat index book back) =
      (seats_in chosen ≤ length seats) × AreOrdered seats back.items
      × ((base_in book).gone + length (records_in book) ≡ shares_in back.items)
      × ((base_in book).gone ≡ folded_in back.items)
      × FirstDiffer (base_in book).gone (records_in book) (map list_of back.items) seat index
