-- How large a drive is, and what it finds (our choice).
use Rattle.std.specs.Prelude.{◌≡◌, ℕ, ◌+◌, ◌*◌, ◌<◌, ◌≤◌, Option, Some, None, is_some, List, length, count_by, sum_by}
use Rattle.std.specs.Option.{option_map_or}
use Rattle.meet_tickets.specs.declared.places.Kind.{Kind}
use Rattle.meet_tickets.specs.declared.places.Order.TheVariants.{Fair}
use Rattle.meet_tickets.specs.declared.records.Record.{Record}
use Rattle.meet_tickets.specs.declared.records.Deed.{Deed}
use Rattle.meet_tickets.specs.declared.records.Deed.TheVariants.{TakeMeets, Got}
use Rattle.meet_tickets.specs.ByLists.{IsLegal}
use Rattle.meet_history.specs.Standings.{standing_in}
use Rattle.meet_laws.specs.Tally.{tally_in}
use Rattle.meet_drive.specs.declared.outcome.Drive.{Drive}

-- how many givers there are at most, and as many takers
abbrev pub most_givers : ℕ
most_givers = 64

-- how many items each of them gives or takes at most
abbrev pub most_each : ℕ
most_each = 1000

-- a drive can have so many givers, and so many items of each
abbrev pub IsSized : (givers each : ℕ) → Type 0
IsSized givers each = (0 < givers) × (givers ≤ most_givers) × (0 < each) × (each ≤ most_each)

-- the kind of its queue: a synchronous queue in fair mode
abbrev pub fair : Kind
fair = record { order = Fair; bound = None }

-- the mark of the item that a call got: a taker met a giver, or learned that it was met
abbrev pub mark_got : Deed → Option ℕ
mark_got (TakeMeets mark u) = Some mark
mark_got (Got mark u) = Some mark
mark_got deed = None

-- how many items were got, and the sum of their marks
abbrev pub items_got : List (Record Deed) → ℕ
items_got history = count_by (λ r. is_some (mark_got r.deed)) history

abbrev pub sum_got : List (Record Deed) → ℕ
sum_got history = sum_by (λ r. option_map_or (λ mark. mark) (mark_got r.deed) 0) history

-- there is a legal history of a synchronous queue in fair mode, which has so many records, in which the items of so
-- many give requests are paired, and which leaves so much; by it the takers got so many items, of this sum, and these
-- are just those of so many givers of the items from 1 up to `each`
pub record IsDriven (givers each : ℕ) (drive : Drive) : Type 0 where
  pub history : List (Record Deed)
  pub legal : IsLegal fair history
  pub records : drive.records ≡ length history
  pub pairs : drive.pairs ≡ (tally_in history).delivered
  pub standing : drive.standing ≡ standing_in history
  pub items : drive.items ≡ items_got history
  pub sum : drive.sum ≡ sum_got history
  pub all : drive.items ≡ givers * each
  pub whole : 2 * drive.sum ≡ drive.items * (each + 1)
