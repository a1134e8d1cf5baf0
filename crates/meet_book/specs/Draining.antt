-- A drain: why it is refused, and what it does.
use Rattle.std.specs.Prelude.{◌≡◌, ℕ, zero, suc, ◌+◌, Bool, Option, Some, None, List, [], ◌∷◌, nat_lt, IsSome, ◌<◌}
use Rattle.std.specs.Prelude.{if◌then◌else◌}
use Rattle.std.specs.Option.{option_map_or}
use Rattle.meet_tickets.specs.declared.records.Record.{Record}
use Rattle.meet_tickets.specs.declared.refusals.Refusal.{Refusal}
use Rattle.meet_tickets.specs.declared.refusals.Refusal.TheVariants.{TicketsSpent, HistoryFull}
use Rattle.meet_book.specs.Booked.{Booked}
use Rattle.meet_book.specs.Booking.{is_book_full}
use Rattle.meet_book.specs.Received.{Received}

-- what of a poll's refusal is its seat's: one that isn't there, or isn't free
abbrev pub seat_refusal : Option Refusal → Option Refusal
seat_refusal None = None
seat_refusal (Some TicketsSpent) = None
seat_refusal (Some why) = Some why

-- why a drain of k items is refused, Memory aside, where `first` is a poll's refusal, so many tickets are left, and the
-- history has or hasn't room (BlockingQueue.drainTo; the refusals are our choice)
abbrev pub drain_refusal_by : (first : Option Refusal) → (tickets k : ℕ) → (full : Bool) → Option Refusal
drain_refusal_by first tickets zero full = seat_refusal first
drain_refusal_by first tickets (suc k) full =
    option_map_or Some (seat_refusal first) (if nat_lt tickets (suc k) then Some TicketsSpent
    else (if full then Some HistoryFull else None))

-- why a book refuses a drain of k items, Memory aside, where this is its place's own reason against a poll, and what
-- the place has left of tickets and owes
abbrev pub book_drain_refusal : {O B D : Type 0} → (first : Option Refusal) → (tickets owed : ℕ) → Booked O B D
    → (k : ℕ) → Option Refusal
book_drain_refusal first tickets owed book k = drain_refusal_by first tickets k (is_book_full book owed (k + 1))

-- a poll of what is there: it is recorded, takes one item and one ticket, and leaves its seat free and what is owed
pub record TakesOne {O D : Type 0} (available_of unspent_of owed_of : O → ℕ) (refusal_of : O → Option Refusal)
    (made : Option (Record D)) (old new : O) : Type 0 where
  pub recorded : IsSome made
  pub available : available_of new + 1 ≡ available_of old
  pub tickets : unspent_of new + 1 ≡ unspent_of old
  pub owed : owed_of new ≡ owed_of old
  pub free : 0 < unspent_of new → refusal_of new ≡ None

-- the step of such a poll
abbrev pub TakingStep : {O A D : Type 0} → (O → A → O → Type 0) → (available_of unspent_of owed_of : O → ℕ)
    → (O → Option Refusal) → (A → Option (Record D)) → O → A → O → Type 0
TakingStep steps available_of unspent_of owed_of refusal_of record_of old answer new =
    steps old answer new × TakesOne available_of unspent_of owed_of refusal_of (record_of answer) old new

-- one poll after another, each of which does this, and is recorded so
abbrev pub Polls : {O A D : Type 0} → (Does : O → A → O → Type 0) → (A → Option (Record D)) → O
    → List (A × Received D) → O → Type 0
Polls Does record_of old [] new = new ≡ old
Polls {O} Does record_of old (got ∷ rest) new =
    (mid : O) × Does old got.0 mid × (record_of got.0 ≡ Some got.1.entry) × Polls Does record_of mid rest new

-- one poll after another, each of which takes one item, and is recorded so
abbrev pub TakingPolls : {O A D : Type 0}
    → (steps : O → A → O → Type 0) → (record_of : A → Option (Record D)) → (refusal_of : O → Option Refusal)
    → (available_of unspent_of owed_of : O → ℕ) → O → List (A × Received D) → O → Type 0
TakingPolls steps record_of refusal_of available_of unspent_of owed_of old got new =
    Polls (TakingStep steps available_of unspent_of owed_of refusal_of record_of) record_of old got new

-- the receipts are numbered on from here
abbrev pub AreNumbered : {A D : Type 0} → (last : ℕ) → List (A × Received D) → Type 0
AreNumbered last [] = Unit {0}
AreNumbered last (got ∷ rest) = (got.1.place ≡ last + 1) × AreNumbered (last + 1) rest
