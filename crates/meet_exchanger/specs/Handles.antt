-- What a call of a handle returns and does, and what a task at an exchanger leaves (our choice).
use Rattle.std.specs.Prelude.{◌≡◌, ℕ, ◌<◌, List, [], Option, Some, None, Result, Ok, Err, IfSome, ⊤, length, map}
use Rattle.meet_tickets.specs.declared.refusals.Refusal.{Refusal}
use Rattle.meet_tickets.specs.declared.refusals.Refusal.TheVariants.{BadSizes, Memory as NoMemory, NoThread}
use Rattle.meet_exchange.specs.declared.waiting.Exchanged.{Exchanged}
use Rattle.meet_exchange.specs.declared.waiting.Exchanged.TheVariants.{Swapped, TimedOut as NobodyCame, Worn as NoRound, Memory as NoRoom}
use Rattle.meet_exchange.specs.declared.closing.Closed.{Closed}
use Rattle.meet_exchange.specs.Rounds.{IsHistory, in_slot, parts_of}
use Rattle.meet_exchange.specs.Closed.{IsLeft, entry_at}
use Rattle.meet_exchange.specs.Seats.{SeatView, ArenaView, sizes_refusal}
use Rattle.meet_exchanger.specs.declared.handles.Unmet.{Unmet}
use Rattle.meet_exchanger.specs.declared.handles.Unmet.TheVariants.{TimedOut, Worn, Memory}
use Rattle.meet_exchanger.specs.Tries.{EndsAs}

module _ {T : Type 0} where
  -- the item that an exchange without a partner returns
  abbrev pub item_of : Unmet T → T
  item_of (TimedOut x) = x
  item_of (Worn x) = x
  item_of (Memory x) = x

  -- the seat of an exchange that ended so, and what a handle returns of it
  abbrev pub told : Exchanged T → SeatView × Result T (Unmet T)
  told (Swapped s x) = (s, Ok x)
  told (NobodyCame s x) = (s, Err (TimedOut x))
  told (NoRound s x) = (s, Err (Worn x))
  told (NoRoom s x) = (s, Err (Memory x))

  -- the call ended as an exchange of its seat does, of an item of the mark a, among n slots
  abbrev pub CalledAs : (mark : T → ℕ) → (n : ℕ) → (MayTimeOut : Type 0) → (old new : Option SeatView) → (a : ℕ)
      → Result T (Unmet T) → Type 0
  CalledAs mark n MayTimeOut old new a result = IfSome old (λ v. IfSome new (λ s.
      (end : Exchanged T) × (told end ≡ (s, result)) × EndsAs mark v a n MayTimeOut end))

  -- what an exchanger of so many seats leaves: a history of each slot, a list of each seat, which is its part in these,
  -- and the items that no seat has
  pub record IsClosed (mark : T → ℕ) (seats : ℕ) (c : Closed T) : Type 0 where
    pub history : (k : ℕ) → IsHistory seats (entry_at (map (λ rounds. rounds.items) c.slots.items) k)
    pub count : length c.lists.items ≡ seats
    pub lists : (x k : ℕ) → x < seats → in_slot k (entry_at (map (λ list. list.items) c.lists.items) x)
        ≡ parts_of x k 0 (entry_at (map (λ rounds. rounds.items) c.slots.items) k)
    pub left : IsLeft mark 0 (entry_at (map (λ rounds. rounds.items) c.slots.items)) (length c.slots.items) c.left.items

-- why there is no task of so many threads: BadSizes exactly if they are none or too many
abbrev pub IsRunWhy : (seats : ℕ) → Refusal → Type 0
IsRunWhy seats BadSizes = sizes_refusal 1 seats ≡ Some BadSizes
IsRunWhy seats NoMemory = sizes_refusal 1 seats ≡ None
IsRunWhy seats NoThread = sizes_refusal 1 seats ≡ None
IsRunWhy seats why = ⊥

-- that of no exchanger
abbrev pub no_site : ArenaView
no_site = record {
  id = record { words = 0; slots = 0; views_name = 0; atom = 0; block = 0; offset = 0; slot_names = [] };
  slots = 0;
  seats = 0;
  start = 0;
}
