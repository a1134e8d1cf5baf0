-- Why a pool was not closed.
use Rattle.std.specs.Prelude.{◌≡◌, ℕ, ◌+◌, ◌<◌, ◌≤◌, List, [], length, map}
use Rattle.meet_tickets.specs.declared.refusals.Refusal.{Refusal}
use Rattle.meet_tickets.specs.declared.refusals.Refusal.TheVariants.{Memory as NoMemory, Differs as ListDiffers}
use Rattle.meet_tickets.specs.declared.refusals.Refusal.TheVariants.{SeatMissing as NotAllSeats}
use Rattle.meet_book.specs.Listed.{FirstDiffer}
use Rattle.meet_place.specs.Backs.{missing_of, list_of, AreOrdered, shares_in, folded_in}
use Rattle.meet_place.specs.declared.seats.Back.{Back}
use Rattle.pool_core.specs.Moves.{job_in}
use Rattle.pool_core.specs.Pools.{Pool, kept_tasks}
use Rattle.pool_core.specs.declared.deeds.PoolDeed.{PoolDeed}
use Rattle.pool_core.specs.declared.settings.Settings.{Settings}
use Rattle.pool_threads.specs.Mirrored.{absent, tag_in}
use Rattle.pool_threads.specs.Seated.{AddsWorthy}
use Rattle.pool_threads.specs.declared.refusals.PoolFault.{PoolFault}
use Rattle.pool_threads.specs.declared.refusals.PoolFault.TheVariants.{SeatMissing, Memory, Differs}

module _ {W C G S N : Type 0} where
  -- the refusal that a fault is
  abbrev pub why_of : PoolFault W C G S N → Refusal
  why_of (SeatMissing have made pool seats) = NotAllSeats
  why_of (Memory pool seats) = NoMemory
  why_of (Differs seat index book seats left) = ListDiffers

  -- the numbers of those of so many callers' seats that weren't given back, in rising order
  abbrev pub missing_in : (callers : ℕ) → PoolFault W C G S N → List ℕ
  missing_in callers (SeatMissing have made pool seats) = missing_of callers seats.items
  missing_in callers fault = []

  -- this is why a pool of these settings with so many seats isn't closed with these. Fewer seats than were made, those
  -- of absent workers counted too, or no memory: the pool and the seats come back. A difference: the book of such a
  -- pool comes back, with as many records as the shares of all seats are together; these seats and the workers', in
  -- the order of their numbers, by which this is the first difference; and the jobs that the book's pool keeps, in
  -- their order
  abbrev pub FaultFits : Settings → (worth : ℕ → ℕ) → (count : ℕ) → List (Back (PoolDeed ℕ) N) → PoolFault W C G S N
      → Type 0
  FaultFits settings worth count seats (SeatMissing have made pool back) =
      (back.items ≡ seats) × (made ≡ count) × (have < made) × ((core : Pool ℕ) × (have ≡ length seats + absent core))
  FaultFits settings worth count seats (Memory pool back) =
      (back.items ≡ seats) × ((core : Pool ℕ) × (count ≤ length seats + absent core))
  FaultFits settings worth count seats (Differs seat index book back left) =
      ((all : List (Back (PoolDeed ℕ) N)) × AddsWorthy worth seats all × AreOrdered all back.items)
      × (book.base.gone + length book.records ≡ shares_in back.items) × (book.base.gone ≡ folded_in back.items)
      × FirstDiffer book.base.gone book.records (map list_of back.items) seat index
      × (map tag_in left.items ≡ map job_in (kept_tasks book.object.pool.line))
      × (book.object.settings ≡ settings)
