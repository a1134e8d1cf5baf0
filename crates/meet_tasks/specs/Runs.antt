-- What a task leaves, and why there is none (our choice).
use Rattle.std.specs.Prelude.{◌≡◌, ◌+◌, ◌<◌, ◌≤◌, ◌^◌, ⊤, ℕ, Some, None, length, map, vec_len}
use Rattle.meet_tickets.specs.declared.places.Kind.{Kind}
use Rattle.meet_tickets.specs.declared.refusals.Refusal.{Refusal}
use Rattle.meet_tickets.specs.declared.refusals.Refusal.TheVariants.{BadSizes, Memory, NoThread, Differs}
use Rattle.meet_tickets.specs.Limits.{most_records}
use Rattle.meet_sync.specs.Chronicles.{IsChronicle}
use Rattle.meet_sync.specs.Making.{making_refusal}
use Rattle.meet_sync.specs.declared.closing.Chronicle.{Chronicle}

module _ {T : Type 0} where
  -- the one history of a queue of this kind with a seat for each of `threads` threads: a list for each, and no more
  -- records than a history holds
  pub record IsHistory (mark : T → ℕ) (k : Kind) (threads : ℕ) (c : Chronicle T) : Type 0 where
    pub chronicle : IsChronicle mark k c.base c.records.items (map (λ list. list.items) c.lists.items) c.left.items
    pub lists : vec_len c.lists ≡ threads
    pub cap : length c.records.items ≤ most_records
    pub few : c.base.gone + length c.records.items < 2 ^ 64

-- why a task's queue can't be closed; SeatMissing is no reason
abbrev pub IsUnclosed : Refusal → Type 0
IsUnclosed Memory = ⊤
IsUnclosed Differs = ⊤
IsUnclosed why = ⊥

-- why there is no task of so many threads: BadSizes exactly if they are none or too many
abbrev pub IsRunWhy : (threads : ℕ) → Refusal → Type 0
IsRunWhy threads BadSizes = making_refusal threads most_records ≡ Some BadSizes
IsRunWhy threads Memory = making_refusal threads most_records ≡ None
IsRunWhy threads NoThread = making_refusal threads most_records ≡ None
IsRunWhy threads why = ⊥
