-- What a pool leaves that was run for its callers, and why there is none (our choice).
use Rattle.std.specs.Prelude.{◌≡◌, ◌⊎◌, ◌+◌, ◌-◌, ◌<◌, ◌≤◌, ◌^◌, ⊤, ℕ, false, Some, None, List, All, AllPairs, length, map, vec_len, ◌++◌, IsPermutation}
use Rattle.meet_book.specs.Listed.{AreListed}
use Rattle.meet_book.specs.Received.{Received}
use Rattle.meet_tickets.specs.Limits.{most_records}
use Rattle.meet_tickets.specs.declared.places.Order.TheVariants.{Unfair}
use Rattle.meet_tickets.specs.declared.refusals.Refusal.{Refusal}
use Rattle.meet_tickets.specs.declared.refusals.Refusal.TheVariants.{Memory, NoThread, Differs, HistoryFull, NoSuchSeat}
use Rattle.meet_tickets.specs.declared.refusals.Refusal.TheVariants.{SeatMissing}
use Rattle.pool_core.specs.Bases.{LeadsTo}
use Rattle.pool_core.specs.Calls.{settings_refusal}
use Rattle.pool_core.specs.Histories.{no_base, IsLegalOn}
use Rattle.pool_core.specs.Limits.{most_together}
use Rattle.pool_core.specs.Pools.{kept_tasks}
use Rattle.pool_core.specs.Shown.{Shown}
use Rattle.pool_core.specs.declared.deeds.PoolDeed.{PoolDeed}
use Rattle.pool_core.specs.declared.settings.Settings.{Settings}
use Rattle.pool_core.specs.declared.settings.PoolQueue.TheVariants.{Unbounded, Hand}
use Rattle.pool_core.specs.declared.settings.Policy.TheVariants.{Abort}
use Rattle.pool_threads.specs.Mirrored.{told_task}
use Rattle.pool_threads.specs.Worthy.{IsWorthy}
use Rattle.pool_threads.specs.declared.closing.PoolChronicle.{PoolChronicle}

-- the settings of a pool of so many workers, which buffers any number of jobs
abbrev pub fixed : (callers workers : ℕ) → Settings
fixed callers workers = record {
  sizes = record {
    core = workers;
    maximum = workers;
    callers = callers;
    keep_alive = 0;
    core_timeout = false;
  };
  queue = Unbounded;
  policy = Abort;
}

-- the settings of a pool that starts a worker for each job that no waiting worker gets
abbrev pub cached : (callers : ℕ) → Settings
cached callers = record {
  sizes = record {
    core = 0;
    maximum = most_together - callers;
    callers = callers;
    keep_alive = 60000;
    core_timeout = false;
  };
  queue = Hand Unfair;
  policy = Abort;
}

-- these are the lists of so many callers and of workers, in whose lists each answer is what its job's tag is worth
pub record AreWorthyLists (worth : ℕ → ℕ) (callers : ℕ) (lists : List (List (Received (PoolDeed ℕ)))) : Type 0 where
  pub of_callers : List (List (Received (PoolDeed ℕ)))
  pub of_workers : List (List (Received (PoolDeed ℕ)))
  pub count : length of_callers ≡ callers
  pub worthy : All (IsWorthy worth) of_workers
  pub same : IsPermutation (of_callers ++ of_workers) lists

module _ {C : Type 0} where
  -- the one history of a pool of these settings: its records are legal, each seat's receipts are those for its records,
  -- each job's answer is what its tag is worth, and the jobs that are left are those that the records leave buffered, in
  -- their order
  pub record IsPoolHistory (worth : ℕ → ℕ) (settings : Settings) (c : PoolChronicle C) : Type 0 where
    pub legal : IsLegalOn settings c.base c.records.items
    pub listed : AreListed c.base.gone c.records.items (map (λ list. list.items) c.lists.items)
    pub worthy : AreWorthyLists worth settings.sizes.callers (map (λ list. list.items) c.lists.items)
    pub first : c.base.gone ≡ 0 → c.base ≡ no_base
    pub left : (core : Shown ℕ) × (core.settings ≡ settings) × LeadsTo (λ tag. tag) c.base c.records.items core
        × (map told_task c.left.items ≡ kept_tasks core.pool.line)
    pub rises : AllPairs (λ a b. a.0 < b.0) c.left.items
    pub lists : vec_len c.lists ≡ settings.sizes.callers + settings.sizes.maximum
    pub cap : length c.records.items ≤ most_records
    pub few : c.base.gone + length c.records.items < 2 ^ 64

-- why such a pool can't be shut down or closed
abbrev pub IsUnclosed : Refusal → Type 0
IsUnclosed Memory = ⊤
IsUnclosed HistoryFull = ⊤
IsUnclosed NoSuchSeat = ⊤
IsUnclosed SeatMissing = ⊤
IsUnclosed Differs = ⊤
IsUnclosed why = ⊥

-- why there is no pool of these settings: what the settings are refused for, and else Memory or NoThread
abbrev pub IsRunWhy : Settings → Refusal → Type 0
IsRunWhy settings why = (settings_refusal settings ≡ Some why)
    ⊎ ((settings_refusal settings ≡ None) × ((why ≡ Memory) ⊎ (why ≡ NoThread)))
