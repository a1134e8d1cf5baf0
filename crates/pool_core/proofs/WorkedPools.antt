-- Pools at work, record by record.
use Rattle.std.proofs.Common.{◌≡◌, ℕ, refl, arith, true, false, Some, List, [], ◌∷◌, take}
use Rattle.meet_tickets.specs.declared.places.Order.TheVariants.{Fair}
use Rattle.meet_tickets.specs.declared.records.Record.{Record}
use Rattle.pool_core.specs.declared.settings.Settings.{Settings}
use Rattle.pool_core.specs.declared.settings.PoolQueue.{PoolQueue}
use Rattle.pool_core.specs.declared.settings.PoolQueue.TheVariants.{Hand, Unbounded, Bounded}
use Rattle.pool_core.specs.declared.settings.Policy.{Policy}
use Rattle.pool_core.specs.declared.settings.Policy.TheVariants.{Abort, Discard, DiscardOldest}
use Rattle.pool_core.specs.declared.stages.Stage.TheVariants.{Absent, Waiting}
use Rattle.pool_core.specs.declared.deeds.PoolDeed.{PoolDeed}
use Rattle.pool_core.specs.declared.deeds.PoolDeed.TheVariants.{Handed, Started, Kept, KeptStart, Aborted, Dropped, DroppedOldest, Runs, Waits, Exits, Finished, IdleExit, ShutDown, ShutDownNow}
use Rattle.pool_core.specs.Pools.{Pool, owed, executed}
use Rattle.pool_core.specs.Histories.{Moment, Based, IsLegalOn, no_base, moment_of_base, moment_from}
use Rattle.pool_core.specs.Promise.{pair, runs_in, jobs_run, handed_on}
use Rattle.pool_core.specs.Standings.{job, standings, StartsAt, RunsAt, IsDone, IsBack, IsDropped}

abbrev pool : (core maximum : ℕ) → PoolQueue → Policy → Settings
pool core maximum queue policy = record {
  sizes = record { core = core; maximum = maximum; callers = 1; keep_alive = 60000; core_timeout = false };
  queue = queue;
  policy = policy;
}

abbrev of : (seat ticket : ℕ) → PoolDeed ℕ → Record (PoolDeed ℕ)
of seat ticket deed = record { seat = seat; ticket = ticket; deed = deed }

-- the moment before one of them
abbrev before : Settings → List (Record (PoolDeed ℕ)) → ℕ → Moment
before s records count = moment_from s (moment_of_base s no_base) (take count records)

-- what they leave
abbrev left : Settings → List (Record (PoolDeed ℕ)) → Pool ℕ
left s records = (moment_from s (moment_of_base s no_base) records).pool

-- the first job starts a worker, the second is kept, the third takes its place; `shutdown_now` hands it back
abbrev bounded : Settings
bounded = pool 1 1 (Bounded 1) DiscardOldest

abbrev oldest : List (Record (PoolDeed ℕ))
oldest = of 0 1 (Started 0 1) ∷ of 0 2 (Kept 2) ∷ of 0 5 (DroppedOldest 2 2 3) ∷ of 0 0 (ShutDownNow 1) ∷ []

oldest_is_legal : IsLegalOn bounded no_base oldest
oldest_is_legal = (
  record { above = λ _. (omega arith, omega arith); allowed = (omega arith, refl, refl) },
  (
    record { above = λ _. (omega arith, omega arith); allowed = (omega arith, refl, omega arith) },
    (
      record { above = λ _. (omega arith, omega arith); allowed = (omega arith, refl, refl, refl, refl) },
      (
        record { above = λ h. absurd (omega arith); allowed = (omega arith, refl, refl) },
        tt,
      ),
    ),
  ),
)

oldest_then : (before bounded oldest 3).pool.line ≡ record { ticket = 5; seat = 0; item = Some 3; waits = false } ∷ []
oldest_then = refl

oldest_owes : owed (before bounded oldest 3).pool ≡ 7
oldest_owes = refl

oldest_end : (left bounded oldest).line ≡ []
oldest_end = refl

oldest_standings : standings bounded no_base oldest ≡ job 2 IsDropped ∷ job 5 IsBack ∷ job 1 (StartsAt 0) ∷ []
oldest_standings = refl

oldest_counts : ((left bounded oldest).back ≡ 1) × ((left bounded oldest).dropped ≡ 1) × (executed (left bounded oldest) ≡ 3)
oldest_counts = (refl, refl, refl)

-- the same with its first three records folded away: what comes next is legal on their base, and the jobs that the base has
-- have one standing each
abbrev folded : Based
folded = record { gone = 3; last = 5; pool = (before bounded oldest 3).pool }

folded_is_legal : IsLegalOn bounded folded (of 0 0 (ShutDownNow 1) ∷ of 1 6 (Runs 1 1) ∷ [])
folded_is_legal = (
  record { above = λ h. absurd (omega arith); allowed = (omega arith, refl, refl) },
  (
    record { above = λ _. (omega arith, omega arith); allowed = (tt, refl) },
    tt,
  ),
)

folded_standings : standings bounded folded (of 0 0 (ShutDownNow 1) ∷ of 1 6 (Runs 1 1) ∷ []) ≡ job 5 IsBack ∷ job 1 (RunsAt 0) ∷ []
folded_standings = refl

-- nobody is core: the first job is kept, and a worker starts without one, runs it, waits, and ends as idle
abbrev unbounded : Settings
unbounded = pool 0 2 Unbounded Abort

abbrev kept_start : List (Record (PoolDeed ℕ))
kept_start = of 0 1 (KeptStart 0 7) ∷ of 1 2 (Runs 1 7) ∷ of 1 1 (Finished 7) ∷ of 1 3 Waits ∷ of 1 3 IdleExit ∷ []

kept_start_is_legal : IsLegalOn unbounded no_base kept_start
kept_start_is_legal = (
  record { above = λ _. (omega arith, omega arith); allowed = (omega arith, refl, refl, refl) },
  (
    record { above = λ _. (omega arith, omega arith); allowed = (tt, refl) },
    (
      record { above = λ h. absurd (omega arith); allowed = refl },
      (
        record { above = λ _. (omega arith, omega arith); allowed = (refl, refl, refl) },
        (
          record { above = λ h. absurd (omega arith); allowed = (refl, refl) },
          tt,
        ),
      ),
    ),
  ),
)

kept_start_end : left unbounded kept_start ≡ record { shut = false; line = []; workers = Absent ∷ Absent ∷ []; largest = 1; done = 1; back = 0; dropped = 0; ran = 0 }
kept_start_end = refl

-- a queue that hands over: a third job finds nobody and comes back; a fourth goes to the worker that waits by then
abbrev hand : Settings
hand = pool 1 2 (Hand Fair) Abort

abbrev handing : List (Record (PoolDeed ℕ))
handing =
    of 0 1 (Started 0 1) ∷ of 1 2 (Runs 1 1) ∷ of 0 3 (Started 1 2) ∷ of 2 4 (Runs 3 2) ∷ of 0 5 (Aborted 3) ∷ of 1 1 (Finished 1) ∷ of 1 6 Waits
    ∷ of 0 7 (Handed 0 4) ∷ of 1 6 (Runs 7 4) ∷ of 2 3 (Finished 2) ∷ of 2 8 Waits ∷ of 2 8 IdleExit ∷ of 1 7 (Finished 4) ∷ of 1 9 Waits ∷ []

handing_is_legal : IsLegalOn hand no_base handing
handing_is_legal = (
  record { above = λ _. (omega arith, omega arith); allowed = (omega arith, refl, refl) },
  (
    record { above = λ _. (omega arith, omega arith); allowed = (tt, refl) },
    (
      record { above = λ _. (omega arith, omega arith); allowed = (omega arith, refl, refl) },
      (
        record { above = λ _. (omega arith, omega arith); allowed = (tt, refl) },
        (
          record { above = λ _. (omega arith, omega arith); allowed = (omega arith, refl, refl) },
          (
            record { above = λ h. absurd (omega arith); allowed = refl },
            (
              record { above = λ _. (omega arith, omega arith); allowed = (refl, refl, refl) },
              (
                record { above = λ _. (omega arith, omega arith); allowed = (omega arith, refl, (_, refl, refl)) },
                (
                  record { above = λ h. absurd (omega arith); allowed = (refl, refl) },
                  (
                    record { above = λ h. absurd (omega arith); allowed = refl },
                    (
                      record { above = λ _. (omega arith, omega arith); allowed = (refl, refl, refl) },
                      (
                        record { above = λ h. absurd (omega arith); allowed = (refl, refl) },
                        (
                          record { above = λ h. absurd (omega arith); allowed = refl },
                          (
                            record { above = λ _. (omega arith, omega arith); allowed = (refl, refl, refl) },
                            tt,
                          ),
                        ),
                      ),
                    ),
                  ),
                ),
              ),
            ),
          ),
        ),
      ),
    ),
  ),
)

handing_end : (left hand handing).workers ≡ Waiting 9 ∷ Absent ∷ []
handing_end = refl

-- the fourth job met the take of record 6, also where this is folded away; and each job ran with a take
handing_handed : handed_on hand no_base handing ≡ pair 6 7 ∷ []
handing_handed = refl

handing_kept : handed_on hand (record { gone = 8; last = 7; pool = (before hand handing 8).pool }) [] ≡ pair 6 7 ∷ []
handing_kept = refl

handing_runs : runs_in handing ≡ pair 2 1 ∷ pair 4 3 ∷ pair 6 7 ∷ []
handing_runs = refl

handing_running : jobs_run hand (record { gone = 2; last = 2; pool = (before hand handing 2).pool }) (of 0 3 (Started 1 2) ∷ of 2 4 (Runs 3 2) ∷ []) ≡ 1 ∷ 3 ∷ []
handing_running = refl

-- a pool that is shut: a new job is dropped, the kept one still runs
abbrev shut : Settings
shut = pool 1 1 Unbounded Discard

abbrev shutting : List (Record (PoolDeed ℕ))
shutting =
    of 0 1 (Started 0 1) ∷ of 0 2 (Kept 2) ∷ of 0 0 ShutDown ∷ of 0 3 (Dropped 3) ∷ of 1 4 (Runs 1 1) ∷ of 1 1 (Finished 1) ∷ of 1 5 (Runs 2 2)
    ∷ of 1 2 (Finished 2) ∷ of 1 6 Exits ∷ []

shutting_is_legal : IsLegalOn shut no_base shutting
shutting_is_legal = (
  record { above = λ _. (omega arith, omega arith); allowed = (omega arith, refl, refl) },
  (
    record { above = λ _. (omega arith, omega arith); allowed = (omega arith, refl, omega arith) },
    (
      record { above = λ h. absurd (omega arith); allowed = (omega arith, refl) },
      (
        record { above = λ _. (omega arith, omega arith); allowed = (omega arith, refl, refl) },
        (
          record { above = λ _. (omega arith, omega arith); allowed = (tt, refl) },
          (
            record { above = λ h. absurd (omega arith); allowed = refl },
            (
              record { above = λ _. (omega arith, omega arith); allowed = (tt, refl) },
              (
                record { above = λ h. absurd (omega arith); allowed = refl },
                (
                  record { above = λ _. (omega arith, omega arith); allowed = (tt, (refl, refl)) },
                  tt,
                ),
              ),
            ),
          ),
        ),
      ),
    ),
  ),
)

shutting_end : left shut shutting ≡ record { shut = true; line = []; workers = Absent ∷ []; largest = 1; done = 2; back = 0; dropped = 1; ran = 0 }
shutting_end = refl

shutting_standings : standings shut no_base shutting ≡ job 3 IsDropped ∷ job 1 (IsDone 1) ∷ job 2 (IsDone 2) ∷ []
shutting_standings = refl
