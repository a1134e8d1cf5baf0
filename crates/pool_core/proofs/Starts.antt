-- How many workers run a job, and what each deed makes of it: once it runs, or is over, it doesn't start any more.
use Rattle.std.proofs.Common.{◌≡◌, ℕ, ◌+◌, ◌-◌, ◌<◌, ◌≤◌, ◌==◌, ◌&&◌, max, refl, sym, ap, ◌∙◌, subst, Bool, true, false, Some, None, List, [], ◌∷◌, length, get_or, set, map, arith}
use Rattle.std.specs.Prelude.{count_by}
use Rattle.std.specs.Option.{option_map_or}
use Rattle.meet_tickets.specs.declared.lines.Entry.{Entry}
use Rattle.meet_tickets.specs.declared.records.Record.{Record}
use Rattle.meet_tickets.proofs.Lists.Changed.{one, count-cons}
use Rattle.pool_core.specs.declared.settings.Settings.{Settings}
use Rattle.pool_core.specs.declared.stages.Task.{Task}
use Rattle.pool_core.specs.declared.stages.Stage.{Stage}
use Rattle.pool_core.specs.declared.stages.Stage.TheVariants.{Absent, Starting, Waiting, Cut, HandedOver, Running}
use Rattle.pool_core.specs.declared.deeds.PoolDeed.{PoolDeed}
use Rattle.pool_core.specs.declared.deeds.PoolDeed.TheVariants.{Handed, Started, Kept, KeptStart, Aborted, CallerRuns, Dropped, DroppedOldest, Runs, Waits, Exits, Finished, IdleExit, Leaves, StartFailed, ShutDown, ShutDownNow}
use Rattle.pool_core.specs.Pools.{Pool, free, stage_of, worker_of, staged, met_one, cut_stage}
use Rattle.pool_core.specs.Steps.{Allows, after, job_for, MayExit}
use Rattle.pool_core.specs.Histories.{Moment, IsStep, next_moment}
use Rattle.pool_core.specs.Standings.{job, IsDone, ended_by, executes, brings, standing_count, jobs_in}
use Rattle.pool_core.specs.Sound.{IsSound}
use Rattle.pool_core.proofs.After.{IsWorker, worker-from}
use Rattle.pool_core.proofs.Counting.{has_it, workers_have}
use Rattle.pool_core.proofs.Free.{free-below, free-absent}
use Rattle.pool_core.proofs.Orderly.{drawn-executed, step-count}
use Rattle.pool_core.proofs.Stays.{Takes, takes-from}
use Rattle.pool_core.proofs.Takes.{count-set, workers-taken, coming, newer, drawn}

module _ (u : ℕ) where
  -- whether a worker runs the job of this ticket
  abbrev pub runs_it : Stage ℕ → Bool
  runs_it Absent = false
  runs_it (Starting first) = false
  runs_it (Waiting v) = false
  runs_it (Cut v) = false
  runs_it (HandedOver v task) = false
  runs_it (Running v) = v == u

  -- whether a deed starts it, and whether one ends it
  abbrev pub begins_it : PoolDeed ℕ → ℕ
  begins_it (Handed w tag) = 0
  begins_it (Started w tag) = 0
  begins_it (Kept tag) = 0
  begins_it (KeptStart w tag) = 0
  begins_it (Aborted tag) = 0
  begins_it (CallerRuns tag) = 0
  begins_it (Dropped tag) = 0
  begins_it (DroppedOldest v old tag) = 0
  begins_it (Runs v tag) = one (v == u)
  begins_it Waits = 0
  begins_it Exits = 0
  begins_it (Finished a) = 0
  begins_it IdleExit = 0
  begins_it Leaves = 0
  begins_it StartFailed = 0
  begins_it ShutDown = 0
  begins_it (ShutDownNow count) = 0

  abbrev pub finishes_it : (ticket : ℕ) → PoolDeed ℕ → ℕ
  finishes_it n (Handed w tag) = 0
  finishes_it n (Started w tag) = 0
  finishes_it n (Kept tag) = 0
  finishes_it n (KeptStart w tag) = 0
  finishes_it n (Aborted tag) = 0
  finishes_it n (CallerRuns tag) = 0
  finishes_it n (Dropped tag) = 0
  finishes_it n (DroppedOldest v old tag) = 0
  finishes_it n (Runs v tag) = 0
  finishes_it n Waits = 0
  finishes_it n Exits = 0
  finishes_it n (Finished a) = one (n == u)
  finishes_it n IdleExit = 0
  finishes_it n Leaves = 0
  finishes_it n StartFailed = 0
  finishes_it n ShutDown = 0
  finishes_it n (ShutDownNow count) = 0

  -- who runs the job has it
  pub running-has : (workers : List (Stage ℕ)) → count_by runs_it workers ≤ workers_have u workers
  running-has [] = omega arith
  running-has (st ∷ workers) = omega (arith, running-has workers, one-has st, count-cons runs_it st workers, count-cons (has_it u) st workers)
    where
      one-has : (st : Stage ℕ) → one (runs_it st) ≤ one (has_it u st)
      one-has Absent = omega arith
      one-has (Starting first) = omega arith
      one-has (Waiting v) = omega arith
      one-has (Cut v) = omega arith
      one-has (HandedOver v task) = omega arith
      one-has (Running v) = omega arith

  cut-runs : (workers : List (Stage ℕ)) → count_by runs_it (map cut_stage workers) ≡ count_by runs_it workers
  cut-runs [] = refl
  cut-runs (st ∷ workers) = omega (arith, cut-runs workers, one-cut st, count-cons runs_it (cut_stage st) (map cut_stage workers), count-cons runs_it st workers)
    where
      one-cut : (st : Stage ℕ) → one (runs_it (cut_stage st)) ≡ one (runs_it st)
      one-cut Absent = refl
      one-cut (Starting first) = refl
      one-cut (Waiting v) = refl
      one-cut (Cut v) = refl
      one-cut (HandedOver v task) = refl
      one-cut (Running v) = refl

  module _ (s : Settings) (p : Pool ℕ) (next i n : ℕ) (sound : IsSound s p next) where
    -- how many run it behind a deed
    abbrev pub Turns : PoolDeed ℕ → Type 0
    Turns deed = count_by runs_it (after s p i n deed).workers + finishes_it n deed ≡ count_by runs_it p.workers + begins_it deed

    at-worker : (was st : Stage ℕ) → IsWorker s p i was → count_by runs_it (set p.workers (i - s.sizes.callers) st) + one (runs_it was) ≡ count_by runs_it p.workers + one (runs_it st)
    at-worker was st at = count-set runs_it (i - s.sizes.callers) p.workers was st at.there at.stage

    at-free : (w : ℕ) (st : Stage ℕ) → free p ≡ Some w → count_by runs_it (set p.workers w st) ≡ count_by runs_it p.workers + one (runs_it st)
    at-free w st is = omega (arith, count-set runs_it w p.workers Absent st (free-below p.workers w is) (free-absent p.workers w is))

    run-turns : (v tag : ℕ) (st : Stage ℕ) → stage_of s p i ≡ st → job_for s p st ≡ Some (record { ticket = v; job = tag }) → count_by runs_it (set p.workers (i - s.sizes.callers) (Running v)) ≡ count_by runs_it p.workers + one (v == u)
    run-turns v tag Absent own is = cc
    run-turns v tag (Starting first) own is = omega (arith, at-worker (Starting first) (Running v) (worker-from s p i (Starting first) refl own))
    run-turns v tag (Waiting x) own is = cc
    run-turns v tag (Cut x) own is = cc
    run-turns v tag (HandedOver x task) own is = omega (arith, at-worker (HandedOver x task) (Running v) (worker-from s p i (HandedOver x task) refl own))
    run-turns v tag (Running x) own is = cc

    exit-turns : (st : Stage ℕ) → stage_of s p i ≡ st → MayExit s p st → count_by runs_it (set p.workers (i - s.sizes.callers) Absent) ≡ count_by runs_it p.workers
    exit-turns Absent own may = absurd may
    exit-turns (Starting first) own may = omega (arith, at-worker (Starting first) Absent (worker-from s p i (Starting first) refl own))
    exit-turns (Waiting x) own may = absurd may
    exit-turns (Cut x) own may = omega (arith, at-worker (Cut x) Absent (worker-from s p i (Cut x) refl own))
    exit-turns (HandedOver x task) own may = absurd may
    exit-turns (Running x) own may = absurd may

    pub turns : (deed : PoolDeed ℕ) → Allows s p i n deed → Turns deed
    turns (Handed w tag) a =
        let e = a.2.0 in
        let takes : Takes s p e = takes-from e sound a.2.1 in
        let number : e.seat - s.sizes.callers ≡ w = omega (arith, a.2.2) in
        let stage : get_or p.workers w Absent ≡ Waiting e.ticket = ap (λ k. get_or p.workers k Absent) (sym number) ∙ takes.stage in
        let there : w < length p.workers = subst (λ k. k < length p.workers) number takes.there in
        let task : Task ℕ = record { ticket = n; job = tag } in
        let same : count_by runs_it (after s p i n (Handed w tag)).workers ≡ count_by runs_it (set p.workers w (HandedOver e.ticket task)) = ap (λ o. count_by runs_it (option_map_or (λ (f : Entry ℕ). staged (met_one s p) w (HandedOver f.ticket task)) o p).workers) a.2.1 in
        omega (arith, same, count-set runs_it w p.workers (Waiting e.ticket) (HandedOver e.ticket task) there stage)
    turns (Started w tag) a = omega (arith, at-free w (Starting (Some (record { ticket = n; job = tag }))) a.2)
    turns (Kept tag) a = refl
    turns (KeptStart w tag) a = omega (arith, at-free w (Starting None) a.3)
    turns (Aborted tag) a = refl
    turns (CallerRuns tag) a = refl
    turns (Dropped tag) a = refl
    turns (DroppedOldest v old tag) a = refl
    turns (Runs v tag) a =
        let workers : count_by runs_it (after s p i n (Runs v tag)).workers ≡ count_by runs_it (set p.workers (i - s.sizes.callers) (Running v)) = ap (λ ws. count_by runs_it (set ws (worker_of s i) (Running v))) (workers-taken s p (stage_of s p i)) in
        omega (arith, workers, run-turns v tag (stage_of s p i) refl a.1)
    turns Waits a = omega (arith, at-worker (Starting None) (Waiting n) (worker-from s p i (Starting None) refl a.0))
    turns Exits a = omega (arith, exit-turns (stage_of s p i) refl a.1)
    turns (Finished x) a = omega (arith, at-worker (Running n) (Starting None) (worker-from s p i (Running n) refl a))
    turns IdleExit a = omega (arith, at-worker (Waiting n) Absent (worker-from s p i (Waiting n) refl a.0))
    turns Leaves a = omega (arith, at-worker (Starting None) Absent (worker-from s p i (Starting None) refl a.0))
    turns StartFailed a = omega (arith, at-worker (Starting a.0) Absent (worker-from s p i (Starting a.0) refl a.1))
    turns ShutDown a = omega (arith, cut-runs p.workers)
    turns (ShutDownNow count) a = omega (arith, cut-runs p.workers)

    -- a deed that finishes it ends it
    finishes-ends : (deed : PoolDeed ℕ) → finishes_it n deed ≤ standing_count (ended_by s p i n deed) u
    finishes-ends (Handed w tag) = omega arith
    finishes-ends (Started w tag) = omega arith
    finishes-ends (Kept tag) = omega arith
    finishes-ends (KeptStart w tag) = omega arith
    finishes-ends (Aborted tag) = omega arith
    finishes-ends (CallerRuns tag) = omega arith
    finishes-ends (Dropped tag) = omega arith
    finishes-ends (DroppedOldest v old tag) = omega arith
    finishes-ends (Runs v tag) = omega arith
    finishes-ends Waits = omega arith
    finishes-ends Exits = omega arith
    finishes-ends (Finished a) = omega (arith, count-cons (λ j. j.ticket == u) (job n (IsDone a)) [])
    finishes-ends IdleExit = omega arith
    finishes-ends Leaves = omega arith
    finishes-ends StartFailed = omega arith
    finishes-ends ShutDown = omega arith
    finishes-ends (ShutDownNow count) = omega arith

  -- a record brings a job of a ticket that wasn't drawn yet
  brings-coming : (s : Settings) (m : Moment) (r : Record (PoolDeed ℕ)) → IsStep s m r → one (brings u r) + coming (max m.last r.ticket) u ≤ coming m.last u
  brings-coming s m r step = by_kind (executes r.deed) refl
    where
      by_kind : (b : Bool) → executes r.deed ≡ b → one (brings u r) + coming (max m.last r.ticket) u ≤ coming m.last u
      by_kind true is =
          let own : one (brings u r) ≡ one (r.ticket == u) = ap (λ b. one (b && (r.ticket == u))) is in
          omega (arith, own, drawn m.last r.ticket u (step.above (drawn-executed _ r.deed is)).0)
      by_kind false is =
          let own : one (brings u r) ≡ 0 = ap (λ b. one (b && (r.ticket == u))) is in
          omega (arith, own, newer m.last r.ticket u)

  -- the jobs of this ticket that are there and don't run, and what a record starts of them, are no more than there were
  pub begins : (s : Settings) (m : Moment) (r : Record (PoolDeed ℕ)) → IsSound s m.pool (m.last + 1) → IsStep s m r → standing_count (jobs_in (next_moment s m r).pool) u + count_by runs_it m.pool.workers + begins_it r.deed + coming (max m.last r.ticket) u ≤ standing_count (jobs_in m.pool) u + count_by runs_it (next_moment s m r).pool.workers + coming m.last u
  begins s m r sound step = omega (arith, step-count s m r sound step u, turns s m.pool (m.last + 1) r.seat r.ticket sound r.deed step.allowed, finishes-ends s m.pool (m.last + 1) r.seat r.ticket sound r.deed, brings-coming s m r step)
