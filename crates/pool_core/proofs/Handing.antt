-- How many workers were handed this job with this take, and what each deed makes of it.
use Rattle.std.proofs.Common.{◌≡◌, ℕ, ◌+◌, ◌-◌, ◌<◌, ◌≤◌, ◌==◌, ◌&&◌, refl, sym, ap, ◌∙◌, subst, Bool, true, false, Some, None, List, [], ◌∷◌, length, get_or, set, map, filter_map, arith}
use Rattle.std.specs.Prelude.{count_by, option_map, option_to_list}
use Rattle.std.specs.Option.{option_map_or}
use Rattle.meet_tickets.specs.declared.lines.Entry.{Entry}
use Rattle.meet_tickets.proofs.Lists.Changed.{one, count-cons}
use Rattle.pool_core.specs.declared.settings.Settings.{Settings}
use Rattle.pool_core.specs.declared.stages.Task.{Task}
use Rattle.pool_core.specs.declared.stages.Stage.{Stage}
use Rattle.pool_core.specs.declared.stages.Stage.TheVariants.{Absent, Starting, Waiting, Cut, HandedOver, Running}
use Rattle.pool_core.specs.declared.deeds.PoolDeed.{PoolDeed}
use Rattle.pool_core.specs.declared.deeds.PoolDeed.TheVariants.{Handed, Started, Kept, KeptStart, Aborted, CallerRuns, Dropped, DroppedOldest, Runs, Waits, Exits, Finished, IdleExit, Leaves, StartFailed, ShutDown, ShutDownNow}
use Rattle.pool_core.specs.Pools.{Pool, free, stage_of, worker_of, staged, met_one, cut_stage}
use Rattle.pool_core.specs.Steps.{Allows, after, job_for, IsOwn, MayExit}
use Rattle.pool_core.specs.Sound.{IsSound}
use Rattle.pool_core.specs.Promise.{pair, run_by, waiting_take, met_by, handed_at}
use Rattle.pool_core.proofs.After.{IsWorker, worker-from}
use Rattle.pool_core.proofs.Counting.{has_it, workers_have}
use Rattle.pool_core.proofs.Free.{free-below, free-absent}
use Rattle.pool_core.proofs.Pairs.{count-option, both_in}
use Rattle.pool_core.proofs.Starts.{runs_it}
use Rattle.pool_core.proofs.Stays.{Takes, takes-from}
use Rattle.pool_core.proofs.Takes.{count-set, workers-taken}

module _ (t u : ℕ) where
  -- whether a worker was handed the job `u` with the take `t`
  abbrev pub has_both : Stage ℕ → Bool
  has_both Absent = false
  has_both (Starting first) = false
  has_both (Waiting v) = false
  has_both (Cut v) = false
  has_both (HandedOver v task) = (v == t) && (task.ticket == u)
  has_both (Running v) = false

  -- as many workers have it as pairs are theirs
  pub both-listed : (workers : List (Stage ℕ)) → both_in t u (filter_map handed_at workers) ≡ count_by has_both workers
  both-listed [] = refl
  both-listed (st ∷ workers) = omega (arith, both-listed workers, one-listed st, count-option (λ x. (x.take == t) && (x.job == u)) (handed_at st) (filter_map handed_at workers), count-cons has_both st workers)
    where
      one-listed : (st : Stage ℕ) → both_in t u (option_to_list (handed_at st)) ≡ one (has_both st)
      one-listed Absent = refl
      one-listed (Starting first) = refl
      one-listed (Waiting v) = refl
      one-listed (Cut v) = refl
      one-listed (HandedOver v task) = omega (arith, count-cons (λ x. (x.take == t) && (x.job == u)) (pair v task.ticket) [])
      one-listed (Running v) = refl

  -- who has it doesn't run it yet
  pub both-waits : (workers : List (Stage ℕ)) → count_by has_both workers + count_by (runs_it u) workers ≤ workers_have u workers
  both-waits [] = omega arith
  both-waits (st ∷ workers) = omega (arith, both-waits workers, one-waits st, count-cons has_both st workers, count-cons (runs_it u) st workers, count-cons (has_it u) st workers)
    where
      one-less : (b x : Bool) → one (b && x) ≤ one x
      one-less true x = omega arith
      one-less false x = omega arith

      one-waits : (st : Stage ℕ) → one (has_both st) + one (runs_it u st) ≤ one (has_it u st)
      one-waits Absent = omega arith
      one-waits (Starting first) = omega arith
      one-waits (Waiting v) = omega arith
      one-waits (Cut v) = omega arith
      one-waits (HandedOver v task) = omega (arith, one-less (v == t) (task.ticket == u))
      one-waits (Running v) = omega arith

  cut-both : (workers : List (Stage ℕ)) → count_by has_both (map cut_stage workers) ≡ count_by has_both workers
  cut-both [] = refl
  cut-both (st ∷ workers) = omega (arith, cut-both workers, one-cut st, count-cons has_both (cut_stage st) (map cut_stage workers), count-cons has_both st workers)
    where
      one-cut : (st : Stage ℕ) → one (has_both (cut_stage st)) ≡ one (has_both st)
      one-cut Absent = refl
      one-cut (Starting first) = refl
      one-cut (Waiting v) = refl
      one-cut (Cut v) = refl
      one-cut (HandedOver v task) = refl
      one-cut (Running v) = refl

  module _ (s : Settings) (p : Pool ℕ) (next i n : ℕ) (sound : IsSound s p next) where
    -- who has it was handed it, and has it until it runs
    abbrev pub starts_both : PoolDeed ℕ → ℕ
    starts_both deed = both_in t u (option_to_list (option_map (pair n) (run_by deed)))

    abbrev pub meets_both : PoolDeed ℕ → ℕ
    meets_both deed = both_in t u (option_to_list (option_map (λ v. pair v n) (met_by p deed)))

    pub record Hands (deed : PoolDeed ℕ) : Type 0 where
      pub handed : count_by has_both (after s p i n deed).workers ≤ count_by has_both p.workers + meets_both deed
      pub until : count_by has_both p.workers + meets_both deed ≤ count_by has_both (after s p i n deed).workers + starts_both deed

    at-worker : (was st : Stage ℕ) → IsWorker s p i was → count_by has_both (set p.workers (i - s.sizes.callers) st) + one (has_both was) ≡ count_by has_both p.workers + one (has_both st)
    at-worker was st at = count-set has_both (i - s.sizes.callers) p.workers was st at.there at.stage

    at-free : (w : ℕ) (st : Stage ℕ) → free p ≡ Some w → count_by has_both (set p.workers w st) ≡ count_by has_both p.workers + one (has_both st)
    at-free w st is = omega (arith, count-set has_both w p.workers Absent st (free-below p.workers w is) (free-absent p.workers w is))

    -- as many have it, and nobody was handed it
    stays : (deed : PoolDeed ℕ) → met_by p deed ≡ None → count_by has_both (after s p i n deed).workers ≡ count_by has_both p.workers → Hands deed
    stays deed none same =
        let no_one : meets_both deed ≡ 0 = ap (λ o. both_in t u (option_to_list (option_map (λ v. pair v n) o))) none in
        record { handed = omega (arith, no_one, same); until = omega (arith, no_one, same) }

    run-hands : (v tag : ℕ) (st : Stage ℕ) → stage_of s p i ≡ st → IsOwn st n → job_for s p st ≡ Some (record { ticket = v; job = tag }) → (count_by has_both (set p.workers (i - s.sizes.callers) (Running v)) ≤ count_by has_both p.workers) × (count_by has_both p.workers ≤ count_by has_both (set p.workers (i - s.sizes.callers) (Running v)) + one ((n == t) && (v == u)))
    run-hands v tag Absent own has is = absurd has
    run-hands v tag (Starting first) own has is = let whole = at-worker (Starting first) (Running v) (worker-from s p i (Starting first) refl own) in (omega (arith, whole), omega (arith, whole))
    run-hands v tag (Waiting x) own has is = cc
    run-hands v tag (Cut x) own has is = cc
    run-hands v tag (HandedOver x task) own has is =
        let whole = at-worker (HandedOver x task) (Running v) (worker-from s p i (HandedOver x task) refl own) in
        let same : ◌≡◌ {A = Task ℕ} task (record { ticket = v; job = tag }) = cc in
        let equal : one ((n == t) && (v == u)) ≡ one ((x == t) && (task.ticket == u)) = ap (λ k. one ((k == t) && (v == u))) has ∙ ap (λ (y : Task ℕ). one ((x == t) && (y.ticket == u))) (sym same) in
        (omega (arith, whole), omega (arith, whole, equal))
    run-hands v tag (Running x) own has is = cc

    exit-hands : (st : Stage ℕ) → stage_of s p i ≡ st → MayExit s p st → count_by has_both (set p.workers (i - s.sizes.callers) Absent) ≡ count_by has_both p.workers
    exit-hands Absent own may = absurd may
    exit-hands (Starting first) own may = omega (arith, at-worker (Starting first) Absent (worker-from s p i (Starting first) refl own))
    exit-hands (Waiting x) own may = absurd may
    exit-hands (Cut x) own may = omega (arith, at-worker (Cut x) Absent (worker-from s p i (Cut x) refl own))
    exit-hands (HandedOver x task) own may = absurd may
    exit-hands (Running x) own may = absurd may

    pub hands : (deed : PoolDeed ℕ) → Allows s p i n deed → Hands deed
    hands (Handed w tag) a =
        let e = a.2.0 in
        let takes : Takes s p e = takes-from e sound a.2.1 in
        let number : e.seat - s.sizes.callers ≡ w = omega (arith, a.2.2) in
        let stage : get_or p.workers w Absent ≡ Waiting e.ticket = ap (λ k. get_or p.workers k Absent) (sym number) ∙ takes.stage in
        let there : w < length p.workers = subst (λ k. k < length p.workers) number takes.there in
        let task : Task ℕ = record { ticket = n; job = tag } in
        let same : count_by has_both (after s p i n (Handed w tag)).workers ≡ count_by has_both (set p.workers w (HandedOver e.ticket task)) = ap (λ o. count_by has_both (option_map_or (λ (f : Entry ℕ). staged (met_one s p) w (HandedOver f.ticket task)) o p).workers) a.2.1 in
        let met : meets_both (Handed w tag) ≡ both_in t u (pair e.ticket n ∷ []) = ap (λ st. both_in t u (option_to_list (option_map (λ v. pair v n) (waiting_take st)))) stage in
        let own : both_in t u (pair e.ticket n ∷ []) ≡ one ((e.ticket == t) && (n == u)) = omega (arith, count-cons (λ x. (x.take == t) && (x.job == u)) (pair e.ticket n) []) in
        let whole = count-set has_both w p.workers (Waiting e.ticket) (HandedOver e.ticket task) there stage in
        record { handed = omega (arith, same, met, own, whole); until = omega (arith, same, met, own, whole) }
    hands (Started w tag) a = stays (Started w tag) refl (omega (arith, at-free w (Starting (Some (record { ticket = n; job = tag }))) a.2))
    hands (Kept tag) a = stays (Kept tag) refl refl
    hands (KeptStart w tag) a = stays (KeptStart w tag) refl (omega (arith, at-free w (Starting None) a.3))
    hands (Aborted tag) a = stays (Aborted tag) refl refl
    hands (CallerRuns tag) a = stays (CallerRuns tag) refl refl
    hands (Dropped tag) a = stays (Dropped tag) refl refl
    hands (DroppedOldest v old tag) a = stays (DroppedOldest v old tag) refl refl
    hands (Runs v tag) a =
        let workers : count_by has_both (after s p i n (Runs v tag)).workers ≡ count_by has_both (set p.workers (i - s.sizes.callers) (Running v)) = ap (λ ws. count_by has_both (set ws (worker_of s i) (Running v))) (workers-taken s p (stage_of s p i)) in
        let whole = run-hands v tag (stage_of s p i) refl a.0 a.1 in
        let own : starts_both (Runs v tag) ≡ one ((n == t) && (v == u)) = omega (arith, count-cons (λ x. (x.take == t) && (x.job == u)) (pair n v) []) in
        record { handed = omega (arith, workers, whole.0); until = omega (arith, workers, whole.1, own) }
    hands Waits a = stays Waits refl (omega (arith, at-worker (Starting None) (Waiting n) (worker-from s p i (Starting None) refl a.0)))
    hands Exits a = stays Exits refl (exit-hands (stage_of s p i) refl a.1)
    hands (Finished x) a = stays (Finished x) refl (omega (arith, at-worker (Running n) (Starting None) (worker-from s p i (Running n) refl a)))
    hands IdleExit a = stays IdleExit refl (omega (arith, at-worker (Waiting n) Absent (worker-from s p i (Waiting n) refl a.0)))
    hands Leaves a = stays Leaves refl (omega (arith, at-worker (Starting None) Absent (worker-from s p i (Starting None) refl a.0)))
    hands StartFailed a = stays StartFailed refl (omega (arith, at-worker (Starting a.0) Absent (worker-from s p i (Starting a.0) refl a.1)))
    hands ShutDown a = stays ShutDown refl (cut-both p.workers)
    hands (ShutDownNow count) a = stays (ShutDownNow count) refl (cut-both p.workers)
