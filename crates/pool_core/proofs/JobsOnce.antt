-- Each job is handed over once at most and runs once at most, with the take that it met, and not after it was over.
use Rattle.std.proofs.Common.{◌≡◌, ◌≢◌, ℕ, ◌+◌, ◌<◌, ◌≤◌, ◌==◌, ◌&&◌, max, refl, ap, ◌∙◌, subst, Bool, true, false, not, eqb, ltb, Option, Some, None, List, [], ◌∷◌, get_or, map, filter_map, Contains, arith, ◌⊎◌, inl, inr}
use Rattle.std.specs.Prelude.{count_by, option_map, option_to_list}
use Rattle.std.proofs.lemmas.Bool.{eq-eqb, ne_eqb}
use Rattle.std.proofs.lemmas.Bool.Decides.{eqb_tells}
use Rattle.meet_tickets.specs.declared.records.Record.{Record}
use Rattle.meet_tickets.proofs.Lists.Changed.{one, count-cons}
use Rattle.pool_core.specs.declared.settings.Settings.{Settings}
use Rattle.pool_core.specs.declared.stages.Stage.{Stage}
use Rattle.pool_core.specs.declared.stages.Stage.TheVariants.{Absent, Starting, Waiting, Cut, HandedOver, Running}
use Rattle.pool_core.specs.declared.deeds.PoolDeed.{PoolDeed}
use Rattle.pool_core.specs.declared.deeds.PoolDeed.TheVariants.{Handed, Started, Kept, KeptStart, Aborted, CallerRuns, Dropped, DroppedOldest, Runs, Waits, Exits, Finished, IdleExit, Leaves, StartFailed, ShutDown, ShutDownNow}
use Rattle.pool_core.specs.Histories.{Moment, Based, IsLegalFrom, IsLegalOn, moment_of_base, moment_from, next_moment}
use Rattle.pool_core.specs.Standings.{jobs_in, ended_by, ended_from, executes, brings, brought, standing_count}
use Rattle.pool_core.specs.Bases.{IsOrderly, IsWellFormed}
use Rattle.pool_core.specs.Promise.{Pair, pair, run_by, runs_in, waiting_take, met_by, handed_by, handed_from, handed_at, handed_on, running_at, JobsMeetOnce}
use Rattle.pool_core.proofs.Counting.{count-append, has_it, workers_have, jobs-times}
use Rattle.pool_core.proofs.Handing.{has_both, both-waits, Hands, hands}
use Rattle.pool_core.proofs.Pairs.{counted, all-apart, count-option, both_in, both-split}
use Rattle.pool_core.proofs.Partners.{handed-whole}
use Rattle.pool_core.proofs.Orderly.{orderly-next, orderly-from, step-count, standings-count, brought-once}
use Rattle.pool_core.proofs.Ran.{legal-parts}
use Rattle.pool_core.proofs.Seats.{ltb_tells}
use Rattle.pool_core.proofs.Starts.{runs_it, begins_it, running-has, begins}
use Rattle.pool_core.proofs.Takes.{coming}

module _ (u : ℕ) where
  -- the greatest ticket grows
  last-grows : (s : Settings) (m : Moment) (records : List (Record (PoolDeed ℕ))) → m.last ≤ (moment_from s m records).last
  last-grows s m [] = omega arith
  last-grows s m (r ∷ records) = let more : max m.last r.ticket ≤ (moment_from s (next_moment s m r) records).last = last-grows s (next_moment s m r) records in omega (arith, more)

  -- a job whose ticket wasn't drawn yet isn't over
  none-ended : (s : Settings) (m : Moment) (records : List (Record (PoolDeed ℕ))) → IsOrderly s m → IsLegalFrom s m records → (moment_from s m records).last < u → standing_count (ended_from s m records) u ≡ 0
  none-ended s m [] orderly legal above = refl
  none-ended s m (r ∷ records) orderly legal above =
      let next : Moment = next_moment s m r in
      let rest : standing_count (ended_from s next records) u ≡ 0 = none-ended s next records (orderly-next s m r orderly legal.0) legal.1 above in
      let grown : max m.last r.ticket ≤ (moment_from s next records).last = last-grows s next records in
      let before : standing_count (jobs_in m.pool) u ≡ 0 = orderly.used u (omega (arith, grown, above)) in
      let other : r.ticket ≢ u = λ same. omega (arith, grown, above, same) in
      omega (arith, rest, before, step-count s m r orderly.sound legal.0 u, not-brought r other, count-append (λ j. j.ticket == u) (ended_by s m.pool r.seat r.ticket r.deed) (ended_from s next records))
    where
      not-brought : (r : Record (PoolDeed ℕ)) → r.ticket ≢ u → one (brings u r) ≡ 0
      not-brought r other = by_kind (executes r.deed)
        where
          by_kind : (b : Bool) → one (b && (r.ticket == u)) ≡ 0
          by_kind true = ap one (ne_eqb r.ticket u other)
          by_kind false = refl

  -- a start of a job, counted
  begun : (n : ℕ) (deed : PoolDeed ℕ) → count_by (λ p. p.job == u) (option_to_list (option_map (pair n) (run_by deed))) ≡ begins_it u deed
  begun n (Handed w tag) = refl
  begun n (Started w tag) = refl
  begun n (Kept tag) = refl
  begun n (KeptStart w tag) = refl
  begun n (Aborted tag) = refl
  begun n (CallerRuns tag) = refl
  begun n (Dropped tag) = refl
  begun n (DroppedOldest v old tag) = refl
  begun n (Runs v tag) = omega (arith, count-cons (λ p. p.job == u) (pair n v) [])
  begun n Waits = refl
  begun n Exits = refl
  begun n (Finished a) = refl
  begun n IdleExit = refl
  begun n Leaves = refl
  begun n StartFailed = refl
  begun n ShutDown = refl
  begun n (ShutDownNow count) = refl

  -- a job has few starts left
  starts-left : (s : Settings) (m : Moment) (records : List (Record (PoolDeed ℕ))) → IsOrderly s m → IsLegalFrom s m records → count_by (λ p. p.job == u) (runs_in records) + count_by (runs_it u) m.pool.workers ≤ standing_count (jobs_in m.pool) u + coming m.last u
  starts-left s m [] orderly legal = omega (arith, jobs-times u m.pool, running-has u m.pool.workers)
  starts-left s m (r ∷ records) orderly legal =
      omega (
        arith,
        starts-left s (next_moment s m r) records (orderly-next s m r orderly legal.0) legal.1,
        begins u s m r orderly.sound legal.0,
        count-option (λ p. p.job == u) (option_map (pair r.ticket) (run_by r.deed)) (runs_in records),
        begun r.ticket r.deed,
      )

  jobs-few : (s : Settings) (m : Moment) → IsOrderly s m → standing_count (jobs_in m.pool) u + coming m.last u ≤ 1
  jobs-few s m orderly = by_test (ltb_tells m.last u)
    where
      by_test : ((ltb m.last u ≡ true) × (m.last < u)) ⊎ ((ltb m.last u ≡ false) × (u ≤ m.last)) → standing_count (jobs_in m.pool) u + coming m.last u ≤ 1
      by_test (inl k) = let own : coming m.last u ≡ 1 = ap one k.0 in omega (arith, own, orderly.used u k.1)
      by_test (inr k) = let own : coming m.last u ≡ 0 = ap one k.0 in omega (arith, own, orderly.once u)

  -- one that is over is there no more
  over-gone : (s : Settings) (m : Moment) (records : List (Record (PoolDeed ℕ))) → IsOrderly s m → IsLegalFrom s m records → 0 < standing_count (ended_from s m records) u → standing_count (jobs_in (moment_from s m records).pool) u + coming (moment_from s m records).last u ≡ 0
  over-gone s m records orderly legal over = by_test (ltb_tells (moment_from s m records).last u)
    where
      by_test : ((ltb (moment_from s m records).last u ≡ true) × ((moment_from s m records).last < u)) ⊎ ((ltb (moment_from s m records).last u ≡ false) × (u ≤ (moment_from s m records).last)) → standing_count (jobs_in (moment_from s m records).pool) u + coming (moment_from s m records).last u ≡ 0
      by_test (inl k) = absurd (omega (arith, over, none-ended s m records orderly legal k.1))
      by_test (inr k) =
          let own : coming (moment_from s m records).last u ≡ 0 = ap one k.0 in
          omega (arith, own, over, standings-count s m records orderly legal u, brought-once s m records orderly legal u, count-append (λ j. j.ticket == u) (ended_from s m records) (jobs_in (moment_from s m records).pool))

-- a job that was handed over starts with the take that it met alone
module _ (t u : ℕ) where
  pairs-left : (s : Settings) (m : Moment) (records : List (Record (PoolDeed ℕ))) → IsOrderly s m → IsLegalFrom s m records → count_by (λ p. p.job == u) (runs_in records) + both_in t u (handed_from s m records) + count_by (runs_it u) m.pool.workers + count_by (has_both t u) m.pool.workers ≤ standing_count (jobs_in m.pool) u + coming m.last u + both_in t u (runs_in records)
  pairs-left s m [] orderly legal = omega (arith, jobs-times u m.pool, both-waits t u m.pool.workers)
  pairs-left s m (r ∷ records) orderly legal =
      let rest = pairs-left s (next_moment s m r) records (orderly-next s m r orderly legal.0) legal.1 in
      let here : Hands t u s m.pool (m.last + 1) r.seat r.ticket orderly.sound r.deed = hands t u s m.pool (m.last + 1) r.seat r.ticket orderly.sound r.deed legal.0.allowed in
      omega (
        arith,
        rest,
        here.until,
        begins u s m r orderly.sound legal.0,
        begun u r.ticket r.deed,
        count-option (λ p. p.job == u) (option_map (pair r.ticket) (run_by r.deed)) (runs_in records),
        count-option (λ p. (p.take == t) && (p.job == u)) (option_map (pair r.ticket) (run_by r.deed)) (runs_in records),
        count-append (λ x. (x.take == t) && (x.job == u)) (option_to_list (handed_by m.pool r)) (handed_from s (next_moment s m r) records),
      )

  same-take : (s : Settings) (b : Based) (records : List (Record (PoolDeed ℕ))) → IsWellFormed s b → IsLegalOn s b records → Contains (handed_on s b records) (pair t u) → (v : ℕ) → Contains (runs_in records) (pair v u) → v ≡ t
  same-take s b records formed legal handed v run = by_test (eqb_tells v t)
    where
      first : Moment
      first = moment_of_base s b

      by_test : ((eqb v t ≡ true) × (v ≡ t)) ⊎ ((eqb v t ≡ false) × (v ≢ t)) → v ≡ t
      by_test (inl k) = k.1
      by_test (inr k) =
          let met = counted (λ p. (p.take == t) && (p.job == u)) (handed_on s b records) (pair t u) handed (ap (λ a. a && (u == u)) (eq-eqb t t refl) ∙ eq-eqb u u refl) in
          let other = counted (λ p. not (p.take == t) && (p.job == u)) (runs_in records) (pair v u) run (ap (λ a. not a && (u == u)) k.0 ∙ eq-eqb u u refl) in
          absurd (omega (arith, met, other, both-split t u (runs_in records), handed-whole t u s b records, pairs-left s first records formed legal, jobs-few u s first formed))

-- how often a job is handed over, and runs on a base
module _ (u : ℕ) where
  handed-few : (workers : List (Stage ℕ)) → count_by (λ p. p.job == u) (filter_map handed_at workers) ≤ workers_have u workers
  handed-few [] = omega arith
  handed-few (st ∷ workers) = omega (arith, handed-few workers, one-few st, count-option (λ p. p.job == u) (handed_at st) (filter_map handed_at workers), count-cons (has_it u) st workers)
    where
      one-few : (st : Stage ℕ) → count_by (λ p. p.job == u) (option_to_list (handed_at st)) ≤ one (has_it u st)
      one-few Absent = omega arith
      one-few (Starting first) = omega arith
      one-few (Waiting v) = omega arith
      one-few (Cut v) = omega arith
      one-few (HandedOver v task) = omega (arith, count-cons (λ p. p.job == u) (pair v task.ticket) [])
      one-few (Running v) = omega arith

  handed-brought : (s : Settings) (m : Moment) (records : List (Record (PoolDeed ℕ))) → count_by (λ p. p.job == u) (handed_from s m records) ≤ brought records u
  handed-brought s m [] = omega arith
  handed-brought s m (r ∷ records) =
      omega (arith, handed-brought s (next_moment s m r) records, one-brought r.deed, count-append (λ p. p.job == u) (option_to_list (handed_by m.pool r)) (handed_from s (next_moment s m r) records), count-cons (brings u) r records)
    where
      one-option : (o : Option ℕ) → count_by (λ p. p.job == u) (option_to_list (option_map (λ v. pair v r.ticket) o)) ≤ one (r.ticket == u)
      one-option None = omega arith
      one-option (Some v) = omega (arith, count-cons (λ p. p.job == u) (pair v r.ticket) [])

      one-brought : (deed : PoolDeed ℕ) → count_by (λ p. p.job == u) (option_to_list (option_map (λ v. pair v r.ticket) (met_by m.pool deed))) ≤ one (executes deed && (r.ticket == u))
      one-brought (Handed w tag) = one-option (waiting_take (get_or m.pool.workers w Absent))
      one-brought (Started w tag) = omega arith
      one-brought (Kept tag) = omega arith
      one-brought (KeptStart w tag) = omega arith
      one-brought (Aborted tag) = omega arith
      one-brought (CallerRuns tag) = omega arith
      one-brought (Dropped tag) = omega arith
      one-brought (DroppedOldest v old tag) = omega arith
      one-brought (Runs v tag) = omega arith
      one-brought Waits = omega arith
      one-brought Exits = omega arith
      one-brought (Finished a) = omega arith
      one-brought IdleExit = omega arith
      one-brought Leaves = omega arith
      one-brought StartFailed = omega arith
      one-brought ShutDown = omega arith
      one-brought (ShutDownNow count) = omega arith

  running-listed : (workers : List (Stage ℕ)) → count_by (λ k. k == u) (filter_map running_at workers) ≡ count_by (runs_it u) workers
  running-listed [] = refl
  running-listed (st ∷ workers) = omega (arith, running-listed workers, one-running st, count-option (λ k. k == u) (running_at st) (filter_map running_at workers), count-cons (runs_it u) st workers)
    where
      one-running : (st : Stage ℕ) → count_by (λ k. k == u) (option_to_list (running_at st)) ≡ one (runs_it u st)
      one-running Absent = refl
      one-running (Starting first) = refl
      one-running (Waiting v) = refl
      one-running (Cut v) = refl
      one-running (HandedOver v task) = refl
      one-running (Running v) = omega (arith, count-cons (λ k. k == u) v [])

  jobs-mapped : (pairs : List Pair) → count_by (λ k. k == u) (map (λ p. p.job) pairs) ≡ count_by (λ p. p.job == u) pairs
  jobs-mapped [] = refl
  jobs-mapped (x ∷ pairs) = omega (arith, jobs-mapped pairs, count-cons (λ k. k == u) x.job (map (λ p. p.job) pairs), count-cons (λ p. p.job == u) x pairs)

-- each job is handed over once at most and runs once at most, with the take that it met, and not after it was over
pub jobs-once : (s : Settings) (b : Based) (records : List (Record (PoolDeed ℕ))) → IsWellFormed s b → IsLegalOn s b records → JobsMeetOnce s b records
jobs-once s b records formed legal = record {
  handed = λ u.
      omega (
        arith,
        handed-few u first.pool.workers,
        handed-brought u s first records,
        jobs-times u first.pool,
        brought-once s first records formed legal u,
        count-append (λ p. p.job == u) (filter_map handed_at first.pool.workers) (handed_from s first records),
      );
  runs = λ u.
      omega (
        arith,
        starts-left u s first records formed legal,
        jobs-few u s first formed,
        running-listed u first.pool.workers,
        jobs-mapped u (runs_in records),
        count-append (λ k. k == u) (filter_map running_at first.pool.workers) (map (λ p. p.job) (runs_in records)),
      );
  same = λ u t v handed run. same-take t u s b records formed legal handed v run;
  over = λ before rest u is over.
      (let parts = legal-parts s first before rest (subst (λ xs. IsLegalFrom s first xs) is legal) in
      let left = starts-left u s (moment_from s first before) rest (orderly-from s first before formed parts.0) parts.1 in
      let gone = over-gone u s first before formed parts.0 over in
      all-apart (λ p. p.job) u (runs_in rest) (omega (arith, left, gone)));
}
  where
    first : Moment
    first = moment_of_base s b
