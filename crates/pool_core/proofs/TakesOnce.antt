-- Each take is handed one job at most and runs just that one, and none after it was taken back.
use Rattle.std.proofs.Common.{◌≡◌, ◌≢◌, ℕ, ◌+◌, ◌-◌, ◌<◌, ◌≤◌, ◌==◌, ◌&&◌, max, refl, sym, ap, ◌∙◌, subst, Bool, true, false, not, eqb, ltb, List, [], ◌∷◌, ◌++◌, map, filter_map, Contains, All, arith, ◌⊎◌, inl, inr}
use Rattle.std.specs.Prelude.{count_by, option_map, option_to_list}
use Rattle.std.proofs.lemmas.Bool.{eq-eqb}
use Rattle.std.proofs.lemmas.Bool.Decides.{eqb_tells}
use Rattle.std.proofs.lemmas.List.Elements.{All-append}
use Rattle.meet_tickets.specs.declared.records.Record.{Record}
use Rattle.meet_tickets.proofs.Lists.Changed.{one, count-cons, count-same}
use Rattle.pool_core.specs.declared.settings.Settings.{Settings}
use Rattle.pool_core.specs.declared.stages.Stage.{Stage}
use Rattle.pool_core.specs.declared.stages.Stage.TheVariants.{Absent, Starting, Waiting, Cut, HandedOver, Running}
use Rattle.pool_core.specs.declared.deeds.PoolDeed.{PoolDeed}
use Rattle.pool_core.specs.declared.deeds.PoolDeed.TheVariants.{Handed, Started, Kept, KeptStart, Aborted, CallerRuns, Dropped, DroppedOldest, Runs, Waits, Exits, Finished, IdleExit, Leaves, StartFailed, ShutDown, ShutDownNow}
use Rattle.pool_core.specs.Pools.{stage_of, cut_stage}
use Rattle.pool_core.specs.Steps.{Allows, after, draws}
use Rattle.pool_core.specs.Histories.{Moment, Based, IsLegalFrom, IsLegalOn, moment_of_base, moment_from, next_moment}
use Rattle.pool_core.specs.Bases.{has_take, IsOrderly, IsWellFormed}
use Rattle.pool_core.specs.Promise.{Pair, pair, run_by, runs_in, handed_by, handed_from, handed_at, handed_on, TakesMeetOnce, Withdraws, WithdrawnMeetNone}
use Rattle.pool_core.proofs.Counting.{count-append}
use Rattle.pool_core.proofs.Pairs.{counted, all-apart, count-option}
use Rattle.pool_core.proofs.Leading.{moment-on}
use Rattle.pool_core.proofs.Orderly.{orderly-next, orderly-from}
use Rattle.pool_core.proofs.Ran.{legal-parts}
use Rattle.pool_core.proofs.Seats.{ltb_tells}
use Rattle.pool_core.proofs.Stays.{waiting-from}
use Rattle.pool_core.proofs.Takes.{one-split, one-less, count-set, coming, newer, holds_it, starts_it, meets_it, Spends, spends, holds-all, untaken}

and-true : (b : Bool) → (b && true) ≡ b
and-true true = refl
and-true false = refl

not-not : (b : Bool) → not (not b) ≡ b
not-not true = refl
not-not false = refl

-- so many have this take, whatever their job
plain : (t : ℕ) (pairs : List Pair) → count_by (λ p. (p.take == t) && true) pairs ≡ count_by (λ p. p.take == t) pairs
plain t pairs = count-same (λ p. (p.take == t) && true) (λ p. p.take == t) (λ p. and-true (p.take == t)) pairs

module _ (t : ℕ) where
  -- a take is one worker's, or wasn't drawn yet
  has-few : (s : Settings) (m : Moment) → IsOrderly s m → count_by (has_take t) m.pool.workers + coming m.last t ≤ 1
  has-few s m orderly = by_test (ltb_tells m.last t)
    where
      by_test : ((ltb m.last t ≡ true) × (m.last < t)) ⊎ ((ltb m.last t ≡ false) × (t ≤ m.last)) → count_by (has_take t) m.pool.workers + coming m.last t ≤ 1
      by_test (inl k) = let own : coming m.last t ≡ 1 = ap one k.0 in omega (arith, own, untaken s m.pool m.last t orderly.sound k.1)
      by_test (inr k) = let own : coming m.last t ≡ 0 = ap one k.0 in omega (arith, own, orderly.takes t)

  module _ (h : ℕ → Bool) where
    -- the workers that were handed another job, and those that wait or were handed one of `h`
    one-listed : (st : Stage ℕ) → meets_it false h t (option_to_list (handed_at st)) + one (holds_it false h t st) ≤ one (has_take t st)
    one-listed Absent = omega arith
    one-listed (Starting first) = omega arith
    one-listed (Waiting v) = omega arith
    one-listed (Cut v) = omega (arith, one-less (v == t) false)
    one-listed (HandedOver v task) = omega (arith, count-cons (λ p. (p.take == t) && not (h p.job)) (pair v task.ticket) [], one-split (v == t) (h task.ticket))
    one-listed (Running v) = omega arith

    listed : (workers : List (Stage ℕ)) → meets_it false h t (filter_map handed_at workers) + count_by (holds_it false h t) workers ≤ count_by (has_take t) workers
    listed [] = omega arith
    listed (st ∷ workers) =
        omega (arith, listed workers, one-listed st, count-option (λ p. (p.take == t) && not (h p.job)) (handed_at st) (filter_map handed_at workers), count-cons (holds_it false h t) st workers, count-cons (has_take t) st workers)

    -- who waited before a shutdown has it, and no other
    one-cut : (st : Stage ℕ) → one (holds_it false h t (cut_stage st)) + one (holds_it false (λ u. false) t st) ≤ one (has_take t st)
    one-cut Absent = omega arith
    one-cut (Starting first) = omega arith
    one-cut (Waiting v) = by_test (v == t)
      where
        by_test : (b : Bool) → one (b && false) + one b ≤ one b
        by_test true = omega arith
        by_test false = omega arith
    one-cut (Cut v) = by_test (v == t)
      where
        by_test : (b : Bool) → one (b && false) + one (b && false) ≤ one b
        by_test true = omega arith
        by_test false = omega arith
    one-cut (HandedOver v task) = by_test (v == t) (h task.ticket)
      where
        by_test : (b x : Bool) → one (b && x) + one (b && false) ≤ one b
        by_test true true = omega arith
        by_test true false = omega arith
        by_test false x = omega arith
    one-cut (Running v) = omega arith

    all-cut : (workers : List (Stage ℕ)) → count_by (holds_it false h t) (map cut_stage workers) + count_by (holds_it false (λ u. false) t) workers ≤ count_by (has_take t) workers
    all-cut [] = omega arith
    all-cut (st ∷ workers) =
        omega (arith, all-cut workers, one-cut st, count-cons (holds_it false h t) (cut_stage st) (map cut_stage workers), count-cons (holds_it false (λ u. false) t) st workers, count-cons (has_take t) st workers)

    -- the starts of a take with a job of `h`, and the handings over of another job to it, are no more than it has left
    totals : (s : Settings) (m : Moment) (records : List (Record (PoolDeed ℕ))) → IsOrderly s m → IsLegalFrom s m records → starts_it false h t (runs_in records) + meets_it false h t (handed_from s m records) ≤ count_by (holds_it false h t) m.pool.workers + coming m.last t
    totals s m [] orderly legal = omega arith
    totals s m (r ∷ records) orderly legal =
        let rest = totals s (next_moment s m r) records (orderly-next s m r orderly legal.0) legal.1 in
        let here : Spends false h t s m.pool m.last r.seat r.ticket orderly.sound r.deed = spends false h t s m.pool m.last r.seat r.ticket orderly.sound r.deed legal.0.allowed (λ some. (legal.0.above some).0) in
        omega (
          arith,
          rest,
          here,
          count-option (λ p. (p.take == t) && h p.job) (option_map (pair r.ticket) (run_by r.deed)) (runs_in records),
          count-append (λ p. (p.take == t) && not (h p.job)) (option_to_list (handed_by m.pool r)) (handed_from s (next_moment s m r) records),
        )

    -- on a base there is one at most
    pub one-meeting : (s : Settings) (b : Based) (records : List (Record (PoolDeed ℕ))) → IsWellFormed s b → IsLegalOn s b records → starts_it false h t (runs_in records) + meets_it false h t (handed_on s b records) ≤ 1
    one-meeting s b records formed legal =
        let m : Moment = moment_of_base s b in
        omega (
          arith,
          totals s m records formed legal,
          listed m.pool.workers,
          has-few s m formed,
          count-append (λ p. (p.take == t) && not (h p.job)) (filter_map handed_at m.pool.workers) (handed_from s m records),
        )

    -- a deed that takes it back leaves nothing of it
    shut-left : (s : Settings) (m : Moment) (n : ℕ) → IsOrderly s m → (i : ℕ) → stage_of s m.pool i ≡ Waiting t → count_by (holds_it false h t) (map cut_stage m.pool.workers) + coming (max m.last n) t ≡ 0
    shut-left s m n orderly i waits =
        let at = waiting-from s m.pool i t waits in
        let own : one (t == t) ≡ 1 = ap one (eq-eqb t t refl) in
        let without = count-set (holds_it false (λ u. false) t) (i - s.sizes.callers) m.pool.workers (Waiting t) Absent at.2 at.1 in
        omega (arith, own, without, all-cut m.pool.workers, has-few s m orderly, newer m.last n t)

    none-left : (s : Settings) (m : Moment) (i n : ℕ) (deed : PoolDeed ℕ) → IsOrderly s m → Allows s m.pool i n deed → (0 < draws (stage_of s m.pool i) deed → m.last < n) → Withdraws s m.pool n deed t → count_by (holds_it false h t) (after s m.pool i n deed).workers + coming (max m.last n) t ≡ 0
    none-left s m i n (Handed w tag) orderly allowed fresh is = absurd is
    none-left s m i n (Started w tag) orderly allowed fresh is = absurd is
    none-left s m i n (Kept tag) orderly allowed fresh is = absurd is
    none-left s m i n (KeptStart w tag) orderly allowed fresh is = absurd is
    none-left s m i n (Aborted tag) orderly allowed fresh is = absurd is
    none-left s m i n (CallerRuns tag) orderly allowed fresh is = absurd is
    none-left s m i n (Dropped tag) orderly allowed fresh is = absurd is
    none-left s m i n (DroppedOldest u old tag) orderly allowed fresh is = absurd is
    none-left s m i n (Runs u tag) orderly allowed fresh is = absurd is
    none-left s m i n Waits orderly allowed fresh is = absurd is
    none-left s m i n Exits orderly allowed fresh is =
        let whole : Spends true (λ u. true) t s m.pool m.last i n orderly.sound Exits = spends true (λ u. true) t s m.pool m.last i n orderly.sound Exits allowed fresh in
        let own : one ((n == t) && true) ≡ 1 = ap one (and-true (n == t) ∙ eq-eqb n t is) in
        omega (arith, whole, own, has-few s m orderly, holds-all t m.pool.workers, holds-all t (after s m.pool i n Exits).workers, listed (after s m.pool i n Exits).workers)
    none-left s m i n (Finished a) orderly allowed fresh is = absurd is
    none-left s m i n IdleExit orderly allowed fresh is =
        let whole : Spends true (λ u. true) t s m.pool m.last i n orderly.sound IdleExit = spends true (λ u. true) t s m.pool m.last i n orderly.sound IdleExit allowed fresh in
        let own : one ((n == t) && true) ≡ 1 = ap one (and-true (n == t) ∙ eq-eqb n t is) in
        omega (arith, whole, own, has-few s m orderly, holds-all t m.pool.workers, holds-all t (after s m.pool i n IdleExit).workers, listed (after s m.pool i n IdleExit).workers)
    none-left s m i n Leaves orderly allowed fresh is = absurd is
    none-left s m i n StartFailed orderly allowed fresh is = absurd is
    none-left s m i n ShutDown orderly allowed fresh is = shut-left s m n orderly is.0 is.1
    none-left s m i n (ShutDownNow count) orderly allowed fresh is = shut-left s m n orderly is.0 is.1

-- each take is handed one job at most, runs one at most, and none other than it was handed
pub takes-once : (s : Settings) (b : Based) (records : List (Record (PoolDeed ℕ))) → IsWellFormed s b → IsLegalOn s b records → TakesMeetOnce s b records
takes-once s b records formed legal = record {
  handed = λ t. (let few = one-meeting t (λ u. false) s b records formed legal in omega (arith, few, plain t (handed_on s b records)));
  runs = λ t. (let few = one-meeting t (λ u. true) s b records formed legal in omega (arith, few, plain t (runs_in records)));
  same = λ t u v handed run. by_test t u v handed run (eqb_tells v u);
}
  where
    by_test : (t u v : ℕ) → Contains (handed_on s b records) (pair t u) → Contains (runs_in records) (pair t v) → ((eqb v u ≡ true) × (v ≡ u)) ⊎ ((eqb v u ≡ false) × (v ≢ u)) → v ≡ u
    by_test t u v handed run (inl k) = k.1
    by_test t u v handed run (inr k) =
        let few = one-meeting t (λ j. not (j == u)) s b records formed legal in
        let own : (t == t) ≡ true = eq-eqb t t refl in
        let met = counted (λ p. (p.take == t) && not (not (p.job == u))) (handed_on s b records) (pair t u) handed (ap (λ a. a && not (not (u == u))) own ∙ not-not (u == u) ∙ eq-eqb u u refl) in
        let started = counted (λ p. (p.take == t) && not (p.job == u)) (runs_in records) (pair t v) run (ap (λ a. a && not (v == u)) own ∙ ap not k.0) in
        absurd (omega (arith, few, met, started))

-- no job is handed to a take that was taken back, and it runs none
pub withdrawn-none : (s : Settings) (b : Based) (records : List (Record (PoolDeed ℕ))) → IsWellFormed s b → IsLegalOn s b records → WithdrawnMeetNone s b records
withdrawn-none s b records formed legal before rest r t is back = subst (λ m. All (λ p. p.take ≢ t) (handed_from s m rest ++ runs_in rest)) (sym (moment-on s first before r))
    (All-append (λ p. p.take ≢ t) (handed_from s next rest) (runs_in rest) (all-apart (λ p. p.take) t (handed_from s next rest) none_handed) (all-apart (λ p. p.take) t (runs_in rest) none_runs))
  where
    first : Moment
    first = moment_of_base s b

    m : Moment
    m = moment_from s first before

    next : Moment
    next = next_moment s m r

    parts : IsLegalFrom s first before × IsLegalFrom s m (r ∷ rest)
    parts = legal-parts s first before (r ∷ rest) (subst (λ xs. IsLegalFrom s first xs) is legal)

    orderly : IsOrderly s m
    orderly = orderly-from s first before formed parts.0

    none : (h : ℕ → Bool) → count_by (holds_it false h t) next.pool.workers + coming next.last t ≡ 0
    none h = none-left t h s m r.seat r.ticket r.deed orderly parts.1.0.allowed (λ some. (parts.1.0.above some).0) back

    total : (h : ℕ → Bool) → starts_it false h t (runs_in rest) + meets_it false h t (handed_from s next rest) ≤ count_by (holds_it false h t) next.pool.workers + coming next.last t
    total h = totals t h s next rest (orderly-next s m r orderly parts.1.0) parts.1.1

    none_runs : count_by (λ p. p.take == t) (runs_in rest) ≡ 0
    none_runs = omega (arith, none (λ u. true), total (λ u. true), plain t (runs_in rest))

    none_handed : count_by (λ p. p.take == t) (handed_from s next rest) ≡ 0
    none_handed = omega (arith, none (λ u. false), total (λ u. false), plain t (handed_from s next rest))
