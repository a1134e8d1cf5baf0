-- How many workers have a take, and what each deed makes of it: once it ran, ended or was cut it is no worker's again.
use Rattle.std.proofs.Common.{◌≡◌, ℕ, zero, suc, ◌+◌, ◌-◌, ◌<◌, ◌≤◌, ◌==◌, ◌&&◌, max, refl, sym, ap, ◌∙◌, subst, Bool, true, false, not, eqb, ltb, Some, None, List, [], ◌∷◌, length, get_or, set, map, arith, ◌⊎◌, inl, inr}
use Rattle.std.specs.Prelude.{count_by, option_map, option_to_list}
use Rattle.std.specs.Option.{option_map_or}
use Rattle.std.proofs.lemmas.Bool.{eqb-true}
use Rattle.std.proofs.lemmas.Bool.Decides.{eqb_tells}
use Rattle.std.proofs.lemmas.List.Sums.{sum_by-set}
use Rattle.meet_tickets.specs.declared.lines.Entry.{Entry}
use Rattle.meet_tickets.specs.BySeat.{open_ticket}
use Rattle.meet_tickets.proofs.Lists.Changed.{one, count-cons, count-same}
use Rattle.pool_core.specs.declared.settings.Settings.{Settings}
use Rattle.pool_core.specs.declared.stages.Task.{Task}
use Rattle.pool_core.specs.declared.stages.Stage.{Stage}
use Rattle.pool_core.specs.declared.stages.Stage.TheVariants.{Absent, Starting, Waiting, Cut, HandedOver, Running}
use Rattle.pool_core.specs.declared.deeds.PoolDeed.{PoolDeed}
use Rattle.pool_core.specs.declared.deeds.PoolDeed.TheVariants.{Handed, Started, Kept, KeptStart, Aborted, CallerRuns, Dropped, DroppedOldest, Runs, Waits, Exits, Finished, IdleExit, Leaves, StartFailed, ShutDown, ShutDownNow}
use Rattle.pool_core.specs.Pools.{Pool, free, stage_of, worker_of, staged, met_one, cut_stage}
use Rattle.pool_core.specs.Steps.{Allows, after, draws, stage_draws, taken, job_for, IsOwn, MayExit}
use Rattle.pool_core.specs.Sound.{IsSound, hold_of}
use Rattle.pool_core.specs.Bases.{has_take}
use Rattle.pool_core.specs.Promise.{Pair, pair, run_by, waiting_take, met_by}
use Rattle.pool_core.proofs.After.{IsWorker, worker-from}
use Rattle.pool_core.proofs.Free.{free-below, free-absent}
use Rattle.pool_core.proofs.Seats.{ltb_tells, stage-at}
use Rattle.pool_core.proofs.Stays.{Takes, takes-from}

-- two tests, counted
pub one-split : (b x : Bool) → one (b && x) + one (b && not x) ≡ one b
one-split true true = refl
one-split true false = refl
one-split false x = refl

pub one-less : (b x : Bool) → one (b && x) ≤ one b
one-less b x = omega (arith, one-split b x)

-- a worker comes to another stage
pub count-set : (q : Stage ℕ → Bool) (w : ℕ) (workers : List (Stage ℕ)) (was st : Stage ℕ) → w < length workers → get_or workers w Absent ≡ was → count_by q (set workers w st) + one (q was) ≡ count_by q workers + one (q st)
count-set q w workers was st there is =
    let whole : count_by q (set workers w st) + one (q (get_or workers w Absent)) ≡ count_by q workers + one (q st) = sum_by-set (λ x. one (q x)) workers w st Absent there in
    let old : one (q (get_or workers w Absent)) ≡ one (q was) = ap (λ x. one (q x)) is in
    omega (arith, whole, old)

-- what no worker passes is counted nowhere
count-nowhere : (q : Stage ℕ → Bool) (workers : List (Stage ℕ)) → ((k : ℕ) → q (get_or workers k Absent) ≡ false) → count_by q workers ≡ 0
count-nowhere q [] none = refl
count-nowhere q (st ∷ workers) none =
    let first : one (q st) ≡ 0 = ap one (none zero) in
    omega (arith, count-cons q st workers, first, count-nowhere q workers (λ k. none (suc k)))

-- who runs a job out of the line does nothing else to the workers
pub workers-taken : (s : Settings) (p : Pool ℕ) (st : Stage ℕ) → (taken s p st).workers ≡ p.workers
workers-taken s p Absent = refl
workers-taken s p (Starting None) = refl
workers-taken s p (Starting (Some task)) = refl
workers-taken s p (Waiting x) = refl
workers-taken s p (Cut x) = refl
workers-taken s p (HandedOver x task) = refl
workers-taken s p (Running x) = refl

-- a ticket that wasn't drawn yet
abbrev pub coming : (last t : ℕ) → ℕ
coming last t = one (ltb last t)

pub newer : (last n t : ℕ) → coming (max last n) t ≤ coming last t
newer last n t = by_test (ltb_tells last t) (ltb_tells (max last n) t)
  where
    by_test : ((ltb last t ≡ true) × (last < t)) ⊎ ((ltb last t ≡ false) × (t ≤ last)) → ((ltb (max last n) t ≡ true) × (max last n < t)) ⊎ ((ltb (max last n) t ≡ false) × (t ≤ max last n)) → coming (max last n) t ≤ coming last t
    by_test (inl h) (inl k) = let a : coming last t ≡ 1 = ap one h.0 in let b : coming (max last n) t ≡ 1 = ap one k.0 in omega (arith, a, b)
    by_test (inl h) (inr k) = let b : coming (max last n) t ≡ 0 = ap one k.0 in omega (arith, b)
    by_test (inr h) (inl k) = let low : t ≤ last = h.1 in let high : max last n < t = k.1 in absurd (omega arith)
    by_test (inr h) (inr k) = let b : coming (max last n) t ≡ 0 = ap one k.0 in omega (arith, b)

pub drawn : (last n t : ℕ) → last < n → coming (max last n) t + one (n == t) ≤ coming last t
drawn last n t above = by_test (eqb_tells n t)
  where
    by_test : ((eqb n t ≡ true) × (n ≡ t)) ⊎ ((eqb n t ≡ false) × ((n ≡ t) → ⊥)) → coming (max last n) t + one (n == t) ≤ coming last t
    by_test (inl h) = by_order (ltb_tells last t) (ltb_tells (max last n) t)
      where
        own : n ≡ t
        own = h.1

        by_order : ((ltb last t ≡ true) × (last < t)) ⊎ ((ltb last t ≡ false) × (t ≤ last)) → ((ltb (max last n) t ≡ true) × (max last n < t)) ⊎ ((ltb (max last n) t ≡ false) × (t ≤ max last n)) → coming (max last n) t + one (n == t) ≤ coming last t
        by_order (inl a) (inr b) = let x : coming last t ≡ 1 = ap one a.0 in let y : coming (max last n) t ≡ 0 = ap one b.0 in let z : one (n == t) ≡ 1 = ap one h.0 in omega (arith, x, y, z)
        by_order (inl a) (inl b) = let high : max last n < t = b.1 in absurd (omega (arith, own))
        by_order (inr a) b = let low : t ≤ last = a.1 in absurd (omega (arith, own))
    by_test (inr h) = let z : one (n == t) ≡ 0 = ap one h.0 in omega (arith, z, newer last n t)

module _ (c : Bool) (h : ℕ → Bool) (t : ℕ) where
  -- whether a worker has this take: that waits, that was cut where `c` says so, or that was handed a job of `h`
  abbrev pub holds_it : Stage ℕ → Bool
  holds_it Absent = false
  holds_it (Starting first) = false
  holds_it (Waiting v) = v == t
  holds_it (Cut v) = (v == t) && c
  holds_it (HandedOver v task) = (v == t) && h task.ticket
  holds_it (Running v) = false

  -- how many starts of it there are with a job of `h`, and how many handings over of another job
  abbrev pub starts_it : List Pair → ℕ
  starts_it pairs = count_by (λ x. (x.take == t) && h x.job) pairs

  abbrev pub meets_it : List Pair → ℕ
  meets_it pairs = count_by (λ x. (x.take == t) && not (h x.job)) pairs

  -- whether a deed ends it without a job
  abbrev pub ends_it : (ticket : ℕ) → PoolDeed ℕ → ℕ
  ends_it n (Handed w tag) = 0
  ends_it n (Started w tag) = 0
  ends_it n (Kept tag) = 0
  ends_it n (KeptStart w tag) = 0
  ends_it n (Aborted tag) = 0
  ends_it n (CallerRuns tag) = 0
  ends_it n (Dropped tag) = 0
  ends_it n (DroppedOldest u old tag) = 0
  ends_it n (Runs u tag) = 0
  ends_it n Waits = 0
  ends_it n Exits = one ((n == t) && c)
  ends_it n (Finished a) = 0
  ends_it n IdleExit = one ((n == t) && c)
  ends_it n Leaves = 0
  ends_it n StartFailed = 0
  ends_it n ShutDown = 0
  ends_it n (ShutDownNow count) = 0

  cut-less : (workers : List (Stage ℕ)) → count_by holds_it (map cut_stage workers) ≤ count_by holds_it workers
  cut-less [] = omega arith
  cut-less (st ∷ workers) = omega (arith, cut-less workers, one-cut st, count-cons holds_it (cut_stage st) (map cut_stage workers), count-cons holds_it st workers)
    where
      one-cut : (st : Stage ℕ) → one (holds_it (cut_stage st)) ≤ one (holds_it st)
      one-cut Absent = omega arith
      one-cut (Starting first) = omega arith
      one-cut (Waiting v) = one-less (v == t) c
      one-cut (Cut v) = omega arith
      one-cut (HandedOver v task) = omega arith
      one-cut (Running v) = omega arith

  module _ (s : Settings) (p : Pool ℕ) (last i n : ℕ) (sound : IsSound s p (last + 1)) where
    -- what is left of a take, and what a deed spends of it, is no more than there was
    abbrev pub Spends : PoolDeed ℕ → Type 0
    Spends deed = count_by holds_it (after s p i n deed).workers + coming (max last n) t + starts_it (option_to_list (option_map (pair n) (run_by deed)))
        + meets_it (option_to_list (option_map (λ v. pair v n) (met_by p deed))) + ends_it n deed ≤ count_by holds_it p.workers + coming last t

    at-worker : (was st : Stage ℕ) → IsWorker s p i was → count_by holds_it (set p.workers (i - s.sizes.callers) st) + one (holds_it was) ≡ count_by holds_it p.workers + one (holds_it st)
    at-worker was st at = count-set holds_it (i - s.sizes.callers) p.workers was st at.there at.stage

    at-free : (w : ℕ) (st : Stage ℕ) → free p ≡ Some w → count_by holds_it (set p.workers w st) ≡ count_by holds_it p.workers + one (holds_it st)
    at-free w st is = omega (arith, count-set holds_it w p.workers Absent st (free-below p.workers w is) (free-absent p.workers w is))

    run-spends : (u tag : ℕ) (st : Stage ℕ) → stage_of s p i ≡ st → IsOwn st n → job_for s p st ≡ Some (record { ticket = u; job = tag }) → (0 < stage_draws st → last < n) → count_by holds_it (set p.workers (i - s.sizes.callers) (Running u)) + coming (max last n) t + one ((n == t) && h u) ≤ count_by holds_it p.workers + coming last t
    run-spends u tag Absent own has is fresh = absurd has
    run-spends u tag (Starting first) own has is fresh =
        omega (arith, at-worker (Starting first) (Running u) (worker-from s p i (Starting first) refl own), drawn last n t (fresh (omega arith)), one-less (n == t) (h u))
    run-spends u tag (Waiting x) own has is fresh = cc
    run-spends u tag (Cut x) own has is fresh = cc
    run-spends u tag (HandedOver x task) own has is fresh =
        let same : ◌≡◌ {A = Task ℕ} task (record { ticket = u; job = tag }) = cc in
        let equal : one ((n == t) && h u) ≡ one ((x == t) && h task.ticket) = ap (λ k. one ((k == t) && h u)) has ∙ ap (λ (y : Task ℕ). one ((x == t) && h y.ticket)) (sym same) in
        omega (arith, at-worker (HandedOver x task) (Running u) (worker-from s p i (HandedOver x task) refl own), equal, newer last n t)
    run-spends u tag (Running x) own has is fresh = cc

    exit-spends : (st : Stage ℕ) → stage_of s p i ≡ st → IsOwn st n → MayExit s p st → (0 < stage_draws st → last < n) → count_by holds_it (set p.workers (i - s.sizes.callers) Absent) + coming (max last n) t + one ((n == t) && c) ≤ count_by holds_it p.workers + coming last t
    exit-spends Absent own has may fresh = absurd has
    exit-spends (Starting first) own has may fresh =
        omega (arith, at-worker (Starting first) Absent (worker-from s p i (Starting first) refl own), drawn last n t (fresh (omega arith)), one-less (n == t) c)
    exit-spends (Waiting x) own has may fresh = absurd may
    exit-spends (Cut x) own has may fresh =
        let equal : one ((n == t) && c) ≡ one ((x == t) && c) = ap (λ k. one ((k == t) && c)) has in
        omega (arith, at-worker (Cut x) Absent (worker-from s p i (Cut x) refl own), equal, newer last n t)
    exit-spends (HandedOver x task) own has may fresh = absurd may
    exit-spends (Running x) own has may fresh = absurd may

    pub spends : (deed : PoolDeed ℕ) → Allows s p i n deed → (0 < draws (stage_of s p i) deed → last < n) → Spends deed
    spends (Handed w tag) a fresh =
        let e = a.2.0 in
        let takes : Takes s p e = takes-from e sound a.2.1 in
        let number : e.seat - s.sizes.callers ≡ w = omega (arith, a.2.2) in
        let stage : get_or p.workers w Absent ≡ Waiting e.ticket = ap (λ k. get_or p.workers k Absent) (sym number) ∙ takes.stage in
        let there : w < length p.workers = subst (λ k. k < length p.workers) number takes.there in
        let task : Task ℕ = record { ticket = n; job = tag } in
        let same : count_by holds_it (after s p i n (Handed w tag)).workers ≡ count_by holds_it (set p.workers w (HandedOver e.ticket task)) = ap (λ o. count_by holds_it (option_map_or (λ (f : Entry ℕ). staged (met_one s p) w (HandedOver f.ticket task)) o p).workers) a.2.1 in
        let met : meets_it (option_to_list (option_map (λ v. pair v n) (met_by p (Handed w tag)))) ≡ meets_it (pair e.ticket n ∷ []) = ap (λ st. meets_it (option_to_list (option_map (λ v. pair v n) (waiting_take st)))) stage in
        omega (arith, same, met, count-cons (λ x. (x.take == t) && not (h x.job)) (pair e.ticket n) [], count-set holds_it w p.workers (Waiting e.ticket) (HandedOver e.ticket task) there stage, one-split (e.ticket == t) (h n), newer last n t)
    spends (Started w tag) a fresh = omega (arith, at-free w (Starting (Some (record { ticket = n; job = tag }))) a.2, newer last n t)
    spends (Kept tag) a fresh = omega (arith, newer last n t)
    spends (KeptStart w tag) a fresh = omega (arith, at-free w (Starting None) a.3, newer last n t)
    spends (Aborted tag) a fresh = omega (arith, newer last n t)
    spends (CallerRuns tag) a fresh = omega (arith, newer last n t)
    spends (Dropped tag) a fresh = omega (arith, newer last n t)
    spends (DroppedOldest u old tag) a fresh = omega (arith, newer last n t)
    spends (Runs u tag) a fresh =
        let workers : count_by holds_it (after s p i n (Runs u tag)).workers ≡ count_by holds_it (set p.workers (i - s.sizes.callers) (Running u)) = ap (λ ws. count_by holds_it (set ws (worker_of s i) (Running u))) (workers-taken s p (stage_of s p i)) in
        omega (arith, workers, run-spends u tag (stage_of s p i) refl a.0 a.1 fresh, count-cons (λ x. (x.take == t) && h x.job) (pair n u) [])
    spends Waits a fresh =
        let one_drawn : stage_draws (stage_of s p i) ≡ 1 = ap stage_draws a.0 in
        omega (arith, at-worker (Starting None) (Waiting n) (worker-from s p i (Starting None) refl a.0), drawn last n t (fresh (omega (arith, one_drawn))))
    spends Exits a fresh = omega (arith, exit-spends (stage_of s p i) refl a.0 a.1 fresh)
    spends (Finished x) a fresh = omega (arith, at-worker (Running n) (Starting None) (worker-from s p i (Running n) refl a), newer last n t)
    spends IdleExit a fresh = omega (arith, at-worker (Waiting n) Absent (worker-from s p i (Waiting n) refl a.0), one-less (n == t) c, newer last n t)
    spends Leaves a fresh = omega (arith, at-worker (Starting None) Absent (worker-from s p i (Starting None) refl a.0), newer last n t)
    spends StartFailed a fresh = omega (arith, at-worker (Starting a.0) Absent (worker-from s p i (Starting a.0) refl a.1), newer last n t)
    spends ShutDown a fresh = omega (arith, cut-less p.workers, newer last n t)
    spends (ShutDownNow count) a fresh = omega (arith, cut-less p.workers, newer last n t)

-- all that have it, in any way
pub holds-all : (t : ℕ) (workers : List (Stage ℕ)) → count_by (holds_it true (λ u. true) t) workers ≡ count_by (has_take t) workers
holds-all t workers = count-same (holds_it true (λ u. true) t) (has_take t) same workers
  where
    and-true : (b : Bool) → (b && true) ≡ b
    and-true true = refl
    and-true false = refl

    same : (st : Stage ℕ) → holds_it true (λ u. true) t st ≡ has_take t st
    same Absent = refl
    same (Starting first) = refl
    same (Waiting v) = refl
    same (Cut v) = and-true (v == t)
    same (HandedOver v task) = and-true (v == t)
    same (Running v) = refl

-- a take that wasn't drawn yet is no worker's
pub untaken : (s : Settings) (p : Pool ℕ) (last t : ℕ) → IsSound s p (last + 1) → last < t → count_by (has_take t) p.workers ≡ 0
untaken s p last t sound above = count-nowhere (has_take t) p.workers (λ k. by_test k (has_take t (get_or p.workers k Absent)) refl)
  where
    is-open : (st : Stage ℕ) → has_take t st ≡ true → open_ticket (hold_of st) ≡ Some t
    is-open Absent is = cc
    is-open (Starting first) is = cc
    is-open (Waiting v) is = ap (λ n. Some n) (eqb-true v t is)
    is-open (Cut v) is = ap (λ n. Some n) (eqb-true v t is)
    is-open (HandedOver v task) is = ap (λ n. Some n) (eqb-true v t is)
    is-open (Running v) is = cc

    by_test : (k : ℕ) (b : Bool) → has_take t (get_or p.workers k Absent) ≡ b → has_take t (get_or p.workers k Absent) ≡ false
    by_test k false is = is
    by_test k true is =
        let own : s.sizes.callers + k - s.sizes.callers ≡ k = omega arith in
        let at : stage_of s p (s.sizes.callers + k) ≡ get_or p.workers k Absent = stage-at s p (s.sizes.callers + k) (omega arith) ∙ ap (λ n. get_or p.workers n Absent) own in
        let below : t < last + 1 = sound.lined.opened (s.sizes.callers + k) t (ap (λ st. open_ticket (hold_of st)) at ∙ is-open (get_or p.workers k Absent) is) in
        absurd (omega arith)

-- a take that is one worker's stays one worker's
pub taken-once : (s : Settings) (p : Pool ℕ) (last i n : ℕ) → IsSound s p (last + 1) → (deed : PoolDeed ℕ) → Allows s p i n deed → (0 < draws (stage_of s p i) deed → last < n) → (t : ℕ) → count_by (has_take t) p.workers ≤ 1 → count_by (has_take t) (after s p i n deed).workers ≤ 1
taken-once s p last i n sound deed allowed fresh t few = by_test (ltb_tells last t)
  where
    whole : Spends true (λ u. true) t s p last i n sound deed
    whole = spends true (λ u. true) t s p last i n sound deed allowed fresh

    by_test : ((ltb last t ≡ true) × (last < t)) ⊎ ((ltb last t ≡ false) × (t ≤ last)) → count_by (has_take t) (after s p i n deed).workers ≤ 1
    by_test (inl h) = let none = untaken s p last t sound h.1 in let own : coming last t ≡ 1 = ap one h.0 in omega (arith, whole, none, own, holds-all t p.workers, holds-all t (after s p i n deed).workers)
    by_test (inr h) = let own : coming last t ≡ 0 = ap one h.0 in omega (arith, whole, few, own, holds-all t p.workers, holds-all t (after s p i n deed).workers)
