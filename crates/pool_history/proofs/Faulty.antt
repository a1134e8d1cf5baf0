-- A record with a fault isn't a step, and the prefix that it ends isn't legal.
use Rattle.std.proofs.Common.{◌≡◌, ℕ, ◌+◌, ◌-◌, ◌<◌, ◌≤◌, ◌&&◌, sym, ap, ◌∙◌, subst, cond, true, false, Some, None, List, [], ◌∷◌, ◌++◌, length, append_assoc, refl, arith, ltb, leb, ◌⊎◌, inl, inr}
use Rattle.std.proofs.lemmas.Bool.Decides.{leb_tells}
use Rattle.meet_tickets.specs.declared.records.Record.{Record}
use Rattle.pool_core.specs.declared.settings.Settings.{Settings}
use Rattle.pool_core.specs.declared.stages.Stage.{Stage}
use Rattle.pool_core.specs.declared.stages.Stage.TheVariants.{Absent, Starting, Waiting, Cut, HandedOver, Running}
use Rattle.pool_core.specs.declared.deeds.PoolDeed.{PoolDeed}
use Rattle.pool_core.specs.declared.deeds.PoolDeed.TheVariants.{Handed, Started, Kept, KeptStart, Aborted, CallerRuns, Dropped, DroppedOldest, Runs, Waits, Exits, Finished, IdleExit, Leaves, StartFailed, ShutDown, ShutDownNow}
use Rattle.pool_core.specs.Pools.{Pool, is_there, stage_of}
use Rattle.pool_core.specs.Calls.{is_worker}
use Rattle.pool_core.specs.Steps.{Allows, IsOwn, MayExit, job_for}
use Rattle.pool_core.specs.Histories.{Moment, Based, IsStep, IsLegalFrom, IsLegalOn, moment_of_base, moment_from, next_moment}
use Rattle.pool_core.specs.Sound.{IsSound}
use Rattle.pool_core.specs.Bases.{IsWellFormed, IsOrderly}
use Rattle.pool_core.proofs.After.{IsWorker, worker-from}
use Rattle.pool_core.proofs.Seats.{ltb_tells}
use Rattle.pool_core.proofs.Orderly.{orderly-from}
use Rattle.pool_history.specs.declared.checker.PoolWhy.{PoolWhy}
use Rattle.pool_history.specs.declared.checker.PoolWhy.TheVariants.{NoSuchSeat, NotOpen, TicketOrder, WrongReply}
use Rattle.pool_history.specs.Checking.{is_callers, is_seated, comes_from, IsOpen, IsFaulty, IsIllegalAt}

-- a caller's seat
caller-seat : (s : Settings) (i : ℕ) → i < s.sizes.callers → ltb i s.sizes.callers ≡ true
caller-seat s i below = by_test (ltb_tells i s.sizes.callers)
  where
    by_test : ((ltb i s.sizes.callers ≡ true) × (i < s.sizes.callers)) ⊎ ((ltb i s.sizes.callers ≡ false) × (s.sizes.callers ≤ i)) → ltb i s.sizes.callers ≡ true
    by_test (inl h) = h.0
    by_test (inr h) = absurd (let above : s.sizes.callers ≤ i = h.1 in omega (arith, above, below))

-- the seat of a worker that is there
worker-seat : (s : Settings) (p : Pool ℕ) (next i : ℕ) (st : Stage ℕ) → IsSound s p next → stage_of s p i ≡ st → is_there st ≡ true → is_worker s i ≡ true
worker-seat s p next i st sound is there = by_tests (leb_tells s.sizes.callers i) (ltb_tells i (s.sizes.callers + s.sizes.maximum))
  where
    at : IsWorker s p i st
    at = worker-from s p i st there is

    by_tests : ((leb s.sizes.callers i ≡ true) × (s.sizes.callers ≤ i)) ⊎ ((leb s.sizes.callers i ≡ false) × (i < s.sizes.callers)) → ((ltb i (s.sizes.callers + s.sizes.maximum) ≡ true) × (i < s.sizes.callers + s.sizes.maximum)) ⊎ ((ltb i (s.sizes.callers + s.sizes.maximum) ≡ false) × (s.sizes.callers + s.sizes.maximum ≤ i)) → is_worker s i ≡ true
    by_tests (inl h) (inl k) = (λ j. h.0 j && k.0 j)
    by_tests (inl h) (inr k) = absurd (let count : length p.workers ≡ s.sizes.maximum = sound.count in let above : s.sizes.callers + s.sizes.maximum ≤ i = k.1 in let below : i - s.sizes.callers < length p.workers = at.there in omega (arith, count, above, below))
    by_tests (inr h) k = absurd (let from : s.sizes.callers ≤ i = at.from in let below : i < s.sizes.callers = h.1 in omega (arith, from, below))

-- who has a ticket open, or may draw one, is there
own-there : (st : Stage ℕ) (t : ℕ) → IsOwn st t → is_there st ≡ true
own-there Absent t own = absurd own
own-there (Starting first) t own = refl
own-there (Waiting u) t own = refl
own-there (Cut u) t own = refl
own-there (HandedOver u task) t own = refl
own-there (Running u) t own = refl

module _ (s : Settings) (p : Pool ℕ) (next i t : ℕ) (sound : IsSound s p next) where
  -- a worker's step that is allowed is of a worker's seat
  at-worker : (deed : PoolDeed ℕ) → (st : Stage ℕ) → stage_of s p i ≡ st → is_there st ≡ true → is_callers deed ≡ false → is_seated s i deed ≡ true
  at-worker deed st is there own = subst (λ b. cond b (ltb i s.sizes.callers) (is_worker s i) ≡ true) (sym own) (worker-seat s p next i st sound is there)

  -- a step that is allowed is of the right seat
  seated-of : (deed : PoolDeed ℕ) → Allows s p i t deed → is_seated s i deed ≡ true
  seated-of (Handed w tag) allowed = caller-seat s i allowed.0
  seated-of (Started w tag) allowed = caller-seat s i allowed.0
  seated-of (Kept tag) allowed = caller-seat s i allowed.0
  seated-of (KeptStart w tag) allowed = caller-seat s i allowed.0
  seated-of (Aborted tag) allowed = caller-seat s i allowed.0
  seated-of (CallerRuns tag) allowed = caller-seat s i allowed.0
  seated-of (Dropped tag) allowed = caller-seat s i allowed.0
  seated-of (DroppedOldest u old tag) allowed = caller-seat s i allowed.0
  seated-of (Runs u tag) allowed = worker-seat s p next i (stage_of s p i) sound refl (own-there (stage_of s p i) t allowed.0)
  seated-of Waits allowed = worker-seat s p next i (Starting None) sound allowed.0 refl
  seated-of Exits allowed = worker-seat s p next i (stage_of s p i) sound refl (own-there (stage_of s p i) t allowed.0)
  seated-of (Finished a) allowed = worker-seat s p next i (Running t) sound allowed refl
  seated-of IdleExit allowed = worker-seat s p next i (Waiting t) sound allowed.0 refl
  seated-of Leaves allowed = worker-seat s p next i (Starting None) sound allowed.0 refl
  seated-of StartFailed allowed = worker-seat s p next i (Starting allowed.0) sound allowed.1 refl
  seated-of ShutDown allowed = caller-seat s i allowed.0
  seated-of (ShutDownNow count) allowed = caller-seat s i allowed.0

  runs-from : (u tag : ℕ) (st : Stage ℕ) → job_for s p st ≡ Some (record { ticket = u; job = tag }) → comes_from st (Runs u tag) ≡ true
  runs-from u tag Absent is = cc
  runs-from u tag (Starting first) is = refl
  runs-from u tag (Waiting v) is = cc
  runs-from u tag (Cut v) is = cc
  runs-from u tag (HandedOver v task) is = refl
  runs-from u tag (Running v) is = cc

  exits-from : (st : Stage ℕ) → MayExit s p st → comes_from st Exits ≡ true
  exits-from Absent may = absurd may
  exits-from (Starting first) may = refl
  exits-from (Waiting v) may = absurd may
  exits-from (Cut v) may = refl
  exits-from (HandedOver v task) may = absurd may
  exits-from (Running v) may = absurd may

  -- at a stage that is known
  open-at : (deed : PoolDeed ℕ) (st : Stage ℕ) → stage_of s p i ≡ st → comes_from st deed ≡ true → IsOwn st t → IsOpen s p (record { seat = i; ticket = t; deed = deed })
  open-at deed st is from own = (ap (λ x. comes_from x deed) is ∙ from, subst (λ x. IsOwn x t) (sym is) own)

  -- a worker's step that is allowed comes from its state, with its ticket
  open-of : (deed : PoolDeed ℕ) → is_callers deed ≡ false → Allows s p i t deed → IsOpen s p (record { seat = i; ticket = t; deed = deed })
  open-of (Handed w tag) other allowed = cc
  open-of (Started w tag) other allowed = cc
  open-of (Kept tag) other allowed = cc
  open-of (KeptStart w tag) other allowed = cc
  open-of (Aborted tag) other allowed = cc
  open-of (CallerRuns tag) other allowed = cc
  open-of (Dropped tag) other allowed = cc
  open-of (DroppedOldest u old tag) other allowed = cc
  open-of (Runs u tag) other allowed = (runs-from u tag (stage_of s p i) allowed.1, allowed.0)
  open-of Waits other allowed = open-at Waits (Starting None) allowed.0 refl tt
  open-of Exits other allowed = (exits-from (stage_of s p i) allowed.1, allowed.0)
  open-of (Finished a) other allowed = open-at (Finished a) (Running t) allowed refl refl
  open-of IdleExit other allowed = open-at IdleExit (Waiting t) allowed.0 refl refl
  open-of Leaves other allowed = open-at Leaves (Starting None) allowed.0 refl tt
  open-of StartFailed other allowed = open-at StartFailed (Starting allowed.0) allowed.1 refl tt
  open-of ShutDown other allowed = cc
  open-of (ShutDownNow count) other allowed = cc

-- a record with a fault is no step
pub unfit : (s : Settings) (m : Moment) (r : Record (PoolDeed ℕ)) (why : PoolWhy) → IsOrderly s m → IsFaulty s m r why → IsStep s m r → ⊥
unfit s m r NoSuchSeat orderly faulty step =
    let seated : is_seated s r.seat r.deed ≡ true = seated-of s m.pool (m.last + 1) r.seat r.ticket orderly.sound r.deed step.allowed in
    let clash : true ≡ false = sym seated ∙ faulty in cc
unfit s m r NotOpen orderly faulty step = faulty.2 (open-of s m.pool (m.last + 1) r.seat r.ticket orderly.sound r.deed faulty.1 step.allowed)
unfit s m r TicketOrder orderly faulty step =
    let above : m.last < r.ticket = (step.above faulty.1).0 in
    let below : r.ticket ≤ m.last = faulty.2 in omega (arith, above, below)
unfit s m r WrongReply orderly faulty step = faulty.2 step.allowed

-- what comes last in a legal history is a step
last-steps : (s : Settings) (m : Moment) (xs : List (Record (PoolDeed ℕ))) (r : Record (PoolDeed ℕ)) → IsLegalFrom s m (xs ++ r ∷ []) → IsStep s (moment_from s m xs) r
last-steps s m [] r legal = legal.0
last-steps s m (x ∷ xs) r legal = last-steps s (next_moment s m x) xs r legal.1

-- and a step goes on a legal history
pub legal-on : (s : Settings) (m : Moment) (xs : List (Record (PoolDeed ℕ))) (r : Record (PoolDeed ℕ)) → IsLegalFrom s m xs → IsStep s (moment_from s m xs) r → IsLegalFrom s m (xs ++ r ∷ [])
legal-on s m [] r legal step = (step, tt)
legal-on s m (x ∷ xs) r legal step = (legal.0, legal-on s (next_moment s m x) xs r legal.1 step)

-- so behind legal records it is the last of the shortest prefix that isn't legal
pub illegal-at : (s : Settings) (base : Based) (past : List (Record (PoolDeed ℕ))) (r : Record (PoolDeed ℕ)) (why : PoolWhy) → IsWellFormed s base → IsLegalOn s base past → IsFaulty s (moment_from s (moment_of_base s base) past) r why → IsIllegalAt s base (past ++ r ∷ []) (base.gone + length past + 1) why
illegal-at s base past r why well legal faulty = record {
  prefix = past;
  bad = r;
  rest = [];
  parts = refl;
  last = refl;
  legal = legal;
  illegal = λ longer. unfit s (moment_from s (moment_of_base s base) past) r why (orderly-from s (moment_of_base s base) past well legal) faulty (last-steps s (moment_of_base s base) past r longer);
  faulty = faulty;
}

-- whatever comes behind
pub illegal-on : (s : Settings) (base : Based) (past more : List (Record (PoolDeed ℕ))) (n : ℕ) (why : PoolWhy) → IsIllegalAt s base past n why → IsIllegalAt s base (past ++ more) n why
illegal-on s base past more n why found = record {
  prefix = found.prefix;
  bad = found.bad;
  rest = found.rest ++ more;
  parts = ap (λ xs. xs ++ more) found.parts ∙ append_assoc found.prefix (found.bad ∷ found.rest) more;
  last = found.last;
  legal = found.legal;
  illegal = found.illegal;
  faulty = found.faulty;
}
