-- What a record that is taken in leaves of a checked pool.
use Rattle.std.proofs.Common.{◌≡◌, ◌≢◌, ℕ, ◌+◌, ◌-◌, ◌<◌, ◌≤◌, refl, sym, ap, ◌∙◌, subst, cond, get_or, eqb, true, false, ◌⊎◌, inl, inr, is_some, is_none, Option, Some, None, List, [], ◌∷◌, filter, replicate, arith}
use Rattle.std.proofs.lemmas.Bool.Decides.{eqb_tells}
use Rattle.std.proofs.lemmas.Bool.{eq-eqb}
use Rattle.meet_tickets.specs.declared.lines.Entry.{Entry}
use Rattle.meet_tickets.specs.declared.places.End.{End}
use Rattle.meet_tickets.specs.declared.places.End.TheVariants.{Front, Back}
use Rattle.meet_tickets.specs.declared.places.Side.TheVariants.{Giver, Taker}
use Rattle.meet_tickets.specs.Limits.{last_ticket}
use Rattle.meet_tickets.specs.Meeting.{is_on, met, partner}
use Rattle.pool_core.specs.declared.settings.Settings.{Settings}
use Rattle.pool_core.specs.declared.stages.Task.{Task}
use Rattle.pool_core.specs.declared.stages.Stage.{Stage}
use Rattle.pool_core.specs.declared.stages.Stage.TheVariants.{Absent, Starting, Waiting, Cut, HandedOver, Running}
use Rattle.pool_core.specs.declared.deeds.PoolDeed.{PoolDeed}
use Rattle.pool_core.specs.Pools.{Pool, queue_end, stage_of, task_at}
use Rattle.pool_core.specs.Steps.{Allows, draws, job_for, oldest, taken}
use Rattle.pool_core.specs.Calls.{settings_refusal}
use Rattle.pool_core.specs.Histories.{Moment, moment_of_base, next_moment, no_base, nobody}
use Rattle.pool_core.specs.Sound.{IsSound}
use Rattle.pool_core.specs.Bases.{IsOrderly}
use Rattle.pool_core.proofs.Crowd.{back-empty}
use Rattle.pool_core.proofs.Founded.{leads-new}
use Rattle.pool_core.proofs.Orderly.{orderly-next}
use Rattle.pool_core.proofs.Working.{oldest-none, stage-own}

-- a record that is a step leaves the pool orderly, where it leaves it like this
pub orderly-at : (s : Settings) (m new : Moment) (i t : ℕ) (deed : PoolDeed ℕ) → IsOrderly s m → t ≤ last_ticket → (0 < draws (stage_of s m.pool i) deed → m.last < t) → Allows s m.pool i t deed → new ≡ next_moment s m (record { seat = i; ticket = t; deed = deed }) → IsOrderly s new
orderly-at s m new i t deed orderly few above allowed same =
    subst (IsOrderly s) (sym same) (orderly-next s m (record { seat = i; ticket = t; deed = deed }) orderly (record { above = λ some. (above some, few); allowed = allowed }))

-- what the worker of a seat does
pub stage-here : (s : Settings) (p : Pool ℕ) (i w : ℕ) (st : Stage ℕ) → i ≡ s.sizes.callers + w → get_or p.workers w Absent ≡ st → stage_of s p i ≡ st
stage-here s p i w st own is = stage-own (record { settings = s; pool = p; next = 0; room = 0 }) i w st own is

-- a line without givers has none to meet
none-given : (end : End) (line : List (Entry ℕ)) → filter (is_on Giver) line ≡ [] → partner end line Taker ≡ None
none-given end [] none = refl
none-given end (e ∷ line) none = by_item e.item refl
  where
    by_item : (o : Option ℕ) → e.item ≡ o → partner end (e ∷ line) Taker ≡ None
    by_item None is = ap (λ o. cond (is_none o) None (met end (e ∷ line))) is
    by_item (Some job) is = absurd (let some : ◌≡◌ {A = List (Entry ℕ)} (e ∷ filter (is_on Giver) line) [] = ap (λ o. cond (is_some o) (e ∷ filter (is_on Giver) line) (filter (is_on Giver) line)) (sym is) ∙ none in cc)

-- no job is kept where none stands at the front, or the line is met at its back
pub oldest-unless : (s : Settings) (p : Pool ℕ) (next : ℕ) → IsSound s p next → (queue_end s.queue ≡ Front → partner Front p.line Taker ≡ None) → oldest s p ≡ None
oldest-unless s p next sound front = by_end (queue_end s.queue) refl
  where
    by_end : (end : End) → queue_end s.queue ≡ end → oldest s p ≡ None
    by_end Front is = oldest-none s p (subst (λ end. partner end p.line Taker ≡ None) (sym is) (front is))
    by_end Back is = oldest-none s p (none-given (queue_end s.queue) p.line (back-empty sound is))

-- a new pool, before any record
pub new-moment : (s : Settings) → moment_of_base s no_base ≡ record { last = 0; pool = nobody (replicate s.sizes.maximum Absent) }
new-moment s = let whole : s.sizes.maximum - 0 ≡ s.sizes.maximum = omega arith in ap (λ n. record { last = 0; pool = nobody (replicate n Absent) }) whole

pub new-orderly : (s : Settings) → settings_refusal s ≡ None → IsOrderly s (moment_of_base s no_base)
new-orderly s admitted = (leads-new (λ tag. tag) (record { settings = s; pool = nobody (replicate s.sizes.maximum Absent); next = 1; room = 0 }) admitted refl refl).well_formed

-- who has a job in hand runs that, and takes none out of the line
pub hand-job : (s : Settings) (p : Pool ℕ) (st : Stage ℕ) (task : Task ℕ) → task_at st ≡ Some task → job_for s p st ≡ Some task
hand-job s p Absent task is = cc
hand-job s p (Starting None) task is = cc
hand-job s p (Starting (Some own)) task is = is
hand-job s p (Waiting t) task is = cc
hand-job s p (Cut t) task is = cc
hand-job s p (HandedOver t own) task is = is
hand-job s p (Running t) task is = cc

pub hand-taken : (s : Settings) (p : Pool ℕ) (st : Stage ℕ) (task : Task ℕ) → task_at st ≡ Some task → taken s p st ≡ p
hand-taken s p Absent task is = refl
hand-taken s p (Starting None) task is = cc
hand-taken s p (Starting (Some own)) task is = refl
hand-taken s p (Waiting t) task is = refl
hand-taken s p (Cut t) task is = refl
hand-taken s p (HandedOver t own) task is = refl
hand-taken s p (Running t) task is = refl

-- the worker of the seat that is met
pub met-worker : (n seat callers worker : ℕ) → n ≡ seat → callers ≤ seat → eqb (n - callers) worker ≡ true → seat ≡ callers + worker
met-worker n seat callers worker value from is = by_test (eqb_tells (n - callers) worker)
  where
    by_test : ((eqb (n - callers) worker ≡ true) × (n - callers ≡ worker)) ⊎ ((eqb (n - callers) worker ≡ false) × (n - callers ≢ worker)) → seat ≡ callers + worker
    by_test (inl h) = let own : n - callers ≡ worker = h.1 in omega arith
    by_test (inr h) = absurd (let no : false ≡ true = sym h.0 ∙ is in cc)

pub worker-met : (n seat callers worker : ℕ) → n ≡ seat → seat ≡ callers + worker → eqb (n - callers) worker ≡ true
worker-met n seat callers worker value is = eq-eqb (n - callers) worker (omega (arith, value, is))
