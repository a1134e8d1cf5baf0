-- What stays true of a pool, at the next ticket `next`; the same in the pool's code and along every legal history.
use Rattle.std.specs.Prelude.{◌≡◌, ℕ, ◌+◌, ◌<◌, ◌≤◌, is_none, ⊤, MatchOption, None}
use Rattle.std.specs.Prelude.{length, All, AllPairs}
use Rattle.meet_tickets.specs.declared.lines.Hold.{Hold}
use Rattle.meet_tickets.specs.declared.lines.Hold.TheVariants.{Free, Waiting as Waits, Served, Cut as WasCut}
use Rattle.meet_tickets.specs.Meeting.{kept_count}
use Rattle.meet_line.specs.Sound.{IsSound as IsSoundLine}
use Rattle.pool_core.specs.declared.settings.Settings.{Settings}
use Rattle.pool_core.specs.declared.settings.Policy.TheVariants.{DiscardOldest}
use Rattle.pool_core.specs.declared.stages.Stage.{Stage}
use Rattle.pool_core.specs.declared.stages.Stage.TheVariants.{Absent, Starting, Waiting, Cut, HandedOver, Running}
use Rattle.pool_core.specs.Limits.{most_together}
use Rattle.pool_core.specs.Pools.{Pool, bound_of, stage_of, executed}

-- what a worker's seat has open in the line's eyes
abbrev pub hold_of : {X : Type 0} → Stage X → Hold X
hold_of Absent = Free
hold_of (Starting first) = Free
hold_of (Waiting t) = Waits t
hold_of (Cut t) = WasCut t None
hold_of (HandedOver t task) = Served t task.ticket task.job
hold_of (Running t) = Free

-- what the seats have open
abbrev pub holds_of : {X : Type 0} → Settings → Pool X → ℕ → Hold X
holds_of s p i = hold_of (stage_of s p i)

-- the sizes fit together, and a policy that drops a kept job has one to drop
pub record IsFit (s : Settings) : Type 0 where
  pub maximum : 0 < s.sizes.maximum
  pub core : s.sizes.core ≤ s.sizes.maximum
  pub seats : s.sizes.callers + s.sizes.maximum ≤ most_together
  pub buffer : s.policy ≡ DiscardOldest → MatchOption (bound_of s.queue) ⊤ (λ most. 0 < most)

-- what stays true of a pool
pub record IsSound {X : Type 0} (s : Settings) (p : Pool X) (next : ℕ) : Type 0 where
  pub fits : IsFit s
  pub lined : IsSoundLine p.line (holds_of s p) next
  pub takes : All (λ e. e.waits ≡ is_none e.item) p.line  -- takes wait, and jobs are kept
  pub count : length p.workers ≡ s.sizes.maximum
  pub counted : executed p < next  -- each job used a ticket
  pub within : MatchOption (bound_of s.queue) ⊤ (λ most. kept_count p.line ≤ most)
  pub risen : AllPairs (λ e f. e.ticket < f.ticket) p.line  -- who came earlier stands first
