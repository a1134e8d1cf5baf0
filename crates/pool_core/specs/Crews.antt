-- The fields of a crew.
use Rattle.std.specs.Prelude.{◌≡◌, ◌≤◌, ◌*◌, not, length, count_by, sum_by, vec_len}
use Rattle.pool_core.specs.declared.crew.Crew.TheInside.{Inside}
use Rattle.pool_core.specs.declared.stages.Stage.TheVariants.{Absent, Running}
use Rattle.pool_core.specs.Limits.{most_together}
use Rattle.pool_core.specs.Calls.{is_running, is_cut}
use Rattle.pool_core.specs.Numbers.{Marks}
use Rattle.pool_core.specs.Pools.{is_there, stage_owes}

-- what is counted is what the stages count, and both sets of numbers are theirs: past the last number none is free, and
-- none is cut
pub record IsCounted {X : Type 0} (c : Inside X) : Type 0 where
  pub there : c.there ≡ count_by is_there c.stages.items
  pub running : c.running ≡ count_by is_running c.stages.items
  pub owes : c.owes ≡ sum_by stage_owes c.stages.items
  pub few : vec_len c.stages ≤ most_together
  pub free : Marks (λ stage. not (is_there stage)) (Running 0) c.stages.items c.free.words.items
  pub free_fits : vec_len c.stages ≤ 64 * length c.free.words.items
  pub cut : Marks is_cut Absent c.stages.items c.cut.words.items
  pub cut_fits : vec_len c.stages ≤ 64 * length c.cut.words.items
