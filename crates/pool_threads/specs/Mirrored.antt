-- The jobs and seats beside a pool, which are those that its core knows.
use Rattle.std.specs.Prelude.{◌≡◌, ◌≤◌, ℕ, Bool, not, Option, Some, List, map, option_map, is_none, slice_get, count_by}
use Rattle.meet_place.specs.Seats.{SeatView}
use Rattle.pool_core.specs.Moves.{Jobs, jobs_of}
use Rattle.pool_core.specs.Pools.{Pool}
use Rattle.pool_core.specs.declared.stages.Task.{Task}
use Rattle.pool_threads.specs.declared.jobs.Job.{Job}

module _ {C : Type 0} where
  abbrev pub tag_in : Job C → ℕ
  tag_in job = job.tag

  abbrev pub given_tag : Option (Job C) → Option ℕ
  given_tag one = option_map tag_in one

  -- the tags of these jobs, and which workers are there
  abbrev pub tags_of : List (Job C) → List (Option (Job C)) → List Bool → Jobs ℕ
  tags_of kept given there = record { kept = map tag_in kept; given = map given_tag given; there = there }

-- a worker is there whose seat doesn't lie here
abbrev pub away : {S : Type 0} → List (Option S) → List Bool
away {S} seats = map (λ (seat : Option S). is_none seat) seats

-- how many workers aren't there
abbrev pub absent : {X : Type 0} → Pool X → ℕ
absent p = count_by not (jobs_of p).there

-- the seat that lies here, if one does, has room for four receipts
abbrev pub HasFour : {D : Type 0} → List (Option (SeatView D)) → (w : ℕ) → Type 0
HasFour {D} seats w = (seat : SeatView D) → slice_get seats w ≡ Some (Some seat) → 4 ≤ seat.room

-- a kept job by its ticket and its tag
abbrev pub told_task : {C : Type 0} → ℕ × Job C → Task ℕ
told_task one = record { ticket = one.0; job = one.1.tag }
