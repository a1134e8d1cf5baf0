-- What the search keeps in memory, and what that stands for.
use Rattle.std.specs.Prelude.{ℕ, ◌-◌, nat_lt, Bool, false, List, slice_index_or, if◌then◌else◌}
use Rattle.meet_tickets.specs.declared.lines.Hold.{Hold}
use Rattle.meet_tickets.specs.declared.lines.Hold.TheVariants.{Free}
use Rattle.meet_tickets.specs.BySeat.{Moment}
use Rattle.meet_overlap.specs.declared.calls.Stage.{Stage}
use Rattle.meet_overlap.specs.declared.calls.Stage.TheVariants.{Ahead, Over}
use Rattle.meet_overlap.specs.declared.stages.Window.{Window}
use Rattle.meet_overlap.specs.declared.place.Place.{Place}
use Rattle.meet_overlap.specs.declared.world.Reached.{Reached}
use Rattle.meet_overlap.specs.Search.{World}

-- what a seat holds; a seat that isn't there holds nothing
abbrev pub hold_at : List (Hold ℕ) → ℕ → Hold ℕ
hold_at holds seat = slice_index_or holds seat Free

-- whether a seat is flagged; one that isn't there never is
abbrev pub flag_at : List Bool → ℕ → Bool
flag_at flags seat = slice_index_or flags seat false

-- the latest call of a seat that has begun; the first where none has
abbrev pub latest_at : List ℕ → ℕ → ℕ
latest_at latest seat = slice_index_or latest seat 0

-- how far a call is, where the window begins at the call of this number: over before it, and ahead behind it
abbrev pub stage_in : (first : ℕ) → List Stage → ℕ → Stage
stage_in first stages number = if nat_lt number first then Over else slice_index_or stages (number - first) Ahead

-- how far a call is, as the window tells
abbrev pub stage_at : Window → ℕ → Stage
stage_at window = stage_in window.first window.stages.items

-- where the place is
abbrev pub scene : Place → Moment
scene p = record {
  last = p.last;
  seats = record { line = p.line; holds = hold_at p.holds.items; flags = flag_at p.flags.items };
}

-- what the events so far left
abbrev pub world_of : Reached → World
world_of r = record { moment = scene r.place; stages = stage_at r.window; time = r.time }
