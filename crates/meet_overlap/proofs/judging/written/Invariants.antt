-- What stays true from turn to turn of `written`, src/judging.rt.
use Rattle.meet_overlap.specs.Known.{AreLatest, IsRunThere}
use Rattle.meet_overlap.specs.Places.{latest_at, world_of}
use Rattle.meet_overlap.specs.Search.{start}
use Rattle.meet_overlap.proofs.judging.written.Given as goal

-- the events so far lead here, and the latest call of each seat is noted
abbrev pub invariant-loop-number : goal.invariant-loop-number
invariant-loop-number l = IsRunThere l.kind l.calls start l.history.items (world_of l.reached)
    × AreLatest l.calls (world_of l.reached).stages (latest_at l.latest.items)
