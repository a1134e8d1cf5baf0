-- What stays true from turn to turn of `follow`, src/followers.rt.
use Rattle.std.proofs.Common.{◌≡◌, ◌+◌, take}
use Rattle.meet_c.specs.Followed.{TakesAll}
use Rattle.meet_c.proofs.followers.follow.Given as goal

-- the records so far were taken in
abbrev pub invariant-loop-entry : goal.invariant-loop-entry
invariant-loop-entry l = record {
  seen : TakesAll l.fn.follower.checker (take l.entry-index l.records) l.follower.checker;
  counts : l.follower.taken ≡ l.fn.follower.taken + l.entry-index;
  kind : l.follower.checker.place.kind ≡ l.fn.follower.checker.place.kind;
}
