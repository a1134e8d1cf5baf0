-- What stays true from turn to turn of `check`, src/checker.rt.
use Rattle.std.proofs.Common.{◌≡◌, None, take}
use Rattle.meet_history.specs.Pushing.{HasSeen}
use Rattle.meet_history.proofs.checker.check.Given as goal

-- the checker has seen the records so far
abbrev pub invariant-loop-entry : goal.invariant-loop-entry
invariant-loop-entry l = record {
  kind : l.checker.place.kind ≡ l.fn.kind;
  sound : l.checker.fault ≡ None;
  seen : HasSeen l.fn.base l.checker (take l.entry-index l.records);
}
