-- What stays true from turn to turn of `least_begins`, src/due.rt.
use Rattle.std.proofs.Common.{◌≡◌, ◌≤◌, ◌+◌, ℕ, Some, length}
use Rattle.std.specs.Prelude.{slice_get}
use Rattle.meet_overlap.specs.declared.calls.Call.{Call}
use Rattle.meet_overlap.specs.Known.{AreLeast}
use Rattle.meet_overlap.proofs.due.least_begins.Given as goal

-- nothing but zeros stands there
abbrev pub invariant-loop : goal.invariant-loop
invariant-loop l = record {
  least : AreLeast l.calls l.begins.items;
  len : length l.begins.items ≡ l.counter;
}

-- the last calls were looked at, and the others have 0
abbrev pub invariant-loop-behind : goal.invariant-loop-behind
invariant-loop-behind l = record {
  all : AreLeast l.calls l.begins.items;
  len : length l.begins.items ≡ length l.calls;
  least : (number : ℕ) (call : Call) → length l.calls ≤ number + l.behind → slice_get l.calls number ≡ Some call → l.least ≤ call.begin;
}
