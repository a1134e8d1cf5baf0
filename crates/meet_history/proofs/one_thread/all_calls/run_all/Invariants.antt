-- What stays true from turn to turn of `run_all`, src/one_thread/all_calls.rt.
use Rattle.std.proofs.Common.{◌≡◌, ◌++◌, List, drop}
use Rattle.meet_tickets.specs.declared.records.Record.{Record}
use Rattle.meet_tickets.specs.declared.records.Deed.{Deed}
use Rattle.meet_history.specs.OneThread.{turns, start}
use Rattle.meet_history.specs.Stepping.{place_of, HasWritten}
use Rattle.meet_history.proofs.one_thread.all_calls.run_all.Given as goal

-- what was said and written so far, and what the rest will say and write, are what all calls say and write; and the
-- rest leaves the place where all calls do
abbrev pub invariant-loop-call : goal.invariant-loop-call
invariant-loop-call l = record {
  setup : l.stepper.setup ≡ l.fn.setup;
  replies : l.replies.items ++ (turns l.fn.setup (place_of l.stepper) (drop l.call-index l.calls)).replies ≡ (turns l.fn.setup (start l.fn.setup) l.calls).replies;
  records : (all : List (Record Deed)) × HasWritten l.stepper all × (all ++ (turns l.fn.setup (place_of l.stepper) (drop l.call-index l.calls)).records ≡ (turns l.fn.setup (start l.fn.setup) l.calls).records);
  place : (turns l.fn.setup (place_of l.stepper) (drop l.call-index l.calls)).place ≡ (turns l.fn.setup (start l.fn.setup) l.calls).place;
}
