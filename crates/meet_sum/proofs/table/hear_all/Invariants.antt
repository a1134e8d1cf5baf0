-- What stays true from turn to turn of `hear_all`, src/table.rt.
use Rattle.std.proofs.Common.{◌≡◌, ◌+◌, ◌++◌, map, take, length, List, vec_len}
use Rattle.meet_tickets.specs.declared.records.Record.{Record}
use Rattle.meet_tickets.specs.declared.records.Deed.{Deed}
use Rattle.meet_sum.specs.Stories.{story_in}
use Rattle.meet_sum.proofs.table.hear_all.Given as goal

-- the records so far are heard
abbrev pub invariant-loop-entry : goal.invariant-loop-entry
invariant-loop-entry l = record {
  counted : l.number ≡ l.before + l.entry-index;
  every : vec_len l.stories ≡ length l.tickets;
  told : (history : List (Record Deed)) → l.fn.stories.items ≡ map (story_in history) l.tickets → l.before ≡ length history
      → l.stories.items ≡ map (story_in (history ++ take l.entry-index l.records)) l.tickets;
}
