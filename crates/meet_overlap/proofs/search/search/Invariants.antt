-- What stays true from turn to turn of `search`, src/search.rt.
use Rattle.meet_overlap.proofs.Paths.{IsSearching}
use Rattle.meet_overlap.proofs.search.search.Given as goal

-- the search stands there
abbrev pub invariant-loop : goal.invariant-loop
invariant-loop l = IsSearching l.kind l.calls l.path.items l.reached l.next l.seen.worlds.items
