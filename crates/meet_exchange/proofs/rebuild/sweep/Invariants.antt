-- What stays true from turn to turn of `sweep`, src/rebuild.rt.
use Rattle.std.proofs.Common.{◌≡◌, drop, map}
use Rattle.meet_exchange.specs.Rebuild.{writer, swept}
use Rattle.meet_exchange.specs.Closed.{numbered}
use Rattle.meet_exchange.proofs.rebuild.sweep.Given as goal

abbrev pub invariant-loop-list : goal.invariant-loop-list
invariant-loop-list l = record {
  fold : swept (writer l.pass) l.start l.slot (numbered l.number (map (λ s. s.items) (drop l.list-index l.lists))) l.rounds ≡ swept (writer l.pass) l.start l.slot (numbered 0 (map (λ s. s.items) l.lists)) l.fn.rounds;
  number : l.number ≡ l.list-index;
}
