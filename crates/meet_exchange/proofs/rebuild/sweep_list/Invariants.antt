-- What stays true from turn to turn of `sweep_list`, src/rebuild.rt.
use Rattle.std.proofs.Common.{◌≡◌, drop}
use Rattle.meet_exchange.specs.Rebuild.{writer, all_written}
use Rattle.meet_exchange.specs.Rounds.{in_slot}
use Rattle.meet_exchange.proofs.rebuild.sweep_list.Given as goal

abbrev pub invariant-loop-part : goal.invariant-loop-part
invariant-loop-part l = all_written (writer l.pass) l.start l.number (in_slot l.slot (drop l.part-index l.list)) l.rounds ≡ all_written (writer l.pass) l.start l.number (in_slot l.slot l.list) l.fn.rounds
