-- Proof of `Arena::exchange`, src/waiting.rt. Exchanges an item for another seat's, as `exchange` of Exchanger: offers
-- it in this slot, and after Contended in the next, the first after the last.
use Rattle.std.proofs.Common.{refl, ◌∙◌}
use Rattle.meet_exchange.proofs.Tries.{come_first, more_first, within_first, ends_place}
use Rattle.meet_exchange.proofs.arena.Arena.exchange.Goals as goal

pub loop-init : goal.loop-init
loop-init g c = let s = c.args.seat in record {
  place = (c.requires.place, c.requires.slot);
  going = (refl, 0, more_first c.args.limit, within_first c.args.limit, come_first s _ c.args.self.now.slots c.args.first_slot c.args.limit c.requires.slot);
}

pub loop-preserved : goal.loop-preserved
loop-preserved g c = record {
  place = c.in-Goes.ensures.place;
  going = c.in-Goes.ensures.goes c.args.seat (g.T.Marked.mark_of c.args.item) c.args.first_slot c.args.limit c.loop.invariant.going;
}

pub returns-in-Ends-clause-end : goal.returns-in-Ends-clause-end
returns-in-Ends-clause-end g c = c.in-Ends.ensures.goes c.args.seat (g.T.Marked.mark_of c.args.item) c.args.first_slot c.args.limit c.loop.invariant.going

pub returns-in-Ends-clause-place : goal.returns-in-Ends-clause-place
returns-in-Ends-clause-place g c = ends_place c.args.seat _ c.args.self.now.slots c.args.first_slot c.args.limit g.T.Marked.mark_of c.in-Ends.end
    (c.in-Ends.ensures.goes c.args.seat (g.T.Marked.mark_of c.args.item) c.args.first_slot c.args.limit c.loop.invariant.going) ∙ c.requires.place
