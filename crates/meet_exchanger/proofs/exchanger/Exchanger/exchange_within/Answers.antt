-- Proof of `Exchanger::exchange_within`, src/exchanging.rt. Tries one slot after another, until the item is exchanged or
-- the time is up.
use Rattle.std.proofs.Common.{◌≡◌, inl, inr, refl, ◌∙◌, subst}
use Rattle.meet_exchanger.specs.Tries.{HasTakenBack}
use Rattle.meet_exchanger.specs.Tries.Tried.{no_more, once_more}
use Rattle.meet_exchanger.proofs.Trying.{may}
use Rattle.meet_exchanger.proofs.exchanger.Exchanger.exchange_within.Goals as goal

pub loop-init : goal.loop-init
loop-init g c = record {
  place = c.requires.place;
  slot = c.slot_to_begin-slot.ensures;
  item = refl;
  tried = no_more;
}

pub loop-preserved-in-Contended : goal.loop-preserved-in-Contended
loop-preserved-in-Contended g c = record {
  place = c.in-Contended.ensures.place;
  slot = c.slot_after-slot.ensures;
  item = c.in-Contended.ensures.tries.0 ∙ c.loop.invariant.item;
  tried = once_more c.loop.slot c.loop.invariant.tried c.loop.invariant.slot (inl c.in-Contended.ensures.tries.1);
}

pub loop-preserved : goal.loop-preserved
loop-preserved g c = let told = c.in-TookBack.ensures in record {
  place = told.place;
  slot = c.slot_below-slot.ensures;
  item = told.tries.0 ∙ c.loop.invariant.item;
  tried = once_more c.loop.slot c.loop.invariant.tried c.loop.invariant.slot (inr (subst (λ a. HasTakenBack c.loop.seat c.loop.slot a c.in-TookBack.again) c.loop.invariant.item told.tries.1));
}

pub returns-then-slot-eq0-2-clause-end : goal.returns-then-slot-eq0-2-clause-end
returns-then-slot-eq0-2-clause-end g c = let told = c.in-TookBack.ensures in let zero : c.loop.slot ≡ 0 = c.if-slot-eq0-2.true in (
  may c.args.limit c.after-deadline.result c.in-TookBack.up c.after-deadline.ensures.untimed told.untimed c.if-up-2.true,
  told.tries.0 ∙ c.loop.invariant.item,
  c.loop.seat,
  c.loop.invariant.tried,
  inr (subst (λ k. HasTakenBack c.loop.seat k (g.T.Marked.mark_of c.args.item) c.in-TookBack.again) zero (subst (λ a. HasTakenBack c.loop.seat c.loop.slot a c.in-TookBack.again) c.loop.invariant.item told.tries.1)),
)
