-- Proof of `blanks_of`, src/rebuild.rt. As many blank rounds as the seats posted in the slot; or none, where memory is
-- short.
use Rattle.std.proofs.Common.{◌+◌, ◌++◌, drop, ap, sym, ◌∙◌}
use Rattle.meet_exchange.specs.Rounds.{in_slot}
use Rattle.meet_exchange.specs.Rebuild.{posts_among, posts_of}
use Rattle.meet_exchange.specs.Closed.{back_lists, seat_of}
use Rattle.meet_exchange.proofs.Blanks.{drop_item, more_blanks, blanks_for}
use Rattle.meet_exchange.proofs.rebuild.blanks_of.Goals as goal

pub loop-back-preserved : goal.loop-back-preserved
loop-back-preserved g c = let k = c.args.slot in let i = c.loop-back.back-index in let x = c.back-item.result in let rest = back_lists (drop (i + 1) c.args.seats.now) in
    let e = drop_item c.args.seats.now i x c.loop-back-test.true c.back-item.is in
    ap (λ z. z ++ blanks_for (posts_of k rest)) (c.in_ok-add_posts.ensures ∙ ap (λ z. c.loop-back.rounds.items ++ blanks_for (posts_among (in_slot k z))) c.parts.ensures)
    ∙ (more_blanks c.loop-back.rounds.items (posts_among (in_slot k (seat_of x).list)) (posts_of k rest) ∙ (ap (λ z. c.loop-back.rounds.items ++ blanks_for (posts_of k (back_lists z))) (sym e) ∙ c.loop-back.invariant))
