-- Proof of `put_hold`, src/place.rt. Puts what a seat holds in the place of what it held.
use Rattle.std.proofs.Common.{◌<◌, ◌∙◌, ap, length, arith}
use Rattle.meet_tickets.specs.declared.lines.Hold.TheVariants.{Free}
use Rattle.meet_tickets.specs.BySeat.{put_at}
use Rattle.meet_overlap.specs.Places.{hold_at}
use Rattle.meet_overlap.proofs.Tables.{put_at-set, padded}
use Rattle.meet_overlap.proofs.place.put_hold.Goals as goal

pub loop-holds-preserved : goal.loop-holds-preserved
loop-holds-preserved c = ap hold_at c.in_ok-push.ensures.items ∙ padded c.loop-holds.holds.items Free ∙ c.loop-holds.invariant

pub returns : goal.returns
returns c =
    let items = c.loop-holds.holds.items in
    let there : c.number-index.result < length items = omega (arith, c.len.ensures, c.loop-holds-test.false) in
    put_at-set items c.number-index.result c.args.hold Free there
    ∙ ap (λ f. put_at f c.number-index.result c.args.hold) c.loop-holds.invariant
    ∙ ap (λ i. put_at (hold_at c.args.holds.now.items) i c.args.hold) c.number-index.ensures.value
