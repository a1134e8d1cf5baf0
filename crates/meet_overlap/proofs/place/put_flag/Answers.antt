-- Proof of `put_flag`, src/place.rt. Sets or clears a seat's flag.
use Rattle.std.proofs.Common.{◌<◌, ◌∙◌, ap, length, arith, false}
use Rattle.meet_tickets.specs.BySeat.{put_at}
use Rattle.meet_overlap.specs.Places.{flag_at}
use Rattle.meet_overlap.proofs.Tables.{put_at-set, padded}
use Rattle.meet_overlap.proofs.place.put_flag.Goals as goal

pub loop-flags-preserved : goal.loop-flags-preserved
loop-flags-preserved c = ap flag_at c.in_ok-push.ensures.items ∙ padded c.loop-flags.flags.items false ∙ c.loop-flags.invariant

pub returns : goal.returns
returns c =
    let items = c.loop-flags.flags.items in
    let there : c.number-index.result < length items = omega (arith, c.len.ensures, c.loop-flags-test.false) in
    put_at-set items c.number-index.result c.args.flag false there
    ∙ ap (λ f. put_at f c.number-index.result c.args.flag) c.loop-flags.invariant
    ∙ ap (λ i. put_at (flag_at c.args.flags.now.items) i c.args.flag) c.number-index.ensures.value
