-- Proof of `take_many`, src/followers.rt. Takes records in, one after another.
use Rattle.std.proofs.lemmas.Option.{slice_get-get_or}
use Rattle.meet_c.proofs.Taking.{one-more, all-taken}
use Rattle.meet_c.proofs.followers.take_many.Goals as goal

pub loop-entry-preserved : goal.loop-entry-preserved
loop-entry-preserved c =
    let entries = c.args.entries.now in
    let n = c.loop-entry.entry-index in
    one-more c.args.follower.now entries n c.loop-entry.follower c.take_read-found.new.follower _ c.take_read-found.result c.loop-entry.invariant (slice_get-get_or entries n _ c.loop-entry-test.true) c.take_read-found.ensures c.if-found-ne0.false

pub returns : goal.returns
returns c =
    all-taken c.args.follower.now c.args.entries.now c.loop-entry.entry-index c.loop-entry.follower c.status_with.result c.loop-entry.invariant c.loop-entry-test.false c.status_with.ensures
