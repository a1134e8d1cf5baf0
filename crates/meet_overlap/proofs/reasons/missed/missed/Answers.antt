-- Proof of `missed`, src/reasons/missed.rt. That the second call found nobody, although the first one waited all the time.
use Rattle.std.proofs.Common.{◌≡◌, Some, length, refl, sym}
use Rattle.std.specs.Prelude.{slice_get}
use Rattle.std.proofs.lemmas.Option.{slice_get_read}
use Rattle.meet_overlap.proofs.reasons.missed.missed.Goals as goal

pub returns-then-unmet-clause-is : goal.returns-then-unmet-clause-is
returns-then-unmet-clause-is c =
    let calls = c.args.calls.now in
    let waiting = c.index-calls-first.result in
    let caller = c.index-calls-second.result in
    let waiting_known : slice_get calls c.args.first ≡ Some waiting = slice_get_read calls (length calls) c.args.first waiting refl c.requires.waits c.index-calls-first.is in
    let caller_known : slice_get calls c.args.second ≡ Some caller = slice_get_read calls (length calls) c.args.second caller refl c.requires.finds c.index-calls-second.is in
    let waits : waiting.waits ≡ Some c.in-Some.seen = let e = c.in-Some.is in cc in
    let waiting_ended : waiting.returned ≡ Some c.in-Some-returned.met = let e = c.in-Some-returned.is in cc in
    let caller_ended : caller.returned ≡ Some c.in-Some-returned-2.came = let e = c.in-Some-returned-2.is in cc in (
      record {
        waiting = record { number = c.args.first; call = waiting; known = waiting_known; returned = c.in-Some-returned.met; ended = waiting_ended };
        seen = c.in-Some.seen;
        waits = waits;
        caller = record { number = c.args.second; call = caller; known = caller_known; returned = c.in-Some-returned-2.came; ended = caller_ended };
        misses = c.misses.ensures c.if-not-misses.false;
        before = c.if-seen-caller.true;
        unmet = c.unmet.ensures c.if-unmet.true;
      },
      sym c.item.ensures,
      refl,
      refl,
    )
