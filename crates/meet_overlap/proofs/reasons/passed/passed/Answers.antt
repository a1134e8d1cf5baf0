-- Proof of `passed`, src/reasons/passed.rt. That the third call met the second one, although the first one waited.
use Rattle.std.proofs.Common.{◌≡◌, Some, length, refl, sym, subst}
use Rattle.std.specs.Prelude.{slice_get}
use Rattle.std.proofs.lemmas.Option.{slice_get_read}
use Rattle.meet_overlap.specs.Reasons.{IsBehind}
use Rattle.meet_overlap.proofs.reasons.passed.passed.Goals as goal

pub returns-then-unmet-clause-is : goal.returns-then-unmet-clause-is
returns-then-unmet-clause-is c =
    let calls = c.args.calls.now in
    let waiting = c.index-calls-first.result in
    let met = c.index-calls-second.result in
    let caller = c.index-calls-third.result in
    let waiting_known : slice_get calls c.args.first ≡ Some waiting = slice_get_read calls (length calls) c.args.first waiting refl c.requires.waits c.index-calls-first.is in
    let met_known : slice_get calls c.args.second ≡ Some met = slice_get_read calls (length calls) c.args.second met refl c.requires.met c.index-calls-second.is in
    let caller_known : slice_get calls c.args.third ≡ Some caller = slice_get_read calls (length calls) c.args.third caller refl c.requires.came c.index-calls-third.is in
    let waits : waiting.waits ≡ Some c.in-Some.seen = let e = c.in-Some.is in cc in
    let waiting_ended : waiting.returned ≡ Some c.in-Some-returned.left = let e = c.in-Some-returned.is in cc in
    let met_ended : met.returned ≡ Some c.in-Some-returned-2.went = let e = c.in-Some-returned-2.is in cc in
    let caller_ended : caller.returned ≡ Some c.in-Some-returned-3.came = let e = c.in-Some-returned-3.is in cc in (
      record {
        waiting = record { number = c.args.first; call = waiting; known = waiting_known; returned = c.in-Some-returned.left; ended = waiting_ended };
        seen = c.in-Some.seen;
        waits = waits;
        caller = record { number = c.args.third; call = caller; known = caller_known; returned = c.in-Some-returned-3.came; ended = caller_ended };
        met = record { number = c.args.second; call = met; known = met_known; returned = c.in-Some-returned-2.went; ended = met_ended };
        mark = c.in-Some-meets.mark;
        meets = c.in-Some-meets.ensures;
        giver = c.if-gives.giver;
        only = c.gives_alone.ensures c.if-gives_alone.true;
        behind = subst (λ e. IsBehind e c.in-Some.seen waiting caller met) c.end.ensures (c.behind.ensures c.if-not-behind.false);
        unmet = c.unmet.ensures c.if-unmet.true;
      },
      refl,
      refl,
      refl,
      sym c.item.ensures,
    )
