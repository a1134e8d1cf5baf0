-- Proof of `ungiven`, src/reasons/ungiven.rt. The item that the call of this number got, if no call may have given it that began by its end.
use Rattle.std.proofs.Common.{◌≡◌, Some, length, refl}
use Rattle.std.specs.Prelude.{slice_get}
use Rattle.std.proofs.lemmas.Option.{slice_get_read}
use Rattle.meet_overlap.specs.declared.calls.Answer.TheVariants.{Got}
use Rattle.meet_overlap.proofs.reasons.ungiven.ungiven.Goals as goal

pub returns-then-none_may_give : goal.returns-then-none_may_give
returns-then-none_may_give c =
    let calls = c.args.calls.now in
    let call = c.index-calls-number.result in
    let known : slice_get calls c.args.number ≡ Some call = slice_get_read calls (length calls) c.args.number call refl c.requires c.index-calls-number.is in
    let ended : call.returned ≡ Some c.in-Some.returned = let e = c.in-Some.is in cc in
    let got : c.in-Some.returned.answer ≡ Got c.in-Got.mark = let e = c.in-Got.is in cc in (
      record {
        taken = record { number = c.args.number; call = call; known = known; returned = c.in-Some.returned; ended = ended };
        mark = c.in-Got.mark;
        got = got;
        taking = c.takes.ensures.0 c.if-not-takes.false;
        none = c.none_may_give.ensures c.if-none_may_give.true;
      },
      refl,
      refl,
    )
