-- Proof of `untaken`, src/reasons/untaken.rt. The item that the call of this number handed over, if no call may have got it that began by its end.
use Rattle.std.proofs.Common.{◌≡◌, Some, length, refl}
use Rattle.std.specs.Prelude.{slice_get}
use Rattle.std.proofs.lemmas.Option.{slice_get_read}
use Rattle.meet_overlap.specs.declared.calls.Answer.TheVariants.{Went}
use Rattle.meet_overlap.proofs.reasons.untaken.untaken.Goals as goal

pub returns-then-none_took : goal.returns-then-none_took
returns-then-none_took c =
    let calls = c.args.calls.now in
    let call = c.index-calls-number.result in
    let known : slice_get calls c.args.number ≡ Some call = slice_get_read calls (length calls) c.args.number call refl c.requires c.index-calls-number.is in
    let ended : call.returned ≡ Some c.in-Some-returned.returned = let e = c.in-Some-returned.is in cc in
    let went : c.in-Some-returned.returned.answer ≡ Went = let e = c.in-Went.is in cc in (
      record {
        given = record { number = c.args.number; call = call; known = known; returned = c.in-Some-returned.returned; ended = ended };
        went = went;
        mark = c.in-Some.mark;
        hands = c.in-Some.ensures;
        none = c.none_took.ensures c.if-none_took.true;
      },
      refl,
      refl,
    )
