-- Proof of `doubled`, src/reasons/doubled.rt. That two calls got an item that one call alone gives.
use Rattle.std.proofs.Common.{◌≡◌, Some, length, refl, sym, ap, ◌∙◌, arith}
use Rattle.std.specs.Prelude.{slice_get}
use Rattle.std.proofs.lemmas.Option.{slice_get_read}
use Rattle.meet_overlap.specs.declared.calls.Answer.TheVariants.{Got}
use Rattle.meet_overlap.proofs.reasons.doubled.doubled.Goals as goal

pub returns-then-gives_alone-clause-is : goal.returns-then-gives_alone-clause-is
returns-then-gives_alone-clause-is c =
    let calls = c.args.calls.now in
    let one = c.index-calls-first.result in
    let other = c.index-calls-second.result in
    let one_known : slice_get calls c.args.first ≡ Some one = slice_get_read calls (length calls) c.args.first one refl c.requires.first c.index-calls-first.is in
    let other_known : slice_get calls c.args.second ≡ Some other = slice_get_read calls (length calls) c.args.second other refl c.requires.second c.index-calls-second.is in
    let one_ended : one.returned ≡ Some c.in-Some.came = let e = c.in-Some.is in cc in
    let other_ended : other.returned ≡ Some c.in-Some-returned.again = let e = c.in-Some-returned.is in cc in
    let item = c.in-Got.item in
    let same : c.in-Got.item ≡ c.in-Got-answer.same = let q = c.if-item-same.false in omega arith in
    let got_one : c.in-Some.came.answer ≡ Got item = let e = c.in-Got.is in cc in
    let got_again : c.in-Some-returned.again.answer ≡ Got c.in-Got-answer.same = let e = c.in-Got-answer.is in cc in
    let below = c.requires.apart in (
      record {
        mark = item;
        giver = c.in_ok-giver.giver;
        only = c.gives_alone.ensures c.if-gives_alone.true;
        one = record { number = c.args.first; call = one; known = one_known; returned = c.in-Some.came; ended = one_ended };
        other = record { number = c.args.second; call = other; known = other_known; returned = c.in-Some-returned.again; ended = other_ended };
        apart = λ is. absurd (omega arith);
        takes_one = c.takes.ensures.0 c.if-not-takes.false;
        takes_other = c.takes-2.ensures.0 c.if-not-takes-2.false;
        got_one = got_one;
        got_other = got_again ∙ ap Got (sym same);
      },
      refl,
      refl,
      refl,
      refl,
    )
