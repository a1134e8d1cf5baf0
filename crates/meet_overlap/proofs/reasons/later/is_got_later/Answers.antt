-- Proof of `is_got_later`, src/reasons/later.rt. That the call of this number got the item, and began later.
use Rattle.std.proofs.Common.{◌≡◌, Some, length, refl, ap, ◌∙◌}
use Rattle.std.specs.Prelude.{slice_get}
use Rattle.std.proofs.lemmas.Option.{slice_get_read}
use Rattle.meet_overlap.specs.declared.calls.Answer.TheVariants.{Got}
use Rattle.meet_overlap.proofs.reasons.later.is_got_later.Goals as goal

pub returns-then-takes : goal.returns-then-takes
returns-then-takes c found =
    let calls = c.args.calls.now in
    let number = c.loop-number.number in
    let call = c.index-calls-number.result in
    let known : slice_get calls number ≡ Some call = slice_get_read calls (length calls) number call refl c.loop-number-test.true c.index-calls-number.is in
    let ended : call.returned ≡ Some c.in-Some.returned = let e = c.in-Some.is in cc in
    let got : c.in-Some.returned.answer ≡ Got c.in-Got.item = let e = c.in-Got.is in cc in
    record {
      taken = record { number = number; call = call; known = known; returned = c.in-Some.returned; ended = ended };
      takes = c.takes.ensures.0 c.if-takes.true;
      got = got ∙ ap Got c.if-item-mark.true;
      later = c.if-by-call.true;
    }
