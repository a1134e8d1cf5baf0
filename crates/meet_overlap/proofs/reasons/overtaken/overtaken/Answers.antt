-- Proof of `overtaken`, src/reasons/overtaken.rt. That the second call got an item which surely came after the first one's.
use Rattle.std.proofs.Common.{◌≡◌, ◌≤◌, Some, length, refl, sym, subst, arith}
use Rattle.std.specs.Prelude.{slice_get}
use Rattle.std.proofs.lemmas.Option.{slice_get_read}
use Rattle.meet_overlap.specs.declared.calls.Answer.TheVariants.{Got}
use Rattle.meet_overlap.specs.declared.calls.Verb.TheVariants.{Keep}
use Rattle.meet_overlap.specs.Marks.{IsKeeping}
use Rattle.meet_overlap.proofs.reasons.overtaken.overtaken.Goals as goal

pub returns-then-none_got-clause-is : goal.returns-then-none_got-clause-is
returns-then-none_got-clause-is c =
    let calls = c.args.calls.now in
    let put = c.index-calls-first.result in
    let taken = c.index-calls-second.result in
    let put_known : slice_get calls c.args.first ≡ Some put = slice_get_read calls (length calls) c.args.first put refl c.requires.put c.index-calls-first.is in
    let taken_known : slice_get calls c.args.second ≡ Some taken = slice_get_read calls (length calls) c.args.second taken refl c.requires.taken c.index-calls-second.is in
    let put_ended : put.returned ≡ Some c.in-Some.went = let e = c.in-Some.is in cc in
    let taken_ended : taken.returned ≡ Some c.in-Some-returned.came = let e = c.in-Some-returned.is in cc in
    let verb : put.verb ≡ Keep c.in-Keep.kept = let e = c.in-Keep.is in cc in
    let got : c.in-Some-returned.came.answer ≡ Got c.in-Got.item = let e = c.in-Got.is in cc in
    let later : c.in-Some.went.at ≤ c.in-Some-returned.came.at = let q = c.if-came-went.false in omega arith in (
      record {
        order = sym c.in-Front.ensures;
        put = record { number = c.args.first; call = put; known = put_known; returned = c.in-Some.went; ended = put_ended };
        first = c.in-Keep.kept;
        keeps = subst (λ v. IsKeeping v c.in-Keep.kept) (sym verb) refl;
        went = let e = c.in-Went.is in cc;
        taken = record { number = c.args.second; call = taken; known = taken_known; returned = c.in-Some-returned.came; ended = taken_ended };
        second = c.in-Got.item;
        takes = c.takes.ensures.0 c.if-not-takes.false;
        got = got;
        none_gave = c.none_gave.ensures c.if-none_gave.true;
        none_got = c.none_got.ensures c.if-none_got.true;
        later = later;
      },
      refl,
      refl,
      refl,
      refl,
    )
