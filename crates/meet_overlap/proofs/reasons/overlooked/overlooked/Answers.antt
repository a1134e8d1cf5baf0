-- Proof of `overlooked`, src/reasons/overlooked.rt. That the second call found nothing, although the first one's item was there all the time.
use Rattle.std.proofs.Common.{◌≡◌, ◌≤◌, Some, length, refl, sym, subst, arith}
use Rattle.std.specs.Prelude.{slice_get}
use Rattle.std.proofs.lemmas.Option.{slice_get_read}
use Rattle.meet_overlap.specs.declared.calls.Verb.TheVariants.{Keep}
use Rattle.meet_overlap.specs.Marks.{IsKeeping}
use Rattle.meet_overlap.proofs.reasons.overlooked.overlooked.Goals as goal

pub returns-then-none_got-clause-is : goal.returns-then-none_got-clause-is
returns-then-none_got-clause-is c =
    let calls = c.args.calls.now in
    let put = c.index-calls-first.result in
    let looked = c.index-calls-second.result in
    let put_known : slice_get calls c.args.first ≡ Some put = slice_get_read calls (length calls) c.args.first put refl c.requires.put c.index-calls-first.is in
    let looked_known : slice_get calls c.args.second ≡ Some looked = slice_get_read calls (length calls) c.args.second looked refl c.requires.looked c.index-calls-second.is in
    let put_ended : put.returned ≡ Some c.in-Some.went = let e = c.in-Some.is in cc in
    let looked_ended : looked.returned ≡ Some c.in-Some-returned.came = let e = c.in-Some-returned.is in cc in
    let verb : put.verb ≡ Keep c.in-Keep.item = let e = c.in-Keep.is in cc in
    let later : c.in-Some.went.at ≤ c.in-Some-returned.came.at = let q = c.if-came-went.false in omega arith in (
      record {
        order = sym c.in-Front.ensures;
        put = record { number = c.args.first; call = put; known = put_known; returned = c.in-Some.went; ended = put_ended };
        mark = c.in-Keep.item;
        keeps = subst (λ v. IsKeeping v c.in-Keep.item) (sym verb) refl;
        went = let e = c.in-Went.is in cc;
        looked = record { number = c.args.second; call = looked; known = looked_known; returned = c.in-Some-returned.came; ended = looked_ended };
        finds = c.finds_nothing.ensures c.if-not-finds_nothing.false;
        before = c.if-went-looked.true;
        later = later;
        none_got = c.none_got.ensures c.if-none_got.true;
      },
      refl,
      refl,
      refl,
    )
