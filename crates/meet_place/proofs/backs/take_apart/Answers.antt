-- Proof of `take_apart`, src/backs.rt. Takes the seats apart, in their order.
use Rattle.std.proofs.Common.{rules, arith, ◌≡◌, ap}
use Rattle.std.proofs.lemmas.List.Sums.{sum_by_push}
use Rattle.meet_place.specs.Backs.{share_of, folded_of}
use Rattle.meet_place.proofs.Lists.{moves_plain}
use Rattle.meet_place.proofs.backs.take_apart.Goals as goal

pub loop-back-preserved : goal.loop-back-preserved
loop-back-preserved g c =
    let i = c.loop-back.invariant in
    let steps = c.in-Some.ensures.steps in
    record {
      can = search rules;
      finite = search rules;
      rest = omega (arith, steps.1);
      room = omega arith;
      seats = rw c.push_reserved.ensures.items
          (moves_plain c.loop-back.bares.items c.part-bare.result.0 _ _ c.in-Some.back _ steps.0 c.part-bare.ensures.seat
          i.seats);
      parts = omega (arith, c.part-bare.ensures.share.0);
      bound = omega (arith, c.part-bare.ensures.share.0, c.merge.ensures.apart);
      amount = rw c.push_reserved.ensures.items
          (let n = sum_by_push share_of c.loop-back.bares.items c.part-bare.result.0 in
          let same : share_of c.part-bare.result.0 ≡ share_of c.in-Some.back =
          ap share_of c.part-bare.ensures.seat in
          omega (arith, c.part-bare.ensures.share.1));
      folds = rw c.push_reserved.ensures.items
          (let n = sum_by_push folded_of c.loop-back.bares.items c.part-bare.result.0 in
          let same : folded_of c.part-bare.result.0 ≡ folded_of c.in-Some.back =
          ap folded_of c.part-bare.ensures.seat in
          omega (arith, c.part-bare.ensures.share.2));
    }
