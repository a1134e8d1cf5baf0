-- Proof of `count_all`, src/seats.rt. Counts all these records.
use Rattle.std.proofs.Common.{◌≡◌, refl, ◌+◌, ◌∙◌, sym, ap, arith, take, ◌∷◌, ◌++◌, []}
use Rattle.std.proofs.lemmas.List.{take_more, take_all, length-take-le}
use Rattle.meet_sum.proofs.SeatLemmas.{seats-alike}
use Rattle.meet_sum.proofs.seats.count_all.Goals as goal

pub loop-entry-preserved : goal.loop-entry-preserved
loop-entry-preserved c =
    let i = c.loop-entry.entry-index in
    let xs = c.args.more.now in
    let r = c.entry-item.result in
    let more : take (i + 1) xs ≡ take i xs ++ r ∷ [] = take_more xs i r c.loop-entry-test.true ∙ ap (λ x. take i xs ++ x ∷ []) (sym c.entry-item.is) in
    record {
      every = c.count.ensures.every;
      counted = λ before opened all has. seats-alike before before (take i xs ++ r ∷ []) (take (i + 1) xs) opened all [] c.count.new.sums.items refl (sym more)
          (c.count.ensures.told before (take i xs) opened all [] (omega (arith, length-take-le i xs c.loop-entry.auto.entry-index-end, c.loop-entry-test.true, c.requires.few)) (c.loop-entry.invariant.counted before opened all has));
    }

pub returns-clause-counted : goal.returns-clause-counted
returns-clause-counted c = λ before opened all has. seats-alike before before (take c.loop-entry.entry-index c.args.more.now) c.args.more.now opened all [] c.loop-entry.sums.items refl (take_all c.loop-entry.entry-index c.args.more.now c.loop-entry-test.false) (c.loop-entry.invariant.counted before opened all has)
