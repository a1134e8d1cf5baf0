-- Proof of `enter_all`, src/seats.rt. Notes the records that open a base.
use Rattle.std.proofs.Common.{◌≡◌, refl, ◌+◌, ◌∙◌, sym, ap, take, ◌∷◌, ◌++◌, []}
use Rattle.std.proofs.lemmas.List.{take_more, take_all}
use Rattle.meet_sum.proofs.SeatLemmas.{seats-alike}
use Rattle.meet_sum.proofs.seats.enter_all.Goals as goal

pub loop-entry-preserved : goal.loop-entry-preserved
loop-entry-preserved c =
    let i = c.loop-entry.entry-index in
    let xs = c.args.more.now in
    let r = c.entry-item.result in
    let more : take (i + 1) xs ≡ take i xs ++ r ∷ [] = take_more xs i r c.loop-entry-test.true ∙ ap (λ x. take i xs ++ x ∷ []) (sym c.entry-item.is) in
    record {
      every = c.enter.ensures.every;
      noted = λ opened all has. seats-alike (take i xs ++ r ∷ []) (take (i + 1) xs) [] [] opened all [] c.enter.new.sums.items (sym more) refl
          (c.enter.ensures.told (take i xs) opened all [] (c.loop-entry.invariant.noted opened all has));
    }

pub returns-clause-noted : goal.returns-clause-noted
returns-clause-noted c = λ opened all has. seats-alike (take c.loop-entry.entry-index c.args.more.now) c.args.more.now [] [] opened all [] c.loop-entry.sums.items (take_all c.loop-entry.entry-index c.args.more.now c.loop-entry-test.false) refl (c.loop-entry.invariant.noted opened all has)
