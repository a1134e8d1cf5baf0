-- Proof of `hear_all`, src/table.rt. Has all tickets hear these records, behind so many others.
use Rattle.std.proofs.Common.{◌≡◌, ◌+◌, ap, ◌∙◌, arith, map, take, length, ◌++◌}
use Rattle.std.proofs.lemmas.List.{take_all}
use Rattle.meet_sum.specs.Stories.{story_in}
use Rattle.meet_sum.proofs.TableLemmas.{heard-more, heard-length}
use Rattle.meet_sum.proofs.table.hear_all.Goals as goal

pub loop-entry-preserved : goal.loop-entry-preserved
loop-entry-preserved c = record {
  counted = omega (arith, c.loop-entry.invariant.counted);
  every = c.tell_all.ensures.every;
  told = λ history are before.
      let i = c.loop-entry.entry-index in
      let xs = c.args.records.now in
      let number : c.loop-entry.number + 1 ≡ 1 + length (history ++ take i xs) = omega (arith, c.loop-entry.invariant.counted, heard-length history xs i c.loop-entry.auto.entry-index-end) in
      c.tell_all.ensures.told (history ++ take i xs) (c.loop-entry.invariant.told history are before) number
      ∙ ap (λ h. map (story_in h) c.args.tickets.now) (heard-more history xs i c.entry-item.result c.loop-entry-test.true c.entry-item.is);
}

pub returns-clause-told : goal.returns-clause-told
returns-clause-told c = λ history are before.
    c.loop-entry.invariant.told history are before
    ∙ ap (λ ys. map (story_in (history ++ ys)) c.args.tickets.now) (take_all c.loop-entry.entry-index c.args.records.now c.loop-entry-test.false)
