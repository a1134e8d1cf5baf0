-- Proof of `copy_records`, src/entries.rt. Copies records from this index on.
use Rattle.std.proofs.Common.{◌≡◌, ◌+◌, ◌∙◌, length, arith, refl, Some}
use Rattle.std.specs.Prelude.{slice_get, slice_set}
use Rattle.std.proofs.lemmas.Option.{slice_get_read}
use Rattle.std.proofs.lemmas.List.{length-set}
use Rattle.meet_c.proofs.Places.{copied-more, others-stay}
use Rattle.meet_c.proofs.entries.copy_records.Goals as goal

pub loop-at-preserved : goal.loop-at-preserved
loop-at-preserved c =
    let before = c.loop-at.invariant in
    let records = c.args.records.now in
    let at = c.loop-at.at in
    let long : length (slice_set c.loop-at.into at c.tell_record.result) ≡ length c.loop-at.into = length-set c.loop-at.into at c.tell_record.result in
    let r = c.index-records-from.result in
    let there : slice_get records (c.args.from + at) ≡ Some r = slice_get_read records (length records) (c.args.from + at) r refl (omega (arith, c.if-at-records.true, c.if-from-records.true)) c.index-records-from.is in
    record {
      there = omega (arith, c.if-at-records.true);
      room = omega (arith, long, c.loop-at-test.true);
      long = long ∙ before.long;
      copied = copied-more records c.args.from c.loop-at.into at c.tell_record.result r c.loop-at-test.true there c.tell_record.ensures before.copied;
      others = others-stay c.args.into.now c.loop-at.into at c.tell_record.result before.others;
    }
