-- Proof of `count_in_order`, src/comparing.rt. Counts the receipts of a seat's list down from `all`, where each is the
-- record of its number, of this seat, and their numbers rise.
use Rattle.std.proofs.Common.{◌≡◌, ◌<◌, ◌≤◌, ◌∷◌, [], ◌∙◌, length, take, filter, arith, sym, ap, subst, length-append}
use Rattle.std.proofs.Math.Seq.{take-length}
use Rattle.meet_book.specs.Listed.{is_own, is_since, numbered, since, FewerOrThese}
use Rattle.meet_book.proofs.Listing.{of_own, of_other, of_next, fewer_all, is_later, is_earlier, is_own_of, numbered_many, numbered_at}
use Rattle.meet_book.proofs.comparing.count_in_order.Goals as goal
use Rattle.meet_book.proofs.comparing.count_in_order.Goals.{then-gone-place+else-index-next+else-records-index+else-unseen-eq0+else-number+else-not-is_same, else-gone-place}

pub loop-receipt-preserved : goal.loop-receipt-preserved
loop-receipt-preserved g c =
    let gone = c.args.gone in
    let list = c.args.list.now in
    let records = c.args.records.now in
    let at = c.loop-receipt.receipt-index in
    let receipt = c.receipt-item.result in
    let so_far = c.loop-receipt.invariant in
    elim c.if-gone-place.branch [
      | then-gone-place+else-index-next+else-records-index+else-unseen-eq0+else-number+else-not-is_same w ↦
          let later : gone < receipt.place = omega (arith, c.place-place.ensures, w.if-gone-place.true) in
          let more = of_own (is_since gone) list at receipt (omega arith) c.receipt-item.is (is_later gone receipt later) in
          let longer = length-append (since gone (take at list)) (receipt ∷ []) in
          let same : w.index-records-index.result ≡ receipt.entry = w.is_same.ensures.0 w.if-not-is_same.false ∙ w.entry.ensures in
          let own : receipt.entry.seat ≡ c.args.seat = sym (ap (λ r. r.seat) same) ∙ cc (w.number.ensures.value, w.number-then-gone-place.ensures.value, w.if-number.false) in
          let counted = ap length more ∙ longer in
          let at_number = numbered_at gone records _ w.index-records-index.result receipt (omega arith) w.index-records-index.is same (omega arith) in
          let step = of_next (is_own c.args.seat) (numbered gone records) (since gone (take at list)) c.loop-receipt.next _ receipt (omega arith) (omega (arith, numbered_many gone records)) at_number (is_own_of c.args.seat receipt own) so_far.fewer in
          record {
            count = omega (arith, w.unseen-is, w.if-unseen-eq0.false, counted, so_far.count);
            within = omega (arith, w.next-is);
            fewer = rw (w.next-is, more) step;
          }
      | else-gone-place w ↦
          let earlier : receipt.place ≤ gone = omega (arith, c.place-place.ensures, w.if-gone-place.false) in
          let same = of_other (is_since gone) list at receipt (omega arith) c.receipt-item.is (is_earlier gone receipt earlier) in
          record {
            count = rw (w.unseen-is, same) so_far.count;
            within = omega (arith, w.next-is, so_far.within);
            fewer = rw (w.next-is, same) so_far.fewer;
          }
    ]

pub returns-clause-fewer : goal.returns-clause-fewer
returns-clause-fewer g c =
    let list = c.args.list.now in
    let all : c.loop-receipt.receipt-index ≡ length list = omega arith in
    let whole : take c.loop-receipt.receipt-index list ≡ list = ap (λ n. take n list) all ∙ take-length list in
    let all_records = numbered c.args.gone c.args.records.now in
    fewer_all (is_own c.args.seat) (since c.args.gone list) all_records c.loop-receipt.next
    (subst (λ l. FewerOrThese (since c.args.gone l) (filter (is_own c.args.seat) (take c.loop-receipt.next all_records))) whole c.loop-receipt.invariant.fewer)
