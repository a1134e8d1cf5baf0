-- Proof of `rows_of`, src/picture.rt. What is shown of a base and the records behind it.
use Rattle.std.proofs.Common.{◌+◌, ◌++◌, List, map, arith, ap, refl, ◌∙◌}
use Rattle.meet_history.specs.declared.pieces.Piece.TheVariants.{Stands, Met, Cut, Flagged}
use Rattle.meet_draw.specs.declared.rows.Shown.{Shown}
use Rattle.meet_draw.specs.declared.rows.Shown.TheVariants.{Stood}
use Rattle.meet_draw.specs.Pictures.{came_from}
use Rattle.meet_draw.proofs.Showing.{shown-none, shown-more, shown-all, came-none, came-more, came-all, all-shown}
use Rattle.meet_draw.proofs.picture.rows_of.Goals as goal

pub loop-entry-init : goal.loop-entry-init
loop-entry-init c = shown-none Stands c.new-rows.result.items c.args.base.now.line

pub loop-entry-preserved : goal.loop-entry-preserved
loop-entry-preserved c =
    let same = c.deref-entry-items.ensures.value ∙ ap (λ b. b.line) c.base.view_is in
    shown-more Stands c.new-rows.result.items c.args.base.now.line c.deref-entry-items.result.now same c.loop-entry.entry-index c.entry-item.result c.loop-entry.rows.items c.push.new.self.items c.loop-entry.invariant c.loop-entry-test.true c.entry-item.is c.in_ok-push.ensures.items

pub loop-pair-init : goal.loop-pair-init
loop-pair-init c = shown-none Met c.loop-entry.rows.items c.args.base.now.pairs

pub loop-pair-preserved : goal.loop-pair-preserved
loop-pair-preserved c =
    let same = c.deref-pair-items.ensures.value ∙ ap (λ b. b.pairs) c.base.view_is in
    shown-more Met c.loop-entry.rows.items c.args.base.now.pairs c.deref-pair-items.result.now same c.loop-pair.pair-index c.pair-item.result c.loop-pair.rows.items c.push-in-loop-pair.new.self.items c.loop-pair.invariant c.loop-pair-test.true c.pair-item.is c.in_ok-push-2.ensures.items

pub loop-cut-init : goal.loop-cut-init
loop-cut-init c = shown-none Cut c.loop-pair.rows.items c.args.base.now.cut

pub loop-cut-preserved : goal.loop-cut-preserved
loop-cut-preserved c =
    let same = c.deref-cut-items.ensures.value ∙ ap (λ b. b.cut) c.base.view_is in
    shown-more Cut c.loop-pair.rows.items c.args.base.now.cut c.deref-cut-items.result.now same c.loop-cut.cut-index c.cut-item.result c.loop-cut.rows.items c.push-in-loop-cut.new.self.items c.loop-cut.invariant c.loop-cut-test.true c.cut-item.is c.in_ok-push-3.ensures.items

pub loop-seat-init : goal.loop-seat-init
loop-seat-init c = shown-none Flagged c.loop-cut.rows.items c.args.base.now.flags

pub loop-seat-preserved : goal.loop-seat-preserved
loop-seat-preserved c =
    let same = c.deref-seat-items.ensures.value ∙ ap (λ b. b.flags) c.base.view_is in
    shown-more Flagged c.loop-cut.rows.items c.args.base.now.flags c.deref-seat-items.result.now same c.loop-seat.seat-index c.seat-item.result c.loop-seat.rows.items c.push-in-loop-seat.new.self.items c.loop-seat.invariant c.loop-seat-test.true c.seat-item.is c.in_ok-push-4.ensures.items

pub overflow_add-number : goal.overflow_add-number
overflow_add-number c = omega (arith, c.loop-record.invariant.count, c.requires, c.loop-record-test.true)

pub loop-record-init : goal.loop-record-init
loop-record-init c =
    let gone = ap (λ b. b.gone) c.base.view_is in
    record {
      coming = came-none (c.args.base.now.gone + 1) c.args.records.now (c.loop-seat.rows.items ++ came_from (c.args.base.now.gone + 1) c.args.records.now) c.loop-seat.rows.items refl;
      count = omega (arith, gone);
    }

pub loop-record-preserved : goal.loop-record-preserved
loop-record-preserved c =
    let before = c.loop-record.invariant in
    record {
      coming = came-more (c.args.base.now.gone + 1) c.args.records.now (c.loop-seat.rows.items ++ came_from (c.args.base.now.gone + 1) c.args.records.now) c.loop-record.record-index (c.loop-record.number + 1) c.record-item.result c.loop-record.rows.items c.push-in-loop-record.new.self.items before.coming c.loop-record-test.true c.record-item.is (omega (arith, before.count)) c.in_ok-push-5.ensures.items;
      count = omega (arith, before.count);
    }

pub returns : goal.returns
returns c =
    let base = c.args.base.now in
    let line = c.deref-entry-items.ensures.value ∙ ap (λ b. b.line) c.base.view_is in
    let pairs = c.deref-pair-items.ensures.value ∙ ap (λ b. b.pairs) c.base.view_is in
    let cut = c.deref-cut-items.ensures.value ∙ ap (λ b. b.cut) c.base.view_is in
    let flags = c.deref-seat-items.ensures.value ∙ ap (λ b. b.flags) c.base.view_is in
    let came = came_from (base.gone + 1) c.args.records.now in
    record {
      shown = all-shown base c.args.records.now c.loop-entry.rows.items c.loop-pair.rows.items c.loop-cut.rows.items c.loop-seat.rows.items c.loop-record.rows.items
          (shown-all Stands c.new-rows.result.items base.line c.deref-entry-items.result.now line c.loop-entry.entry-index c.loop-entry.rows.items c.loop-entry.invariant c.loop-entry-test.false ∙ ap (λ (t : List Shown). t ++ map Stood (map Stands base.line)) c.new-rows.ensures.items)
          (shown-all Met c.loop-entry.rows.items base.pairs c.deref-pair-items.result.now pairs c.loop-pair.pair-index c.loop-pair.rows.items c.loop-pair.invariant c.loop-pair-test.false)
          (shown-all Cut c.loop-pair.rows.items base.cut c.deref-cut-items.result.now cut c.loop-cut.cut-index c.loop-cut.rows.items c.loop-cut.invariant c.loop-cut-test.false)
          (shown-all Flagged c.loop-cut.rows.items base.flags c.deref-seat-items.result.now flags c.loop-seat.seat-index c.loop-seat.rows.items c.loop-seat.invariant c.loop-seat-test.false)
          (came-all (base.gone + 1) c.args.records.now (c.loop-seat.rows.items ++ came) c.loop-record.record-index c.loop-record.rows.items c.loop-record.invariant.coming c.loop-record-test.false);
    }
