-- What stays true from turn to turn of `rows_of`, src/picture.rt.
use Rattle.std.proofs.Common.{◌≡◌, ◌+◌, ◌++◌}
use Rattle.meet_history.specs.declared.pieces.Piece.TheVariants.{Stands, Met, Cut, Flagged}
use Rattle.meet_draw.specs.Pictures.{came_from}
use Rattle.meet_draw.proofs.Showing.{AreShown, AreComing}
use Rattle.meet_draw.proofs.picture.rows_of.Given as goal

abbrev pub invariant-loop-entry : goal.invariant-loop-entry
invariant-loop-entry l = AreShown Stands l.initial.rows.items l.base.line l.entry-index l.rows.items

abbrev pub invariant-loop-pair : goal.invariant-loop-pair
invariant-loop-pair l = AreShown Met l.initial.rows.items l.base.pairs l.pair-index l.rows.items

abbrev pub invariant-loop-cut : goal.invariant-loop-cut
invariant-loop-cut l = AreShown Cut l.initial.rows.items l.base.cut l.cut-index l.rows.items

abbrev pub invariant-loop-seat : goal.invariant-loop-seat
invariant-loop-seat l = AreShown Flagged l.initial.rows.items l.base.flags l.seat-index l.rows.items

abbrev pub invariant-loop-record : goal.invariant-loop-record
invariant-loop-record l = record {
  coming : AreComing (l.base.gone + 1) l.records (l.initial.rows.items ++ came_from (l.base.gone + 1) l.records) l.record-index l.rows.items;
  count : l.number ≡ l.base.gone + l.record-index;
}
