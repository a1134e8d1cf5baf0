-- Proof of `change_columns`, src/columns.rt. Changes what is drawn in each column, by a row of this seat.
use Rattle.std.proofs.Common.{◌≤◌, List, length, set, ap, sym, subst, ◌≡◌, ◌∙◌}
use Rattle.std.proofs.lemmas.List.Edits.{map_over_more}
use Rattle.meet_draw.specs.declared.columns.Column.{Column}
use Rattle.meet_draw.specs.Columns.{column_after}
use Rattle.meet_draw.proofs.Changes.{AreChanged, all-changed}
use Rattle.meet_draw.proofs.columns.change_columns.Goals as goal

pub loop-column-preserved : goal.loop-column-preserved
loop-column-preserved c =
    let f : Column → Column = column_after c.args.seat c.args.change.now in
    let wrote : c.behind.result ≡ f c.column-item.result = c.behind.ensures ∙ ap f (sym c.column-item.is) in
    ap (set c.loop-column.column-items c.loop-column.column-index) wrote
    ∙ map_over_more f c.deref_mut-column-items.result.now c.loop-column.column-items c.loop-column.column-index c.column-item.result c.loop-column-test.true c.loop-column.invariant c.column-item.is

pub returns : goal.returns
returns c =
    let f : Column → Column = column_after c.args.seat c.args.change.now in
    let value = c.deref_mut-column-items.ensures.value in
    all-changed f c.args.columns.now.items c.loop-column.column-items c.args.columns.now.len c.loop-column.column-index
    (subst (λ (xs : List Column). AreChanged f xs c.loop-column.column-index c.loop-column.column-items) value c.loop-column.invariant)
    (sym (ap length value) ∙ c.deref_mut-column-items.ensures.len)
    (subst (λ (xs : List Column). length xs ≤ c.loop-column.column-index) value c.loop-column-test.false)
