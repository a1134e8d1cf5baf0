-- The text of a row's columns.
use Rattle.std.specs.Prelude.{ℕ, ◌-◌, ◌==◌, nat_lt, nat_le, ◌&&◌, Bool, Option, Some, None, List, [], ◌++◌, length}
use Rattle.std.specs.Prelude.{codes, decimal, slice_get, if◌then◌else◌}
use Rattle.std.specs.List.{flat_map, range_with_len, repeat}
use Rattle.meet_draw.specs.declared.style.Style.{Style}
use Rattle.meet_draw.specs.declared.columns.Lane.{Lane}
use Rattle.meet_draw.specs.declared.columns.Lane.TheVariants.{Clear, Waits, Settled}
use Rattle.meet_draw.specs.declared.columns.Column.{Column}
use Rattle.meet_draw.specs.Styles.{bar_sign, dots_sign, link_sign, column_width}

-- some text, and how many characters it has
pub record Mark : Type 0 where
  pub text : List ℕ
  pub wide : ℕ

-- what stands in a column: a bar, dots, or nothing
abbrev pub lane_mark : Style → Lane → Mark
lane_mark style Clear = record { text = []; wide = 0 }
lane_mark style (Waits t) = record { text = bar_sign style; wide = 1 }
lane_mark style Settled = record { text = dots_sign style; wide = 1 }

-- in the column of the row's own seat its number
abbrev pub mark_of : Style → (seat : ℕ) → Option Column → Mark
mark_of style i None = record { text = []; wide = 0 }
mark_of style i (Some c) =
    if c.seat == i then record { text = decimal i; wide = length (decimal i) } else lane_mark style c.lane

-- a mark as wide as a column, filled up with this sign
abbrev pub padded : (fill : List ℕ) → Mark → List ℕ
padded fill mark = mark.text ++ repeat (column_width - mark.wide) fill

-- one column of a row, with a link behind its mark or without
abbrev pub cell : Style → (seat : ℕ) → (linked : Bool) → Option Column → List ℕ
cell style i linked column = padded (if linked then link_sign style else codes " ") (mark_of style i column)

-- the column of this number, linked where it stands between both ends of the row's link
abbrev pub cell_at : Style → (seat : ℕ) → (span : ℕ × ℕ) → List Column → (number : ℕ) → List ℕ
cell_at style i span columns j = cell style i (nat_le span.0 j && nat_lt j span.1) (slice_get columns j)

-- so many columns of a row
abbrev pub cells : Style → (count seat : ℕ) → (span : ℕ × ℕ) → List Column → List ℕ
cells style count i span columns = flat_map (cell_at style i span columns) (range_with_len 0 count)

-- a number that ends behind so many characters
abbrev pub right_aligned : (wide number : ℕ) → List ℕ
right_aligned wide number = repeat (wide - length (decimal number)) (codes " ") ++ decimal number
