-- The rows of a picture: a base's pieces, and the records behind it.
use Rattle.std.specs.Prelude.{ℕ, ◌-◌, ◌==◌, Bool, false, Option, List, [], ◌∷◌, ◌++◌, length, max, codes}
use Rattle.std.specs.Prelude.{if◌then◌else◌}
use Rattle.std.specs.List.{repeat}
use Rattle.std.specs.Option.{option_map_or}
use Rattle.meet_history.specs.declared.pieces.Piece.{Piece}
use Rattle.meet_history.specs.declared.pieces.Piece.TheVariants.{Stands, Met, Cut, Flagged}
use Rattle.meet_run.specs.Tracing.BaseWording.{piece_line}
use Rattle.meet_run.specs.Tracing.TraceWording.{record_line}
use Rattle.meet_draw.specs.declared.columns.Column.{Column}
use Rattle.meet_draw.specs.declared.columns.Change.{Change}
use Rattle.meet_draw.specs.declared.columns.Change.TheVariants.{Nothing, Opens, Owed}
use Rattle.meet_draw.specs.declared.rows.Shown.{Shown}
use Rattle.meet_draw.specs.declared.rows.Shown.TheVariants.{Stood, Came}
use Rattle.meet_draw.specs.declared.rows.Layout.{Layout}
use Rattle.meet_draw.specs.Columns.{change_of, with_column, changed, span_of}
use Rattle.meet_draw.specs.Cells.{cells, right_aligned}

-- the seat of a piece, and what the piece says of its ticket
abbrev pub piece_seat : Piece → ℕ
piece_seat (Stands e) = e.seat
piece_seat (Met p) = p.seat
piece_seat (Cut c) = c.seat
piece_seat (Flagged i) = i

abbrev pub piece_change : Piece → Change
piece_change (Stands e) = if e.waits then Opens e.ticket else Nothing
piece_change (Met p) = Owed
piece_change (Cut c) = Owed
piece_change (Flagged i) = Nothing

-- a row's seat, what it changes, and its line, as a trace spells it
abbrev pub seat_in : Shown → ℕ
seat_in (Stood piece) = piece_seat piece
seat_in (Came n r) = r.seat

abbrev pub change_in : Shown → Change
change_in (Stood piece) = piece_change piece
change_in (Came n r) = change_of r.ticket r.deed

abbrev pub line_in : Shown → List ℕ
line_in (Stood piece) = piece_line piece
line_in (Came n r) = record_line r

-- a row's number, where it is a record's
abbrev pub number_text : (wide : ℕ) → Shown → List ℕ
number_text wide (Stood piece) = repeat wide (codes " ")
number_text wide (Came n r) = right_aligned wide n

-- whether it is the record that can't stand
abbrev pub is_bad : (bad : Option ℕ) → Shown → Bool
is_bad bad (Stood piece) = false
is_bad bad (Came n r) = option_map_or (λ b. b == n) bad false

-- the columns that a row leaves
unfoldable pub columns_after : (most : ℕ) → Shown → List Column → List Column
columns_after most x columns = changed (seat_in x) (change_in x) (with_column most (seat_in x) columns)

-- from where to where a row links
unfoldable pub link_in : (most : ℕ) → Shown → List Column → ℕ × ℕ
link_in most x columns = span_of (seat_in x) (change_in x) (with_column most (seat_in x) columns)

-- a row behind these columns: its number, a mark where it can't stand, the columns that it leaves, and its line
unfoldable pub row_text : Layout → (bad : Option ℕ) → List Column → Shown → List ℕ
row_text l bad columns x = number_text l.digits x
    ++ ((if is_bad bad x then codes "! " else codes "  ")
    ++ (cells l.style l.count (seat_in x) (link_in l.most x columns) (columns_after l.most x columns) ++ line_in x))

-- the rows, one behind another
unfoldable pub rows_text : Layout → (bad : Option ℕ) → List Column → List Shown → List ℕ
rows_text l bad columns [] = []
rows_text l bad columns (x ∷ xs) = row_text l bad columns x ++ rows_text l bad (columns_after l.most x columns) xs

-- the columns that all of them leave
unfoldable pub columns_behind : (most : ℕ) → List Column → List Shown → List Column
columns_behind most columns [] = columns
columns_behind most columns (x ∷ xs) = columns_behind most (columns_after most x columns) xs

-- how long their longest line is, without its end
unfoldable pub longest : List Shown → ℕ
longest [] = 0
longest (x ∷ xs) = max (length (line_in x) - 1) (longest xs)
