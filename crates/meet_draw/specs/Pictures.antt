-- The picture of a trace.
use Rattle.std.specs.Prelude.{ℕ, ◌+◌, ◌-◌, ◌/◌, Option, List, [], ◌∷◌, ◌++◌, length, map, max, codes, decimal}
use Rattle.meet_tickets.specs.declared.places.Kind.{Kind}
use Rattle.meet_tickets.specs.declared.records.Deed.{Deed}
use Rattle.meet_tickets.specs.declared.records.Record.{Record}
use Rattle.meet_tickets.specs.Bases.{Based}
use Rattle.meet_run.specs.Tracing.BaseWording.{pieces_of}
use Rattle.meet_run.specs.Scripts.Spelling.{place_text, option_text}
use Rattle.meet_draw.specs.declared.style.Style.{Style}
use Rattle.meet_draw.specs.declared.rows.Shown.{Shown}
use Rattle.meet_draw.specs.declared.rows.Shown.TheVariants.{Stood, Came}
use Rattle.meet_draw.specs.declared.rows.Layout.{Layout}
use Rattle.meet_draw.specs.Styles.{column_width}
use Rattle.meet_draw.specs.Rows.{rows_text, columns_behind, longest}

-- records, numbered from this one on
unfoldable pub came_from : (number : ℕ) → List (Record Deed) → List Shown
came_from n [] = []
came_from n (r ∷ records) = Came n r ∷ came_from (n + 1) records

-- what is shown of a base and the records behind it, numbered from the first of all
abbrev pub shown_of : Based → List (Record Deed) → List Shown
shown_of base records = map Stood (pieces_of base) ++ came_from (base.gone + 1) records

-- how many columns there may be: what fits into a row beside its number, two characters and the longest line, but one
abbrev pub most_columns : (width digits long : ℕ) → ℕ
most_columns width digits long = max 1 ((width - long - digits - 2) / column_width)

-- how these rows are laid out, of which the last has this number: there are as many columns as they need
abbrev pub layout_with : Style → (digits most : ℕ) → List Shown → Layout
layout_with style digits most shown = record {
  style = style;
  digits = digits;
  most = most;
  count = length (columns_behind most [] shown);
}

abbrev pub layout_of : Style → (width last : ℕ) → List Shown → Layout
layout_of style width last shown = layout_with style (length (decimal last))
    (most_columns width (length (decimal last)) (longest shown)) shown

-- the place of a picture's first line
abbrev pub place_line : Kind → List ℕ
place_line kind = place_text kind.order ++ (option_text (codes " bound ") kind.bound ++ codes "\n")

-- the picture of a base and the records behind it, of which this one can't stand, if one can't
unfoldable pub drawn : Style → (width : ℕ) → Kind → Based → List (Record Deed) → (bad : Option ℕ) → List ℕ
drawn style width kind base records bad = place_line kind
    ++ rows_text (layout_of style width (base.gone + length records) (shown_of base records)) bad []
    (shown_of base records)
