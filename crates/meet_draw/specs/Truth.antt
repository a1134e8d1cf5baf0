-- The laws of a picture: what is drawn in a column is so by the rules, and where a column is left over, nothing is
-- missing.
use Rattle.std.specs.Prelude.{◌≡◌, ◌<◌, ℕ, false, List, [], length, All, Contains}
use Rattle.meet_tickets.specs.declared.places.Kind.{Kind}
use Rattle.meet_tickets.specs.declared.records.Deed.{Deed}
use Rattle.meet_tickets.specs.declared.records.Record.{Record}
use Rattle.meet_tickets.specs.Bases.{Based, state_of_base, IsWellFormed, IsLegalOn}
use Rattle.meet_tickets.specs.ByLists.{State, IsOpen, IsInLine, run}
use Rattle.meet_draw.specs.declared.columns.Lane.{Lane}
use Rattle.meet_draw.specs.declared.columns.Lane.TheVariants.{Clear, Waits, Settled}
use Rattle.meet_draw.specs.declared.columns.Column.{Column}
use Rattle.meet_draw.specs.Columns.{is_clear}
use Rattle.meet_draw.specs.Pictures.{shown_of}
use Rattle.meet_draw.specs.Rows.{columns_behind}

-- a bar: that ticket is the seat's open one, and stands in the line; dots: the seat's open ticket doesn't stand there
abbrev pub IsTrueLane : State → (seat : ℕ) → Lane → Type 0
IsTrueLane s i Clear = Unit {0}
IsTrueLane s i (Waits t) = IsOpen s i t × IsInLine s t
IsTrueLane s i Settled = (t : ℕ) × IsOpen s i t × (IsInLine s t → ⊥)

abbrev pub IsTrueColumn : State → Column → Type 0
IsTrueColumn s c = IsTrueLane s c.seat c.lane

-- behind the rows of a base and legal records each column is true to what they leave, however many there may be
abbrev pub ColumnsAreTrue : Type 0
ColumnsAreTrue = (k : Kind) (base : Based) (records : List (Record Deed)) (most : ℕ) → IsWellFormed k base
    → IsLegalOn k base records
    → All (IsTrueColumn (run (state_of_base base) records)) (columns_behind most [] (shown_of base records))

-- the seat has a column with a bar or dots
abbrev pub IsDrawnFor : List Column → (seat : ℕ) → Type 0
IsDrawnFor columns i = (c : Column) × Contains columns c × (c.seat ≡ i) × (is_clear c.lane ≡ false)

-- where there may be a column more, each open ticket is drawn
abbrev pub OpenTicketsAreDrawn : Type 0
OpenTicketsAreDrawn = (k : Kind) (base : Based) (records : List (Record Deed)) (most : ℕ) → IsWellFormed k base
    → IsLegalOn k base records → length (columns_behind most [] (shown_of base records)) < most
    → (i t : ℕ) → IsOpen (run (state_of_base base) records) i t
    → IsDrawnFor (columns_behind most [] (shown_of base records)) i
