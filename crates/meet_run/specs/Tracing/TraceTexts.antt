-- The one text of a whole trace, with a base or without (our choice of format).
use Rattle.std.specs.Prelude.{◌≤◌, ◌≡◌, ◌⊎◌, ◌↔◌, ℕ, List, ◌++◌, All, length, codes}
use Rattle.meet_tickets.specs.declared.places.Kind.{Kind}
use Rattle.meet_tickets.specs.declared.records.Deed.{Deed}
use Rattle.meet_tickets.specs.declared.records.Record.{Record}
use Rattle.meet_tickets.specs.Bases.{Based, IsWellFormed}
use Rattle.meet_tickets.specs.Limits.{most_records}
use Rattle.meet_run.specs.Texts.Reading.{lines_of}
use Rattle.meet_run.specs.Tracing.TraceSpelling.{FitsHead, FitsRecord}
use Rattle.meet_run.specs.Tracing.TraceWording.{trace_text}
use Rattle.meet_run.specs.Tracing.Traces.{IsTrace}
use Rattle.meet_run.specs.Tracing.BaseSpelling.{FitsNumbers, FitsPiece}
use Rattle.meet_run.specs.Tracing.BaseWording.{pieces_of, based_text}
use Rattle.meet_run.specs.Tracing.BasedTraces.{IsBasedTrace}

-- a text is this whole one, or lacks its last end of line
abbrev pub IsTextOf : (text whole : List ℕ) → Type 0
IsTextOf text whole = (text ≡ whole) ⊎ (text ++ codes "\n" ≡ whole)

-- the place may have its bound, the records' numbers are in their limits, and there are at most 1,048,576 of them
pub record FitsTrace (kind : Kind) (records : List (Record Deed)) : Type 0 where
  pub head : FitsHead kind
  pub each : All FitsRecord records
  pub count : length records ≤ most_records

-- a base is well formed, and its numbers and its pieces' are in their limits
pub record FitsBase (kind : Kind) (base : Based) : Type 0 where
  pub well_formed : IsWellFormed kind base
  pub numbers : FitsNumbers base.gone base.last
  pub pieces : All FitsPiece (pieces_of base)

-- a text reads as a whole trace exactly where it is that trace's one text
abbrev pub TracesHaveOneText : Type 0
TracesHaveOneText =
    (text : List ℕ) (kind : Kind) (records : List (Record Deed))
    → IsTrace (lines_of text) kind records ↔ (IsTextOf text (trace_text kind records) × FitsTrace kind records)

-- a text reads as a whole trace with a base exactly where it is that trace's one text
abbrev pub BasedTracesHaveOneText : Type 0
BasedTracesHaveOneText =
    (text : List ℕ) (kind : Kind) (base : Based) (records : List (Record Deed))
    → IsBasedTrace (lines_of text) kind base records
    ↔ (IsTextOf text (based_text kind base records) × FitsTrace kind records × FitsBase kind base)
