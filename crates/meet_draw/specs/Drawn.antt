-- What is drawn of a text.
use Rattle.std.specs.Prelude.{◌≡◌, ℕ, ◌+◌, ◌-◌, Bool, true, false, Option, Some, None, Result, Ok, Err, List, [], ◌++◌}
use Rattle.std.specs.Prelude.{take, length}
use Rattle.std.specs.Io.KnownBytes.{Appends}
use Rattle.meet_tickets.specs.declared.places.Kind.{Kind}
use Rattle.meet_tickets.specs.declared.records.Deed.{Deed}
use Rattle.meet_tickets.specs.declared.records.Record.{Record}
use Rattle.meet_tickets.specs.declared.refusals.Refusal.{Refusal}
use Rattle.meet_tickets.specs.declared.refusals.Refusal.TheVariants.{Memory, BadTrace, ReadFault, WriteFault}
use Rattle.meet_tickets.specs.Bases.{Based, IsLegalOn}
use Rattle.meet_history.specs.declared.checker.Why.{Why}
use Rattle.meet_history.specs.Checking.{IsIllegalAt}
use Rattle.meet_history.specs.Standings.{standing_on}
use Rattle.meet_run.specs.declared.text.faults.RunFault.{RunFault}
use Rattle.meet_run.specs.Tracing.TraceWording.{illegal_line}
use Rattle.meet_run.specs.Tracing.Traces.{IsTraceOn, trace_fault_in}
use Rattle.meet_run.specs.Scripts.Wording.{last_line}
use Rattle.meet_run.specs.Texts.Writing.{AppendsPrefix}
use Rattle.meet_draw.specs.declared.style.Style.{Style}
use Rattle.meet_draw.specs.Pictures.{drawn}

-- what is drawn of a base and the records behind it: of legal ones all, and the line that says so; of others those up
-- to the first that can't stand, which is marked, and the line that names it
abbrev pub IsPicture : Style → (width : ℕ) → Kind → Based → List (Record Deed) → (legal : Bool) → (text : List ℕ)
    → Type 0
IsPicture style width kind base records true text = IsLegalOn kind base records
    × (text ≡ drawn style width kind base records None
    ++ last_line (base.gone + length records) (standing_on base records))
IsPicture style width kind base records false text = (number : ℕ) × (why : Why)
    × IsIllegalAt kind base records number why
    × (text ≡ drawn style width kind base (take (number - base.gone) records) (Some number) ++ illegal_line number why)

-- these lines are a whole trace, with a base or without, of which this is drawn
pub record IsDrawn (style : Style) (width : ℕ) (lines : List (List ℕ)) (legal : Bool) (text : List ℕ) : Type 0 where
  pub kind : Kind
  pub base : Based
  pub records : List (Record Deed)
  pub trace : IsTraceOn lines kind base records
  pub picture : IsPicture style width kind base records legal text

-- what a fault leaves: nothing is written but where a write failed, and then a prefix of what is drawn
abbrev pub DrawBreaks : Style → (width : ℕ) → (lines : List (List ℕ)) → Refusal → Option ℕ → (old new : Option (List ℕ))
    → Type 0
DrawBreaks style width lines BadTrace (Some n) old new = (trace_fault_in lines ≡ Some n) × Appends old new []
DrawBreaks style width lines Memory None old new = Appends old new []
DrawBreaks style width lines ReadFault None old new = Appends old new []
DrawBreaks style width lines WriteFault None old new = (legal : Bool) × (text : List ℕ)
    × IsDrawn style width lines legal text × AppendsPrefix old new text
DrawBreaks style width lines _ _ old new = ⊥

-- what came of it
abbrev pub DrawEnds : Style → (width : ℕ) → (lines : List (List ℕ)) → Result Bool RunFault → (old new : Option (List ℕ))
    → Type 0
DrawEnds style width lines (Ok legal) old new = (text : List ℕ) × IsDrawn style width lines legal text
    × Appends old new text
DrawEnds style width lines (Err f) old new = DrawBreaks style width lines f.why f.line old new
