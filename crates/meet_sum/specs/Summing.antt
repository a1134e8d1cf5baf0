-- What is said of a trace whose sums are asked for.
use Rattle.std.specs.Prelude.{◌≡◌, ℕ, ◌+◌, Bool, true, false, Option, Some, None, Result, Ok, Err, List, [], ◌++◌}
use Rattle.std.specs.Prelude.{length}
use Rattle.std.specs.Io.KnownBytes.{Appends}
use Rattle.meet_tickets.specs.declared.places.Kind.{Kind}
use Rattle.meet_tickets.specs.declared.records.Deed.{Deed}
use Rattle.meet_tickets.specs.declared.records.Record.{Record}
use Rattle.meet_tickets.specs.declared.refusals.Refusal.{Refusal}
use Rattle.meet_tickets.specs.declared.refusals.Refusal.TheVariants.{Memory, BadTrace, ReadFault, WriteFault}
use Rattle.meet_tickets.specs.Bases.{Based, IsWellFormed, IsLegalOn}
use Rattle.meet_history.specs.Standings.{standing_on}
use Rattle.meet_run.specs.declared.text.faults.RunFault.{RunFault}
use Rattle.meet_run.specs.Tracing.Traces.{IsTraceOn, IsFoundIn, trace_fault_in}
use Rattle.meet_run.specs.Scripts.Wording.{last_line}
use Rattle.meet_run.specs.Texts.Writing.{AppendsPrefix}
use Rattle.meet_sum.specs.declared.sums.Sums.{Sums}
use Rattle.meet_sum.specs.Sums.{AreSums}
use Rattle.meet_sum.specs.SumTexts.{sums_text}

-- the lines are a whole trace that is legal; this is the line that says so, and behind it its sums
pub record IsSummed (lines : List (List ℕ)) (text : List ℕ) : Type 0 where
  pub kind : Kind
  pub base : Based
  pub records : List (Record Deed)
  pub trace : IsTraceOn lines kind base records
  pub well_formed : IsWellFormed kind base
  pub legal : IsLegalOn kind base records
  pub sums : Sums
  pub are : AreSums base records sums
  pub told : text ≡ last_line (base.gone + length records) (standing_on base records) ++ sums_text sums

-- what is said of these lines: of a legal trace that, of another one the line that `check` finds
abbrev pub IsSaid : (lines : List (List ℕ)) → (legal : Bool) → (text : List ℕ) → Type 0
IsSaid lines true text = IsSummed lines text
IsSaid lines false text = IsFoundIn lines false text

-- what a fault leaves: nothing is written but where a write failed, and then a prefix of what is said
abbrev pub SumBreaks : (lines : List (List ℕ)) → Refusal → Option ℕ → (old new : Option (List ℕ)) → Type 0
SumBreaks lines BadTrace (Some n) old new = (trace_fault_in lines ≡ Some n) × Appends old new []
SumBreaks lines Memory None old new = Appends old new []
SumBreaks lines ReadFault None old new = Appends old new []
SumBreaks lines WriteFault None old new =
    (legal : Bool) × (text : List ℕ) × IsSaid lines legal text × AppendsPrefix old new text
SumBreaks lines _ _ old new = ⊥

-- what came of it
abbrev pub SumEnds : (lines : List (List ℕ)) → Result Bool RunFault → (old new : Option (List ℕ)) → Type 0
SumEnds lines (Ok legal) old new = (text : List ℕ) × IsSaid lines legal text × Appends old new text
SumEnds lines (Err f) old new = SumBreaks lines f.why f.line old new
