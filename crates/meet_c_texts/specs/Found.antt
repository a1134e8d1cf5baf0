-- What a caller in C is told of a trace.
use Rattle.std.specs.Prelude.{◌≡◌, ◌≢◌, ◌⊎◌, ℕ, ◌+◌, Some, None, List, length}
use Rattle.meet_tickets.specs.declared.places.Kind.{Kind}
use Rattle.meet_tickets.specs.declared.records.Record.{Record}
use Rattle.meet_tickets.specs.declared.records.Deed.{Deed}
use Rattle.meet_tickets.specs.Bases.{Based, IsLegalOn}
use Rattle.meet_history.specs.declared.checker.CheckFault.TheVariants.{Illegal}
use Rattle.meet_history.specs.declared.checker.Why.{Why}
use Rattle.meet_history.specs.declared.checker.Standing.{Standing}
use Rattle.meet_history.specs.Checking.{IsIllegalAt, number_of_why}
use Rattle.meet_history.specs.Pushing.{IsStandingOf}
use Rattle.meet_history.specs.Standings.{standing_on}
use Rattle.meet_run.specs.declared.trace.check.ReadTrace.{ReadTrace}
use Rattle.meet_run.specs.Texts.Reading.{lines_of}
use Rattle.meet_run.specs.Tracing.Traces.{IsTraceOn, trace_fault_in}
use Rattle.meet_c_texts.specs.declared.checks.Verdict.{Verdict}

-- a status and a line, and nothing else
abbrev pub status_at : (status line : ℕ) → Verdict
status_at status line = record {
  status = status;
  line = line;
  records = 0;
  place = 0;
  why = 0;
  waiting = 0;
  uncollected = 0;
  kept = 0;
}

-- the standing that is told
abbrev pub told_standing : Verdict → Standing
told_standing v = record { waiting = v.waiting; uncollected = v.uncollected; kept = v.kept }

-- what is told of a trace that was read
pub record VerdictOf (trace : ReadTrace) (v : Verdict) : Type 0 where
  pub legal : v.status ≡ 0 → (trace.checker.fault ≡ None) × IsStandingOf trace.checker (told_standing v)
      × (v.records ≡ trace.count)
  pub illegal : v.status ≡ 31 → (why : Why) × (trace.checker.fault ≡ Some (Illegal v.place why))
      × (v.why ≡ number_of_why why)
  pub others : v.status ≢ 0 → v.status ≢ 31 → v ≡ status_at 1 0

-- the records are legal, they are so many, and this is where they leave the place
pub record IsLegalIn (kind : Kind) (base : Based) (records : List (Record Deed)) (v : Verdict) : Type 0 where
  pub legal : IsLegalOn kind base records
  pub stands : told_standing v ≡ standing_on base records
  pub count : v.records ≡ base.gone + length records

-- this record is the first that can't stand, for this reason
pub record IsIllegalIn (kind : Kind) (base : Based) (records : List (Record Deed)) (v : Verdict) : Type 0 where
  pub why : Why
  pub at : IsIllegalAt kind base records v.place why
  pub told : v.why ≡ number_of_why why

-- the text is a whole trace, with a base or without, of which this is said
abbrev pub IsTraceWith : (text : List ℕ) → (Kind → Based → List (Record Deed) → Type 0) → Type 0
IsTraceWith text P =
    (kind : Kind) × (base : Based) × (records : List (Record Deed)) × IsTraceOn (lines_of text) kind base records
    × P kind base records

-- what is found of a text
pub record FoundIn (text : List ℕ) (v : Verdict) : Type 0 where
  pub legal : v.status ≡ 0 → IsTraceWith text (λ kind base records. IsLegalIn kind base records v)
  pub illegal : v.status ≡ 31 → IsTraceWith text (λ kind base records. IsIllegalIn kind base records v)
  pub bad : v.status ≡ 15 → trace_fault_in (lines_of text) ≡ Some v.line
  pub others : v.status ≢ 0 → v.status ≢ 31 → v.status ≢ 15 → (v ≡ status_at 1 0) ⊎ (v ≡ status_at 16 0)
