-- What comes of a text of calls that overlap.
use Rattle.std.specs.Prelude.{◌≡◌, ℕ, Bool, true, false, Option, List, length, Result, IfOk}
use Rattle.std.specs.Io.KnownBytes.{Appends}
use Rattle.meet_tickets.specs.declared.places.Kind.{Kind}
use Rattle.meet_tickets.specs.declared.records.Deed.{Deed}
use Rattle.meet_tickets.specs.declared.records.Record.{Record}
use Rattle.meet_overlap.specs.declared.calls.Call.{Call}
use Rattle.meet_overlap.specs.declared.calls.Queue.{Queue}
use Rattle.meet_overlap.specs.declared.calls.Queue.TheVariants.{Place, Buffer}
use Rattle.meet_overlap.specs.declared.reasons.Reason.{Reason}
use Rattle.meet_overlap.specs.Buffers.{buffer, effects, BufferExplains}
use Rattle.meet_overlap.specs.Explaining.{Explains}
use Rattle.meet_overlap.specs.Reasons.{IsReason}
use Rattle.meet_run.specs.declared.text.faults.RunFault.{RunFault}
use Rattle.meet_run.specs.Tracing.TraceWording.{trace_text}
use Rattle.meet_judge.specs.CallText.{calls_text, refused_text}

-- the kind of place whose histories explain the calls of a queue
abbrev pub kind_of : Queue → Kind
kind_of (Place k) = k
kind_of (Buffer bound) = buffer bound

-- the history explains calls at a queue
abbrev pub ExplainsAt : Queue → List Call → List (Record Deed) → Type 0
ExplainsAt (Place k) calls history = Explains k calls history
ExplainsAt (Buffer bound) calls history = BufferExplains bound calls history

-- the reason is true of the calls; at a buffer there is one that is true of those calls that can have an effect, whose
-- numbers are other ones
abbrev pub IsReasonAt : Queue → List Call → Reason → Type 0
IsReasonAt (Place k) calls reason = IsReason k calls reason
IsReasonAt (Buffer bound) calls reason = (why : Reason) × IsReason (buffer bound) (effects calls) why

-- the text is that of calls, a history explains them, and its trace is written
pub record AreExplained (text : List ℕ) (old new : Option (List ℕ)) : Type 0 where
  pub queue : Queue
  pub calls : List Call
  pub read : text ≡ calls_text queue calls
  pub history : List (Record Deed)
  pub explains : ExplainsAt queue calls history
  pub written : Appends old new (trace_text (kind_of queue) history)

-- the text is that of calls, no history explains them, and a reason that is true of them is written
pub record AreRefused (text : List ℕ) (old new : Option (List ℕ)) : Type 0 where
  pub queue : Queue
  pub calls : List Call
  pub read : text ≡ calls_text queue calls
  pub none : (history : List (Record Deed)) → ExplainsAt queue calls history → ⊥
  pub reason : Reason
  pub is : IsReasonAt queue calls reason
  pub written : Appends old new (refused_text reason (length calls))

-- what is found of a text of calls
abbrev pub Judged : (text : List ℕ) → (old new : Option (List ℕ)) → Bool → Type 0
Judged text old new true = AreExplained text old new
Judged text old new false = AreRefused text old new

-- what comes of a text of calls; nothing is said of one that can't be read or judged
abbrev pub JudgeEnds : (input : List ℕ) → Result Bool RunFault → (old new : Option (List ℕ)) → Type 0
JudgeEnds input result old new = IfOk result (Judged input old new)
