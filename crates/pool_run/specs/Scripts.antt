-- What comes of a pool's script: its replies, or its trace.
use Rattle.std.specs.Prelude.{◌≡◌, ◌⊎◌, ℕ, Bool, true, Option, Some, None, Result, Ok, Err, List, [], ◌∷◌, ◌++◌, length}
use Rattle.std.specs.Prelude.{MatchOption, ⊤}
use Rattle.std.specs.Io.KnownBytes.{Appends}
use Rattle.std.specs.List.{flat_map}
use Rattle.meet_tickets.specs.declared.records.Record.{Record}
use Rattle.meet_tickets.specs.declared.refusals.Refusal.{Refusal}
use Rattle.meet_tickets.specs.declared.refusals.Refusal.TheVariants.{Memory, BadSizes, PolicyNeedsBuffer, BadLine}
use Rattle.meet_tickets.specs.declared.refusals.Refusal.TheVariants.{ReadFault, WriteFault}
use Rattle.meet_tickets.specs.Refusals.{IsWhy}
use Rattle.meet_run.specs.declared.text.faults.RunFault.{RunFault}
use Rattle.meet_run.specs.Texts.Reading.{Listed, listed}
use Rattle.meet_run.specs.Texts.Writing.{AppendsPrefix}
use Rattle.pool_core.specs.declared.deeds.PoolDeed.{PoolDeed}
use Rattle.pool_core.specs.declared.settings.Settings.{Settings}
use Rattle.pool_core.specs.Calls.{settings_refusal}
use Rattle.pool_history.specs.declared.one_thread.replies.PoolReply.{PoolReply}
use Rattle.pool_history.specs.declared.one_thread.verbs.PoolRequest.{PoolRequest}
use Rattle.pool_history.specs.OneThread.{Thread, IsNew, AreTurns}
use Rattle.pool_history.specs.Pushing.{counters_of}
use Rattle.pool_run.specs.FirstLines.{settings_of}
use Rattle.pool_run.specs.Requests.{request_of}
use Rattle.pool_run.specs.Wording.{pool_reply_line, pool_head_line, pool_record_line, pool_last_line}

-- the calls of these lines, of which the first has this number, up to the first that is none
abbrev pub requests_from : (n : ℕ) → (lines : List (List ℕ)) → Listed PoolRequest
requests_from n lines = listed (λ k line. request_of line) n lines

-- the calls behind a script's first line
abbrev pub requests_behind : (lines : List (List ℕ)) → Listed PoolRequest
requests_behind lines = requests_from 2 lines

-- the text of these replies
unfoldable pub replies_text : List PoolReply → List ℕ
replies_text replies = flat_map pool_reply_line replies

-- the trace of these records: its first line, and a line for each
unfoldable pub pool_trace_text : Settings → List (Record (PoolDeed ℕ)) → List ℕ
pool_trace_text s records = pool_head_line s ++ flat_map pool_record_line records

-- the last line of a script that left the pool so
abbrev pub closing : Thread → List ℕ
closing t = pool_last_line (length t.written) (counters_of t.pool.pool)

-- one thread made these calls of a new pool of these settings, was told this, and left the pool so
pub record HasRun (s : Settings) (requests : List PoolRequest) (replies : List PoolReply) (t : Thread) : Type 0 where
  pub start : Thread
  pub new : IsNew s start
  pub turns : AreTurns start requests replies t

-- all lines are calls, and what they are told was written, and then the last line
pub record HasEnded (s : Settings) (lines : List (List ℕ)) (old new : Option (List ℕ)) : Type 0 where
  pub replies : List PoolReply
  pub thread : Thread
  pub whole : (requests_behind lines).fault ≡ None
  pub run : HasRun s (requests_behind lines).items replies thread
  pub wrote : Appends old new (replies_text replies ++ closing thread)

-- line n is no call, and what the calls before it are told was written
pub record EndsAt (s : Settings) (lines : List (List ℕ)) (n : ℕ) (old new : Option (List ℕ)) : Type 0 where
  pub replies : List PoolReply
  pub thread : Thread
  pub fault : (requests_behind lines).fault ≡ Some n
  pub run : HasRun s (requests_behind lines).items replies thread
  pub wrote : Appends old new (replies_text replies)

-- some of the calls were made, and a prefix of what they are told was written
pub record IsCut (s : Settings) (lines : List (List ℕ)) (old new : Option (List ℕ)) : Type 0 where
  pub made : List PoolRequest
  pub others : List PoolRequest
  pub replies : List PoolReply
  pub thread : Thread
  pub parts : (requests_behind lines).items ≡ made ++ others
  pub run : HasRun s made replies thread
  pub wrote : AppendsPrefix old new (replies_text replies)

-- all calls were made, and the last line may be cut
pub record IsCutLast (s : Settings) (lines : List (List ℕ)) (old new : Option (List ℕ)) : Type 0 where
  pub replies : List PoolReply
  pub thread : Thread
  pub whole : (requests_behind lines).fault ≡ None
  pub run : HasRun s (requests_behind lines).items replies thread
  pub wrote : AppendsPrefix old new (replies_text replies ++ closing thread)

-- no such pool can be made, for this reason, and nothing was written
abbrev pub IsUnmade : Settings → Refusal → (old new : Option (List ℕ)) → Type 0
IsUnmade s why old new = (settings_refusal s ≡ Some why) × Appends old new []

-- how a run of these calls broke off
abbrev pub RunBreaks : Settings → (lines : List (List ℕ)) → Refusal → Option ℕ → (old new : Option (List ℕ)) → Type 0
RunBreaks s lines BadLine (Some n) old new = EndsAt s lines n old new
RunBreaks s lines Memory None old new = IsCut s lines old new
RunBreaks s lines ReadFault None old new = IsCut s lines old new
RunBreaks s lines WriteFault None old new = IsCut s lines old new ⊎ IsCutLast s lines old new
RunBreaks s lines BadSizes None old new = IsUnmade s BadSizes old new
RunBreaks s lines PolicyNeedsBuffer None old new = IsUnmade s PolicyNeedsBuffer old new
RunBreaks s lines _ _ old new = ⊥

-- what came of the calls behind a script's first line
abbrev pub RunsTo : Settings → (lines : List (List ℕ)) → Result Bool RunFault → (old new : Option (List ℕ)) → Type 0
RunsTo s lines (Ok legal) old new = (legal ≡ true) × HasEnded s lines old new
RunsTo s lines (Err f) old new = RunBreaks s lines f.why f.line old new

-- what comes of a text that has no first line: it is told so, or wasn't read; nothing was written
abbrev pub HeadBreaks : Refusal → Option ℕ → (old new : Option (List ℕ)) → Type 0
HeadBreaks BadLine (Some n) old new = (n ≡ 1) × Appends old new []
HeadBreaks Memory None old new = Appends old new []
HeadBreaks ReadFault None old new = Appends old new []
HeadBreaks _ _ old new = ⊥

abbrev pub IsHeadless : Result Bool RunFault → (old new : Option (List ℕ)) → Type 0
IsHeadless (Ok legal) old new = ⊥
IsHeadless (Err f) old new = HeadBreaks f.why f.line old new

-- what came of a text of these lines, whose first one says what the pool is made with, by what comes of the others
unfoldable pub TextEnds :
    (Comes : Settings → (lines : List (List ℕ)) → Result Bool RunFault → (old new : Option (List ℕ)) → Type 0)
    → (lines : List (List ℕ)) → Result Bool RunFault → (old new : Option (List ℕ)) → Type 0
TextEnds Comes [] result old new = IsHeadless result old new
TextEnds Comes (line ∷ lines) result old new =
    MatchOption (settings_of line) (IsHeadless result old new) (λ s. Comes s lines result old new)

-- what came of a script of these lines
abbrev pub ScriptEnds : (lines : List (List ℕ)) → Result Bool RunFault → (old new : Option (List ℕ)) → Type 0
ScriptEnds lines result old new = TextEnds RunsTo lines result old new

-- the trace of the calls before the first line that is none was written
pub record HasTraced (s : Settings) (lines : List (List ℕ)) (fault : Option ℕ) (old new : Option (List ℕ))
    : Type 0 where
  pub replies : List PoolReply
  pub thread : Thread
  pub at : (requests_behind lines).fault ≡ fault
  pub run : HasRun s (requests_behind lines).items replies thread
  pub wrote : Appends old new (pool_trace_text s thread.written)

-- some of the calls were made, and a prefix of their trace was written
pub record IsTraceCut (s : Settings) (lines : List (List ℕ)) (old new : Option (List ℕ)) : Type 0 where
  pub made : List PoolRequest
  pub others : List PoolRequest
  pub replies : List PoolReply
  pub thread : Thread
  pub parts : (requests_behind lines).items ≡ made ++ others
  pub run : HasRun s made replies thread
  pub wrote : AppendsPrefix old new (pool_trace_text s thread.written)

-- how the tracing of these calls broke off
abbrev pub TraceBreaks : Settings → (lines : List (List ℕ)) → Refusal → Option ℕ → (old new : Option (List ℕ)) → Type 0
TraceBreaks s lines BadLine (Some n) old new = HasTraced s lines (Some n) old new
TraceBreaks s lines Memory None old new = IsTraceCut s lines old new
TraceBreaks s lines ReadFault None old new = IsTraceCut s lines old new
TraceBreaks s lines WriteFault None old new = IsTraceCut s lines old new
TraceBreaks s lines BadSizes None old new = IsUnmade s BadSizes old new
TraceBreaks s lines PolicyNeedsBuffer None old new = IsUnmade s PolicyNeedsBuffer old new
TraceBreaks s lines _ _ old new = ⊥

-- what came of tracing the calls behind a script's first line
abbrev pub TracesTo : Settings → (lines : List (List ℕ)) → Result Bool RunFault → (old new : Option (List ℕ)) → Type 0
TracesTo s lines (Ok legal) old new = (legal ≡ true) × HasTraced s lines None old new
TracesTo s lines (Err f) old new = TraceBreaks s lines f.why f.line old new

-- what came of tracing a script of these lines
abbrev pub TraceEnds : (lines : List (List ℕ)) → Result Bool RunFault → (old new : Option (List ℕ)) → Type 0
TraceEnds lines result old new = TextEnds TracesTo lines result old new

-- the calls of these lines, up to the first that is none, left the pool so; the number of that line, if there is one
pub record AreMade (s : Settings) (lines : List (List ℕ)) (thread : Thread) (fault : Option ℕ) : Type 0 where
  pub replies : List PoolReply
  pub at : (requests_behind lines).fault ≡ fault
  pub run : HasRun s (requests_behind lines).items replies thread

-- why the calls weren't made to their end: a read failed, no such pool can be made, or there was no memory
abbrev pub IsUnmadeBy : Settings → Refusal → Type 0
IsUnmadeBy s why = (why ≡ ReadFault) ⊎ IsWhy (settings_refusal s) why

-- the faults that end a script
abbrev pub ScriptFaultIs : Refusal → Option ℕ → Type 0
ScriptFaultIs BadLine (Some n) = ⊤
ScriptFaultIs Memory None = ⊤
ScriptFaultIs ReadFault None = ⊤
ScriptFaultIs WriteFault None = ⊤
ScriptFaultIs BadSizes None = ⊤
ScriptFaultIs PolicyNeedsBuffer None = ⊤
ScriptFaultIs _ _ = ⊥

abbrev pub IsScriptFault : RunFault → Type 0
IsScriptFault f = ScriptFaultIs f.why f.line
