-- What a pool's whole trace says, and what is found of it.
use Rattle.std.specs.Prelude.{◌≡◌, ℕ, Bool, true, false, Option, Some, None, Result, Ok, Err, List, [], ◌∷◌, ◌++◌}
use Rattle.std.specs.Prelude.{length}
use Rattle.std.specs.Prelude.{codes, decimal}
use Rattle.std.specs.Io.KnownBytes.{Appends}
use Rattle.std.specs.Option.{option_map_or}
use Rattle.meet_tickets.specs.declared.records.Record.{Record}
use Rattle.meet_tickets.specs.declared.refusals.Refusal.{Refusal}
use Rattle.meet_tickets.specs.declared.refusals.Refusal.TheVariants.{Memory, BadTrace, ReadFault, WriteFault}
use Rattle.meet_run.specs.declared.text.faults.RunFault.{RunFault}
use Rattle.meet_run.specs.Texts.Reading.{Listed, listed}
use Rattle.meet_run.specs.Texts.Writing.{AppendsPrefix}
use Rattle.pool_core.specs.declared.deeds.PoolDeed.{PoolDeed}
use Rattle.pool_core.specs.declared.settings.Settings.{Settings}
use Rattle.pool_core.specs.Histories.{no_base, IsLegalOn}
use Rattle.pool_history.specs.declared.checker.PoolWhy.{PoolWhy}
use Rattle.pool_history.specs.declared.checker.PoolWhy.TheVariants.{NoSuchSeat, NotOpen, TicketOrder, WrongReply}
use Rattle.pool_history.specs.Checking.{IsIllegalAt}
use Rattle.pool_history.specs.Pushing.{Progress, HasSeen, counters_on}
use Rattle.pool_run.specs.FirstLines.{pool_head_of}
use Rattle.pool_run.specs.Records.{pool_record_at}
use Rattle.pool_run.specs.Wording.{pool_last_line}

-- a reason's name
abbrev pub why_text : PoolWhy → List ℕ
why_text NoSuchSeat = codes "NoSuchSeat"
why_text NotOpen = codes "NotOpen"
why_text TicketOrder = codes "TicketOrder"
why_text WrongReply = codes "WrongReply"

-- the line of a trace that isn't legal: its first record that can't stand, and why
unfoldable pub pool_illegal_line : (number : ℕ) → PoolWhy → List ℕ
pool_illegal_line number why = codes "illegal " ++ decimal number ++ codes " " ++ why_text why ++ codes "\n"

-- the records of these lines, of which the first has this number, up to the first that is none
abbrev pub pool_records_from : (n : ℕ) → (lines : List (List ℕ)) → Listed (Record (PoolDeed ℕ))
pool_records_from n lines = listed pool_record_at n lines

-- the records behind a trace's first line
abbrev pub pool_records_behind : (lines : List (List ℕ)) → Listed (Record (PoolDeed ℕ))
pool_records_behind lines = pool_records_from 2 lines

-- the number of a trace's first faulty line; without a first line it is 1
unfoldable pub pool_fault_in : (lines : List (List ℕ)) → Option ℕ
pool_fault_in [] = Some 1
pool_fault_in (line ∷ lines) = option_map_or (λ s. (pool_records_behind lines).fault) (pool_head_of line) (Some 1)

-- these lines are a whole trace, of a pool of these settings, with these records
pub record IsPoolTrace (lines : List (List ℕ)) (s : Settings) (records : List (Record (PoolDeed ℕ))) : Type 0 where
  pub first : List ℕ
  pub rest : List (List ℕ)
  pub parts : lines ≡ first ∷ rest
  pub head : pool_head_of first ≡ Some s
  pub behind : pool_records_behind rest ≡ record { items = records; fault = None }

-- whether records are legal, and the line that says so: it counts them, and says what the pool counts; or it names the
-- first that can't stand, and why
abbrev pub IsPoolVerdict : Settings → List (Record (PoolDeed ℕ)) → (legal : Bool) → (text : List ℕ) → Type 0
IsPoolVerdict s records true text =
    IsLegalOn s no_base records × (text ≡ pool_last_line (length records) (counters_on s no_base records))
IsPoolVerdict s records false text =
    (number : ℕ) × (why : PoolWhy) × IsIllegalAt s no_base records number why × (text ≡ pool_illegal_line number why)

-- the lines are a whole trace, of which this is found
pub record IsFoundOfPool (lines : List (List ℕ)) (legal : Bool) (text : List ℕ) : Type 0 where
  pub settings : Settings
  pub records : List (Record (PoolDeed ℕ))
  pub trace : IsPoolTrace lines settings records
  pub verdict : IsPoolVerdict settings records legal text

-- these lines are records to their end, so many, and just they were pushed on the checker
pub record ArePushed (checker : Progress) (count : ℕ) (lines : Listed (Record (PoolDeed ℕ))) : Type 0 where
  pub whole : lines.fault ≡ None
  pub counted : count ≡ length lines.items
  pub seen : HasSeen no_base checker lines.items

-- a fault of a trace's line names it
abbrev pub NamesLine : RunFault → (fault : Option ℕ) → Type 0
NamesLine f fault = f.why ≡ BadTrace → f.line ≡ fault

-- what a fault leaves of a check: nothing is written but where a write failed, and then a prefix of what is found
abbrev pub PoolCheckBreaks : (lines : List (List ℕ)) → Refusal → Option ℕ → (old new : Option (List ℕ)) → Type 0
PoolCheckBreaks lines BadTrace (Some n) old new = (pool_fault_in lines ≡ Some n) × Appends old new []
PoolCheckBreaks lines Memory None old new = Appends old new []
PoolCheckBreaks lines ReadFault None old new = Appends old new []
PoolCheckBreaks lines WriteFault None old new =
    (legal : Bool) × (text : List ℕ) × IsFoundOfPool lines legal text × AppendsPrefix old new text
PoolCheckBreaks lines _ _ old new = ⊥

-- what came of checking a trace of these lines
abbrev pub PoolCheckEnds : (lines : List (List ℕ)) → Result Bool RunFault → (old new : Option (List ℕ)) → Type 0
PoolCheckEnds lines (Ok legal) old new = (text : List ℕ) × IsFoundOfPool lines legal text × Appends old new text
PoolCheckEnds lines (Err f) old new = PoolCheckBreaks lines f.why f.line old new

-- whatever so many records were pushed on the checker, this is found of them
abbrev pub IsVerdictOf : Progress → (count : ℕ) → (legal : Bool) → (text : List ℕ) → Type 0
IsVerdictOf checker count legal text =
    (records : List (Record (PoolDeed ℕ))) → HasSeen no_base checker records → count ≡ length records
    → IsPoolVerdict checker.pool.settings records legal text

-- these lines, behind the first of a trace of such a pool, are records to their end, of which this is found
abbrev pub IsFoundBehind : Settings → (lines : List (List ℕ)) → (legal : Bool) → (text : List ℕ) → Type 0
IsFoundBehind s lines legal text =
    ((pool_records_behind lines).fault ≡ None) × IsPoolVerdict s (pool_records_behind lines).items legal text
