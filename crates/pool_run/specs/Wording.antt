-- The text of a pool's replies and of its trace, one line each.
use Rattle.std.specs.Prelude.{ℕ, ◌==◌, List, [], ◌++◌, codes, decimal, if◌then◌else◌}
use Rattle.meet_tickets.specs.declared.records.Record.{Record}
use Rattle.meet_tickets.specs.Refusals.{name_of}
use Rattle.pool_core.specs.declared.answers.Counters.{Counters}
use Rattle.pool_core.specs.declared.deeds.PoolDeed.{PoolDeed}
use Rattle.pool_core.specs.declared.deeds.PoolDeed.TheVariants.{Handed, Started, Kept, KeptStart, DroppedOldest, Runs}
use Rattle.pool_core.specs.declared.settings.Settings.{Settings}
use Rattle.pool_history.specs.declared.one_thread.replies.PoolReply.{PoolReply}
use Rattle.pool_history.specs.declared.one_thread.replies.PoolOutcome.{PoolOutcome}
use Rattle.pool_history.specs.declared.one_thread.replies.PoolOutcome.TheVariants.{Recorded, Returned, NotYet, Stays}
use Rattle.pool_history.specs.declared.one_thread.replies.PoolOutcome.TheVariants.{Late, Counted, Based, Refused}
use Rattle.pool_run.specs.Spelling.{pool_head_text}
use Rattle.pool_run.specs.RecordSpelling.{deed_text, pool_record_text}

-- a job and its ticket
abbrev pub from_text : (job ticket : ℕ) → List ℕ
from_text job ticket = decimal job ++ codes " from t" ++ decimal ticket

-- a deed as a reply tells it: without the job that its call names; any other deed as a trace does
unfoldable pub answer_text : PoolDeed ℕ → List ℕ
answer_text (Handed worker job) = codes "handed " ++ decimal worker
answer_text (Started worker job) = codes "started " ++ decimal worker
answer_text (Kept job) = codes "kept"
answer_text (KeptStart worker job) = codes "kept-start " ++ decimal worker
answer_text (DroppedOldest ticket oldest job) = codes "dropped-oldest " ++ from_text oldest ticket
answer_text (Runs ticket job) = codes "runs " ++ from_text job ticket
answer_text deed = deed_text deed

-- a record's ticket behind its seat; a record without one has ticket 0
unfoldable pub ticket_text : (ticket : ℕ) → List ℕ
ticket_text ticket = if ticket == 0 then [] else codes " t" ++ decimal ticket

-- what a pool counts
unfoldable pub counters_text : Counters → List ℕ
counters_text c =
    codes " workers " ++ decimal c.workers ++ codes " running " ++ decimal c.running ++ codes " kept " ++ decimal c.kept
    ++ codes " done " ++ decimal c.done ++ codes " largest " ++ decimal c.largest

-- a reply without a record: its seat, and what it says
abbrev pub said : (seat : ℕ) → (text : List ℕ) → List ℕ
said seat text = codes "- " ++ decimal seat ++ text

-- what came of a seat's call
unfoldable pub outcome_text : (seat : ℕ) → PoolOutcome → List ℕ
outcome_text seat (Recorded n ticket deed) =
    decimal n ++ codes " " ++ decimal seat ++ ticket_text ticket ++ codes " " ++ answer_text deed
outcome_text seat (Returned ticket job) = said seat (codes " back " ++ from_text job ticket)
outcome_text seat NotYet = said seat (codes " notyet")
outcome_text seat Stays = said seat (codes " stays")
outcome_text seat Late = said seat (codes " late")
outcome_text seat (Counted counters) = said seat (counters_text counters)
outcome_text seat (Based gone) = said seat (codes " base " ++ decimal gone)
outcome_text seat (Refused why) = said seat (codes " refused " ++ name_of why)

-- a reply's line
unfoldable pub pool_reply_line : PoolReply → List ℕ
pool_reply_line reply = outcome_text reply.seat reply.outcome ++ codes "\n"

-- a trace's first line
unfoldable pub pool_head_line : Settings → List ℕ
pool_head_line s = pool_head_text s ++ codes "\n"

-- a record's line
unfoldable pub pool_record_line : Record (PoolDeed ℕ) → List ℕ
pool_record_line r = pool_record_text r ++ codes "\n"

-- the line at the end of a script: how many records there are, and what the pool counts
unfoldable pub pool_last_line : (records : ℕ) → Counters → List ℕ
pool_last_line records counters = codes "legal " ++ decimal records ++ counters_text counters ++ codes "\n"
