-- The text of the replies, one line each.
use Rattle.std.specs.Prelude.{ℕ, Option, Some, None, List, ◌++◌, codes, decimal}
use Rattle.meet_tickets.specs.declared.records.Cause.{Cause}
use Rattle.meet_tickets.specs.declared.records.Cause.TheVariants.{Cancelled, Expired, Interrupted}
use Rattle.meet_tickets.specs.Refusals.{name_of}
use Rattle.meet_history.specs.declared.one_thread.replies.Reply.{Reply}
use Rattle.meet_history.specs.declared.one_thread.replies.Outcome.{Outcome}
use Rattle.meet_history.specs.declared.one_thread.replies.Outcome.TheVariants.{Recorded}
use Rattle.meet_history.specs.declared.one_thread.replies.Outcome.TheVariants.{Interrupted as InterruptedSeat, NotYet}
use Rattle.meet_history.specs.declared.one_thread.replies.Outcome.TheVariants.{Late, Drained, Count, Peeked, Based}
use Rattle.meet_history.specs.declared.one_thread.replies.Outcome.TheVariants.{Refused}
use Rattle.meet_history.specs.declared.one_thread.replies.Answer.{Answer}
use Rattle.meet_history.specs.declared.one_thread.replies.Answer.TheVariants.{Waits, Kept, Gave, Got, Fails, Done}
use Rattle.meet_history.specs.declared.one_thread.replies.Answer.TheVariants.{Withdrawn}
use Rattle.meet_history.specs.declared.checker.Standing.{Standing}

-- a word, and a mark behind it where there is one
unfoldable pub with_mark : (word : List ℕ) → (mark : Option ℕ) → List ℕ
with_mark word None = word
with_mark word (Some m) = word ++ codes " " ++ decimal m

-- why a ticket was withdrawn
unfoldable pub cause_text : Cause → List ℕ
cause_text Cancelled = codes "cancelled"
cause_text Expired = codes "expired"
cause_text Interrupted = codes "interrupted"

-- the answer of a recorded request or ending
unfoldable pub answer_text : Answer → List ℕ
answer_text Waits = codes "waits"
answer_text Kept = codes "kept"
answer_text (Gave m u) = codes "gave " ++ decimal m ++ codes " to t" ++ decimal u
answer_text (Got m u) = codes "got " ++ decimal m ++ codes " from t" ++ decimal u
answer_text (Fails item) = with_mark (codes "none") item
answer_text Done = codes "done"
answer_text (Withdrawn cause item) = with_mark (cause_text cause) item

-- what became of an interrupted seat: its ticket was cut, or it was flagged
unfoldable pub cut_text : (cut : Option ℕ) → List ℕ
cut_text None = codes " flagged"
cut_text (Some t) = codes " cut t" ++ decimal t

-- the mark of the first item, if there is one
unfoldable pub mark_text : (mark : Option ℕ) → List ℕ
mark_text None = codes "none"
mark_text (Some m) = decimal m

-- what came of a seat's call
unfoldable pub outcome_text : (seat : ℕ) → Outcome → List ℕ
outcome_text seat (Recorded n t answer) =
    decimal n ++ codes " " ++ decimal seat ++ codes " t" ++ decimal t ++ codes " " ++ answer_text answer
outcome_text seat (InterruptedSeat n target cut) =
    decimal n ++ codes " " ++ decimal seat ++ codes " interrupt " ++ decimal target ++ cut_text cut
outcome_text seat NotYet = codes "- " ++ decimal seat ++ codes " notyet"
outcome_text seat Late = codes "- " ++ decimal seat ++ codes " late"
outcome_text seat (Drained k) = codes "- " ++ decimal seat ++ codes " drained " ++ decimal k
outcome_text seat (Count n) = codes "- " ++ decimal seat ++ codes " " ++ decimal n
outcome_text seat (Peeked mark) = codes "- " ++ decimal seat ++ codes " " ++ mark_text mark
outcome_text seat (Based gone) = codes "- " ++ decimal seat ++ codes " base " ++ decimal gone
outcome_text seat (Refused why) = codes "- " ++ decimal seat ++ codes " refused " ++ name_of why

-- a reply's line
unfoldable pub text_of : Reply → List ℕ
text_of reply = outcome_text reply.seat reply.outcome ++ codes "\n"

-- the line at the end of a script
unfoldable pub last_line : (records : ℕ) → Standing → List ℕ
last_line records standing =
    codes "legal " ++ decimal records ++ codes " waiting " ++ decimal standing.waiting ++ codes " uncollected "
    ++ decimal standing.uncollected ++ codes " kept " ++ decimal standing.kept ++ codes "\n"
