-- The text of calls that overlap: a line that names the queue, and then a line a call. No two queues and lists of calls
-- have the same text. What no text of calls that is read tells has words of its own: an item kept where a place keeps
-- none, an interrupt that went through as a request does, a request that was made as an interrupt is, and a bound.
use Rattle.std.specs.Prelude.{ℕ, ◌+◌, ◌-◌, ◌^◌, min, Option, Some, None, List, [], ◌∷◌, ◌++◌, codes, decimal}
use Rattle.std.specs.Prelude.{Bool, true, false, if◌then◌else◌}
use Rattle.meet_tickets.specs.declared.places.Order.{Order}
use Rattle.meet_tickets.specs.declared.places.Order.TheVariants.{Fair}
use Rattle.meet_tickets.specs.Meeting.{keeps}
use Rattle.meet_overlap.specs.declared.calls.Answer.{Answer}
use Rattle.meet_overlap.specs.declared.calls.Answer.TheVariants.{Went, Got, Nothing, Expired, Interrupted, Made}
use Rattle.meet_overlap.specs.declared.calls.Call.{Call}
use Rattle.meet_overlap.specs.declared.calls.Patience.TheVariants.{Now, Forever, Timed}
use Rattle.meet_overlap.specs.declared.calls.Queue.{Queue}
use Rattle.meet_overlap.specs.declared.calls.Queue.TheVariants.{Place, Buffer}
use Rattle.meet_overlap.specs.declared.calls.Returned.{Returned}
use Rattle.meet_overlap.specs.declared.calls.Verb.{Verb}
use Rattle.meet_overlap.specs.declared.calls.Verb.TheVariants.{Keep, Give, Take, Interrupt}
use Rattle.meet_overlap.specs.declared.reasons.Reason.{Reason}
use Rattle.meet_overlap.specs.declared.reasons.Reason.TheVariants.{Ungiven, Untaken, Overtaken, Doubled, Overlooked}
use Rattle.meet_overlap.specs.declared.reasons.Reason.TheVariants.{Missed, Passed, Stuck as SearchStuck}
use Rattle.meet_overlap.specs.declared.search.Stuck.{Stuck}
use Rattle.meet_run.specs.Scripts.Spelling.{place_text, option_text}

-- what is called, with its item or the seat that it interrupts; a transfer queue keeps what is put, and what waits for
-- a taker is transferred there
abbrev pub verb_text : Order → Verb → List ℕ
verb_text o (Keep m) = (if keeps o then codes "put " else codes "keep ") ++ decimal m
verb_text o (Give Now m) = (if keeps o then codes "try " else codes "offer ") ++ decimal m
verb_text o (Give Forever m) = (if keeps o then codes "transfer " else codes "put ") ++ decimal m
verb_text o (Give Timed m) = (if keeps o then codes "try-for " else codes "offer-for ") ++ decimal m
verb_text o (Take Now) = codes "poll"
verb_text o (Take Forever) = codes "take"
verb_text o (Take Timed) = codes "poll-for"
verb_text o (Interrupt seat) = codes "interrupt " ++ decimal seat

-- whether an interrupt is called
abbrev pub is_interrupt : Verb → Bool
is_interrupt (Interrupt seat) = true
is_interrupt verb = false

-- what was answered to what was called: an interrupt is done where it was made, any other call where it went through
abbrev pub answer_text : Verb → Answer → List ℕ
answer_text verb Went = if is_interrupt verb then codes " went" else codes " done"
answer_text verb (Got m) = codes " got " ++ decimal m
answer_text verb Nothing = codes " none"
answer_text verb Expired = codes " expired"
answer_text verb Interrupted = codes " interrupted"
answer_text verb Made = if is_interrupt verb then codes " done" else codes " made"

-- the time by which a call was seen to wait, if it was
abbrev pub seen_text : Option ℕ → List ℕ
seen_text None = []
seen_text (Some time) = codes "@" ++ decimal time ++ codes " "

-- when a call ended; `-` where it never did
abbrev pub end_text : Option Returned → List ℕ
end_text None = codes "- "
end_text (Some returned) = decimal returned.at ++ codes " "

-- what a call answered, if it ended
abbrev pub told_text : Verb → Option Returned → List ℕ
told_text verb None = []
told_text verb (Some returned) = answer_text verb returned.answer

-- a call's line: its seat, its begin, the time by which it was seen to wait, its end, what was called, and the answer
abbrev pub call_text : Order → Call → List ℕ
call_text o call = decimal call.seat ++ codes " " ++ decimal call.begin ++ codes " " ++ seen_text call.waits
    ++ end_text call.returned ++ verb_text o call.verb ++ told_text call.verb call.returned ++ codes "\n"

-- the lines of calls
abbrev pub lines_text : Order → List Call → List ℕ
lines_text o [] = []
lines_text o (call ∷ calls) = call_text o call ++ lines_text o calls

-- the order whose words the calls of a queue have: a buffer's are those of a synchronous queue
abbrev pub words_of : Queue → Order
words_of (Place k) = k.order
words_of (Buffer bound) = Fair

-- a queue, in the first line
abbrev pub queue_text : Queue → List ℕ
queue_text (Place k) = place_text k.order ++ option_text (codes " bound ") k.bound
queue_text (Buffer bound) = codes "buffer" ++ option_text (codes " ") bound

-- calls at a queue, whole
abbrev pub calls_text : Queue → List Call → List ℕ
calls_text queue calls =
    codes "calls 1 " ++ queue_text queue ++ codes "\n" ++ lines_text (words_of queue) calls

-- the line of a call: the second one is that of the first call
abbrev pub line_number : (call : ℕ) → List ℕ
line_number call = decimal (min (call + 2) (2 ^ 64 - 1))

-- what another call does, by its line, if there is one
abbrev pub other_text : Option ℕ → (does : List ℕ) → List ℕ
other_text None does = []
other_text (Some call) does = (codes "; line " ++ line_number call) ++ does

-- what became of an item in a call's line, and what another call does
abbrev pub case_text : (call item : ℕ) → (was : List ℕ) → (other : Option ℕ) → (does : List ℕ) → List ℕ
case_text call item was other does =
    (codes "refused line " ++ line_number call) ++ (codes ": item " ++ decimal item) ++ was ++ other_text other does

-- which call had put which item before
abbrev pub put_text : (call item : ℕ) → List ℕ
put_text call item =
    (codes "; line " ++ line_number call) ++ (codes " had put item " ++ decimal item) ++ codes " before"

-- which call waited, and with which item, if it gives one
abbrev pub waited_text : (call : ℕ) → Option ℕ → List ℕ
waited_text call None = (codes "; line " ++ line_number call) ++ codes " waited"
waited_text call (Some item) = (codes "; line " ++ line_number call) ++ (codes " waited with item " ++ decimal item)

-- a call that found nobody, and one that waited
abbrev pub missed_text : (caller waiting : ℕ) → Option ℕ → List ℕ
missed_text caller waiting item =
    (codes "refused line " ++ line_number caller) ++ codes ": nobody was found" ++ waited_text waiting item

-- which call a search stopped at, if it was one
abbrev pub stuck_line : Option ℕ → List ℕ
stuck_line None = codes "refused"
stuck_line (Some call) = codes "refused line " ++ line_number call

-- how far a search came, and the number of all calls
abbrev pub stuck_text : Stuck → (count : ℕ) → List ℕ
stuck_text stuck count =
    stuck_line stuck.call ++ (codes ", explained " ++ decimal stuck.explained) ++ (codes " of " ++ decimal count)

-- why no history explains the calls
abbrev pub reason_text : Reason → (count : ℕ) → List ℕ
reason_text (Ungiven item taker giver) count =
    case_text taker item (codes " was got but never given in time") giver (codes " gives it")
reason_text (Untaken item giver taker) count =
    case_text giver item (codes " was handed over but never got in time") taker (codes " gets it")
reason_text (Overtaken item taker kept giver) count =
    case_text taker item (codes " was got out of order") None [] ++ put_text giver kept
reason_text (Doubled item first second giver) count =
    case_text second item (codes " was got twice") (Some first) (codes " got it too")
    ++ other_text (Some giver) (codes " alone gives it")
reason_text (Overlooked item taker giver) count =
    (codes "refused line " ++ line_number taker) ++ codes ": nothing was found" ++ put_text giver item
reason_text (Missed item caller waiting) count = missed_text caller waiting item
reason_text (Passed item caller waiting held) count =
    case_text caller item (codes " was got out of order") None [] ++ waited_text waiting held
reason_text (SearchStuck stuck) count = stuck_text stuck count

-- the same as a line
abbrev pub refused_text : Reason → (count : ℕ) → List ℕ
refused_text reason count = reason_text reason count ++ codes "\n"
