-- What explains the calls of a buffer: a queue that keeps what is put, first in, first out, and at most so many items if
-- there is a bound. Each call takes effect at one point: a put where there is room, a take where an item is kept; a call
-- that finds the queue full or empty does so where it is. A timed call whose time ran out, and one that was interrupted
-- while it may have waited, has no effect and asks for nothing; nor does an interrupt.
use Rattle.std.specs.Prelude.{◌≡◌, ◌≢◌, ℕ, ◌<◌, Option, Some, None, List, [], ◌∷◌, length, slice_get, take}
use Rattle.std.specs.Option.{option_map_or}
use Rattle.meet_tickets.specs.declared.places.Kind.{Kind}
use Rattle.meet_tickets.specs.declared.places.Order.TheVariants.{Transfer}
use Rattle.meet_tickets.specs.declared.records.Deed.{Deed}
use Rattle.meet_tickets.specs.declared.records.Record.{Record}
use Rattle.meet_overlap.specs.declared.calls.Answer.{Answer}
use Rattle.meet_overlap.specs.declared.calls.Answer.TheVariants.{Went, Got, Nothing, Expired, Interrupted, Made}
use Rattle.meet_overlap.specs.declared.calls.Call.{Call}
use Rattle.meet_overlap.specs.declared.calls.Patience.{Patience}
use Rattle.meet_overlap.specs.declared.calls.Patience.TheVariants.{Now, Forever, Timed}
use Rattle.meet_overlap.specs.declared.calls.Returned.{Returned}
use Rattle.meet_overlap.specs.declared.calls.Verb.{Verb}
use Rattle.meet_overlap.specs.declared.calls.Verb.TheVariants.{Keep, Give, Take, Interrupt as InterruptSeat}
use Rattle.meet_overlap.specs.declared.reasons.Reason.{Reason}
use Rattle.meet_overlap.specs.declared.reasons.Reason.TheVariants.{Ungiven, Untaken, Overtaken, Doubled, Overlooked}
use Rattle.meet_overlap.specs.declared.reasons.Reason.TheVariants.{Missed, Passed, Stuck}
use Rattle.meet_overlap.specs.Explaining.{Explains}
use Rattle.meet_overlap.specs.Reasons.{IsReason}

-- the place whose histories are a buffer's: a transfer queue of this bound, at which no call waits
abbrev pub buffer : (bound : Option ℕ) → Kind
buffer bound = record { order = Transfer; bound = bound }

-- what is called, where each call takes effect at one point; an interrupt has no effect here
abbrev pub point_of : Verb → Option Verb
point_of (Keep m) = Some (Keep m)
point_of (Give p m) = Some (Keep m)
point_of (Take p) = Some (Take Now)
point_of (InterruptSeat j) = None

-- the same for a giver that answers this: one whose time ran out, or that was interrupted while it waited, has no effect.
-- What no such call answers stays as it is: nothing explains it
abbrev pub giver_told : Patience → (mark : ℕ) → Answer → Option Verb
giver_told p m Went = Some (Keep m)
giver_told Now m Nothing = Some (Keep m)
giver_told Timed m Expired = None
giver_told Forever m Interrupted = None
giver_told Timed m Interrupted = None
giver_told p m answer = Some (Give p m)

-- the same for a taker
abbrev pub taker_told : Patience → Answer → Option Verb
taker_told p (Got m) = Some (Take Now)
taker_told Timed Expired = None
taker_told Forever Interrupted = None
taker_told Timed Interrupted = None
taker_told p answer = Some (Take p)

-- the same for any call that answers this
abbrev pub point_told : Verb → Answer → Option Verb
point_told (Keep m) answer = Some (Keep m)
point_told (Give p m) answer = giver_told p m answer
point_told (Take p) answer = taker_told p answer
point_told (InterruptSeat j) Made = None
point_told (InterruptSeat j) answer = Some (InterruptSeat j)

-- what a call does, if it can have an effect
abbrev pub does : Verb → Option Returned → Option Verb
does verb None = point_of verb
does verb (Some returned) = point_told verb returned.answer

-- the call that takes effect at one point
abbrev pub at_point : Call → Verb → Call
at_point call verb =
    record { seat = call.seat; begin = call.begin; waits = None; returned = call.returned; verb = verb }

-- the calls that can have an effect
abbrev pub effects : List Call → List Call
effects [] = []
effects (call ∷ calls) =
    option_map_or (λ verb. at_point call verb ∷ effects calls) (does call.verb call.returned) (effects calls)

-- the history explains the calls of a buffer
abbrev pub BufferExplains : (bound : Option ℕ) → List Call → List (Record Deed) → Type 0
BufferExplains bound calls history = Explains (buffer bound) (effects calls) history

-- the call of this number takes effect, after as many others of the list
abbrev pub IsEffect : List Call → (place number : ℕ) → Type 0
IsEffect calls place number = (call : Call) × (slice_get calls number ≡ Some call)
    × (does call.verb call.returned ≢ None) × (length (effects (take number calls)) ≡ place)

-- the call of this number is the one whose effect stands at this place of all effects, if there is one
abbrev pub IsNumbered : List Call → (place number : ℕ) → Type 0
IsNumbered calls place number = place < length (effects calls) → IsEffect calls place number

-- the same, where there may be none
abbrev pub AreNumbered : List Call → (place number : Option ℕ) → Type 0
AreNumbered calls None None = Unit {0}
AreNumbered calls (Some place) (Some number) = IsNumbered calls place number
AreNumbered calls place number = ⊥

-- two reasons say the same, the first one by the places of effects, the second one by the numbers of calls
abbrev pub IsRenumbered : List Call → Reason → Reason → Type 0
IsRenumbered calls (Ungiven item taker giver) (Ungiven m t g) =
    (item ≡ m) × IsNumbered calls taker t × AreNumbered calls giver g
IsRenumbered calls (Untaken item giver taker) (Untaken m g t) =
    (item ≡ m) × IsNumbered calls giver g × AreNumbered calls taker t
IsRenumbered calls (Overtaken item taker kept giver) (Overtaken m t n g) =
    (item ≡ m) × IsNumbered calls taker t × (kept ≡ n) × IsNumbered calls giver g
IsRenumbered calls (Doubled item first second giver) (Doubled m f s g) =
    (item ≡ m) × IsNumbered calls first f × IsNumbered calls second s × IsNumbered calls giver g
IsRenumbered calls (Overlooked item taker giver) (Overlooked m t g) =
    (item ≡ m) × IsNumbered calls taker t × IsNumbered calls giver g
IsRenumbered calls (Missed item caller waiting) (Missed m c w) =
    (item ≡ m) × IsNumbered calls caller c × IsNumbered calls waiting w
IsRenumbered calls (Passed item caller waiting held) (Passed m c w n) =
    (item ≡ m) × IsNumbered calls caller c × IsNumbered calls waiting w × (held ≡ n)
IsRenumbered calls (Stuck stuck) (Stuck came) = AreNumbered calls stuck.call came.call
IsRenumbered calls why reason = ⊥

-- the reason is true of those calls of a buffer that can have an effect, and names them by their numbers among all
abbrev pub IsBufferReason : (bound : Option ℕ) → List Call → Reason → Type 0
IsBufferReason bound calls reason = (why : Reason) × IsReason (buffer bound) (effects calls) why
    × IsRenumbered calls why reason
