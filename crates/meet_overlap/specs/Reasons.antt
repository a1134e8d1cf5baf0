-- Reasons why no history explains calls, in the calls' own words.
use Rattle.std.specs.Prelude.{◌≡◌, ℕ, ◌<◌, ◌≤◌, IfSome, List, Option, Some, None, ⊤, length}
use Rattle.meet_tickets.specs.declared.places.Kind.{Kind}
use Rattle.meet_tickets.specs.declared.places.End.{End}
use Rattle.meet_tickets.specs.declared.places.End.TheVariants.{Front, Back}
use Rattle.meet_tickets.specs.Meeting.{end_of}
use Rattle.meet_overlap.specs.declared.calls.Answer.{Answer}
use Rattle.meet_overlap.specs.declared.calls.Answer.TheVariants.{Went, Got as GotItem, Nothing, Expired as TimeRanOut}
use Rattle.meet_overlap.specs.declared.calls.Call.{Call}
use Rattle.meet_overlap.specs.declared.calls.Patience.TheVariants.{Now, Timed}
use Rattle.meet_overlap.specs.declared.calls.Verb.{Verb}
use Rattle.meet_overlap.specs.declared.calls.Verb.TheVariants.{Keep, Give, Take, Interrupt as InterruptSeat}
use Rattle.meet_overlap.specs.declared.reasons.Reason.{Reason}
use Rattle.meet_overlap.specs.declared.reasons.Reason.TheVariants.{Ungiven, Untaken, Overtaken, Doubled, Overlooked}
use Rattle.meet_overlap.specs.declared.reasons.Reason.TheVariants.{Missed, Passed, Stuck}
use Rattle.meet_overlap.specs.Marks.{Gives, HandsOver, IsKeeping, IsTaking, IsEnded, NoneGave, NoneMayGive, NoneTook}
use Rattle.meet_overlap.specs.Marks.{NoneGot, IsOnlyGiver, IsGiverOf, IsTakerOf}

-- a call got an item, and no call may have given it that began by its end
pub record IsUngiven (calls : List Call) : Type 0 where
  pub taken : IsEnded calls
  pub mark : ℕ
  pub got : taken.returned.answer ≡ GotItem mark
  pub taking : IsTaking taken.call.verb
  pub none : NoneMayGive calls (length calls) mark taken.returned.at

-- a call handed its item over, and no call may have got it that began by its end
pub record IsUntaken (calls : List Call) : Type 0 where
  pub given : IsEnded calls
  pub went : given.returned.answer ≡ Went
  pub mark : ℕ
  pub hands : HandsOver given.call.verb mark
  pub none : NoneTook calls (length calls) mark given.returned.at

-- the first item was put before any call began that gives the second one; and that was got when nobody can have got the
-- first
pub record IsOvertaken (k : Kind) (calls : List Call) : Type 0 where
  pub order : end_of k.order ≡ Front
  pub put : IsEnded calls
  pub first : ℕ
  pub keeps : IsKeeping put.call.verb first
  pub went : put.returned.answer ≡ Went
  pub taken : IsEnded calls
  pub second : ℕ
  pub takes : IsTaking taken.call.verb
  pub got : taken.returned.answer ≡ GotItem second
  pub none_gave : NoneGave calls (length calls) second put.returned.at
  pub none_got : NoneGot calls first taken.returned.at
  pub later : put.returned.at ≤ taken.returned.at

-- two calls got an item that one call alone gives
pub record IsDoubled (calls : List Call) : Type 0 where
  pub mark : ℕ
  pub giver : ℕ
  pub only : IsOnlyGiver calls (length calls) mark giver
  pub one : IsEnded calls
  pub other : IsEnded calls
  pub apart : one.number ≡ other.number → ⊥
  pub takes_one : IsTaking one.call.verb
  pub takes_other : IsTaking other.call.verb
  pub got_one : one.returned.answer ≡ GotItem mark
  pub got_other : other.returned.answer ≡ GotItem mark

-- what is called takes an item, and this answer is that nothing was found
abbrev pub FindsNothing : Verb → Answer → Type 0
FindsNothing (Take Now) Nothing = Unit {0}
FindsNothing (Take Timed) TimeRanOut = Unit {0}
FindsNothing verb answer = ⊥

-- an item was put before a call began that found nothing, and nobody can have got it by the end of that one
pub record IsOverlooked (k : Kind) (calls : List Call) : Type 0 where
  pub order : end_of k.order ≡ Front
  pub put : IsEnded calls
  pub mark : ℕ
  pub keeps : IsKeeping put.call.verb mark
  pub went : put.returned.answer ≡ Went
  pub looked : IsEnded calls
  pub finds : FindsNothing looked.call.verb looked.returned.answer
  pub before : put.returned.at < looked.call.begin
  pub later : put.returned.at ≤ looked.returned.at
  pub none_got : NoneGot calls mark looked.returned.at

-- the first call's answer is that nobody was there, and the second one is of the other side
abbrev pub Misses : Verb → Answer → Verb → Type 0
Misses (Take Now) Nothing (Give p m) = Unit {0}
Misses (Take Timed) TimeRanOut (Give p m) = Unit {0}
Misses (Give Now m) Nothing (Take p) = Unit {0}
Misses (Give Timed m) TimeRanOut (Take p) = Unit {0}
Misses verb answer other = ⊥

-- the call's answer is that it was met, and none can have met it by this time
abbrev pub IsUnmet : List Call → Verb → Answer → (by : ℕ) → Type 0
IsUnmet calls (Give p m) Went by = NoneGot calls m by
IsUnmet calls (Take p) (GotItem m) by = NoneMayGive calls (length calls) m by
IsUnmet calls verb answer by = ⊥

-- the item with which a call waits, if it gives one
abbrev pub item_of : Verb → Option ℕ
item_of (Keep m) = Some m
item_of (Give p m) = Some m
item_of (Take p) = None
item_of (InterruptSeat j) = None

-- a call was seen to wait before one of the other side began that found nobody, and none can have met it by the end of
-- that one
pub record IsMissed (calls : List Call) : Type 0 where
  pub waiting : IsEnded calls
  pub seen : ℕ
  pub waits : waiting.call.waits ≡ Some seen
  pub caller : IsEnded calls
  pub misses : Misses caller.call.verb caller.returned.answer waiting.call.verb
  pub before : seen < caller.call.begin
  pub unmet : IsUnmet calls waiting.call.verb waiting.returned.answer caller.returned.at

-- the first call met the second one with an item of this mark, and the third one is of the second one's side
abbrev pub Meets : Verb → Answer → Verb → Answer → Verb → (mark : ℕ) → Type 0
Meets (Take p) (GotItem n) met other (Give q x) mark = (n ≡ mark) × Gives met mark
Meets (Give p n) Went (Take q) (GotItem x) (Take r) mark = (n ≡ mark) × (x ≡ mark)
Meets (Keep n) Went (Take q) (GotItem x) (Take r) mark = (n ≡ mark) × (x ≡ mark)
Meets caller answer met other waiting mark = ⊥

-- a call that was seen to wait has its turn before another one that a caller met: in front of it, or on top of it when
-- the caller began, where the line is met at its back
abbrev pub IsBehind : End → (seen : ℕ) → (waiting caller met : Call) → Type 0
IsBehind Front seen waiting caller met = seen < met.begin
IsBehind Back seen waiting caller met = (early : ℕ) × (met.waits ≡ Some early) × (early < waiting.begin)
    × (seen < caller.begin)

-- a call was seen to wait, and one of the other side met another one, whose turn came later: the item which they met
-- with is given by one call alone; and none can have met the one that waited by the end of the caller
pub record IsPassed (k : Kind) (calls : List Call) : Type 0 where
  pub waiting : IsEnded calls
  pub seen : ℕ
  pub waits : waiting.call.waits ≡ Some seen
  pub caller : IsEnded calls
  pub met : IsEnded calls
  pub mark : ℕ
  pub meets : Meets caller.call.verb caller.returned.answer met.call.verb met.returned.answer waiting.call.verb mark
  pub giver : ℕ
  pub only : IsOnlyGiver calls (length calls) mark giver
  pub behind : IsBehind (end_of k.order) seen waiting.call caller.call met.call
  pub unmet : IsUnmet calls waiting.call.verb waiting.returned.answer caller.returned.at

-- the reason is true of the calls, with the numbers and items that it names; of how far a search came nothing is said
abbrev pub IsReason : Kind → List Call → Reason → Type 0
IsReason k calls (Ungiven item taker giver) =
    ((is : IsUngiven calls) × (is.mark ≡ item) × (is.taken.number ≡ taker)) × IfSome giver (IsGiverOf calls item)
IsReason k calls (Untaken item giver taker) =
    ((is : IsUntaken calls) × (is.mark ≡ item) × (is.given.number ≡ giver)) × IfSome taker (IsTakerOf calls item)
IsReason k calls (Overtaken item taker kept giver) = (is : IsOvertaken k calls) × (is.second ≡ item)
    × (is.taken.number ≡ taker) × (is.first ≡ kept) × (is.put.number ≡ giver)
IsReason k calls (Doubled item first second giver) = (is : IsDoubled calls) × (is.mark ≡ item)
    × (is.one.number ≡ first) × (is.other.number ≡ second) × (is.giver ≡ giver)
IsReason k calls (Overlooked item taker giver) = (is : IsOverlooked k calls) × (is.mark ≡ item)
    × (is.looked.number ≡ taker) × (is.put.number ≡ giver)
IsReason k calls (Missed item caller waiting) = (is : IsMissed calls) × (item_of is.waiting.call.verb ≡ item)
    × (is.caller.number ≡ caller) × (is.waiting.number ≡ waiting)
IsReason k calls (Passed item caller waiting held) = (is : IsPassed k calls) × (is.mark ≡ item)
    × (is.caller.number ≡ caller) × (is.waiting.number ≡ waiting) × (item_of is.waiting.call.verb ≡ held)
IsReason k calls (Stuck stuck) = ⊤

-- the reason was found without a search
abbrev pub IsFound : Reason → Type 0
IsFound (Ungiven item taker giver) = ⊤
IsFound (Untaken item giver taker) = ⊤
IsFound (Overtaken item taker kept giver) = ⊤
IsFound (Doubled item first second giver) = ⊤
IsFound (Overlooked item taker giver) = ⊤
IsFound (Missed item caller waiting) = ⊤
IsFound (Passed item caller waiting held) = ⊤
IsFound (Stuck stuck) = ⊥
