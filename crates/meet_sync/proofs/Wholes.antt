-- A request that waits and its ending make a whole call.
use Rattle.std.proofs.Common.{◌≡◌, ℕ, ◌+◌, ◌<◌, ◌≤◌, ap, sym, ◌∙◌, Option, Some, None, List, [], ◌∷◌, ◌++◌, append_assoc, length, length-append, arith}
use Rattle.std.proofs.Common.{inr}
use Rattle.std.specs.Prelude.{⊤, IfNone, option_to_list}
use Rattle.std.proofs.lemmas.List.{map-append, length-map, nil_from_length, append-nil}
use Rattle.meet_tickets.specs.declared.places.Kind.{Kind}
use Rattle.meet_tickets.specs.declared.records.Record.{Record}
use Rattle.meet_tickets.specs.declared.records.Deed.{Deed}
use Rattle.meet_book.specs.Received.{Received}
use Rattle.meet_core.specs.QueueRecords.{made}
use Rattle.meet_place.proofs.Later.{later_both}
use Rattle.meet_place.specs.Seats.{SeatView, PendingView, Adds, entries}
use Rattle.meet_sync.specs.Asking.{AskedAs, waiting_deed, brought}
use Rattle.meet_sync.specs.Ending.{MayRunOut, EndedAs, EndsAs, WaitedAs, OutcomeOf, NotExpired, MarksBack, last_deed}
use Rattle.meet_sync.specs.declared.asked.Request.{Request}
use Rattle.meet_sync.specs.declared.asked.Asked.TheVariants.{Parked}
use Rattle.meet_sync.specs.declared.asked.End.{End}
use Rattle.meet_sync.specs.declared.asked.End.TheVariants.{Gave, Got, Failed, Kept, EntryInterrupted, Done}
use Rattle.meet_sync.specs.declared.asked.End.TheVariants.{Interrupted, TimedOut}
use Rattle.meet_sync.specs.declared.asked.Ended.{Ended}

pub adds_both : {D : Type 0} (a b c : List (Received D)) (xs ys : List (Record D)) → Adds a b xs → Adds b c ys
    → Adds a c (xs ++ ys)
adds_both a b c xs ys (one, is, same) (two, is', same') = (
  one ++ two,
  is' ∙ ap (λ l. l ++ two) is ∙ append_assoc a one two,
  map-append (λ r. r.entry) one two ∙ ap (λ l. l ++ entries two) same ∙ ap (λ l. xs ++ l) same',
)

-- a record at most takes one of two rooms
pub room_left : {D : Type 0} (old new : List (Received D)) (r : Option (Record D)) (a b : ℕ) → Adds old new (option_to_list r)
    → length new + b ≡ length old + a → 2 ≤ a → 0 < b
room_left old new None a b (made, is, same) room two =
    let few = ap length same in let many = length-map made (λ r. r.entry) in let all = ap length is in
    let both = length-append old made in omega (arith, few, many, all, both, room, two)
room_left old new (Some r) a b (made, is, same) room two =
    let few = ap length same in let many = length-map made (λ r. r.entry) in let all = ap length is in
    let both = length-append old made in omega (arith, few, many, all, both, room, two)

-- no record leaves the list as it was
pub adds_nothing : {D : Type 0} (old new : List (Received D)) → Adds old new [] → new ≡ old
adds_nothing old new (made, is, same) =
    let none : made ≡ [] = nil_from_length made (sym (length-map made (λ r. r.entry)) ∙ ap length same) in
    is ∙ ap (λ l. old ++ l) none ∙ append-nil old

waited_with : {T : Type 0} (k : Kind) (mark : T → ℕ) (seat : SeatView Deed) (p : PendingView Deed) (after : SeatView Deed)
    (request : Request T) (first last : Deed) → p.number ≡ seat.number → waiting_deed k mark request ≡ Some first
    → Adds seat.list p.list (made seat.number p.ticket first ∷ [])
    → Adds p.list after.list (made p.number p.ticket last ∷ []) → WaitedAs k mark seat after request last
waited_with k mark seat p after request first last number is one two =
    (p.ticket, first, is, adds_both seat.list p.list after.list _ _ one (rw (← number) two))

deed_is : {a b : Deed} → Some a ≡ Some b → b ≡ a
deed_is e = cc

-- an end that isn't an expiry
untimed : {T : Type 0} (k : Kind) (MayExpire : Type 0) (mark : T → ℕ) (seat after : SeatView Deed) (request : Request T)
    (end : End T) (last : Deed) → last_deed mark end ≡ Some last → WaitedAs k mark seat after request last
    → MarksBack mark (brought mark request) end → NotExpired end → EndsAs k MayExpire mark seat after request end
untimed k MayExpire mark seat after request (Gave u) last is w back not = absurd (cc)
untimed k MayExpire mark seat after request (Got u item) last is w back not = inr (rw (← deed_is is) w)
untimed k MayExpire mark seat after request (Failed b) last is w back not = absurd (cc)
untimed k MayExpire mark seat after request Kept last is w back not = absurd (cc)
untimed k MayExpire mark seat after request (EntryInterrupted b) last is w back not = absurd (cc)
untimed k MayExpire mark seat after request Done last is w back not = rw (← deed_is is) w
untimed k MayExpire mark seat after request (Interrupted b) last is w back not = (back, rw (← deed_is is) w)
untimed k MayExpire mark seat after request (TimedOut b) last is w back not = absurd not

-- an end that may be an expiry
timed : {T : Type 0} (k : Kind) (mark : T → ℕ) (seat after : SeatView Deed) (request : Request T) (end : End T) (last : Deed)
    → last_deed mark end ≡ Some last → WaitedAs k mark seat after request last → MarksBack mark (brought mark request) end
    → EndsAs k ⊤ mark seat after request end
timed k mark seat after request (Gave u) last is w back = absurd (cc)
timed k mark seat after request (Got u item) last is w back = inr (rw (← deed_is is) w)
timed k mark seat after request (Failed b) last is w back = absurd (cc)
timed k mark seat after request Kept last is w back = absurd (cc)
timed k mark seat after request (EntryInterrupted b) last is w back = absurd (cc)
timed k mark seat after request Done last is w back = rw (← deed_is is) w
timed k mark seat after request (Interrupted b) last is w back = (back, rw (← deed_is is) w)
timed k mark seat after request (TimedOut b) last is w back = (tt, back, rw (← deed_is is) w)

same_mark : {T : Type 0} (mark : T → ℕ) (own own' : Option ℕ) (end : End T) → own ≡ own' → MarksBack mark own end
    → MarksBack mark own' end
same_mark mark own own' end e h = rw e at h

-- an end that may be an expiry where there is a limit
limited : {T : Type 0} (k : Kind) (limit : Option ℕ) (mark : T → ℕ) (seat after : SeatView Deed) (request : Request T)
    (end : End T) (last : Deed) → last_deed mark end ≡ Some last → WaitedAs k mark seat after request last
    → MarksBack mark (brought mark request) end → IfNone limit (NotExpired end)
    → EndsAs k (MayRunOut limit) mark seat after request end
limited k None mark seat after request end last is w back not = untimed k ⊥ mark seat after request end last is w back not
limited k (Some limit) mark seat after request end last is w back not =
    timed k mark seat after request end last is w back

pub waited : {T N : Type 0} (k : Kind) (limit : Option ℕ) (mark : T → ℕ) (seat : SeatView Deed) (p : PendingView Deed)
    (request : Request T) (ended : Ended T N) → AskedAs {N = N} k mark seat request (Parked p) → OutcomeOf mark p ended
    → IfNone limit (NotExpired ended.end) → EndedAs k (MayRunOut limit) mark seat request ended
waited k limit mark seat p request ended (number, own, (first, is, one)) (number', back, (last, is', two)) not = (
  (
    number'.0 ∙ number.0,
    number'.1 ∙ number.1,
    later_both seat.moment p.moment ended.seat.moment seat.list p.list ended.seat.list number.2 number'.2,
  ),
  limited k limit mark seat ended.seat request ended.end last is'
      (waited_with k mark seat p ended.seat request first last number.0 is one two)
      (same_mark mark p.mark (brought mark request) ended.end own back) not,
)
