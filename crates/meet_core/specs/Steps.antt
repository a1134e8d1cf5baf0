-- The steps of a queue's calls, by the cases of the answer. Each is a step of the rules, with the item itself.
use Rattle.std.specs.Prelude.{◌≡◌, ℕ, ◌+◌, ◌<◌, ◌≤◌, true, false, ⊤, Option, Some, None, IfSome, MatchOption}
use Rattle.meet_tickets.specs.declared.lines.Entry.{Entry}
use Rattle.meet_tickets.specs.declared.lines.Hold.TheVariants.{Waiting, Handed, Served, Cut}
use Rattle.meet_tickets.specs.declared.places.End.{End}
use Rattle.meet_tickets.specs.declared.places.Side.TheVariants.{Giver, Taker}
use Rattle.meet_tickets.specs.Meeting.{partner, kept_count}
use Rattle.meet_tickets.specs.BySeat.{Seats, entry_of, queued, paired, flagged, released, withdrawn, cut_off}
use Rattle.meet_core.specs.declared.answers.Gave.{Gave}
use Rattle.meet_core.specs.declared.answers.Gave.TheVariants.{Waits, Meets, EntryInterrupted}
use Rattle.meet_core.specs.declared.answers.Took.{Took}
use Rattle.meet_core.specs.declared.answers.Took.TheVariants.{Waits as TakerWaits, Meets as TakerMeets}
use Rattle.meet_core.specs.declared.answers.Took.TheVariants.{EntryInterrupted as TakerInterrupted}
use Rattle.meet_core.specs.declared.answers.Offered.{Offered}
use Rattle.meet_core.specs.declared.answers.Offered.TheVariants.{Meets as OfferMeets, Fails}
use Rattle.meet_core.specs.declared.answers.Put.{Put}
use Rattle.meet_core.specs.declared.answers.Put.TheVariants.{Kept, Meets as PutMeets, Fails as PutFails}
use Rattle.meet_core.specs.declared.answers.Polled.{Polled}
use Rattle.meet_core.specs.declared.answers.Polled.TheVariants.{Meets as PollMeets, Fails as TakerFails}
use Rattle.meet_core.specs.declared.answers.Followed.{Followed}
use Rattle.meet_core.specs.declared.answers.Followed.TheVariants.{Done, Got, Interrupted, NotYet}
use Rattle.meet_core.specs.declared.answers.TakenBack.{TakenBack}
use Rattle.meet_core.specs.declared.answers.TakenBack.TheVariants.{Back, Late}
use Rattle.meet_core.specs.declared.answers.Interrupted.{Interrupted as WasInterrupted}
use Rattle.meet_core.specs.declared.answers.Interrupted.TheVariants.{Cut as CutOff, Flagged}
use Rattle.meet_core.specs.Queue.{Queue, seats_of, count_of}

-- a request used the next ticket, and left these seats
pub record Uses {T : Type 0} (old new : Queue T) (ticket : ℕ) (seats : Seats T) : Type 0 where
  pub used : ticket ≡ old.next
  pub last : new.last ≡ ticket
  pub next : new.next ≡ old.next + 1
  pub count : count_of new ≡ count_of old
  pub seats_are : seats_of new ≡ seats

-- no ticket was used, and these seats are left
pub record Leaves {T : Type 0} (old new : Queue T) (seats : Seats T) : Type 0 where
  pub last : new.last ≡ old.last
  pub next : new.next ≡ old.next
  pub count : count_of new ≡ count_of old
  pub seats_are : seats_of new ≡ seats

-- the giver of ticket t met the taker of ticket u, which brought nothing
abbrev pub HandsTo : {T : Type 0} → (T → ℕ) → End → Queue T → (item : T) → (t u : ℕ) → Queue T → Type 0
HandsTo {T} mark end old item t u new =
    (e : Entry T) × (partner end old.line Giver ≡ Some e) × (u ≡ e.ticket) × (e.item ≡ None)
    × Uses old new t (paired mark end (seats_of old) t (Some item) e)

-- the taker of ticket t met the giver of ticket u, and got the item that this one presented
abbrev pub GetsFrom : {T : Type 0} → (T → ℕ) → End → Queue T → (t u : ℕ) → (item : T) → Queue T → Type 0
GetsFrom {T} mark end old t u item new =
    (e : Entry T) × (partner end old.line Taker ≡ Some e) × (u ≡ e.ticket) × (e.item ≡ Some item)
    × Uses old new t (paired mark end (seats_of old) t None e)

-- the same of a giver whose ticket t was drawn before
abbrev pub HandsOver : {T : Type 0} → (T → ℕ) → End → Queue T → (item : T) → (t u : ℕ) → Queue T → Type 0
HandsOver {T} mark end old item t u new =
    (e : Entry T) × (partner end old.line Giver ≡ Some e) × (u ≡ e.ticket) × (e.item ≡ None)
    × Leaves old new (paired mark end (seats_of old) t (Some item) e)

-- and of such a taker
abbrev pub Fetches : {T : Type 0} → (T → ℕ) → End → Queue T → (t u : ℕ) → (item : T) → Queue T → Type 0
Fetches {T} mark end old t u item new =
    (e : Entry T) × (partner end old.line Taker ≡ Some e) × (u ≡ e.ticket) × (e.item ≡ Some item)
    × Leaves old new (paired mark end (seats_of old) t None e)

-- a give that waits: with a partner they meet; without one it goes to the line, or is refused at entry
abbrev pub GiveStep : {T : Type 0} → (T → ℕ) → End → Queue T → (seat : ℕ) → (item : T) → Gave T → Queue T → Type 0
GiveStep mark end old seat item (Waits t) new =
    (partner end old.line Giver ≡ None) × ((seats_of old).flags seat ≡ false)
    × Uses old new t (queued (seats_of old) seat t (Some item) true)
GiveStep mark end old seat item (Meets t u) new = HandsTo mark end old item t u new
GiveStep mark end old seat item (EntryInterrupted t back) new =
    (partner end old.line Giver ≡ None) × ((seats_of old).flags seat ≡ true) × (back ≡ item)
    × Uses old new t (flagged (seats_of old) seat false)

-- an immediate give: with a partner they meet; without one it fails, and only its ticket is used
abbrev pub OfferStep : {T : Type 0} → (T → ℕ) → End → Queue T → (item : T) → Offered T → Queue T → Type 0
OfferStep mark end old item (OfferMeets t u) new = HandsTo mark end old item t u new
OfferStep mark end old item (Fails t back) new =
    (partner end old.line Giver ≡ None) × (back ≡ item) × Uses old new t (seats_of old)

-- a give that is kept (LinkedTransferQueue.put; that no more than so many are kept is our choice): with a partner
-- they meet; without one the item goes to the line where no bound says otherwise, and its seat stays free; it looks
-- at no flag
abbrev pub PutStep : {T : Type 0} → (T → ℕ) → End → (bound : Option ℕ) → Queue T → (seat : ℕ) → (item : T) → Put T
    → Queue T → Type 0
PutStep mark end bound old seat item (Kept t) new =
    (partner end old.line Giver ≡ None) × MatchOption bound ⊤ (λ most. kept_count old.line < most)
    × Uses old new t (queued (seats_of old) seat t (Some item) false)
PutStep mark end bound old seat item (PutMeets t u) new = HandsTo mark end old item t u new
PutStep mark end bound old seat item (PutFails t back) new =
    (partner end old.line Giver ≡ None) × MatchOption bound ⊥ (λ most. most ≤ kept_count old.line) × (back ≡ item)
    × Uses old new t (seats_of old)

-- a take that waits
abbrev pub TakeStep : {T : Type 0} → (T → ℕ) → End → Queue T → (seat : ℕ) → Took T → Queue T → Type 0
TakeStep mark end old seat (TakerWaits t) new =
    (partner end old.line Taker ≡ None) × ((seats_of old).flags seat ≡ false)
    × Uses old new t (queued (seats_of old) seat t None true)
TakeStep mark end old seat (TakerMeets t u item) new = GetsFrom mark end old t u item new
TakeStep mark end old seat (TakerInterrupted t) new =
    (partner end old.line Taker ≡ None) × ((seats_of old).flags seat ≡ true)
    × Uses old new t (flagged (seats_of old) seat false)

-- an immediate take
abbrev pub PollStep : {T : Type 0} → (T → ℕ) → End → Queue T → Polled T → Queue T → Type 0
PollStep mark end old (PollMeets t u item) new = GetsFrom mark end old t u item new
PollStep mark end old (TakerFails t) new = (partner end old.line Taker ≡ None) × Uses old new t (seats_of old)

-- the follow-up of a seat's open ticket
abbrev pub FollowStep : {T : Type 0} → Queue T → (seat ticket : ℕ) → Followed T → Queue T → Type 0
FollowStep old seat t Done new =
    (u : ℕ) × (mark : ℕ) × ((seats_of old).holds seat ≡ Handed t u mark) × Leaves old new (released (seats_of old) seat)
FollowStep old seat t (Got u item) new =
    ((seats_of old).holds seat ≡ Served t u item) × Leaves old new (released (seats_of old) seat)
FollowStep old seat t (Interrupted item) new =
    ((seats_of old).holds seat ≡ Cut t item) × Leaves old new (released (seats_of old) seat)
FollowStep old seat t NotYet new = ((seats_of old).holds seat ≡ Waiting t) × (new ≡ old)

-- a cancel or an expiry of a seat's open ticket: it leaves the line where it stands there, with its item
abbrev pub WithdrawStep : {T : Type 0} → Queue T → (seat ticket : ℕ) → TakenBack T → Queue T → Type 0
WithdrawStep {T} old seat t (Back item) new =
    (e : Entry T) × ((seats_of old).holds seat ≡ Waiting t) × (entry_of old.line (Waiting t) ≡ Some e)
    × (item ≡ e.item) × Leaves old new (withdrawn (seats_of old) seat t)
WithdrawStep old seat t Late new = (entry_of old.line ((seats_of old).holds seat) ≡ None) × (new ≡ old)

-- an interrupt of a seat: its ticket is cut where it stands in the line, and else the seat is flagged
abbrev pub InterruptStep : {T : Type 0} → Queue T → (target : ℕ) → WasInterrupted → Queue T → Type 0
InterruptStep {T} old target (CutOff t) new =
    (e : Entry T) × (entry_of old.line ((seats_of old).holds target) ≡ Some e) × (t ≡ e.ticket)
    × Leaves old new (cut_off (seats_of old) target e)
InterruptStep old target Flagged new =
    (entry_of old.line ((seats_of old).holds target) ≡ None) × Leaves old new (flagged (seats_of old) target true)

-- an interrupt cuts only who waits: the giver of a kept item went on, and can't be interrupted in the line
abbrev pub CutsWaiting : {T : Type 0} → Queue T → (target : ℕ) → WasInterrupted → Type 0
CutsWaiting old target (CutOff t) = IfSome (entry_of old.line ((seats_of old).holds target)) (λ e. e.waits ≡ true)
CutsWaiting old target Flagged = ⊤
