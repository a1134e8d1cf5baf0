-- Calls and deeds: which deeds are those of a call, for each deed a call that writes it, and which records one thread's
-- calls write (our choice).
use Rattle.std.specs.Prelude.{◌≡◌, ◌⊎◌, ℕ, ◌+◌, ◌<◌, ◌≤◌, ⊤, true, if◌then◌else◌, List, [], ◌∷◌, map}
use Rattle.meet_tickets.specs.declared.lines.Entry.{Entry}
use Rattle.meet_tickets.specs.declared.places.Kind.{Kind}
use Rattle.meet_tickets.specs.declared.places.Order.{Order}
use Rattle.meet_tickets.specs.declared.places.Side.TheVariants.{Giver, Taker}
use Rattle.meet_tickets.specs.declared.records.Record.{Record}
use Rattle.meet_tickets.specs.declared.records.Cause.TheVariants.{Cancelled, Expired, Interrupted}
use Rattle.meet_tickets.specs.declared.records.Deed.{Deed}
use Rattle.meet_tickets.specs.declared.records.Deed.TheVariants.{GiveWaits, GiveMeets, GiveFails, GiveKept, TakeWaits}
use Rattle.meet_tickets.specs.declared.records.Deed.TheVariants.{TakeMeets, TakeFails, EntryInterrupted, Done, Got}
use Rattle.meet_tickets.specs.declared.records.Deed.TheVariants.{Withdrawn, Interrupt}
use Rattle.meet_tickets.specs.Limits.{last_ticket}
use Rattle.meet_tickets.specs.Meeting.{keeps, MayKeep}
use Rattle.meet_tickets.specs.BySeat.{is_request}
use Rattle.meet_history.specs.declared.one_thread.verbs.Call.{Call}
use Rattle.meet_history.specs.declared.one_thread.verbs.Verb.{Verb}
use Rattle.meet_history.specs.declared.one_thread.verbs.Verb.TheVariants.{Put, Offer, Take, Poll}
use Rattle.meet_history.specs.declared.one_thread.verbs.Verb.TheVariants.{Transfer as TransferItem}
use Rattle.meet_history.specs.declared.one_thread.verbs.Verb.TheVariants.{Try, Follow, Cancel, Expire}
use Rattle.meet_history.specs.declared.one_thread.verbs.Verb.TheVariants.{Interrupt as InterruptSeat}
use Rattle.meet_history.specs.OneThread.{Form, waiting, immediate, keeping, put_form, offer_form}

-- such a give of this item may write such a deed; a put fails only where no item more may be kept
abbrev pub IsOfGive : Kind → List (Entry ℕ) → Form → (mark : ℕ) → Deed → Type 0
IsOfGive k line form m (GiveMeets n u) = n ≡ m
IsOfGive k line form m (GiveWaits n) = (form ≡ waiting) × (n ≡ m)
IsOfGive k line form m (GiveKept n) = (form ≡ keeping) × (n ≡ m)
IsOfGive k line form m (GiveFails n) =
    ((form ≡ immediate) ⊎ ((form ≡ keeping) × (MayKeep k line → ⊥))) × (n ≡ m)
IsOfGive k line form m (EntryInterrupted Giver) = form ≡ waiting
IsOfGive k line form m deed = ⊥

-- such a take may write such a deed
abbrev pub IsOfTake : Form → Deed → Type 0
IsOfTake form (TakeMeets m u) = ⊤
IsOfTake form TakeWaits = form ≡ waiting
IsOfTake form TakeFails = form ≡ immediate
IsOfTake form (EntryInterrupted Taker) = form ≡ waiting
IsOfTake form deed = ⊥

-- a follow-up may
abbrev pub IsOfFollow : Deed → Type 0
IsOfFollow Done = ⊤
IsOfFollow (Got m u) = ⊤
IsOfFollow (Withdrawn Interrupted) = ⊤
IsOfFollow deed = ⊥

-- an interrupt of this seat may
abbrev pub IsOfInterrupt : (target : ℕ) → Deed → Type 0
IsOfInterrupt j (Interrupt i) = i ≡ j
IsOfInterrupt j deed = ⊥

-- a call at such a place may write such a deed; drains, probes and checkpoints have none of their own
abbrev pub IsOfCall : Kind → List (Entry ℕ) → Verb → Deed → Type 0
IsOfCall k line (Put m) deed = IsOfGive k line (put_form k.order) m deed
IsOfCall k line (Offer m) deed = IsOfGive k line (offer_form k.order) m deed
IsOfCall k line (TransferItem m) deed = IsOfGive k line waiting m deed
IsOfCall k line (Try m) deed = IsOfGive k line immediate m deed
IsOfCall k line Take deed = IsOfTake waiting deed
IsOfCall k line Poll deed = IsOfTake immediate deed
IsOfCall k line Follow deed = IsOfFollow deed
IsOfCall k line Cancel deed = deed ≡ Withdrawn Cancelled
IsOfCall k line Expire deed = deed ≡ Withdrawn Expired
IsOfCall k line (InterruptSeat j) deed = IsOfInterrupt j deed
IsOfCall k line verb deed = ⊥

-- a give that waits where it meets nobody (SynchronousQueue.put, LinkedTransferQueue.transfer)
abbrev pub waiting_give : Order → (mark : ℕ) → Verb
waiting_give order m = if keeps order then TransferItem m else Put m

-- a give that fails where it meets nobody (SynchronousQueue.offer, LinkedTransferQueue.tryTransfer)
abbrev pub failing_give : Order → (mark : ℕ) → Verb
failing_give order m = if keeps order then Try m else Offer m

-- a call that writes such a deed
abbrev pub verb_for : Order → Deed → Verb
verb_for order (GiveWaits m) = waiting_give order m
verb_for order (GiveMeets m u) = waiting_give order m
verb_for order (GiveFails m) = failing_give order m
verb_for order (GiveKept m) = Put m
verb_for order TakeWaits = Take
verb_for order (TakeMeets m u) = Take
verb_for order TakeFails = Poll
verb_for order (EntryInterrupted Giver) = waiting_give order 0
verb_for order (EntryInterrupted Taker) = Take
verb_for order Done = Follow
verb_for order (Got m u) = Follow
verb_for order (Withdrawn Cancelled) = Cancel
verb_for order (Withdrawn Expired) = Expire
verb_for order (Withdrawn Interrupted) = Follow
verb_for order (Interrupt j) = InterruptSeat j

-- calls that write these records
abbrev pub calls_for : Order → List (Record Deed) → List Call
calls_for order records = map (λ r. record { seat = r.seat; verb = verb_for order r.deed }) records

-- the seat that an interrupt names is one of so many
abbrev pub HasTarget : (seats : ℕ) → Deed → Type 0
HasTarget seats (Interrupt j) = j < seats
HasTarget seats deed = ⊤

-- the records name so many seats and no others, and the tickets of their requests go up by one from this number, in
-- their range
abbrev pub AreNumbered : (seats next : ℕ) → List (Record Deed) → Type 0
AreNumbered seats next [] = ⊤
AreNumbered seats next (r ∷ records) = (r.seat < seats) × HasTarget seats r.deed
    × (is_request r.deed ≡ true → (r.ticket ≡ next) × (next ≤ last_ticket))
    × AreNumbered seats (if is_request r.deed then next + 1 else next) records
