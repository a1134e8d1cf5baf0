-- What each step of a queue does in the words of histories, and what it costs.
use Rattle.std.proofs.Common.{◌≡◌, ℕ, ◌+◌, ◌≤◌, ◌-◌, ◌==◌, refl, sym, ap, ◌∙◌, subst, Bool, true, false, cond, Option, Some, None, is_some, List, [], ◌∷◌, length, length-take, arith}
use Rattle.std.specs.Prelude.{◌<◌, option_map, option_to_list, MatchOption, ⊤}
use Rattle.std.specs.Option.{option_map_or}
use Rattle.std.proofs.lemmas.List.{length-append, length-drop}
use Rattle.meet_tickets.specs.declared.lines.Entry.{Entry}
use Rattle.meet_tickets.specs.declared.lines.Hold.{Hold}
use Rattle.meet_tickets.specs.declared.lines.Hold.TheVariants.{Free, Waiting, Handed, Served, Cut}
use Rattle.meet_tickets.specs.declared.places.Side.{Side}
use Rattle.meet_tickets.specs.declared.places.Side.TheVariants.{Giver, Taker}
use Rattle.meet_tickets.specs.declared.places.End.{End}
use Rattle.meet_tickets.specs.declared.places.End.TheVariants.{Front, Back}
use Rattle.meet_tickets.specs.declared.places.Kind.{Kind}
use Rattle.meet_tickets.specs.declared.records.Cause.TheVariants.{Cancelled, Expired, Interrupted}
use Rattle.meet_tickets.specs.declared.records.Record.{Record}
use Rattle.meet_tickets.specs.declared.records.Deed.{Deed}
use Rattle.meet_tickets.specs.declared.records.Deed.TheVariants.{GiveWaits, GiveMeets, GiveFails, GiveKept, TakeWaits, TakeMeets, TakeFails, EntryInterrupted, Done, Got, Withdrawn, Interrupt}
use Rattle.meet_tickets.specs.Meeting.{end_of, keeps, partner, kept_count}
use Rattle.meet_tickets.specs.BySeat.{Seats, put_at, is_open, open_ticket, owed_of, unmet, without_first, entry_of, queued, paired, paired_hold, released, flagged, withdrawn, cut_off, is_request, Allows, seats_after, meets}
use Rattle.meet_tickets.proofs.Line.Admitted.{IsAdmitted-from}
use Rattle.meet_line.specs.Sound.{Stands, IsSound}
use Rattle.meet_core.specs.Queue.{Queue, seats_of, count_of, places_of, admit_refusal}
use Rattle.meet_core.specs.Steps.{Uses, Leaves, HandsTo, GetsFrom, GiveStep, OfferStep, PutStep, TakeStep, PollStep, FollowStep, WithdrawStep, InterruptStep}
use Rattle.meet_core.specs.declared.answers.Gave.{Gave}
use Rattle.meet_core.specs.declared.answers.Gave.TheVariants.{Waits as GiverWaits, Meets as GiverMeets, EntryInterrupted as GiverInterrupted}
use Rattle.meet_core.specs.declared.answers.Put.{Put}
use Rattle.meet_core.specs.declared.answers.Put.TheVariants.{Kept as PutKept, Meets as PutMeets, Fails as PutFails}
use Rattle.meet_core.specs.declared.answers.Took.{Took}
use Rattle.meet_core.specs.declared.answers.Took.TheVariants.{Waits as TakerWaits, Meets as TakerMeets, EntryInterrupted as TakerInterrupted}
use Rattle.meet_core.specs.declared.answers.Offered.{Offered}
use Rattle.meet_core.specs.declared.answers.Offered.TheVariants.{Meets as OfferMeets, Fails as OfferFails}
use Rattle.meet_core.specs.declared.answers.Polled.{Polled}
use Rattle.meet_core.specs.declared.answers.Polled.TheVariants.{Meets as PollMeets, Fails as PollFails}
use Rattle.meet_core.specs.declared.answers.Followed.{Followed}
use Rattle.meet_core.specs.declared.answers.Followed.TheVariants.{Done as WasMet, Got as HasGot, Interrupted as WasCut, NotYet}
use Rattle.meet_core.specs.declared.answers.TakenBack.{TakenBack}
use Rattle.meet_core.specs.declared.answers.TakenBack.TheVariants.{Back, Late}
use Rattle.meet_core.specs.declared.answers.Interrupted.{Interrupted as WasInterrupted}
use Rattle.meet_core.specs.declared.answers.Interrupted.TheVariants.{Cut as CutOff, Flagged}
use Rattle.meet_line.proofs.Sound.{Stands-partner}
use Rattle.meet_core.proofs.Following.{there-waiting}
use Rattle.meet_core.proofs.Following.{there-open}
use Rattle.meet_line.specs.Seen.{marked_entry}
use Rattle.meet_core.specs.Seen.{marked_hold, marked}
use Rattle.meet_core.specs.declared.calls.queue_calls.QueueCall.{QueueCall}
use Rattle.meet_core.specs.declared.calls.queue_calls.QueueCall.TheVariants.{Put as PutItem, Give, Offer, Take, Poll, FollowUp, Cancel, Expire, Interrupt as InterruptSeat}
use Rattle.meet_core.specs.declared.calls.queue_calls.QueueAnswer.{QueueAnswer}
use Rattle.meet_core.specs.declared.calls.queue_calls.QueueAnswer.TheVariants.{Put as ToPut, Gave as ToGive, Offered as ToOffer, Took as ToTake, Polled as ToPoll, Followed as ToFollowUp, TakenBack as ToWithdrawal, Interrupted as ToInterrupt}
use Rattle.meet_core.specs.QueueRecords.{made, give_record, offer_record, put_record, take_record, poll_record, follow_record, back_record, interrupt_record, queue_record}
use Rattle.meet_core.specs.QueueSteps.{DualStep, QueueStep, queue_refusal, queue_need, queue_room, queue_owed}
use Rattle.meet_line.proofs.Marks.{partner-marked}
use Rattle.meet_core.proofs.Marking.{entry_of-marked, kept-marked, queued-marked, paired-marked, released-marked, withdrawn-marked, cut_off-marked}
use Rattle.meet_core.proofs.Owed.{owed-same, owed-more, owed-fewer}

-- what a step that writes this record does to the queue, in the words of histories
pub record Writes {T : Type 0} (mark : T → ℕ) (k : Kind) (old new : Queue T) (r : Record Deed) : Type 0 where
  pub used : is_request r.deed ≡ true → r.ticket ≡ old.next
  pub last : new.last ≡ cond (is_request r.deed) r.ticket old.last
  pub next : new.next ≡ cond (is_request r.deed) (old.next + 1) old.next
  pub allowed : Allows k (marked mark (seats_of old)) r.seat r.ticket r.deed
  pub after : marked mark (seats_of new) ≡ seats_after k (marked mark (seats_of old)) r.seat r.ticket r.deed

-- what a call costs: the records that it writes and leaves owed, and its place in the line, where it has room for one
pub record Costs {T : Type 0} (old new : Queue T) (need room : ℕ) (written : ℕ) : Type 0 where
  pub owed : written + queue_owed new ≤ queue_owed old + need
  pub line : length new.line ≤ length old.line + room

-- a step that writes this record, or none and then changes nothing
abbrev pub HasEffect : {T : Type 0} → (T → ℕ) → Kind → Queue T → Queue T → (need room : ℕ) → Option (Record Deed) → Type 0
HasEffect mark k old new need room r = MatchOption r (new ≡ old) (λ r. Writes mark k old new r × Costs old new need room 1)

-- what leaves a line doesn't lengthen it
unmet-short : {X : Type 0} (end : End) (line : List (Entry X)) → length (unmet end line) ≤ length line
unmet-short Front line = omega (arith, length-drop 1 line)
unmet-short Back line = omega (arith, length-take (length line - 1) line)

without-short : {X : Type 0} (t : ℕ) (line : List (Entry X)) → length (without_first (λ e. e.ticket == t) line) ≤ length line
without-short t [] = omega arith
without-short t (e ∷ line) = by_test (e.ticket == t) (without-short t line)
  where
    by_test : (b : Bool) → length (without_first (λ e. e.ticket == t) line) ≤ length line → length (cond b line (e ∷ without_first (λ e. e.ticket == t) line)) ≤ length (e ∷ line)
    by_test true less = omega arith
    by_test false less = omega (arith, less)

-- what stands in the line is open
entry-open : {X : Type 0} (line : List (Entry X)) (hold : Hold X) (e : Entry X) → entry_of line hold ≡ Some e → is_open hold ≡ true
entry-open line Free e found = cc
entry-open line (Waiting t) e found = refl
entry-open line (Handed t u mark) e found = refl
entry-open line (Served t u item) e found = refl
entry-open line (Cut t item) e found = refl

-- what a met seat holds is open, as it was
pub met-open : {T : Type 0} (mark : T → ℕ) (end : End) (old : Queue T) (side : Side) (t : ℕ) (item : Option T) (e : Entry T) → IsSound old.line (seats_of old).holds old.next → partner end old.line side ≡ Some e → is_open (paired_hold mark e.ticket e.item t item) ≡ true → owed_of (count_of old) (paired mark end (seats_of old) t item e).holds ≡ queue_owed old
met-open mark end old side t item e sound found opened = by_waits e.waits refl
  where
    by_waits : (w : Bool) → e.waits ≡ w → owed_of (count_of old) (cond w (put_at (seats_of old).holds e.seat (paired_hold mark e.ticket e.item t item)) (seats_of old).holds) ≡ queue_owed old
    by_waits true waits =
        let stands : Stands (seats_of old).holds old.next e = Stands-partner end side e sound found in
        owed-same (seats_of old).holds (count_of old) e.seat (paired_hold mark e.ticket e.item t item) (opened ∙ sym (ap is_open (stands.held waits)))
    by_waits false waits = refl

module _ {T : Type 0} (mark : T → ℕ) (k : Kind) (old new : Queue T) where
  abbrev now : Seats ℕ
  now = marked mark (seats_of old)

  -- a request's step
  writes-request : (i t : ℕ) (deed : Deed) (seats : Seats T) → is_request deed ≡ true → Uses old new t seats → Allows k now i t deed → marked mark seats ≡ seats_after k now i t deed → Writes mark k old new (made i t deed)
  writes-request i t deed seats asks uses allowed after = record {
    used = λ _. uses.used;
    last = uses.last ∙ sym (ap (λ b. cond b t old.last) asks);
    next = uses.next ∙ sym (ap (λ b. cond b (old.next + 1) old.next) asks);
    allowed = allowed;
    after = ap (marked mark) uses.seats_are ∙ after;
  }

  -- an ending's, or an interrupt's
  writes-other : (i t : ℕ) (deed : Deed) (seats : Seats T) → is_request deed ≡ false → Leaves old new seats → Allows k now i t deed → marked mark seats ≡ seats_after k now i t deed → Writes mark k old new (made i t deed)
  writes-other i t deed seats asks leaves allowed after = record {
    used = λ is. absurd (let x : false ≡ true = sym asks ∙ is in cc);
    last = leaves.last ∙ sym (ap (λ b. cond b t old.last) asks);
    next = leaves.next ∙ sym (ap (λ b. cond b (old.next + 1) old.next) asks);
    allowed = allowed;
    after = ap (marked mark) leaves.seats_are ∙ after;
  }

  costs-from : (need room written : ℕ) (seats : Seats T) → count_of new ≡ count_of old → seats_of new ≡ seats → written + owed_of (count_of old) seats.holds ≤ queue_owed old + need → length seats.line ≤ length old.line + room → Costs old new need room written
  costs-from need room written seats count is owed line =
      let same : queue_owed new ≡ owed_of (count_of old) seats.holds = ap (λ n. owed_of n (seats_of new).holds) count ∙ ap (λ s. owed_of (count_of old) s.holds) is in
      let long : length new.line ≡ length seats.line = ap (λ (s : Seats T). length s.line) is in
      record { owed = omega (arith, same, owed); line = omega (arith, long, line) }

  -- the partner as histories see it
  found-marked : (side : Side) (e : Entry T) → partner (end_of k.order) old.line side ≡ Some e → partner (end_of k.order) now.line side ≡ Some (marked_entry mark e)
  found-marked side e found = partner-marked mark (end_of k.order) old.line side ∙ ap (option_map (marked_entry mark)) found

  alone-marked : (side : Side) → partner (end_of k.order) old.line side ≡ None → partner (end_of k.order) now.line side ≡ None
  alone-marked side alone = partner-marked mark (end_of k.order) old.line side ∙ ap (option_map (marked_entry mark)) alone

  -- a meeting leaves the same
  meets-marked : (t : ℕ) (item : Option T) (side : Side) (e : Entry T) → partner (end_of k.order) old.line side ≡ Some e → marked mark (paired mark (end_of k.order) (seats_of old) t item e) ≡ meets k now t (option_map mark item) side
  meets-marked t item side e found =
      paired-marked mark (end_of k.order) (seats_of old) t item e
      ∙ sym (ap (λ o. option_map_or (paired (λ m. m) (end_of k.order) now t (option_map mark item)) o now) (found-marked side e found))

  -- an item may be kept for histories where it may be kept
  may-marked : MatchOption k.bound ⊤ (λ most. kept_count old.line < most) → MatchOption k.bound ⊤ (λ most. kept_count now.line < most)
  may-marked = by_bound k.bound
    where
      by_bound : (bound : Option ℕ) → MatchOption bound ⊤ (λ most. kept_count old.line < most) → MatchOption bound ⊤ (λ most. kept_count now.line < most)
      by_bound None may = tt
      by_bound (Some most) may = subst (λ n. n < most) (sym (kept-marked mark old.line)) may

  free-seat : (i : ℕ) → admit_refusal old i ≡ None → (seats_of old).holds i ≡ Free
  free-seat i none = (IsAdmitted-from (count_of old) old.next (seats_of old) i none).free

  free-marked : (i : ℕ) → (seats_of old).holds i ≡ Free → now.holds i ≡ Free
  free-marked i free = ap (marked_hold mark) free

  -- a giver that meets
  hands-effect : (room i t u : ℕ) (item : T) → IsSound old.line (seats_of old).holds old.next → (seats_of old).holds i ≡ Free → HandsTo mark (end_of k.order) old item t u new → Writes mark k old new (made i t (GiveMeets (mark item) u)) × Costs old new 2 room 1
  hands-effect room i t u item sound free (e, found, ticket, none, uses) = (
    writes-request i t (GiveMeets (mark item) u) _ refl uses
        (free-marked i free, (marked_entry mark e, found-marked Giver e found, sym ticket, ap (option_map mark) none))
        (meets-marked t (Some item) Giver e found),
    costs-from 2 room 1 _ uses.count uses.seats_are
        (omega (arith, met-open mark (end_of k.order) old Giver t (Some item) e sound found (ap (λ o. is_open (paired_hold mark e.ticket o t (Some item))) none)))
        (omega (arith, unmet-short (end_of k.order) old.line)),
  )

  -- a taker that meets
  gets-effect : (room i t u : ℕ) (item : T) → IsSound old.line (seats_of old).holds old.next → (seats_of old).holds i ≡ Free → GetsFrom mark (end_of k.order) old t u item new → Writes mark k old new (made i t (TakeMeets (mark item) u)) × Costs old new 2 room 1
  gets-effect room i t u item sound free (e, found, ticket, own, uses) = (
    writes-request i t (TakeMeets (mark item) u) _ refl uses
        (free-marked i free, (marked_entry mark e, found-marked Taker e found, sym ticket, ap (option_map mark) own))
        (meets-marked t None Taker e found),
    costs-from 2 room 1 _ uses.count uses.seats_are
        (omega (arith, met-open mark (end_of k.order) old Taker t None e sound found (ap (λ o. is_open (paired_hold mark e.ticket o t None)) own)))
        (omega (arith, unmet-short (end_of k.order) old.line)),
  )

  -- a request that goes to the line
  waits-costs : (i t : ℕ) (item : Option T) → Uses old new t (queued (seats_of old) i t item true) → Costs old new 2 1 1
  waits-costs i t item uses =
      let e : Entry T = record { ticket = t; seat = i; item = item; waits = true } in
      costs-from 2 1 1 _ uses.count uses.seats_are
      (omega (arith, owed-more (seats_of old).holds (count_of old) i (Waiting t)))
      (omega (arith, length-append old.line (e ∷ [])))

  -- one that leaves line and seats as they are
  same-costs : (room t : ℕ) (flags : ℕ → Bool) → Uses old new t (record (seats_of old) { flags = flags }) → Costs old new 2 room 1
  same-costs room t flags uses = costs-from 2 room 1 _ uses.count uses.seats_are (omega arith) (omega arith)

  give-effect : (i : ℕ) (item : T) (answer : Gave T) → IsSound old.line (seats_of old).holds old.next → (seats_of old).holds i ≡ Free → GiveStep mark (end_of k.order) old i item answer new → Writes mark k old new (give_record i (mark item) answer) × Costs old new 2 1 1
  give-effect i item (GiverWaits t) sound free (alone, flag, uses) =
      (writes-request i t (GiveWaits (mark item)) _ refl uses (free-marked i free, alone-marked Giver alone, flag) (queued-marked mark (seats_of old) i t (Some item) true), waits-costs i t (Some item) uses)
  give-effect i item (GiverMeets t u) sound free step = hands-effect 1 i t u item sound free step
  give-effect i item (GiverInterrupted t back) sound free (alone, flag, same, uses) =
      (writes-request i t (EntryInterrupted Giver) _ refl uses (free-marked i free, alone-marked Giver alone, flag) refl, same-costs 1 t _ uses)

  offer-effect : (i : ℕ) (item : T) (answer : Offered T) → IsSound old.line (seats_of old).holds old.next → (seats_of old).holds i ≡ Free → OfferStep mark (end_of k.order) old item answer new → Writes mark k old new (offer_record i (mark item) answer) × Costs old new 2 0 1
  offer-effect i item (OfferMeets t u) sound free step = hands-effect 0 i t u item sound free step
  offer-effect i item (OfferFails t back) sound free (alone, same, uses) =
      (writes-request i t (GiveFails (mark item)) _ refl uses (free-marked i free, alone-marked Giver alone) refl, same-costs 0 t _ uses)

  take-effect : (i : ℕ) (answer : Took T) → IsSound old.line (seats_of old).holds old.next → (seats_of old).holds i ≡ Free → TakeStep mark (end_of k.order) old i answer new → Writes mark k old new (take_record mark i answer) × Costs old new 2 1 1
  take-effect i (TakerWaits t) sound free (alone, flag, uses) =
      (writes-request i t TakeWaits _ refl uses (free-marked i free, alone-marked Taker alone, flag) (queued-marked mark (seats_of old) i t None true), waits-costs i t None uses)
  take-effect i (TakerMeets t u item) sound free step = gets-effect 1 i t u item sound free step
  take-effect i (TakerInterrupted t) sound free (alone, flag, uses) =
      (writes-request i t (EntryInterrupted Taker) _ refl uses (free-marked i free, alone-marked Taker alone, flag) refl, same-costs 1 t _ uses)

  poll-effect : (i : ℕ) (answer : Polled T) → IsSound old.line (seats_of old).holds old.next → (seats_of old).holds i ≡ Free → PollStep mark (end_of k.order) old answer new → Writes mark k old new (poll_record mark i answer) × Costs old new 2 0 1
  poll-effect i (PollMeets t u item) sound free step = gets-effect 0 i t u item sound free step
  poll-effect i (PollFails t) sound free (alone, uses) =
      (writes-request i t TakeFails _ refl uses (free-marked i free, alone-marked Taker alone) refl, same-costs 0 t _ uses)

  -- a giver's item that is kept opens no ticket
  put-effect : (i : ℕ) (item : T) (answer : Put T) → IsSound old.line (seats_of old).holds old.next → (seats_of old).holds i ≡ Free → keeps k.order ≡ true → PutStep mark (end_of k.order) k.bound old i item answer new → Writes mark k old new (put_record i (mark item) answer) × Costs old new 2 1 1
  put-effect i item (PutKept t) sound free keeps (alone, room, uses) =
      let e : Entry T = record { ticket = t; seat = i; item = Some item; waits = false } in (
        writes-request i t (GiveKept (mark item)) _ refl uses (free-marked i free, alone-marked Giver alone, (keeps, may-marked room)) (queued-marked mark (seats_of old) i t (Some item) false),
        costs-from 2 1 1 _ uses.count uses.seats_are (omega arith) (omega (arith, length-append old.line (e ∷ []))),
      )
  put-effect i item (PutMeets t u) sound free keeps step = hands-effect 1 i t u item sound free step
  put-effect i item (PutFails t back) sound free keeps (alone, full, same, uses) =
      (writes-request i t (GiveFails (mark item)) _ refl uses (free-marked i free, alone-marked Giver alone) refl, same-costs 1 t _ uses)

  -- an open ticket that ends where it was settled
  ends-costs : (i t : ℕ) → open_ticket ((seats_of old).holds i) ≡ Some t → Leaves old new (released (seats_of old) i) → Costs old new 0 0 1
  ends-costs i t opened leaves =
      costs-from 0 0 1 _ leaves.count leaves.seats_are
      (omega (arith, owed-fewer (seats_of old).holds (count_of old) i (there-open old.table.holds i t opened) (ap is_some opened)))
      (omega arith)

  follow-effect : (i t : ℕ) (answer : Followed T) → FollowStep old i t answer new → HasEffect mark k old new 0 0 (follow_record mark i t answer)
  follow-effect i t WasMet (u, m, held, leaves) =
      (writes-other i t Done _ refl leaves (u, m, ap (marked_hold mark) held) (released-marked mark (seats_of old) i), ends-costs i t (ap open_ticket held) leaves)
  follow-effect i t (HasGot u item) (held, leaves) =
      (writes-other i t (Got (mark item) u) _ refl leaves (ap (marked_hold mark) held) (released-marked mark (seats_of old) i), ends-costs i t (ap open_ticket held) leaves)
  follow-effect i t (WasCut item) (held, leaves) =
      (writes-other i t (Withdrawn Interrupted) _ refl leaves (option_map mark item, ap (marked_hold mark) held) (released-marked mark (seats_of old) i), ends-costs i t (ap open_ticket held) leaves)
  follow-effect i t NotYet (held, same) = same

  -- a waiting ticket that is taken back stands in the line of marks too
  in-line-marked : (i t : ℕ) (e : Entry T) → (seats_of old).holds i ≡ Waiting t → entry_of old.line (Waiting t) ≡ Some e → is_some (entry_of now.line (now.holds i)) ≡ true
  in-line-marked i t e held found =
      ap is_some (entry_of-marked mark old.line ((seats_of old).holds i) ∙ ap (λ h. option_map (marked_entry mark) (entry_of old.line h)) held ∙ ap (option_map (marked_entry mark)) found)

  back-costs : (i t : ℕ) → (seats_of old).holds i ≡ Waiting t → Leaves old new (withdrawn (seats_of old) i t) → Costs old new 0 0 1
  back-costs i t held leaves =
      costs-from 0 0 1 _ leaves.count leaves.seats_are
      (omega (arith, owed-fewer (seats_of old).holds (count_of old) i (there-waiting old.table.holds i t held) (ap is_open held)))
      (omega (arith, without-short t old.line))

  cancel-effect : (i t : ℕ) (answer : TakenBack T) → WithdrawStep old i t answer new → HasEffect mark k old new 0 0 (back_record i t Cancelled answer)
  cancel-effect i t (Back item) (e, held, found, is, leaves) =
      (writes-other i t (Withdrawn Cancelled) _ refl leaves (ap (marked_hold mark) held, in-line-marked i t e held found) (withdrawn-marked mark (seats_of old) i t), back-costs i t held leaves)
  cancel-effect i t Late (none, same) = same

  expire-effect : (i t : ℕ) (answer : TakenBack T) → WithdrawStep old i t answer new → HasEffect mark k old new 0 0 (back_record i t Expired answer)
  expire-effect i t (Back item) (e, held, found, is, leaves) =
      (writes-other i t (Withdrawn Expired) _ refl leaves (ap (marked_hold mark) held, in-line-marked i t e held found) (withdrawn-marked mark (seats_of old) i t), back-costs i t held leaves)
  expire-effect i t Late (none, same) = same

  interrupt-effect : (i j : ℕ) (answer : WasInterrupted) → InterruptStep old j answer new → Writes mark k old new (interrupt_record i j answer) × Costs old new 1 0 1
  interrupt-effect i j (CutOff t) (e, found, ticket, leaves) =
      let there : entry_of now.line (now.holds j) ≡ Some (marked_entry mark e) = entry_of-marked mark old.line ((seats_of old).holds j) ∙ ap (option_map (marked_entry mark)) found in (
        writes-other i t (Interrupt j) _ refl leaves (ticket ∙ sym (ap (λ o. option_map_or (λ (f : Entry ℕ). f.ticket) o 0) there))
            (cut_off-marked mark (seats_of old) j e ∙ sym (ap (λ o. option_map_or (cut_off now j) o (flagged now j true)) there)),
        costs-from 1 0 1 _ leaves.count leaves.seats_are
            (omega (arith, owed-same (seats_of old).holds (count_of old) j (Cut e.ticket e.item) (sym (entry-open old.line ((seats_of old).holds j) e found))))
            (omega (arith, without-short e.ticket old.line)),
      )
  interrupt-effect i j Flagged (none, leaves) =
      let there : entry_of now.line (now.holds j) ≡ None = entry_of-marked mark old.line ((seats_of old).holds j) ∙ ap (option_map (marked_entry mark)) none in (
        writes-other i 0 (Interrupt j) _ refl leaves (sym (ap (λ o. option_map_or (λ (f : Entry ℕ). f.ticket) o 0) there))
            (sym (ap (λ o. option_map_or (cut_off now j) o (flagged now j true)) there)),
        costs-from 1 0 1 _ leaves.count leaves.seats_are (omega arith) (omega arith),
      )

  -- an admitted call of a queue that keeps nothing, whatever it is
  call-effect : (i : ℕ) (call : QueueCall T) (answer : QueueAnswer T) → IsSound old.line (seats_of old).holds old.next → queue_refusal old i call ≡ None → DualStep mark (end_of k.order) old i call answer new → HasEffect mark k old new (queue_need call) (queue_room call) (queue_record mark i call answer)
  call-effect i (PutItem item) (ToGive answer) sound none step = give-effect i item answer sound (free-seat i none) step
  call-effect i (Give item) (ToGive answer) sound none step = give-effect i item answer sound (free-seat i none) step
  call-effect i (Offer item) (ToOffer answer) sound none step = offer-effect i item answer sound (free-seat i none) step
  call-effect i Take (ToTake answer) sound none step = take-effect i answer sound (free-seat i none) step
  call-effect i Poll (ToPoll answer) sound none step = poll-effect i answer sound (free-seat i none) step
  call-effect i (FollowUp t) (ToFollowUp answer) sound none step = follow-effect i t answer step
  call-effect i (Cancel t) (ToWithdrawal answer) sound none step = cancel-effect i t answer step
  call-effect i (Expire t) (ToWithdrawal answer) sound none step = expire-effect i t answer step
  call-effect i (InterruptSeat j) (ToInterrupt answer) sound none step = interrupt-effect i j answer step
  call-effect i call answer sound none step = absurd step

  -- and of any queue
  queue-effect : (i : ℕ) (call : QueueCall T) (answer : QueueAnswer T) → IsSound old.line (seats_of old).holds old.next → queue_refusal old i call ≡ None → QueueStep mark k old i call answer new → HasEffect mark k old new (queue_need call) (queue_room call) (queue_record mark i call answer)
  queue-effect i (PutItem item) (ToPut answer) sound none (keeps, step) = put-effect i item answer sound (free-seat i none) keeps step
  queue-effect i (PutItem item) answer sound none (waits, step) = call-effect i (PutItem item) answer sound none step
  queue-effect i call answer sound none step = call-effect i call answer sound none step

  -- by the record that was told
  pub queue-made : (i : ℕ) (call : QueueCall T) (answer : QueueAnswer T) (r : Option (Record Deed)) → r ≡ queue_record mark i call answer → IsSound old.line (seats_of old).holds old.next → queue_refusal old i call ≡ None → QueueStep mark k old i call answer new → HasEffect mark k old new (queue_need call) (queue_room call) r
  queue-made i call answer r is sound none step = subst (λ r. HasEffect mark k old new (queue_need call) (queue_room call) r) (sym is) (queue-effect i call answer sound none step)

  -- what is written and owed then
  pub effect-owed : (need room : ℕ) (r : Option (Record Deed)) → HasEffect mark k old new need room r → length (option_to_list r) + queue_owed new ≤ queue_owed old + need
  effect-owed need room None same = let owed : queue_owed new ≡ queue_owed old = ap queue_owed same in omega (arith, owed)
  effect-owed need room (Some r) (writes, costs) = costs.owed

  -- and no more room than the call's is used
  pub effect-room : (need room : ℕ) (r : Option (Record Deed)) → HasEffect mark k old new need room r → places_of new ≡ places_of old → old.room ≤ new.room + room
  effect-room need room None same places = let room_same : new.room ≡ old.room = ap (λ (q : Queue T). q.room) same in omega (arith, room_same)
  effect-room need room (Some r) (writes, costs) places =
      let whole : length new.line + new.room ≡ length old.line + old.room = places in
      omega (arith, whole, costs.line)
