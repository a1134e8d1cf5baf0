-- A queue's call is one thread's turn: the reply that tells its record is the turn's.
use Rattle.std.proofs.Common.{◌≡◌, ℕ, ◌+◌, ◌<◌, ◌≤◌, refl, sym, ap, ◌∙◌, subst, true, false, Bool, cond, Option, Some, None, Ok, Err, List, [], ◌∷◌, ◌++◌, append-nil, length, length-append}
use Rattle.std.specs.Prelude.{MatchOption, ⊤, nat_lt, unwrap_or, option_to_list}
use Rattle.std.specs.Option.{option_map_or}
use Rattle.std.specs.Result.{IfOk}
use Rattle.std.specs.Prelude.{Result}
use Rattle.std.proofs.lemmas.Bool.{le-ltb, lt-ltb}
use Rattle.meet_tickets.specs.declared.lines.Entry.{Entry}
use Rattle.meet_tickets.specs.declared.lines.Hold.{Hold}
use Rattle.meet_tickets.specs.declared.lines.Hold.TheVariants.{Free, Waiting, Handed, Served, Cut}
use Rattle.meet_tickets.specs.declared.places.Side.{Side}
use Rattle.meet_tickets.specs.declared.places.Side.TheVariants.{Giver, Taker}
use Rattle.meet_tickets.specs.declared.records.Record.{Record}
use Rattle.meet_tickets.specs.declared.records.Cause.{Cause}
use Rattle.meet_tickets.specs.declared.records.Cause.TheVariants.{Cancelled, Expired, Interrupted as ByInterrupt}
use Rattle.meet_tickets.specs.declared.records.Deed.{Deed}
use Rattle.meet_tickets.specs.declared.records.Deed.TheVariants.{GiveWaits, GiveMeets, GiveFails, GiveKept, TakeWaits, TakeMeets, TakeFails, EntryInterrupted, Done, Got, Withdrawn, Interrupt as InterruptDeed}
use Rattle.meet_tickets.specs.declared.refusals.Refusal.{Refusal}
use Rattle.meet_tickets.specs.Bases.{Based}
use Rattle.meet_tickets.specs.Meeting.{end_of, keeps, partner, kept_count}
use Rattle.meet_tickets.specs.BySeat.{Seats, paired, meets, entry_of, cut_off, flagged, cut_ticket, open_ticket, is_request, seats_after}
use Rattle.meet_tickets.specs.Refusals.{refusal_unless}
use Rattle.meet_core.specs.Queue.{Queue, seats_of}
use Rattle.meet_core.specs.Steps.{Uses, GiveStep, PutStep, OfferStep, TakeStep, PollStep, FollowStep, WithdrawStep, InterruptStep}
use Rattle.meet_core.specs.declared.answers.Gave.{Gave}
use Rattle.meet_core.specs.declared.answers.Gave.TheVariants.{Waits as GiverWaits, Meets as GiverMeets, EntryInterrupted as GiverInterrupted}
use Rattle.meet_core.specs.declared.answers.Put.{Put as PutAnswer}
use Rattle.meet_core.specs.declared.answers.Put.TheVariants.{Kept as PutKept, Meets as PutMeets, Fails as PutFails}
use Rattle.meet_core.specs.declared.answers.Took.{Took}
use Rattle.meet_core.specs.declared.answers.Took.TheVariants.{Waits as TakerWaits, Meets as TakerMeets, EntryInterrupted as TakerInterrupted}
use Rattle.meet_core.specs.declared.answers.Offered.{Offered}
use Rattle.meet_core.specs.declared.answers.Offered.TheVariants.{Meets as OfferMeets, Fails as OfferFails}
use Rattle.meet_core.specs.declared.answers.Polled.{Polled}
use Rattle.meet_core.specs.declared.answers.Polled.TheVariants.{Meets as PollMeets, Fails as PollFails}
use Rattle.meet_core.specs.declared.answers.Followed.{Followed}
use Rattle.meet_core.specs.declared.answers.Followed.TheVariants.{Done as WasMet, Got as HasGot, Interrupted as WasCut, NotYet}
use Rattle.meet_core.specs.declared.answers.TakenBack.{TakenBack}
use Rattle.meet_core.specs.declared.answers.TakenBack.TheVariants.{Back, Late as TooLate}
use Rattle.meet_core.specs.declared.answers.Interrupted.{Interrupted as WasInterrupted}
use Rattle.meet_core.specs.declared.answers.Interrupted.TheVariants.{Cut as CutOff, Flagged}
use Rattle.meet_book.specs.Booking.{record_of_receipt}
use Rattle.meet_book.specs.Received.{Received}
use Rattle.meet_core.specs.declared.calls.queue_calls.QueueCall.{QueueCall}
use Rattle.meet_core.specs.declared.calls.queue_calls.QueueCall.TheVariants.{Put, Give, Offer, Take, Poll, FollowUp, Cancel, Expire, Interrupt}
use Rattle.meet_core.specs.declared.calls.queue_calls.QueueAnswer.{QueueAnswer}
use Rattle.meet_core.specs.declared.calls.queue_calls.QueueAnswer.TheVariants.{Put as ToPut, Gave as ToGive, Offered as ToOffer, Took as ToTake, Polled as ToPoll, Followed as ToFollowUp, TakenBack as ToWithdrawal, Interrupted as ToInterrupt}
use Rattle.meet_core.specs.QueueRecords.{made, queue_record}
use Rattle.meet_core.specs.QueueSteps.{QueueStep, queue_refusal}
use Rattle.meet_history.specs.declared.one_thread.setup.Setup.{Setup}
use Rattle.meet_history.specs.declared.one_thread.replies.Reply.{Reply}
use Rattle.meet_history.specs.declared.one_thread.replies.Outcome.TheVariants.{Late, Refused}
use Rattle.meet_history.specs.OneThread.{Place, Turn, Form, waiting, immediate, keeping, told, silent, refused, stepped, may_keep, give, give_alone, give_deed, take_alone, take_deed, follow, withdraw, interrupt, request, request_refusal, interrupt_refusal}
use Rattle.meet_history.specs.Stepping.{Stepping, place_of, TakesTurn, turn_of_call, refusal_at, back_of, unrecorded, reply_of}
use Rattle.meet_history.proofs.Foldings.{folded-more}

module _ (setup : Setup) (q : Queue ℕ) (gone : ℕ) (cut : Bool) (count seat : ℕ) where
  -- where the place is, after so many records
  abbrev p : Place
  p = record { next = q.next; seats = seats_of q; gone = gone; cut = cut; records = count }

  abbrev here : Seats ℕ
  here = seats_of q

  -- a refused call is told so
  request-refused : (deed : Deed) (item : Option ℕ) (why : Refusal) → request_refusal setup p seat ≡ Some why → request setup p seat deed item ≡ refused p seat why
  request-refused deed item why is = ap (λ o. option_map_or (refused p seat) o (stepped setup p seat p.next deed item)) is

  pub call-refused : (call : QueueCall ℕ) (why : Refusal) → refusal_at setup p seat call ≡ Some why → turn_of_call setup p seat call ≡ refused p seat why
  call-refused (Put mark) why is = request-refused _ _ why is
  call-refused (Give mark) why is = request-refused _ _ why is
  call-refused (Offer mark) why is = request-refused _ _ why is
  call-refused Take why is = request-refused _ _ why is
  call-refused Poll why is = request-refused _ _ why is
  call-refused (FollowUp t) why is = cc
  call-refused (Cancel t) why is = cc
  call-refused (Expire t) why is = cc
  call-refused (Interrupt j) why is = ap (λ o. option_map_or (refused p seat) o (stepped setup p seat (cut_ticket here j) (InterruptDeed j) None)) is

  module _ (new : Queue ℕ) where
    -- the turn that writes this record, tells it, and leaves the new queue
    abbrev recorded : Record Deed → (back : Option ℕ) → Turn
    recorded r back = record {
      replies = record { seat = seat; outcome = told (gone + count + 1) r.ticket r.deed back } ∷ [];
      records = r ∷ [];
      place = record { next = new.next; seats = seats_of new; gone = gone; cut = cut; records = count + 1 };
    }

    -- a call's turn, by its record: it tells this, or where there is none nothing changed
    abbrev pub IsTold : QueueCall ℕ → QueueAnswer ℕ → Option (Record Deed) → Type 0
    IsTold call answer r =
        MatchOption r ((turn_of_call setup p seat call ≡ silent p seat (unrecorded call)) × (new ≡ q)) (λ r. turn_of_call setup p seat call ≡ recorded r (back_of answer))

    -- a step in parts, whatever of the item is told
    stepped-is : (t : ℕ) (deed : Deed) (item back : Option ℕ) → new.next ≡ cond (is_request deed) (q.next + 1) q.next → seats_of new ≡ seats_after setup.kind here seat t deed → told (gone + count + 1) t deed item ≡ told (gone + count + 1) t deed back → stepped setup p seat t deed item ≡ recorded (made seat t deed) back
    stepped-is t deed item back next seats tells = λ i. record {
      replies = record { seat = seat; outcome = tells i } ∷ [];
      records = made seat t deed ∷ [];
      place = record { next = sym next i; seats = sym seats i; gone = gone; cut = cut; records = count + 1 };
    }

    -- a request of this deed, where it isn't refused
    request-is : (t : ℕ) (own deed : Deed) (item back : Option ℕ) (seats : Seats ℕ) → request_refusal setup p seat ≡ None → own ≡ deed → is_request deed ≡ true → Uses q new t seats → seats ≡ seats_after setup.kind here seat t deed → told (gone + count + 1) t deed item ≡ told (gone + count + 1) t deed back → request setup p seat own item ≡ recorded (made seat t deed) back
    request-is t own deed item back seats none is asks uses after tells =
        ap (λ o. option_map_or (refused p seat) o (stepped setup p seat p.next own item)) none
        ∙ ap (λ d. stepped setup p seat p.next d item) is
        ∙ ap (λ n. stepped setup p seat n deed item) (sym uses.used)
        ∙ stepped-is t deed item back (uses.next ∙ sym (ap (λ b. cond b (q.next + 1) q.next) asks)) (uses.seats_are ∙ after) tells

    -- the deed of a give: alone, by its form, and met
    give-alone : (form : Form) (mark : ℕ) → partner (end_of setup.kind.order) here.line Giver ≡ None → give_deed setup.kind here seat form mark ≡ give_alone setup.kind here seat form mark
    give-alone form mark alone = ap (λ o. option_map_or (λ (e : Entry ℕ). GiveMeets mark e.ticket) o (give_alone setup.kind here seat form mark)) alone

    give-met : (form : Form) (mark : ℕ) (e : Entry ℕ) (u : ℕ) → partner (end_of setup.kind.order) here.line Giver ≡ Some e → u ≡ e.ticket → give_deed setup.kind here seat form mark ≡ GiveMeets mark u
    give-met form mark e u found is = ap (λ o. option_map_or (λ (f : Entry ℕ). GiveMeets mark f.ticket) o (give_alone setup.kind here seat form mark)) found ∙ ap (GiveMeets mark) (sym is)

    -- that of a take
    take-alone : (form : Form) → partner (end_of setup.kind.order) here.line Taker ≡ None → take_deed setup.kind here seat form ≡ take_alone here seat form
    take-alone form alone = ap (λ o. option_map_or (λ (e : Entry ℕ). TakeMeets (unwrap_or e.item 0) e.ticket) o (take_alone here seat form)) alone

    take-met : (form : Form) (e : Entry ℕ) (u item : ℕ) → partner (end_of setup.kind.order) here.line Taker ≡ Some e → u ≡ e.ticket → e.item ≡ Some item → take_deed setup.kind here seat form ≡ TakeMeets item u
    take-met form e u item found is own =
        ap (λ o. option_map_or (λ (f : Entry ℕ). TakeMeets (unwrap_or f.item 0) f.ticket) o (take_alone here seat form)) found
        ∙ ap (λ o. TakeMeets (unwrap_or o 0) e.ticket) own ∙ ap (TakeMeets item) (sym is)

    -- what a meeting leaves
    met-seats : (side : Side) (t : ℕ) (item : Option ℕ) (e : Entry ℕ) → partner (end_of setup.kind.order) here.line side ≡ Some e → paired (λ m. m) (end_of setup.kind.order) here t item e ≡ meets setup.kind here t item side
    met-seats side t item e found = sym (ap (λ o. option_map_or (paired (λ m. m) (end_of setup.kind.order) here t item) o here) found)

    -- an item more may be kept, or not
    may : MatchOption setup.kind.bound ⊤ (λ most. kept_count here.line < most) → may_keep setup.kind here.line ≡ true
    may = by_bound setup.kind.bound
      where
        by_bound : (bound : Option ℕ) → MatchOption bound ⊤ (λ most. kept_count here.line < most) → option_map_or (λ most. nat_lt (kept_count here.line) most) bound true ≡ true
        by_bound None few = refl
        by_bound (Some most) few = lt-ltb (kept_count here.line) most few

    may-not : MatchOption setup.kind.bound ⊥ (λ most. most ≤ kept_count here.line) → may_keep setup.kind here.line ≡ false
    may-not = by_bound setup.kind.bound
      where
        by_bound : (bound : Option ℕ) → MatchOption bound ⊥ (λ most. most ≤ kept_count here.line) → option_map_or (λ most. nat_lt (kept_count here.line) most) bound true ≡ false
        by_bound None many = absurd many
        by_bound (Some most) many = le-ltb (kept_count here.line) most many

    give-told : (mark : ℕ) (answer : Gave ℕ) → request_refusal setup p seat ≡ None → GiveStep (λ m. m) (end_of setup.kind.order) q seat mark answer new → IsTold (Give mark) (ToGive answer) (queue_record (λ m. m) seat (Give mark) (ToGive answer))
    give-told mark (GiverWaits t) none (alone, flag, uses) =
        request-is t _ (GiveWaits mark) (Some mark) None _ none (give-alone waiting mark alone ∙ ap (λ b. cond b (EntryInterrupted Giver) (GiveWaits mark)) flag) refl uses refl refl
    give-told mark (GiverMeets t u) none (e, found, ticket, own, uses) =
        request-is t _ (GiveMeets mark u) (Some mark) None _ none (give-met waiting mark e u found ticket) refl uses (met-seats Giver t (Some mark) e found) refl
    give-told mark (GiverInterrupted t back) none (alone, flag, same, uses) =
        request-is t _ (EntryInterrupted Giver) (Some mark) (Some back) _ none (give-alone waiting mark alone ∙ ap (λ b. cond b (EntryInterrupted Giver) (GiveWaits mark)) flag) refl uses refl
        (ap (λ item. told (gone + count + 1) t (EntryInterrupted Giver) (Some item)) (sym same))

    offer-told : (mark : ℕ) (answer : Offered ℕ) → request_refusal setup p seat ≡ None → OfferStep (λ m. m) (end_of setup.kind.order) q mark answer new → IsTold (Offer mark) (ToOffer answer) (queue_record (λ m. m) seat (Offer mark) (ToOffer answer))
    offer-told mark (OfferMeets t u) none (e, found, ticket, own, uses) =
        request-is t _ (GiveMeets mark u) (Some mark) None _ none (give-met immediate mark e u found ticket) refl uses (met-seats Giver t (Some mark) e found) refl
    offer-told mark (OfferFails t back) none (alone, same, uses) =
        request-is t _ (GiveFails mark) (Some mark) (Some back) _ none (give-alone immediate mark alone) refl uses refl
        (ap (λ item. told (gone + count + 1) t (GiveFails mark) (Some item)) (sym same))

    -- a put that is kept, or that waits
    kept-told : (mark : ℕ) (answer : PutAnswer ℕ) → request_refusal setup p seat ≡ None → PutStep (λ m. m) (end_of setup.kind.order) setup.kind.bound q seat mark answer new → MatchOption (queue_record (λ m. m) seat (Put mark) (ToPut answer)) ⊥ (λ r. give setup p seat keeping mark ≡ recorded r (back_of (ToPut answer)))
    kept-told mark (PutKept t) none (alone, room, uses) =
        request-is t _ (GiveKept mark) (Some mark) None _ none (give-alone keeping mark alone ∙ ap (λ b. cond b (GiveKept mark) (GiveFails mark)) (may room)) refl uses refl refl
    kept-told mark (PutMeets t u) none (e, found, ticket, own, uses) =
        request-is t _ (GiveMeets mark u) (Some mark) None _ none (give-met keeping mark e u found ticket) refl uses (met-seats Giver t (Some mark) e found) refl
    kept-told mark (PutFails t back) none (alone, full, same, uses) =
        request-is t _ (GiveFails mark) (Some mark) (Some back) _ none (give-alone keeping mark alone ∙ ap (λ b. cond b (GiveKept mark) (GiveFails mark)) (may-not full)) refl uses refl
        (ap (λ item. told (gone + count + 1) t (GiveFails mark) (Some item)) (sym same))

    -- a put is a give of the place's form
    as-put : (kept : Bool) (mark : ℕ) (answer : QueueAnswer ℕ) (r : Record Deed) → keeps setup.kind.order ≡ kept → give setup p seat (cond kept keeping waiting) mark ≡ recorded r (back_of answer) → IsTold (Put mark) answer (Some r)
    as-put kept mark answer r is told = ap (λ b. give setup p seat (cond b keeping waiting) mark) is ∙ told

    put-told : (mark : ℕ) (answer : QueueAnswer ℕ) → request_refusal setup p seat ≡ None → QueueStep (λ m. m) setup.kind q seat (Put mark) answer new → IsTold (Put mark) answer (queue_record (λ m. m) seat (Put mark) answer)
    put-told mark (ToPut (PutKept t)) none (keeps, step) = as-put true mark (ToPut (PutKept t)) _ keeps (kept-told mark (PutKept t) none step)
    put-told mark (ToPut (PutMeets t u)) none (keeps, step) = as-put true mark (ToPut (PutMeets t u)) _ keeps (kept-told mark (PutMeets t u) none step)
    put-told mark (ToPut (PutFails t back)) none (keeps, step) = as-put true mark (ToPut (PutFails t back)) _ keeps (kept-told mark (PutFails t back) none step)
    put-told mark (ToGive answer) none (waits, step) = as-put false mark (ToGive answer) _ waits (give-told mark answer none step)
    put-told mark (ToOffer answer) none step = absurd step.1
    put-told mark (ToTake answer) none step = absurd step.1
    put-told mark (ToPoll answer) none step = absurd step.1
    put-told mark (ToFollowUp answer) none step = absurd step.1
    put-told mark (ToWithdrawal answer) none step = absurd step.1
    put-told mark (ToInterrupt answer) none step = absurd step.1

    take-told : (answer : Took ℕ) → request_refusal setup p seat ≡ None → TakeStep (λ m. m) (end_of setup.kind.order) q seat answer new → IsTold Take (ToTake answer) (queue_record (λ m. m) seat Take (ToTake answer))
    take-told (TakerWaits t) none (alone, flag, uses) =
        request-is t _ TakeWaits None None _ none (take-alone waiting alone ∙ ap (λ b. cond b (EntryInterrupted Taker) TakeWaits) flag) refl uses refl refl
    take-told (TakerMeets t u item) none (e, found, ticket, own, uses) =
        request-is t _ (TakeMeets item u) None None _ none (take-met waiting e u item found ticket own) refl uses (met-seats Taker t None e found) refl
    take-told (TakerInterrupted t) none (alone, flag, uses) =
        request-is t _ (EntryInterrupted Taker) None None _ none (take-alone waiting alone ∙ ap (λ b. cond b (EntryInterrupted Taker) TakeWaits) flag) refl uses refl refl

    pub poll-told : (answer : Polled ℕ) → request_refusal setup p seat ≡ None → PollStep (λ m. m) (end_of setup.kind.order) q answer new → IsTold Poll (ToPoll answer) (queue_record (λ m. m) seat Poll (ToPoll answer))
    poll-told (PollMeets t u item) none (e, found, ticket, own, uses) =
        request-is t _ (TakeMeets item u) None None _ none (take-met immediate e u item found ticket own) refl uses (met-seats Taker t None e found) refl
    poll-told (PollFails t) none (alone, uses) = request-is t _ TakeFails None None _ none (take-alone immediate alone) refl uses refl refl

    follow-told : (t : ℕ) (answer : Followed ℕ) → FollowStep q seat t answer new → IsTold (FollowUp t) (ToFollowUp answer) (queue_record (λ m. m) seat (FollowUp t) (ToFollowUp answer))
    follow-told t WasMet (u, mark, held, leaves) = ap (follow setup p seat) held ∙ stepped-is t Done None None leaves.next leaves.seats_are refl
    follow-told t (HasGot u item) (held, leaves) = ap (follow setup p seat) held ∙ stepped-is t (Got item u) None None leaves.next leaves.seats_are refl
    follow-told t (WasCut item) (held, leaves) = ap (follow setup p seat) held ∙ stepped-is t (Withdrawn ByInterrupt) item item leaves.next leaves.seats_are refl
    follow-told t NotYet (held, same) = (ap (follow setup p seat) held, same)

    -- a withdrawal that comes too late: the seat's ticket doesn't stand in the line
    late : (cause : Cause) (t : ℕ) (hold : Hold ℕ) → refusal_unless (open_ticket hold) t ≡ None → entry_of here.line hold ≡ None → withdraw setup p seat cause hold ≡ silent p seat Late
    late cause t Free opened none = cc
    late cause t (Waiting u) opened none = ap (λ o. option_map_or (λ (e : Entry ℕ). stepped setup p seat u (Withdrawn cause) e.item) o (silent p seat Late)) none
    late cause t (Handed u v mark) opened none = refl
    late cause t (Served u v item) opened none = refl
    late cause t (Cut u item) opened none = refl

    -- one that doesn't takes it out, with its item
    taken-back : (cause : Cause) (t : ℕ) (item : Option ℕ) (e : Entry ℕ) → is_request (Withdrawn cause) ≡ false → here.holds seat ≡ Waiting t → entry_of here.line (Waiting t) ≡ Some e → item ≡ e.item → new.next ≡ q.next → seats_of new ≡ seats_after setup.kind here seat t (Withdrawn cause) → withdraw setup p seat cause (here.holds seat) ≡ recorded (made seat t (Withdrawn cause)) item
    taken-back cause t item e asks held found is next left =
        ap (withdraw setup p seat cause) held
        ∙ ap (λ o. option_map_or (λ (f : Entry ℕ). stepped setup p seat t (Withdrawn cause) f.item) o (silent p seat Late)) found
        ∙ ap (stepped setup p seat t (Withdrawn cause)) (sym is)
        ∙ stepped-is t (Withdrawn cause) item item (next ∙ sym (ap (λ b. cond b (q.next + 1) q.next) asks)) left refl

    cancel-told : (t : ℕ) (answer : TakenBack ℕ) → queue_refusal q seat (Cancel t) ≡ None → WithdrawStep q seat t answer new → IsTold (Cancel t) (ToWithdrawal answer) (queue_record (λ m. m) seat (Cancel t) (ToWithdrawal answer))
    cancel-told t (Back item) opened (e, held, found, is, leaves) = taken-back Cancelled t item e refl held found is leaves.next leaves.seats_are
    cancel-told t TooLate opened (none, same) = (late Cancelled t (here.holds seat) opened none, same)

    expire-told : (t : ℕ) (answer : TakenBack ℕ) → queue_refusal q seat (Expire t) ≡ None → WithdrawStep q seat t answer new → IsTold (Expire t) (ToWithdrawal answer) (queue_record (λ m. m) seat (Expire t) (ToWithdrawal answer))
    expire-told t (Back item) opened (e, held, found, is, leaves) = taken-back Expired t item e refl held found is leaves.next leaves.seats_are
    expire-told t TooLate opened (none, same) = (late Expired t (here.holds seat) opened none, same)

    -- an interrupt names the ticket that it cuts, and else none
    struck : (j t : ℕ) → interrupt_refusal setup p seat j ≡ None → cut_ticket here j ≡ t → new.next ≡ q.next → seats_of new ≡ seats_after setup.kind here seat t (InterruptDeed j) → interrupt setup p seat j ≡ recorded (made seat t (InterruptDeed j)) None
    struck j t none is next left =
        ap (λ o. option_map_or (refused p seat) o (stepped setup p seat (cut_ticket here j) (InterruptDeed j) None)) none
        ∙ ap (λ n. stepped setup p seat n (InterruptDeed j) None) is
        ∙ stepped-is t (InterruptDeed j) None None next left refl

    interrupt-told : (j : ℕ) (answer : WasInterrupted) → interrupt_refusal setup p seat j ≡ None → InterruptStep q j answer new → IsTold (Interrupt j) (ToInterrupt answer) (queue_record (λ m. m) seat (Interrupt j) (ToInterrupt answer))
    interrupt-told j (CutOff t) none (e, found, ticket, leaves) =
        struck j t none (ap (λ o. option_map_or (λ (f : Entry ℕ). f.ticket) o 0) found ∙ sym ticket) leaves.next
        (leaves.seats_are ∙ sym (ap (λ o. option_map_or (cut_off here j) o (flagged here j true)) found))
    interrupt-told j Flagged none (nobody, leaves) =
        struck j 0 none (ap (λ o. option_map_or (λ (f : Entry ℕ). f.ticket) o 0) nobody) leaves.next
        (leaves.seats_are ∙ sym (ap (λ o. option_map_or (cut_off here j) o (flagged here j true)) nobody))

    -- an admitted call, whatever it is
    pub call-told : (call : QueueCall ℕ) (answer : QueueAnswer ℕ) → refusal_at setup p seat call ≡ None → queue_refusal q seat call ≡ None → QueueStep (λ m. m) setup.kind q seat call answer new → IsTold call answer (queue_record (λ m. m) seat call answer)
    call-told (Put mark) answer none own step = put-told mark answer none step
    call-told (Give mark) (ToGive answer) none own step = give-told mark answer none step
    call-told (Offer mark) (ToOffer answer) none own step = offer-told mark answer none step
    call-told Take (ToTake answer) none own step = take-told answer none step
    call-told Poll (ToPoll answer) none own step = poll-told answer none step
    call-told (FollowUp t) (ToFollowUp answer) none own step = follow-told t answer step
    call-told (Cancel t) (ToWithdrawal answer) none own step = cancel-told t answer own step
    call-told (Expire t) (ToWithdrawal answer) none own step = expire-told t answer own step
    call-told (Interrupt j) (ToInterrupt answer) none own step = interrupt-told j answer none step
    call-told call answer none own step = absurd step

-- the reply to a call that was made, by its receipt
abbrev pub reply_by : (seat : ℕ) → QueueCall ℕ → QueueAnswer ℕ → Option (Received Deed) → Reply
reply_by seat call answer None = record { seat = seat; outcome = unrecorded call }
reply_by seat call answer (Some receipt) = reply_of seat receipt (back_of answer)

module _ (setup : Setup) (old new : Queue ℕ) (base now : Based) (cut : Bool) (records after : List (Record Deed)) (room left : ℕ) (seat : ℕ) (call : QueueCall ℕ) where
  abbrev before : Stepping
  before = record { setup = setup; queue = old; base = base; cut = cut; records = records; room = room }

  abbrev behind : Stepping
  behind = record { setup = setup; queue = new; base = now; cut = cut; records = after; room = left }

  abbrev turn : Turn
  turn = turn_of_call setup (place_of before) seat call

  -- a call that was refused changes nothing
  pub takes-refused : (why : Refusal) → new ≡ old → now ≡ base → after ≡ records → refusal_at setup (place_of before) seat call ≡ Some why → TakesTurn turn before behind (record { seat = seat; outcome = Refused why })
  takes-refused why same based stay is =
      let told : turn ≡ refused (place_of before) seat why = call-refused setup old base.gone cut (length records) seat call why is in
      record {
        replies = ap (λ (t : Turn). t.replies) told;
        takes = record {
          setup = refl;
          written = λ all. folded-more setup.kind all base now records after _ based (stay ∙ sym (append-nil records) ∙ ap (λ (t : Turn). records ++ t.records) (sym told));
          place = (λ i. record { next = (same i).next; seats = seats_of (same i); gone = (based i).gone; cut = cut; records = length (stay i) }) ∙ ap (λ (t : Turn). t.place) (sym told);
        };
      }

  by-receipt : (answer : QueueAnswer ℕ) (receipt : Option (Received Deed)) → now ≡ base → IsTold setup old base.gone cut (length records) seat new call answer (record_of_receipt receipt) → MatchOption receipt ⊤ (λ r. r.place ≡ base.gone + length records + 1) → after ≡ records ++ option_to_list (record_of_receipt receipt) → TakesTurn turn before behind (reply_by seat call answer receipt)
  by-receipt answer None based (told, same) place more =
      let stay : after ≡ records = more ∙ append-nil records in
      record {
        replies = ap (λ (t : Turn). t.replies) told;
        takes = record {
          setup = refl;
          written = λ all. folded-more setup.kind all base now records after _ based (more ∙ ap (λ (t : Turn). records ++ t.records) (sym told));
          place = (λ i. record { next = (same i).next; seats = seats_of (same i); gone = (based i).gone; cut = cut; records = length (stay i) }) ∙ ap (λ (t : Turn). t.place) (sym told);
        };
      }
  by-receipt answer (Some r) based is place more =
      let long : length after ≡ length records + 1 = ap length more ∙ length-append records (r.entry ∷ []) in
      record {
        replies = ap (λ (t : Turn). t.replies) is ∙ ap (λ n. record { seat = seat; outcome = told n r.entry.ticket r.entry.deed (back_of answer) } ∷ []) (sym place);
        takes = record {
          setup = refl;
          written = λ all. folded-more setup.kind all base now records after _ based (more ∙ ap (λ (t : Turn). records ++ t.records) (sym is));
          place = (λ i. record { next = new.next; seats = seats_of new; gone = (based i).gone; cut = cut; records = long i }) ∙ ap (λ (t : Turn). t.place) (sym is);
        };
      }

  -- one that was made tells its receipt
  pub takes-made : (answer : QueueAnswer ℕ) (receipt of : Option (Received Deed)) → now ≡ base → receipt ≡ of → refusal_at setup (place_of before) seat call ≡ None → queue_refusal old seat call ≡ None → QueueStep (λ m. m) setup.kind old seat call answer new → record_of_receipt receipt ≡ queue_record (λ m. m) seat call answer → MatchOption receipt ⊤ (λ r. r.place ≡ base.gone + length records + 1) → after ≡ records ++ option_to_list (record_of_receipt receipt) → TakesTurn turn before behind (reply_by seat call answer of)
  takes-made answer receipt of based same none own step is place more =
      subst (λ o. TakesTurn turn before behind (reply_by seat call answer o)) same
      (by-receipt answer receipt based (subst (IsTold setup old base.gone cut (length records) seat new call answer) (sym is) (call-told setup old base.gone cut (length records) seat new call answer none own step)) place more)

-- what is said of a reply that is told of a refusal
pub told-refused : (said : Result Reply Refusal) (reply : Reply) (Other : Type 0) (P : Reply → Type 0) → IfOk said (λ own. own ≡ reply) → IfOk said (λ _. Other) → (Other → P reply) → IfOk said P
told-refused (Ok own) reply Other P is other told = subst P (sym is) (told other)
told-refused (Err why) reply Other P is other told = tt
