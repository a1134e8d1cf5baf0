-- Calls and the deeds that the rules allow: of a call's deeds the one that it writes is the only legal one, and every
-- legal history is one that calls write, each record by the call for its deed.
use Rattle.std.proofs.Common.{◌≡◌, ℕ, ◌+◌, ◌<◌, ◌≤◌, refl, sym, ap, ◌∙◌, subst, Bool, true, false, Option, Some, None}
use Rattle.std.proofs.Common.{List, [], ◌∷◌, ◌++◌, length, arith, ⊎_elim}
use Rattle.std.specs.Prelude.{unwrap_or, is_some, nat_lt, nat_le, ⊤, ◌||◌, MatchOption, if◌then◌else◌, IsTrue, All}
use Rattle.std.specs.Option.{option_map_or}
use Rattle.std.specs.List.{range_with_len}
use Rattle.std.proofs.lemmas.Bool.{lt-leb, le-ltb, lt-ltb}
use Rattle.std.proofs.lemmas.List.Sums.{count_by-le-length}
use Rattle.std.proofs.lemmas.List.FromFn.{length-range_with_len}
use Rattle.std.proofs.lemmas.List.Elements.{All-nil, All-cons}
use Rattle.meet_tickets.specs.declared.lines.Entry.{Entry}
use Rattle.meet_tickets.specs.declared.lines.Hold.TheVariants.{Waiting}
use Rattle.meet_tickets.specs.declared.places.Order.{Order}
use Rattle.meet_tickets.specs.declared.places.Side.TheVariants.{Giver, Taker}
use Rattle.meet_tickets.specs.declared.records.Record.{Record}
use Rattle.meet_tickets.specs.declared.records.Cause.{Cause}
use Rattle.meet_tickets.specs.declared.records.Cause.TheVariants.{Cancelled, Expired, Interrupted}
use Rattle.meet_tickets.specs.declared.records.Deed.{Deed}
use Rattle.meet_tickets.specs.declared.records.Deed.TheVariants.{GiveWaits, GiveMeets, GiveFails, GiveKept, TakeWaits}
use Rattle.meet_tickets.specs.declared.records.Deed.TheVariants.{TakeMeets, TakeFails, EntryInterrupted, Done, Got}
use Rattle.meet_tickets.specs.declared.records.Deed.TheVariants.{Withdrawn, Interrupt}
use Rattle.meet_tickets.specs.declared.refusals.Refusal.{Refusal}
use Rattle.meet_tickets.specs.declared.refusals.Refusal.TheVariants.{NoSuchSeat, SeatOpen, TicketsSpent, HistoryFull}
use Rattle.meet_tickets.specs.Limits.{last_ticket}
use Rattle.meet_tickets.specs.Meeting.{keeps, Alone, Finds, MayKeep, kept_count}
use Rattle.meet_tickets.specs.BySeat.{Allows, IsFree, is_open, owed_of, entry_of, cut_ticket, is_request}
use Rattle.meet_tickets.specs.BySeat.{IsLegalBySeatFrom}
use Rattle.meet_tickets.specs.Refusals.{refusal_of}
use Rattle.meet_book.specs.Booking.{call_refusal}
use Rattle.meet_history.specs.declared.one_thread.verbs.Verb.{Verb}
use Rattle.meet_history.specs.declared.one_thread.verbs.Verb.TheVariants.{Put, Offer, Take, Poll, Transfer as TransferItem}
use Rattle.meet_history.specs.declared.one_thread.verbs.Verb.TheVariants.{Try, Follow, Cancel, Expire}
use Rattle.meet_history.specs.declared.one_thread.verbs.Verb.TheVariants.{Interrupt as InterruptSeat}
use Rattle.meet_history.specs.declared.one_thread.verbs.Verb.TheVariants.{Drain, Look, Checkpoint}
use Rattle.meet_history.specs.declared.one_thread.replies.Outcome.TheVariants.{Late}
use Rattle.meet_history.specs.declared.one_thread.setup.Setup.{Setup}
use Rattle.meet_history.specs.Served.{serves, serves_synchronous}
use Rattle.meet_history.specs.OneThread.{Place, Turn, silent, refused, stepped, Form, waiting, immediate, keeping}
use Rattle.meet_history.specs.OneThread.{may_keep, give_alone, give_deed, take_alone, take_deed, request_refusal, request}
use Rattle.meet_history.specs.OneThread.{give, take, follow, withdraw, interrupt, interrupt_refusal, is_full, turn_of}
use Rattle.meet_history.specs.OneThread.{turns, put_form, offer_form}
use Rattle.meet_history.specs.Called.{IsOfGive, IsOfTake, IsOfFollow, IsOfInterrupt, IsOfCall}
use Rattle.meet_history.specs.Called.{waiting_give, failing_give, verb_for, calls_for, HasTarget, AreNumbered}
use Rattle.meet_history.proofs.LegalTurns.{moment_at, may_keep-true, put_form-keeps, offer_form-keeps}

-- what a record needs of the place, so that its call isn't refused
record HasPlace (setup : Setup) (p : Place) (seat ticket : ℕ) (deed : Deed) : Type 0 where
  there : seat < setup.seats
  target : HasTarget setup.seats deed
  used : is_request deed ≡ true → (ticket ≡ p.next) × (p.next ≤ last_ticket)
  room : p.records + owed_of setup.seats p.seats.holds + 2 ≤ setup.cap

-- the turn of a call writes this record, as its step
abbrev Steps : Setup → Place → (seat ticket : ℕ) → Deed → Turn → Type 0
Steps setup p seat ticket deed turn = (back : Option ℕ) × (turn ≡ stepped setup p seat ticket deed back)

module _ (setup : Setup) (p : Place) (seat : ℕ) where
  -- no more records are owed than there are seats
  owed_few : owed_of setup.seats p.seats.holds ≤ setup.seats
  owed_few =
      let counted = count_by-le-length (λ i. is_open (p.seats.holds i)) (range_with_len 0 setup.seats) in
      let all = length-range_with_len 0 setup.seats in
      omega (arith, counted, all)

  -- a request that isn't refused
  unrefused : seat < setup.seats → IsFree p.seats seat → p.next ≤ last_ticket
      → p.records + owed_of setup.seats p.seats.holds + 2 ≤ setup.cap → request_refusal setup p seat ≡ None
  unrefused there free left room =
      ap (λ o. call_refusal o (is_full setup p 2)) admitted
      ∙ ap (λ b. if b then Some HistoryFull else None)
      (le-ltb setup.cap (p.records + owed_of setup.seats p.seats.holds + 2) room)
    where
      admitted : refusal_of setup.seats p.next p.seats seat ≡ None
      admitted =
          ap (λ b. if b then Some NoSuchSeat else (if is_open (p.seats.holds seat) then Some SeatOpen
          else (if nat_lt last_ticket p.next then Some TicketsSpent else None))) (lt-leb setup.seats seat there)
          ∙ ap (λ h. if is_open h then Some SeatOpen
          else (if nat_lt last_ticket p.next then Some TicketsSpent else None)) free
          ∙ ap (λ b. if b then Some TicketsSpent else None) (le-ltb last_ticket p.next left)

  -- its turn is its deed's step
  asked : (deed wanted : Deed) (item : Option ℕ) → request_refusal setup p seat ≡ None → deed ≡ wanted
      → request setup p seat deed item ≡ stepped setup p seat p.next wanted item
  asked deed wanted item none same =
      ap (λ o. option_map_or (refused p seat) o (stepped setup p seat p.next deed item)) none
      ∙ ap (λ d. stepped setup p seat p.next d item) same

  -- what a give comes to
  give_meets : (form : Form) (m u : ℕ) → Finds setup.kind p.seats.line Giver u None
      → give_deed setup.kind p.seats seat form m ≡ GiveMeets m u
  give_meets form m u (e, is, same, none) =
      ap (λ o. option_map_or (λ x. GiveMeets m x.ticket) o (give_alone setup.kind p.seats seat form m)) is
      ∙ ap (λ t. GiveMeets m t) same

  give_waits : (m : ℕ) → Alone setup.kind p.seats.line Giver → (b : Bool) → p.seats.flags seat ≡ b
      → give_deed setup.kind p.seats seat waiting m ≡ (if b then EntryInterrupted Giver else GiveWaits m)
  give_waits m alone b flag =
      ap (λ o. option_map_or (λ x. GiveMeets m x.ticket) o (give_alone setup.kind p.seats seat waiting m)) alone
      ∙ ap (λ c. if c then EntryInterrupted Giver else GiveWaits m) flag

  give_fails : (m : ℕ) → Alone setup.kind p.seats.line Giver
      → give_deed setup.kind p.seats seat immediate m ≡ GiveFails m
  give_fails m alone =
      ap (λ o. option_map_or (λ x. GiveMeets m x.ticket) o (give_alone setup.kind p.seats seat immediate m)) alone

  may_keep-from : (bound : Option ℕ) (count : ℕ) → MatchOption bound ⊤ (λ most. count < most)
      → option_map_or (λ most. nat_lt count most) bound true ≡ true
  may_keep-from None count few = refl
  may_keep-from (Some most) count few = lt-ltb count most few

  give_keeps : (m : ℕ) → Alone setup.kind p.seats.line Giver → MayKeep setup.kind p.seats.line
      → give_deed setup.kind p.seats seat keeping m ≡ GiveKept m
  give_keeps m alone may =
      ap (λ o. option_map_or (λ x. GiveMeets m x.ticket) o (give_alone setup.kind p.seats seat keeping m)) alone
      ∙ ap (λ c. if c then GiveKept m else GiveFails m)
      (may_keep-from setup.kind.bound (kept_count p.seats.line) may.1)

  -- what a take comes to
  take_meets : (form : Form) (m u : ℕ) → Finds setup.kind p.seats.line Taker u (Some m)
      → take_deed setup.kind p.seats seat form ≡ TakeMeets m u
  take_meets form m u (e, is, same, item) =
      ap (λ o. option_map_or (λ x. TakeMeets (unwrap_or x.item 0) x.ticket) o (take_alone p.seats seat form)) is
      ∙ ap (λ o. TakeMeets (unwrap_or o 0) e.ticket) item ∙ ap (λ t. TakeMeets m t) same

  take_waits : Alone setup.kind p.seats.line Taker → (b : Bool) → p.seats.flags seat ≡ b
      → take_deed setup.kind p.seats seat waiting ≡ (if b then EntryInterrupted Taker else TakeWaits)
  take_waits alone b flag =
      ap (λ o. option_map_or (λ x. TakeMeets (unwrap_or x.item 0) x.ticket) o (take_alone p.seats seat waiting)) alone
      ∙ ap (λ c. if c then EntryInterrupted Taker else TakeWaits) flag

  take_fails : Alone setup.kind p.seats.line Taker → take_deed setup.kind p.seats seat immediate ≡ TakeFails
  take_fails alone =
      ap (λ o. option_map_or (λ x. TakeMeets (unwrap_or x.item 0) x.ticket) o (take_alone p.seats seat immediate)) alone

  -- the verb for a form of give is a give of that form
  waits_by : (m : ℕ) → turn_of setup p seat (waiting_give setup.kind.order m) ≡ give setup p seat waiting m
  waits_by m = by_test (keeps setup.kind.order) refl
    where
      by_test : (b : Bool) → keeps setup.kind.order ≡ b
          → turn_of setup p seat (if b then TransferItem m else Put m) ≡ give setup p seat waiting m
      by_test true is = refl
      by_test false is = ap (λ c. give setup p seat (if c then keeping else waiting) m) is

  fails_by : (m : ℕ) → turn_of setup p seat (failing_give setup.kind.order m) ≡ give setup p seat immediate m
  fails_by m = by_test (keeps setup.kind.order) refl
    where
      by_test : (b : Bool) → keeps setup.kind.order ≡ b
          → turn_of setup p seat (if b then Try m else Offer m) ≡ give setup p seat immediate m
      by_test true is = refl
      by_test false is = ap (λ c. give setup p seat (if c then keeping else immediate) m) is

  -- the ticket of a request is the next one
  at_ticket : (ticket : ℕ) (deed : Deed) (item : Option ℕ) → ticket ≡ p.next
      → stepped setup p seat p.next deed item ≡ stepped setup p seat ticket deed item
  at_ticket ticket deed item e = ap (λ t. stepped setup p seat t deed item) (sym e)

  -- a withdrawal of a ticket that stands in the line
  withdrawn_by_call : (ticket : ℕ) (cause : Cause) → p.seats.holds seat ≡ Waiting ticket
      → (o : Option (Entry ℕ)) → entry_of p.seats.line (Waiting ticket) ≡ o → is_some o ≡ true
      → Steps setup p seat ticket (Withdrawn cause) (withdraw setup p seat cause (p.seats.holds seat))
  withdrawn_by_call ticket cause holds None is some = absurd (let no : false ≡ true = some in cc)
  withdrawn_by_call ticket cause holds (Some e) is some = (
    e.item,
    ap (λ h. withdraw setup p seat cause h) holds
        ∙ ap (λ o. option_map_or (λ x. stepped setup p seat ticket (Withdrawn cause) x.item) o (silent p seat Late)) is,
  )

  -- an interrupt that isn't refused
  struck : (target : ℕ) → seat < setup.seats → target < setup.seats
      → p.records + owed_of setup.seats p.seats.holds + 2 ≤ setup.cap → interrupt_refusal setup p seat target ≡ None
  struck target there other room =
      ap (λ b. call_refusal (if b || nat_le setup.seats target then Some NoSuchSeat else None) (is_full setup p 1))
      (lt-leb setup.seats seat there)
      ∙ ap (λ b. call_refusal (if b then Some NoSuchSeat else None) (is_full setup p 1)) (lt-leb setup.seats target other)
      ∙ ap (λ b. if b then Some HistoryFull else None)
      (le-ltb setup.cap (p.records + owed_of setup.seats p.seats.holds + 1) (omega (arith, room)))

  -- the call for a deed that may come next writes it
  called : (ticket : ℕ) (deed : Deed) → HasPlace setup p seat ticket deed → Allows setup.kind p.seats seat ticket deed
      → Steps setup p seat ticket deed (turn_of setup p seat (verb_for setup.kind.order deed))
  called ticket (GiveWaits m) has (free, alone, flag) =
      let used = has.used refl in
      let none = unrefused has.there free used.1 has.room in (
        Some m,
        waits_by m ∙ asked (give_deed setup.kind p.seats seat waiting m) (GiveWaits m) (Some m) none
            (give_waits m alone false flag) ∙ at_ticket ticket (GiveWaits m) (Some m) used.0,
      )
  called ticket (GiveMeets m u) has (free, finds) =
      let used = has.used refl in
      let none = unrefused has.there free used.1 has.room in (
        Some m,
        waits_by m ∙ asked (give_deed setup.kind p.seats seat waiting m) (GiveMeets m u) (Some m) none
            (give_meets waiting m u finds) ∙ at_ticket ticket (GiveMeets m u) (Some m) used.0,
      )
  called ticket (GiveFails m) has (free, alone) =
      let used = has.used refl in
      let none = unrefused has.there free used.1 has.room in (
        Some m,
        fails_by m ∙ asked (give_deed setup.kind p.seats seat immediate m) (GiveFails m) (Some m) none
            (give_fails m alone) ∙ at_ticket ticket (GiveFails m) (Some m) used.0,
      )
  called ticket (GiveKept m) has (free, alone, may) =
      let used = has.used refl in
      let none = unrefused has.there free used.1 has.room in (
        Some m,
        ap (λ b. give setup p seat (if b then keeping else waiting) m) may.0
            ∙ asked (give_deed setup.kind p.seats seat keeping m) (GiveKept m) (Some m) none
            (give_keeps m alone may) ∙ at_ticket ticket (GiveKept m) (Some m) used.0,
      )
  called ticket TakeWaits has (free, alone, flag) =
      let used = has.used refl in
      let none = unrefused has.there free used.1 has.room in (
        None,
        asked (take_deed setup.kind p.seats seat waiting) TakeWaits None none (take_waits alone false flag)
            ∙ at_ticket ticket TakeWaits None used.0,
      )
  called ticket (TakeMeets m u) has (free, finds) =
      let used = has.used refl in
      let none = unrefused has.there free used.1 has.room in (
        None,
        asked (take_deed setup.kind p.seats seat waiting) (TakeMeets m u) None none (take_meets waiting m u finds)
            ∙ at_ticket ticket (TakeMeets m u) None used.0,
      )
  called ticket TakeFails has (free, alone) =
      let used = has.used refl in
      let none = unrefused has.there free used.1 has.room in (
        None,
        asked (take_deed setup.kind p.seats seat immediate) TakeFails None none (take_fails alone)
            ∙ at_ticket ticket TakeFails None used.0,
      )
  called ticket (EntryInterrupted Giver) has (free, alone, flag) =
      let used = has.used refl in
      let none = unrefused has.there free used.1 has.room in (
        Some 0,
        waits_by 0 ∙ asked (give_deed setup.kind p.seats seat waiting 0) (EntryInterrupted Giver) (Some 0) none
            (give_waits 0 alone true flag) ∙ at_ticket ticket (EntryInterrupted Giver) (Some 0) used.0,
      )
  called ticket (EntryInterrupted Taker) has (free, alone, flag) =
      let used = has.used refl in
      let none = unrefused has.there free used.1 has.room in (
        None,
        asked (take_deed setup.kind p.seats seat waiting) (EntryInterrupted Taker) None none (take_waits alone true flag)
            ∙ at_ticket ticket (EntryInterrupted Taker) None used.0,
      )
  called ticket Done has (u, mark, holds) = (None, ap (λ h. follow setup p seat h) holds)
  called ticket (Got m u) has holds = (None, ap (λ h. follow setup p seat h) holds)
  called ticket (Withdrawn Cancelled) has (holds, there) =
      withdrawn_by_call ticket Cancelled holds (entry_of p.seats.line (Waiting ticket)) refl
      (subst (λ h. is_some (entry_of p.seats.line h) ≡ true) holds there)
  called ticket (Withdrawn Expired) has (holds, there) =
      withdrawn_by_call ticket Expired holds (entry_of p.seats.line (Waiting ticket)) refl
      (subst (λ h. is_some (entry_of p.seats.line h) ≡ true) holds there)
  called ticket (Withdrawn Interrupted) has (item, holds) = (item, ap (λ h. follow setup p seat h) holds)
  called ticket (Interrupt j) has named = (
    None,
    ap (λ o. option_map_or (refused p seat) o (stepped setup p seat (cut_ticket p.seats j) (Interrupt j) None))
        (struck j has.there has.target has.room)
        ∙ ap (λ t. stepped setup p seat t (Interrupt j) None) (sym named),
  )

  -- of a give's deeds the only one that may come next is what it comes to
  give_only : (form : Form) (m : ℕ) → (form ≡ keeping → keeps setup.kind.order ≡ true) → (ticket : ℕ) (deed : Deed)
      → IsOfGive setup.kind p.seats.line form m deed → Allows setup.kind p.seats seat ticket deed
      → give_deed setup.kind p.seats seat form m ≡ deed
  give_only form m kept ticket (GiveWaits n) (is, same) (free, alone, flag) =
      ap (λ f. give_deed setup.kind p.seats seat f m) is ∙ give_waits m alone false flag ∙ ap GiveWaits (sym same)
  give_only form m kept ticket (GiveMeets n u) same (free, finds) =
      give_meets form m u finds ∙ ap (λ x. GiveMeets x u) (sym same)
  give_only form m kept ticket (GiveFails n) (how, same) (free, alone) = ⊎_elim at_once full how ∙ ap GiveFails (sym same)
    where
      at_once : form ≡ immediate → give_deed setup.kind p.seats seat form m ≡ GiveFails m
      at_once is = ap (λ f. give_deed setup.kind p.seats seat f m) is ∙ give_fails m alone

      full : (form ≡ keeping) × (MayKeep setup.kind p.seats.line → ⊥)
          → give_deed setup.kind p.seats seat form m ≡ GiveFails m
      full (is, not_more) =
          ap (λ f. give_deed setup.kind p.seats seat f m) is
          ∙ ap (λ o. option_map_or (λ x. GiveMeets m x.ticket) o (give_alone setup.kind p.seats seat keeping m)) alone
          ∙ by_test (may_keep setup.kind p.seats.line) refl
        where
          by_test : (b : Bool) → may_keep setup.kind p.seats.line ≡ b
              → (if may_keep setup.kind p.seats.line then GiveKept m else GiveFails m) ≡ GiveFails m
          by_test true may =
              absurd (not_more (kept is, may_keep-true setup.kind.bound (kept_count p.seats.line) may))
          by_test false may = ap (λ c. if c then GiveKept m else GiveFails m) may
  give_only form m kept ticket (GiveKept n) (is, same) (free, alone, may) =
      ap (λ f. give_deed setup.kind p.seats seat f m) is ∙ give_keeps m alone may ∙ ap GiveKept (sym same)
  give_only form m kept ticket (EntryInterrupted Giver) is (free, alone, flag) =
      ap (λ f. give_deed setup.kind p.seats seat f m) is ∙ give_waits m alone true flag
  give_only form m kept ticket TakeWaits same _ = elim same [ ]
  give_only form m kept ticket (TakeMeets _ _) same _ = elim same [ ]
  give_only form m kept ticket TakeFails same _ = elim same [ ]
  give_only form m kept ticket (EntryInterrupted Taker) is _ = elim is [ ]
  give_only form m kept ticket Done same _ = elim same [ ]
  give_only form m kept ticket (Got _ _) same _ = elim same [ ]
  give_only form m kept ticket (Withdrawn _) same _ = elim same [ ]
  give_only form m kept ticket (Interrupt _) same _ = elim same [ ]

  -- and of a take's
  take_only : (form : Form) (ticket : ℕ) (deed : Deed) → IsOfTake form deed → Allows setup.kind p.seats seat ticket deed
      → take_deed setup.kind p.seats seat form ≡ deed
  take_only form ticket TakeWaits is (free, alone, flag) =
      ap (λ f. take_deed setup.kind p.seats seat f) is ∙ take_waits alone false flag
  take_only form ticket (TakeMeets m u) is (free, finds) = take_meets form m u finds
  take_only form ticket TakeFails is (free, alone) = ap (λ f. take_deed setup.kind p.seats seat f) is ∙ take_fails alone
  take_only form ticket (EntryInterrupted Taker) is (free, alone, flag) =
      ap (λ f. take_deed setup.kind p.seats seat f) is ∙ take_waits alone true flag
  take_only form ticket (GiveWaits _) is _ = elim is [ ]
  take_only form ticket (GiveMeets _ _) is _ = elim is [ ]
  take_only form ticket (GiveFails _) is _ = elim is [ ]
  take_only form ticket (GiveKept _) is _ = elim is [ ]
  take_only form ticket (EntryInterrupted Giver) is _ = elim is [ ]
  take_only form ticket Done is _ = elim is [ ]
  take_only form ticket (Got _ _) is _ = elim is [ ]
  take_only form ticket (Withdrawn _) is _ = elim is [ ]
  take_only form ticket (Interrupt _) is _ = elim is [ ]

  -- the call isn't refused
  abbrev IsAdmitted : Turn → Type 0
  IsAdmitted turn = (why : Refusal) → turn ≡ refused p seat why → ⊥

  -- its turn writes this one record
  abbrev Writes : (ticket : ℕ) → Deed → Turn → Type 0
  Writes ticket deed turn = turn.records ≡ record { seat = seat; ticket = ticket; deed = deed } ∷ []

  -- what may be refused, and isn't, is the other turn
  unless_refused : (o : Option Refusal) (turn whole : Turn) → whole ≡ option_map_or (refused p seat) o turn
      → IsAdmitted whole → whole ≡ turn
  unless_refused None turn whole is admitted = is
  unless_refused (Some why) turn whole is admitted = absurd (admitted why is)

  -- a request that isn't refused writes its deed
  request_only : (made deed : Deed) (item : Option ℕ) (ticket : ℕ) → made ≡ deed → ticket ≡ p.next
      → IsAdmitted (request setup p seat made item) → Writes ticket deed (request setup p seat made item)
  request_only made deed item ticket same used admitted =
      ap (λ (t : Turn). t.records)
      (unless_refused (request_refusal setup p seat) (stepped setup p seat p.next made item)
      (request setup p seat made item) refl admitted)
      ∙ ap (λ d. record { seat = seat; ticket = p.next; deed = d } ∷ []) same
      ∙ ap (λ t. record { seat = seat; ticket = t; deed = deed } ∷ []) (sym used)

  asks_give : (form : Form) (m : ℕ) (ticket : ℕ) (deed : Deed) → IsOfGive setup.kind p.seats.line form m deed
      → is_request deed ≡ true
  asks_give form m ticket (GiveWaits n) is = refl
  asks_give form m ticket (GiveMeets n u) is = refl
  asks_give form m ticket (GiveFails n) is = refl
  asks_give form m ticket (GiveKept n) is = refl
  asks_give form m ticket (EntryInterrupted Giver) is = refl
  asks_give form m ticket TakeWaits is = elim is [ ]
  asks_give form m ticket (TakeMeets _ _) is = elim is [ ]
  asks_give form m ticket TakeFails is = elim is [ ]
  asks_give form m ticket (EntryInterrupted Taker) is = elim is [ ]
  asks_give form m ticket Done is = elim is [ ]
  asks_give form m ticket (Got _ _) is = elim is [ ]
  asks_give form m ticket (Withdrawn _) is = elim is [ ]
  asks_give form m ticket (Interrupt _) is = elim is [ ]

  asks_take : (form : Form) (deed : Deed) → IsOfTake form deed → is_request deed ≡ true
  asks_take form TakeWaits is = refl
  asks_take form (TakeMeets m u) is = refl
  asks_take form TakeFails is = refl
  asks_take form (EntryInterrupted Taker) is = refl
  asks_take form (GiveWaits _) is = elim is [ ]
  asks_take form (GiveMeets _ _) is = elim is [ ]
  asks_take form (GiveFails _) is = elim is [ ]
  asks_take form (GiveKept _) is = elim is [ ]
  asks_take form (EntryInterrupted Giver) is = elim is [ ]
  asks_take form Done is = elim is [ ]
  asks_take form (Got _ _) is = elim is [ ]
  asks_take form (Withdrawn _) is = elim is [ ]
  asks_take form (Interrupt _) is = elim is [ ]

  only_give : (form : Form) (m : ℕ) → (form ≡ keeping → keeps setup.kind.order ≡ true) → (ticket : ℕ) (deed : Deed)
      → IsOfGive setup.kind p.seats.line form m deed → Allows setup.kind p.seats seat ticket deed
      → (is_request deed ≡ true → ticket ≡ p.next) → IsAdmitted (give setup p seat form m)
      → Writes ticket deed (give setup p seat form m)
  only_give form m kept ticket deed is allowed used admitted =
      request_only (give_deed setup.kind p.seats seat form m) deed (Some m) ticket
      (give_only form m kept ticket deed is allowed) (used (asks_give form m ticket deed is)) admitted

  only_take : (form : Form) (ticket : ℕ) (deed : Deed) → IsOfTake form deed → Allows setup.kind p.seats seat ticket deed
      → (is_request deed ≡ true → ticket ≡ p.next) → IsAdmitted (take setup p seat form)
      → Writes ticket deed (take setup p seat form)
  only_take form ticket deed is allowed used admitted =
      request_only (take_deed setup.kind p.seats seat form) deed None ticket
      (take_only form ticket deed is allowed) (used (asks_take form deed is)) admitted

  only_follow : (ticket : ℕ) (deed : Deed) → IsOfFollow deed → Allows setup.kind p.seats seat ticket deed
      → Writes ticket deed (follow setup p seat (p.seats.holds seat))
  only_follow ticket Done is (u, mark, holds) = ap (λ h. (follow setup p seat h).records) holds
  only_follow ticket (Got m u) is holds = ap (λ h. (follow setup p seat h).records) holds
  only_follow ticket (Withdrawn Interrupted) is (item, holds) = ap (λ h. (follow setup p seat h).records) holds
  only_follow ticket (GiveWaits _) is holds = elim is [ ]
  only_follow ticket (GiveMeets _ _) is holds = elim is [ ]
  only_follow ticket (GiveFails _) is holds = elim is [ ]
  only_follow ticket (GiveKept _) is holds = elim is [ ]
  only_follow ticket TakeWaits is holds = elim is [ ]
  only_follow ticket (TakeMeets _ _) is holds = elim is [ ]
  only_follow ticket TakeFails is holds = elim is [ ]
  only_follow ticket (EntryInterrupted _) is holds = elim is [ ]
  only_follow ticket (Withdrawn Cancelled) is holds = elim is [ ]
  only_follow ticket (Withdrawn Expired) is holds = elim is [ ]
  only_follow ticket (Interrupt _) is holds = elim is [ ]

  only_withdrawal : (ticket : ℕ) (cause : Cause) → p.seats.holds seat ≡ Waiting ticket
      → is_some (entry_of p.seats.line (p.seats.holds seat)) ≡ true
      → Writes ticket (Withdrawn cause) (withdraw setup p seat cause (p.seats.holds seat))
  only_withdrawal ticket cause holds there =
      let made = withdrawn_by_call ticket cause holds (entry_of p.seats.line (Waiting ticket)) refl
      (subst (λ h. is_some (entry_of p.seats.line h) ≡ true) holds there) in
      ap (λ (t : Turn). t.records) made.1

  only_interrupt : (target ticket : ℕ) (deed : Deed) → IsOfInterrupt target deed
      → Allows setup.kind p.seats seat ticket deed → IsAdmitted (interrupt setup p seat target)
      → Writes ticket deed (interrupt setup p seat target)
  only_interrupt target ticket (Interrupt j) same named admitted =
      ap (λ (t : Turn). t.records)
      (unless_refused (interrupt_refusal setup p seat target)
      (stepped setup p seat (cut_ticket p.seats target) (Interrupt target) None) (interrupt setup p seat target) refl
      admitted)
      ∙ ap (λ i. record { seat = seat; ticket = cut_ticket p.seats i; deed = Interrupt i } ∷ []) (sym same)
      ∙ ap (λ t. record { seat = seat; ticket = t; deed = Interrupt j } ∷ []) (sym named)
  only_interrupt target ticket (GiveWaits _) same named admitted = elim same [ ]
  only_interrupt target ticket (GiveMeets _ _) same named admitted = elim same [ ]
  only_interrupt target ticket (GiveFails _) same named admitted = elim same [ ]
  only_interrupt target ticket (GiveKept _) same named admitted = elim same [ ]
  only_interrupt target ticket TakeWaits same named admitted = elim same [ ]
  only_interrupt target ticket (TakeMeets _ _) same named admitted = elim same [ ]
  only_interrupt target ticket TakeFails same named admitted = elim same [ ]
  only_interrupt target ticket (EntryInterrupted _) same named admitted = elim same [ ]
  only_interrupt target ticket Done same named admitted = elim same [ ]
  only_interrupt target ticket (Got _ _) same named admitted = elim same [ ]
  only_interrupt target ticket (Withdrawn _) same named admitted = elim same [ ]

  -- of a call that isn't refused the deed that may come next is the one that it writes
  pub only_deed : (verb : Verb) (ticket : ℕ) (deed : Deed) → IsOfCall setup.kind p.seats.line verb deed
      → Allows setup.kind p.seats seat ticket deed → (is_request deed ≡ true → ticket ≡ p.next)
      → IsAdmitted (turn_of setup p seat verb) → Writes ticket deed (turn_of setup p seat verb)
  only_deed (Put m) ticket deed is allowed used admitted =
      only_give (put_form setup.kind.order) m (put_form-keeps setup.kind.order) ticket deed is allowed used admitted
  only_deed (Offer m) ticket deed is allowed used admitted =
      only_give (offer_form setup.kind.order) m (offer_form-keeps setup.kind.order) ticket deed is allowed used admitted
  only_deed (TransferItem m) ticket deed is allowed used admitted =
      only_give waiting m (λ e. cc) ticket deed is allowed used admitted
  only_deed (Try m) ticket deed is allowed used admitted =
      only_give immediate m (λ e. cc) ticket deed is allowed used admitted
  only_deed Take ticket deed is allowed used admitted = only_take waiting ticket deed is allowed used admitted
  only_deed Poll ticket deed is allowed used admitted = only_take immediate ticket deed is allowed used admitted
  only_deed Follow ticket deed is allowed used admitted = only_follow ticket deed is allowed
  only_deed Cancel ticket deed is allowed used admitted =
      let here = subst (λ d. Allows setup.kind p.seats seat ticket d) is allowed in
      only_withdrawal ticket Cancelled here.0 here.1
      ∙ ap (λ d. record { seat = seat; ticket = ticket; deed = d } ∷ []) (sym is)
  only_deed Expire ticket deed is allowed used admitted =
      let here = subst (λ d. Allows setup.kind p.seats seat ticket d) is allowed in
      only_withdrawal ticket Expired here.0 here.1
      ∙ ap (λ d. record { seat = seat; ticket = ticket; deed = d } ∷ []) (sym is)
  only_deed (InterruptSeat j) ticket deed is allowed used admitted = only_interrupt j ticket deed is allowed admitted
  only_deed (Drain _) ticket deed is allowed used admitted = elim is [ ]
  only_deed (Look _) ticket deed is allowed used admitted = elim is [ ]
  only_deed Checkpoint ticket deed is allowed used admitted = elim is [ ]

-- one call after another, from any place
pub all_called : (setup : Setup) (records : List (Record Deed)) (last : ℕ) (p : Place)
    → AreNumbered setup.seats p.next records → p.records + length records + setup.seats + 2 ≤ setup.cap
    → IsLegalBySeatFrom setup.kind (moment_at last p) records
    → (turns setup p (calls_for setup.kind.order records)).records ≡ records
all_called setup [] last p numbered room legal = refl
all_called setup (r ∷ records) last p (there, target, used, numbered) room (fits, legal) =
    ap (λ (t : Turn). t.records ++ (turns setup t.place (calls_for setup.kind.order records)).records) made.1
    ∙ ap (λ rest. r ∷ rest)
    (all_called setup records (if is_request r.deed then r.ticket else last)
    (stepped setup p r.seat r.ticket r.deed made.0).place numbered (omega (arith, room)) legal)
  where
    made : Steps setup p r.seat r.ticket r.deed (turn_of setup p r.seat (verb_for setup.kind.order r.deed))
    made =
        let few = owed_few setup p r.seat in
        called setup p r.seat r.ticket r.deed
        (record { there = there; target = target; used = used; room = omega (arith, few, room) }) fits.allowed

-- the place has these calls
module _ (order : Order) where
  waits_served : (b : Bool) (m : ℕ) → IsTrue (if b then true else serves_synchronous (if b then TransferItem m else Put m))
  waits_served true m = refl
  waits_served false m = refl

  fails_served : (b : Bool) (m : ℕ) → IsTrue (if b then true else serves_synchronous (if b then Try m else Offer m))
  fails_served true m = refl
  fails_served false m = refl

  always_served : (b : Bool) → IsTrue (if b then true else true)
  always_served true = refl
  always_served false = refl

  is_served : (deed : Deed) → IsTrue (serves order (verb_for order deed))
  is_served (GiveWaits m) = waits_served (keeps order) m
  is_served (GiveMeets m u) = waits_served (keeps order) m
  is_served (GiveFails m) = fails_served (keeps order) m
  is_served (GiveKept m) = always_served (keeps order)
  is_served TakeWaits = always_served (keeps order)
  is_served (TakeMeets m u) = always_served (keeps order)
  is_served TakeFails = always_served (keeps order)
  is_served (EntryInterrupted Giver) = waits_served (keeps order) 0
  is_served (EntryInterrupted Taker) = always_served (keeps order)
  is_served Done = always_served (keeps order)
  is_served (Got m u) = always_served (keeps order)
  is_served (Withdrawn Cancelled) = always_served (keeps order)
  is_served (Withdrawn Expired) = always_served (keeps order)
  is_served (Withdrawn Interrupted) = always_served (keeps order)
  is_served (Interrupt j) = always_served (keeps order)

  pub all_served : (records : List (Record Deed)) → All (λ call. IsTrue (serves order call.verb)) (calls_for order records)
  all_served [] = All-nil (λ call. IsTrue (serves order call.verb))
  all_served (r ∷ records) =
      All-cons (λ call. IsTrue (serves order call.verb)) (record { seat = r.seat; verb = verb_for order r.deed })
      (calls_for order records) (is_served r.deed) (all_served records)
