-- The records that one thread's calls write are legal, told by seat, for every kind of place and every verb.
use Rattle.std.proofs.Common.{◌≡◌, ℕ, zero, suc, ◌+◌, ◌<◌, refl, sym, ap, ◌∙◌, subst, Bool, true, false, cond, not, Option, Some, None, List, [], ◌∷◌, arith}
use Rattle.std.specs.Prelude.{unwrap_or, is_some, IsSome, min, nat_lt, ⊤, MatchOption}
use Rattle.std.specs.Option.{option_map_or}
use Rattle.std.proofs.lemmas.Bool.{cond_both, ltb-true}
use Rattle.std.proofs.lemmas.List.Elements.{All-nil}
use Rattle.meet_tickets.specs.declared.lines.Entry.{Entry}
use Rattle.meet_tickets.specs.declared.lines.Hold.{Hold}
use Rattle.meet_tickets.specs.declared.lines.Hold.TheVariants.{Free, Waiting, Handed, Served, Cut}
use Rattle.meet_tickets.specs.declared.places.Side.TheVariants.{Giver, Taker}
use Rattle.meet_tickets.specs.declared.places.Order.{Order}
use Rattle.meet_tickets.specs.declared.places.Kind.{Kind}
use Rattle.meet_tickets.specs.declared.records.Record.{Record}
use Rattle.meet_tickets.specs.declared.records.Cause.{Cause}
use Rattle.meet_tickets.specs.declared.records.Cause.TheVariants.{Cancelled, Expired, Interrupted}
use Rattle.meet_tickets.specs.declared.records.Deed.{Deed}
use Rattle.meet_tickets.specs.declared.records.Deed.TheVariants.{GiveWaits, GiveMeets, GiveFails, GiveKept, TakeWaits, TakeMeets, TakeFails, EntryInterrupted, Done, Got, Withdrawn, Interrupt}
use Rattle.meet_tickets.specs.declared.refusals.Refusal.{Refusal}
use Rattle.meet_tickets.specs.Meeting.{end_of, keeps, partner, Alone, kept_count, count_on}
use Rattle.meet_tickets.specs.BySeat.{Seats, Moment, Fits, Allows, IsFree, entry_of, paired, cut_off, flagged, cut_ticket, is_request, seats_after, moment_of, IsLegalBySeatFrom}
use Rattle.meet_tickets.specs.Refusals.{refusal_of}
use Rattle.meet_tickets.proofs.Tellings.Continued.{legal-append, moment_of-append}
use Rattle.meet_tickets.proofs.Line.Partners.{none-from}
use Rattle.meet_tickets.proofs.Line.Sides.{HasOneSide, partner-other, HasOneSide-unmet, HasOneSide-without_first, HasOneSide-added}
use Rattle.meet_tickets.proofs.Line.Admitted.{IsAdmitted, IsAdmitted-from}
use Rattle.meet_history.specs.declared.one_thread.verbs.Call.{Call}
use Rattle.meet_history.specs.declared.one_thread.verbs.Verb.{Verb}
use Rattle.meet_history.specs.declared.one_thread.verbs.Verb.TheVariants.{Put, Offer, Take, Poll, Transfer as TransferItem, Try, Follow, Cancel, Expire, Interrupt as InterruptSeat, Drain, Look, Checkpoint}
use Rattle.meet_history.specs.declared.one_thread.setup.Setup.{Setup}
use Rattle.meet_history.specs.declared.one_thread.replies.Outcome.{Outcome}
use Rattle.meet_history.specs.declared.one_thread.replies.Outcome.TheVariants.{Refused, Late, Drained}
use Rattle.meet_history.proofs.Within.{by_cases, IsWithin, IsWithin-after}
use Rattle.meet_history.specs.OneThread.{Place, Turn, start, silent, refused, written, joined, Form, waiting, immediate, keeping, may_keep, give_alone, give_deed, take_alone, take_deed, stepped, request_refusal, request, give, take, follow, withdraw, interrupt, interrupt_refusal, checkpoint, checkpoint_refusal, folded, polls, drain, drain_refusal, put_form, offer_form, turn_of, turn, turns}

-- a meeting leaves a line of one side
HasOneSide-meets : (k : Kind) (s : Seats ℕ) (t : ℕ) (item : Option ℕ) (o : Option (Entry ℕ)) → HasOneSide s.line → HasOneSide (option_map_or (paired (λ mark. mark) (end_of k.order) s t item) o s).line
HasOneSide-meets k s t item None one = one
HasOneSide-meets k s t item (Some e) one = HasOneSide-unmet (end_of k.order) s.line one

-- so does an interrupt
HasOneSide-interrupted : (s : Seats ℕ) (j : ℕ) (o : Option (Entry ℕ)) → HasOneSide s.line → HasOneSide (option_map_or (cut_off s j) o (flagged s j true)).line
HasOneSide-interrupted s j None one = one
HasOneSide-interrupted s j (Some e) one = HasOneSide-without_first e.ticket s.line one

-- so does each deed that is allowed
HasOneSide-after : (k : Kind) (s : Seats ℕ) (i t : ℕ) (deed : Deed) → HasOneSide s.line → Allows k s i t deed → HasOneSide (seats_after k s i t deed).line
HasOneSide-after k s i t (GiveWaits m) one allowed = HasOneSide-added (end_of k.order) s.line Giver _ one allowed.1 refl
HasOneSide-after k s i t (GiveMeets m u) one allowed = HasOneSide-meets k s t (Some m) (partner (end_of k.order) s.line Giver) one
HasOneSide-after k s i t (GiveFails m) one allowed = one
HasOneSide-after k s i t (GiveKept m) one allowed = HasOneSide-added (end_of k.order) s.line Giver _ one allowed.1 refl
HasOneSide-after k s i t TakeWaits one allowed = HasOneSide-added (end_of k.order) s.line Taker _ one allowed.1 refl
HasOneSide-after k s i t (TakeMeets m u) one allowed = HasOneSide-meets k s t None (partner (end_of k.order) s.line Taker) one
HasOneSide-after k s i t TakeFails one allowed = one
HasOneSide-after k s i t (EntryInterrupted side) one allowed = one
HasOneSide-after k s i t Done one allowed = one
HasOneSide-after k s i t (Got m u) one allowed = one
HasOneSide-after k s i t (Withdrawn Cancelled) one allowed = HasOneSide-without_first t s.line one
HasOneSide-after k s i t (Withdrawn Expired) one allowed = HasOneSide-without_first t s.line one
HasOneSide-after k s i t (Withdrawn Interrupted) one allowed = one
HasOneSide-after k s i t (Interrupt j) one allowed = HasOneSide-interrupted s j (entry_of s.line (s.holds j)) one

-- the moment before a place's next record
abbrev pub moment_at : (last : ℕ) → Place → Moment
moment_at last p = record { last = last; seats = p.seats }

-- the next ticket is above those that were used, the line has one side, and all is within the place's seats
pub record IsReady (count last : ℕ) (p : Place) : Type 0 where
  pub below : last < p.next
  pub one_side : HasOneSide p.seats.line
  pub within : IsWithin count p.seats

-- the records of a turn are legal from here, and lead to the place that it leaves
pub record IsLegalTurn (setup : Setup) (last : ℕ) (p : Place) (t : Turn) : Type 0 where
  pub legal : IsLegalBySeatFrom setup.kind (moment_at last p) t.records
  pub last_now : ℕ
  pub leads : moment_of setup.kind (moment_at last p) t.records ≡ moment_at last_now t.place
  pub ready : IsReady setup.seats last_now t.place

-- a turn that writes nothing
IsLegalTurn-silent : (setup : Setup) (last : ℕ) (p : Place) (seat : ℕ) (outcome : Outcome) → IsReady setup.seats last p → IsLegalTurn setup last p (silent p seat outcome)
IsLegalTurn-silent setup last p seat outcome ready = record { legal = tt; last_now = last; leads = refl; ready = ready }

-- a turn that writes one record, which fits
IsLegalTurn-written : (setup : Setup) (last : ℕ) (p : Place) (r : Record Deed) (back : Option ℕ) → IsReady setup.seats last p → Fits setup.kind (moment_at last p) r → (is_request r.deed ≡ true → (r.ticket ≡ p.next) × (r.seat < setup.seats)) → IsLegalTurn setup last p (written setup p r back)
IsLegalTurn-written setup last p r back ready fits used = record {
  legal = (fits, tt);
  last_now = if_request (is_request r.deed);
  leads = refl;
  ready = record {
    below = is_below (is_request r.deed) (λ asks. (used asks).0);
    one_side = HasOneSide-after setup.kind p.seats r.seat r.ticket r.deed ready.one_side fits.allowed;
    within = IsWithin-after setup.kind setup.seats p.seats r.seat r.ticket r.deed (λ asks. (used asks).1) ready.within;
  };
}
  where
    if_request : Bool → ℕ
    if_request b = cond b r.ticket last

    is_below : (b : Bool) → (b ≡ true → r.ticket ≡ p.next) → if_request b < cond b (p.next + 1) p.next
    is_below true used = let e : r.ticket ≡ p.next = used refl in omega arith
    is_below false used = ready.below

-- a turn after a turn
IsLegalTurn-joined : (setup : Setup) (last : ℕ) (p : Place) (t : Turn) (rest : Place → Turn) → IsLegalTurn setup last p t → ((l : ℕ) → IsReady setup.seats l t.place → IsLegalTurn setup l t.place (rest t.place)) → IsLegalTurn setup last p (joined t rest)
IsLegalTurn-joined setup last p t rest first second =
    let next : IsLegalTurn setup first.last_now t.place (rest t.place) = second first.last_now first.ready in
    record {
      legal = legal-append setup.kind (moment_at last p) t.records (rest t.place).records first.legal (subst (λ m. IsLegalBySeatFrom setup.kind m (rest t.place).records) (sym first.leads) next.legal);
      last_now = next.last_now;
      leads = moment_of-append setup.kind (moment_at last p) t.records (rest t.place).records ∙ ap (λ m. moment_of setup.kind m (rest t.place).records) first.leads ∙ next.leads;
      ready = next.ready;
    }

-- a request that isn't refused has a free seat
admitted : (setup : Setup) (p : Place) (seat : ℕ) → request_refusal setup p seat ≡ None → IsAdmitted setup.seats p.next p.seats seat
admitted setup p seat none = IsAdmitted-from setup.seats p.next p.seats seat (first_none (refusal_of setup.seats p.next p.seats seat) _ none)
  where
    first_none : (o d : Option Refusal) → option_map_or Some o d ≡ None → o ≡ None
    first_none None d e = refl
    first_none (Some x) d e = cc

-- what the test of the bound says
pub may_keep-true : (bound : Option ℕ) (count : ℕ) → option_map_or (λ most. nat_lt count most) bound true ≡ true → MatchOption bound ⊤ (λ most. count < most)
may_keep-true None count e = tt
may_keep-true (Some most) count e = ltb-true count most e

-- a give fits; only a place that keeps items keeps one
give_fits : (setup : Setup) (p : Place) (seat mark : ℕ) (form : Form) → HasOneSide p.seats.line → (form ≡ keeping → keeps setup.kind.order ≡ true) → IsFree p.seats seat → Allows setup.kind p.seats seat p.next (give_deed setup.kind p.seats seat form mark)
give_fits setup p seat mark form one kept free =
    by_cases (λ deed. Allows setup.kind p.seats seat p.next deed) (partner (end_of setup.kind.order) p.seats.line Giver) (λ e. GiveMeets mark e.ticket) (give_alone setup.kind p.seats seat form mark)
    (λ e found. (free, (e, found, refl, none-from e.item (partner-other (end_of setup.kind.order) p.seats.line Giver e one found))))
    (λ alone. by_form form kept alone)
  where
    by_form : (f : Form) → (f ≡ keeping → keeps setup.kind.order ≡ true) → Alone setup.kind p.seats.line Giver → Allows setup.kind p.seats seat p.next (give_alone setup.kind p.seats seat f mark)
    by_form waiting kept alone = cond_both (p.seats.flags seat) (EntryInterrupted Giver) (GiveWaits mark) (λ deed. Allows setup.kind p.seats seat p.next deed) (λ flag. (free, alone, flag)) (λ flag. (free, alone, flag))
    by_form immediate kept alone = (free, alone)
    by_form keeping kept alone = cond_both (may_keep setup.kind p.seats.line) (GiveKept mark) (GiveFails mark) (λ deed. Allows setup.kind p.seats seat p.next deed)
        (λ may. (free, alone, (kept refl, may_keep-true setup.kind.bound (kept_count p.seats.line) may)))
        (λ full. (free, alone))

-- a take fits
take_fits : (setup : Setup) (p : Place) (seat : ℕ) (form : Form) → HasOneSide p.seats.line → IsFree p.seats seat → Allows setup.kind p.seats seat p.next (take_deed setup.kind p.seats seat form)
take_fits setup p seat form one free =
    by_cases (λ deed. Allows setup.kind p.seats seat p.next deed) (partner (end_of setup.kind.order) p.seats.line Taker) (λ e. TakeMeets (unwrap_or e.item 0) e.ticket) (take_alone p.seats seat form)
    (λ e found. (free, (e, found, refl, some-from e.item (partner-other (end_of setup.kind.order) p.seats.line Taker e one found))))
    (λ alone. by_form form alone)
  where
    some-from : (o : Option ℕ) → not (is_some o) ≡ false → o ≡ Some (unwrap_or o 0)
    some-from None e = cc
    some-from (Some x) e = refl

    by_form : (f : Form) → Alone setup.kind p.seats.line Taker → Allows setup.kind p.seats seat p.next (take_alone p.seats seat f)
    by_form waiting alone = cond_both (p.seats.flags seat) (EntryInterrupted Taker) TakeWaits (λ deed. Allows setup.kind p.seats seat p.next deed) (λ flag. (free, alone, flag)) (λ flag. (free, alone, flag))
    by_form immediate alone = (free, alone)
    by_form keeping alone = (free, alone)

-- a request whose deed fits where it isn't refused
request_legal : (setup : Setup) (last : ℕ) (p : Place) (seat : ℕ) (deed : Deed) (item : Option ℕ) → IsReady setup.seats last p → (IsFree p.seats seat → Allows setup.kind p.seats seat p.next deed) → IsLegalTurn setup last p (request setup p seat deed item)
request_legal setup last p seat deed item ready fits =
    by_cases (λ t. IsLegalTurn setup last p t) (request_refusal setup p seat) (refused p seat) (stepped setup p seat p.next deed item)
    (λ why is. IsLegalTurn-silent setup last p seat (Refused why) ready)
    (λ none. IsLegalTurn-written setup last p (record { seat = seat; ticket = p.next; deed = deed }) item ready (record { above = λ _. ready.below; allowed = fits (admitted setup p seat none).free }) (λ _. (refl, (admitted setup p seat none).there)))

-- so gives and takes are legal
give_legal : (setup : Setup) (last : ℕ) (p : Place) (seat mark : ℕ) (form : Form) → (form ≡ keeping → keeps setup.kind.order ≡ true) → IsReady setup.seats last p → IsLegalTurn setup last p (give setup p seat form mark)
give_legal setup last p seat mark form keeps ready =
    request_legal setup last p seat (give_deed setup.kind p.seats seat form mark) (Some mark) ready (give_fits setup p seat mark form ready.one_side keeps)

take_legal : (setup : Setup) (last : ℕ) (p : Place) (seat : ℕ) (form : Form) → IsReady setup.seats last p → IsLegalTurn setup last p (take setup p seat form)
take_legal setup last p seat form ready =
    request_legal setup last p seat (take_deed setup.kind p.seats seat form) None ready (take_fits setup p seat form ready.one_side)

-- a record that uses no ticket, and is allowed
unused_legal : (setup : Setup) (last : ℕ) (p : Place) (seat t : ℕ) (deed : Deed) (back : Option ℕ) → IsReady setup.seats last p → is_request deed ≡ false → Allows setup.kind p.seats seat t deed → IsLegalTurn setup last p (written setup p (record { seat = seat; ticket = t; deed = deed }) back)
unused_legal setup last p seat t deed back ready ends allowed =
    IsLegalTurn-written setup last p (record { seat = seat; ticket = t; deed = deed }) back ready (record { above = λ e. absurd (let x : false ≡ true = sym ends ∙ e in cc); allowed = allowed }) (λ e. absurd (let x : false ≡ true = sym ends ∙ e in cc))

-- an ending that is allowed
ending_legal : (setup : Setup) (last : ℕ) (p : Place) (seat t : ℕ) (deed : Deed) (item : Option ℕ) → IsReady setup.seats last p → is_request deed ≡ false → Allows setup.kind p.seats seat t deed → IsLegalTurn setup last p (stepped setup p seat t deed item)
ending_legal setup last p seat t deed item ready ends allowed =
    unused_legal setup last p seat t deed item ready ends allowed

-- a follow-up ends what the seat holds
follow_legal : (setup : Setup) (last : ℕ) (p : Place) (seat : ℕ) (hold : Hold ℕ) → IsReady setup.seats last p → p.seats.holds seat ≡ hold → IsLegalTurn setup last p (follow setup p seat hold)
follow_legal setup last p seat Free ready is = IsLegalTurn-silent setup last p seat _ ready
follow_legal setup last p seat (Waiting t) ready is = IsLegalTurn-silent setup last p seat _ ready
follow_legal setup last p seat (Handed t u mark) ready is = ending_legal setup last p seat t Done None ready refl (u, mark, is)
follow_legal setup last p seat (Served t u item) ready is = ending_legal setup last p seat t (Got item u) None ready refl is
follow_legal setup last p seat (Cut t item) ready is = ending_legal setup last p seat t (Withdrawn Interrupted) item ready refl (item, is)

-- a withdrawal for a cause that needs the ticket to stand in the line
withdraw_legal : (setup : Setup) (last : ℕ) (p : Place) (seat : ℕ) (cause : Cause) (hold : Hold ℕ) → IsReady setup.seats last p → ((t : ℕ) → p.seats.holds seat ≡ Waiting t → IsSome (entry_of p.seats.line (p.seats.holds seat)) → Allows setup.kind p.seats seat t (Withdrawn cause)) → p.seats.holds seat ≡ hold → IsLegalTurn setup last p (withdraw setup p seat cause hold)
withdraw_legal setup last p seat cause Free ready allowed is = IsLegalTurn-silent setup last p seat _ ready
withdraw_legal setup last p seat cause (Waiting t) ready allowed is =
    by_cases (λ turn. IsLegalTurn setup last p turn) (entry_of p.seats.line (Waiting t)) (λ e. stepped setup p seat t (Withdrawn cause) e.item) (silent p seat Late)
    (λ e found. ending_legal setup last p seat t (Withdrawn cause) e.item ready refl (allowed t is (ap (λ hold. is_some (entry_of p.seats.line hold)) is ∙ ap is_some found)))
    (λ none. IsLegalTurn-silent setup last p seat Late ready)
withdraw_legal setup last p seat cause (Handed t u mark) ready allowed is = IsLegalTurn-silent setup last p seat _ ready
withdraw_legal setup last p seat cause (Served t u item) ready allowed is = IsLegalTurn-silent setup last p seat _ ready
withdraw_legal setup last p seat cause (Cut t item) ready allowed is = IsLegalTurn-silent setup last p seat _ ready

-- an interrupt names the ticket that it cuts
interrupt_legal : (setup : Setup) (last : ℕ) (p : Place) (seat target : ℕ) → IsReady setup.seats last p → IsLegalTurn setup last p (interrupt setup p seat target)
interrupt_legal setup last p seat target ready =
    by_cases (λ t. IsLegalTurn setup last p t) (interrupt_refusal setup p seat target) (refused p seat) _
    (λ why is. IsLegalTurn-silent setup last p seat (Refused why) ready)
    (λ none. unused_legal setup last p seat (cut_ticket p.seats target) (Interrupt target) None ready refl refl)

-- a drain is takes, one after another
polls_legal : (setup : Setup) (last : ℕ) (p : Place) (seat n : ℕ) → IsReady setup.seats last p → IsLegalTurn setup last p (polls setup p seat n)
polls_legal setup last p seat zero ready = record { legal = tt; last_now = last; leads = refl; ready = ready }
polls_legal setup last p seat (suc n) ready =
    IsLegalTurn-joined setup last p (take setup p seat immediate) (λ q. polls setup q seat n) (take_legal setup last p seat immediate ready) (λ l later. polls_legal setup l (take setup p seat immediate).place seat n later)

drain_legal : (setup : Setup) (last : ℕ) (p : Place) (seat k : ℕ) → IsReady setup.seats last p → IsLegalTurn setup last p (drain setup p seat k)
drain_legal setup last p seat k ready =
    by_cases (λ t. IsLegalTurn setup last p t) (drain_refusal setup p seat k) (refused p seat) (joined (polls setup p seat k) (λ q. silent q seat (Drained k)))
    (λ why is. IsLegalTurn-silent setup last p seat (Refused why) ready)
    (λ none. IsLegalTurn-joined setup last p (polls setup p seat k) (λ q. silent q seat (Drained k)) (polls_legal setup last p seat k ready) (λ l later. IsLegalTurn-silent setup l (polls setup p seat k).place seat (Drained k) later))

-- a checkpoint writes nothing, and leaves the seats
checkpoint_legal : (setup : Setup) (last : ℕ) (p : Place) (seat : ℕ) → IsReady setup.seats last p → IsLegalTurn setup last p (checkpoint setup p seat)
checkpoint_legal setup last p seat ready =
    by_cases (λ t. IsLegalTurn setup last p t) (checkpoint_refusal setup p seat) (refused p seat) (folded p seat)
    (λ why is. IsLegalTurn-silent setup last p seat (Refused why) ready)
    (λ none. record { legal = tt; last_now = last; leads = refl; ready = record { below = ready.below; one_side = ready.one_side; within = ready.within } })

-- only the puts and offers of a place that keeps items keep
pub put_form-keeps : (order : Order) → put_form order ≡ keeping → keeps order ≡ true
put_form-keeps order = by_test (keeps order)
  where
    by_test : (b : Bool) → cond b keeping waiting ≡ keeping → b ≡ true
    by_test true e = refl
    by_test false e = cc

pub offer_form-keeps : (order : Order) → offer_form order ≡ keeping → keeps order ≡ true
offer_form-keeps order = by_test (keeps order)
  where
    by_test : (b : Bool) → cond b keeping immediate ≡ keeping → b ≡ true
    by_test true e = refl
    by_test false e = cc

-- the turn of a call is legal
turn_legal : (setup : Setup) (last : ℕ) (p : Place) (seat : ℕ) (verb : Verb) → IsReady setup.seats last p → IsLegalTurn setup last p (turn_of setup p seat verb)
turn_legal setup last p seat (Put m) ready = give_legal setup last p seat m (put_form setup.kind.order) (put_form-keeps setup.kind.order) ready
turn_legal setup last p seat (Offer m) ready = give_legal setup last p seat m (offer_form setup.kind.order) (offer_form-keeps setup.kind.order) ready
turn_legal setup last p seat Take ready = take_legal setup last p seat waiting ready
turn_legal setup last p seat Poll ready = take_legal setup last p seat immediate ready
turn_legal setup last p seat (TransferItem m) ready = give_legal setup last p seat m waiting (λ e. cc) ready
turn_legal setup last p seat (Try m) ready = give_legal setup last p seat m immediate (λ e. cc) ready
turn_legal setup last p seat Follow ready = follow_legal setup last p seat (p.seats.holds seat) ready refl
turn_legal setup last p seat Cancel ready = withdraw_legal setup last p seat Cancelled (p.seats.holds seat) ready (λ t is there. (is, there)) refl
turn_legal setup last p seat Expire ready = withdraw_legal setup last p seat Expired (p.seats.holds seat) ready (λ t is there. (is, there)) refl
turn_legal setup last p seat (InterruptSeat target) ready = interrupt_legal setup last p seat target ready
turn_legal setup last p seat (Drain most) ready = drain_legal setup last p seat (min most (count_on Giver p.seats.line)) ready
turn_legal setup last p seat (Look probe) ready = IsLegalTurn-silent setup last p seat _ ready
turn_legal setup last p seat Checkpoint ready = checkpoint_legal setup last p seat ready

-- so are the turns of a list of calls
turns_legal : (setup : Setup) (last : ℕ) (p : Place) (calls : List Call) → IsReady setup.seats last p → IsLegalTurn setup last p (turns setup p calls)
turns_legal setup last p [] ready = record { legal = tt; last_now = last; leads = refl; ready = ready }
turns_legal setup last p (call ∷ calls) ready =
    IsLegalTurn-joined setup last p (turn setup p call) (λ q. turns setup q calls)
    (turn_legal setup last p call.seat call.verb ready)
    (λ l later. turns_legal setup l (turn setup p call).place calls later)

-- the turns of one thread, from the start
pub all_legal : (setup : Setup) (calls : List Call) → 0 < setup.first → IsLegalTurn setup 0 (start setup) (turns setup (start setup) calls)
all_legal setup calls first =
    turns_legal setup 0 (start setup) calls (record { below = first; one_side = λ i j d i<j below. absurd (omega arith); within = record { lined = All-nil (λ e. e.seat < setup.seats); beyond = λ j above. refl } })
