-- A drain of the book is a drain of one thread.
use Rattle.std.proofs.Common.{◌≡◌, ℕ, zero, suc, ◌+◌, ◌-◌, ◌<◌, ◌≤◌, refl, sym, ap, ◌∙◌, subst, Bool, true, false, cond, Option, Some, None, List, [], ◌∷◌, ◌++◌, map, length, append-nil, arith}
use Rattle.std.specs.Prelude.{nat_lt}
use Rattle.std.specs.Option.{option_map_or}
use Rattle.std.proofs.lemmas.Bool.{le-ltb, ltb-false}
use Rattle.meet_tickets.specs.declared.records.Deed.{Deed}
use Rattle.meet_tickets.specs.declared.refusals.Refusal.{Refusal}
use Rattle.meet_tickets.specs.declared.refusals.Refusal.TheVariants.{Memory, HistoryFull, TicketsSpent, SeatOpen, NoSuchSeat, NotOpen, Differs, SeatMissing, Contended, Worn, BadSizes, PolicyNeedsBuffer, NoThread, BadLine, BadTrace, ReadFault, WriteFault, HasBase}
use Rattle.meet_tickets.specs.BySeat.{owed_of}
use Rattle.meet_tickets.specs.Limits.{last_ticket}
use Rattle.meet_tickets.specs.Refusals.{refusal_of}
use Rattle.meet_core.specs.Queue.{Queue, seats_of, count_of}
use Rattle.meet_history.specs.declared.one_thread.setup.Setup.{Setup}
use Rattle.meet_core.specs.declared.calls.queue_calls.QueueCall.TheVariants.{Poll}
use Rattle.meet_core.specs.declared.calls.queue_calls.QueueAnswer.TheVariants.{Polled as ToPoll}
use Rattle.meet_core.specs.declared.calls.queue_calls.QueueAnswer.{QueueAnswer}
use Rattle.meet_history.specs.declared.one_thread.replies.Outcome.TheVariants.{Drained}
use Rattle.meet_book.specs.Booking.{call_refusal}
use Rattle.meet_book.specs.Received.{Received}
use Rattle.meet_queues.specs.Queues.{QueueOfKind}
use Rattle.meet_book.specs.Draining.{seat_refusal, drain_refusal_by, TakingStep, Polls, AreNumbered}
use Rattle.meet_core.specs.QueueRecords.{queue_record}
use Rattle.meet_core.specs.QueueSteps.{QueueStep, queue_refusal, queue_owed, queue_available, queue_unspent}
use Rattle.meet_core.specs.SeatCounts.{queue-count}
use Rattle.meet_history.specs.OneThread.{Place, Turn, joined, immediate, refused, request_refusal, take, told, polls, drain, drain_refusal, silent}
use Rattle.meet_history.specs.Stepping.{reply_of, back_of}
use Rattle.meet_core.proofs.Polling.{not-spent}
use Rattle.meet_history.proofs.Telling.{IsTold, poll-told}

module _ (setup : Setup) (seat gone : ℕ) (cut : Bool) where
  -- where a place with this queue is, after so many records since
  abbrev place_at : Queue ℕ → ℕ → Place
  place_at q written = record { next = q.next; seats = seats_of q; gone = gone; cut = cut; records = written }

  -- the turn of the poll that a receipt is for
  abbrev told_turn : QueueAnswer ℕ → Received Deed → Queue ℕ → ℕ → Turn
  told_turn answer receipt new written = record {
    replies = reply_of seat receipt (back_of answer) ∷ [];
    records = receipt.entry ∷ [];
    place = place_at new written;
  }

  -- one poll
  queue-poll : (old new : Queue ℕ) (written : ℕ) (answer : QueueAnswer ℕ) (receipt : Received Deed) → request_refusal setup (place_at old written) seat ≡ None → QueueStep (λ m. m) setup.kind old seat Poll answer new → queue_record (λ m. m) seat Poll answer ≡ Some receipt.entry → receipt.place ≡ gone + written + 1 → take setup (place_at old written) seat immediate ≡ told_turn answer receipt new (written + 1)
  queue-poll old new written (ToPoll answer) receipt none step is place =
      subst (IsTold setup old gone cut written seat new Poll (ToPoll answer)) is (poll-told setup old gone cut written seat new answer none step)
      ∙ ap (λ n. record { replies = record { seat = seat; outcome = told n receipt.entry.ticket receipt.entry.deed None } ∷ []; records = receipt.entry ∷ []; place = place_at new (written + 1) }) (sym place)
  queue-poll old new written answer receipt none step is place = absurd step

  -- a place whose seats are there, with what is refused there
  admitted : (q : Queue ℕ) (written : ℕ) → count_of q ≡ setup.seats → queue_refusal q seat Poll ≡ None → written + queue_owed q + 2 ≤ setup.cap → request_refusal setup (place_at q written) seat ≡ None
  admitted q written count none fits =
      let low : nat_lt setup.cap (written + queue_owed q + 2) ≡ false = le-ltb setup.cap (written + queue_owed q + 2) fits in
      sym (ap (λ n. call_refusal (refusal_of n q.next (seats_of q) seat) (nat_lt setup.cap (written + owed_of n (seats_of q).holds + 2))) count)
      ∙ (λ i. call_refusal (none i) (low i))

  -- what the polls of a drain do
  abbrev Poll_of : QueueOfKind → QueueAnswer ℕ → QueueOfKind → Type 0
  Poll_of = TakingStep (λ old answer new. (new.kind ≡ old.kind) × QueueStep (λ m. m) old.kind old.queue seat Poll answer new.queue) (λ any. queue_available any.queue) (λ any. queue_unspent any.queue) (λ any. queue_owed any.queue) (λ any. queue_refusal any.queue seat Poll) (λ answer. queue_record (λ m. m) seat Poll answer)

  -- they are one thread's polls, and leave kind and seats
  pub record ArePolls (old : Queue ℕ) (written : ℕ) (got : List (QueueAnswer ℕ × Received Deed)) (new : QueueOfKind) : Type 0 where
    pub turns : polls setup (place_at old written) seat (length got) ≡ record { replies = map (λ one. reply_of seat one.1 (back_of one.0)) got; records = map (λ one. one.1.entry) got; place = place_at new.queue (written + length got) }
    pub kind : new.kind ≡ setup.kind
    pub count : count_of new.queue ≡ setup.seats

  pub are-polls : (old new : QueueOfKind) (written : ℕ) (got : List (QueueAnswer ℕ × Received Deed)) → old.kind ≡ setup.kind → count_of old.queue ≡ setup.seats → (0 < length got → queue_refusal old.queue seat Poll ≡ None) → length got ≤ queue_unspent old.queue → (0 < length got → written + queue_owed old.queue + length got + 1 ≤ setup.cap) → AreNumbered (gone + written) got → Polls Poll_of (λ answer. queue_record (λ m. m) seat Poll answer) old got new → ArePolls old.queue written got new
  are-polls old new written [] kind count none left fits numbered same =
      let still : written ≡ written + 0 = omega arith in
      record {
        turns = λ i. record { replies = []; records = []; place = place_at (sym same i).queue (still i) };
        kind = ap (λ (q : QueueOfKind). q.kind) same ∙ kind;
        count = ap (λ (q : QueueOfKind). count_of q.queue) same ∙ count;
      }
  are-polls old new written (one ∷ got) kind count none left fits numbered (mid, (step, takes), is, more) =
      let made_step : QueueStep (λ m. m) setup.kind old.queue seat Poll one.0 mid.queue = subst (λ k. QueueStep (λ m. m) k old.queue seat Poll one.0 mid.queue) kind step.1 in
      let first : take setup (place_at old.queue written) seat immediate ≡ told_turn one.0 one.1 mid.queue (written + 1) = queue-poll old.queue mid.queue written one.0 one.1 (admitted old.queue written count (none (omega arith)) (omega (arith, fits (omega arith)))) made_step is numbered.0 in
      let rest : ArePolls mid.queue (written + 1) got new = are-polls mid new (written + 1) got (step.0 ∙ kind) (queue-count (λ m. m) old.kind old.queue seat Poll one.0 mid.queue step.1 ∙ count) (λ some. takes.free (omega (arith, left, takes.tickets, some))) (omega (arith, left, takes.tickets)) (λ some. omega (arith, fits (omega arith), takes.owed)) (let next : gone + written + 1 ≡ gone + (written + 1) = omega arith in subst (λ n. AreNumbered n got) next numbered.1) more in
      let further : written + 1 + length got ≡ written + length (one ∷ got) = omega arith in
      record {
        turns = ap (λ t. joined t (λ q. polls setup q seat (length got))) first
            ∙ ap (λ (t : Turn). record { replies = reply_of seat one.1 (back_of one.0) ∷ t.replies; records = one.1.entry ∷ t.records; place = t.place }) rest.turns
            ∙ ap (λ n. record { replies = map (λ (g : QueueAnswer ℕ × Received Deed). reply_of seat g.1 (back_of g.0)) (one ∷ got); records = map (λ (g : QueueAnswer ℕ × Received Deed). g.1.entry) (one ∷ got); place = place_at new.queue n }) further;
        kind = rest.kind;
        count = rest.count;
      }

  -- what is known of a drain that isn't refused
  pub record MayDrain (q : Queue ℕ) (k : ℕ) (full : Bool) : Type 0 where
    pub tickets : k ≤ queue_unspent q
    pub free : 0 < k → queue_refusal q seat Poll ≡ None
    pub fits : 0 < k → full ≡ false

  enough : (q : Queue ℕ) (k : ℕ) (full : Bool) → cond full (Some HistoryFull) None ≡ None → nat_lt (queue_unspent q) (suc k) ≡ false → queue_refusal q seat Poll ≡ None → MayDrain q (suc k) full
  enough q k true none are is = cc
  enough q k false none are is = record { tickets = omega (arith, ltb-false (queue_unspent q) (suc k) are); free = λ some. is; fits = λ some. refl }

  pub may-drain : (q : Queue ℕ) (k : ℕ) (full : Bool) → drain_refusal_by (queue_refusal q seat Poll) (queue_unspent q) k full ≡ None → MayDrain q k full
  may-drain q zero full none = record { tickets = omega arith; free = λ some. absurd (omega arith); fits = λ some. absurd (omega arith) }
  may-drain q (suc k) full none = by_first (queue_refusal q seat Poll) refl (nat_lt (queue_unspent q) (suc k)) refl none
    where
      by_first : (first : Option Refusal) → queue_refusal q seat Poll ≡ first → (few : Bool) → nat_lt (queue_unspent q) (suc k) ≡ few → option_map_or Some (seat_refusal first) (cond few (Some TicketsSpent) (cond full (Some HistoryFull) None)) ≡ None → MayDrain q (suc k) full
      by_first (Some Memory) is few are none = cc
      by_first (Some HistoryFull) is few are none = cc
      by_first (Some SeatOpen) is few are none = cc
      by_first (Some NoSuchSeat) is few are none = cc
      by_first (Some NotOpen) is few are none = cc
      by_first (Some Differs) is few are none = cc
      by_first (Some SeatMissing) is few are none = cc
      by_first (Some Contended) is few are none = cc
      by_first (Some Worn) is few are none = cc
      by_first (Some BadSizes) is few are none = cc
      by_first (Some PolicyNeedsBuffer) is few are none = cc
      by_first (Some NoThread) is few are none = cc
      by_first (Some BadLine) is few are none = cc
      by_first (Some BadTrace) is few are none = cc
      by_first (Some ReadFault) is few are none = cc
      by_first (Some WriteFault) is few are none = cc
      by_first (Some HasBase) is few are none = cc
      by_first None is true are none = cc
      by_first None is false are none = enough q k full none are is
      by_first (Some TicketsSpent) is true are none = cc
      by_first (Some TicketsSpent) is false are none = absurd (not-spent q seat (omega (arith, ltb-false (queue_unspent q) (suc k) are)) is)

  -- the book's reason against a drain is that of the place
  pub drain_refusal-is : (q : Queue ℕ) (cap written k : ℕ) → cap ≡ setup.cap → count_of q ≡ setup.seats → drain_refusal_by (queue_refusal q seat Poll) (queue_unspent q) k (nat_lt cap (written + queue_owed q + (k + 1))) ≡ drain_refusal setup (place_at q written) seat k
  drain_refusal-is q cap written k same count =
      ap (λ n. drain_refusal_by (refusal_of n q.next (seats_of q) seat) (last_ticket + 1 - q.next) k (nat_lt cap (written + owed_of n (seats_of q).holds + (k + 1)))) count
      ∙ ap (λ n. drain_refusal_by (refusal_of setup.seats q.next (seats_of q) seat) (last_ticket + 1 - q.next) k (nat_lt n (written + owed_of setup.seats (seats_of q).holds + (k + 1)))) same

  -- a drain that is refused, and one that isn't
  pub drain-refused : (p : Place) (k : ℕ) (why : Refusal) → drain_refusal setup p seat k ≡ Some why → drain setup p seat k ≡ refused p seat why
  drain-refused p k why is = ap (λ o. option_map_or (refused p seat) o (joined (polls setup p seat k) (λ q. silent q seat (Drained k)))) is

  pub drain-made : (p : Place) (k : ℕ) → drain_refusal setup p seat k ≡ None → drain setup p seat k ≡ joined (polls setup p seat k) (λ q. silent q seat (Drained k))
  drain-made p k is = ap (λ o. option_map_or (refused p seat) o (joined (polls setup p seat k) (λ q. silent q seat (Drained k)))) is

  -- a drain that was made: its replies and records, and what it leaves
  pub record IsDrained (old : Queue ℕ) (written k : ℕ) (got : List (QueueAnswer ℕ × Received Deed)) (new : QueueOfKind) : Type 0 where
    pub turn : drain setup (place_at old written) seat k ≡ record { replies = map (λ one. reply_of seat one.1 (back_of one.0)) got ++ record { seat = seat; outcome = Drained k } ∷ []; records = map (λ one. one.1.entry) got; place = place_at new.queue (written + length got) }
    pub kind : new.kind ≡ setup.kind
    pub count : count_of new.queue ≡ setup.seats

  pub drained : (old new : QueueOfKind) (cap written k : ℕ) (got : List (QueueAnswer ℕ × Received Deed)) → cap ≡ setup.cap → count_of old.queue ≡ setup.seats → old.kind ≡ setup.kind → drain_refusal_by (queue_refusal old.queue seat Poll) (queue_unspent old.queue) k (nat_lt cap (written + queue_owed old.queue + (k + 1))) ≡ None → length got ≡ k → AreNumbered (gone + written) got → Polls Poll_of (λ answer. queue_record (λ m. m) seat Poll answer) old got new → IsDrained old.queue written k got new
  drained old new cap written k got same count kind none long numbered steps =
      let may : MayDrain old.queue k (nat_lt cap (written + queue_owed old.queue + (k + 1))) = may-drain old.queue k (nat_lt cap (written + queue_owed old.queue + (k + 1))) none in
      let are : ArePolls old.queue written got new = are-polls old new written got kind count (λ some. may.free (omega (arith, long, some))) (omega (arith, long, may.tickets))
      (λ some. omega (arith, long, same, ltb-false cap (written + queue_owed old.queue + (k + 1)) (may.fits (omega (arith, long, some))))) numbered steps in
      record {
        turn = drain-made (place_at old.queue written) k (sym (drain_refusal-is old.queue cap written k same count) ∙ none)
            ∙ ap (λ n. joined (polls setup (place_at old.queue written) seat n) (λ q. silent q seat (Drained k))) (sym long)
            ∙ ap (λ t. joined t (λ q. silent q seat (Drained k))) are.turns
            ∙ (λ i. record { replies = map (λ (one : QueueAnswer ℕ × Received Deed). reply_of seat one.1 (back_of one.0)) got ++ record { seat = seat; outcome = Drained k } ∷ []; records = append-nil (map (λ (one : QueueAnswer ℕ × Received Deed). one.1.entry) got) i; place = place_at new.queue (written + length got) });
        kind = are.kind;
        count = are.count;
      }
