-- What a drain's polls take.
use Rattle.std.proofs.Common.{◌≡◌, ℕ, zero, suc, Bool, true, false, inl, inr, ◌⊎◌, ◌≤◌, ◌+◌, refl, sym, ap, ◌∙◌, subst, Option, Some, None, List, [], ◌∷◌, map, min, length, ◌<◌, arith}
use Rattle.std.specs.List.{range_with_len}
use Rattle.std.proofs.lemmas.List.{length-map}
use Rattle.std.proofs.Math.Nat.{min_comm, min-eq_left, min-le_left}
use Rattle.std.specs.Prelude.{IsSome, nat_le, nat_lt, if◌then◌else◌}
use Rattle.meet_tickets.specs.declared.places.Side.TheVariants.{Giver}
use Rattle.meet_tickets.specs.declared.places.Kind.{Kind}
use Rattle.meet_tickets.specs.declared.records.Record.{Record}
use Rattle.meet_tickets.specs.declared.records.Deed.{Deed}
use Rattle.meet_tickets.specs.declared.refusals.Refusal.{Refusal}
use Rattle.meet_tickets.specs.declared.refusals.Refusal.TheVariants.{HistoryFull, TicketsSpent, SeatOpen}
use Rattle.meet_tickets.specs.declared.refusals.Refusal.TheVariants.{NoSuchSeat, Memory}
use Rattle.meet_tickets.specs.BySeat.{is_open}
use Rattle.meet_tickets.specs.Limits.{last_ticket}
use Rattle.meet_tickets.specs.Meeting.{count_on}
use Rattle.meet_tickets.specs.Refusals.{IsWhy}
use Rattle.meet_book.specs.Draining.{TakingPolls, AreNumbered, drain_refusal_by, book_drain_refusal}
use Rattle.meet_book.specs.Booked.{Booked}
use Rattle.meet_book.specs.Booking.{is_book_full}
use Rattle.meet_book.specs.Received.{Received}
use Rattle.meet_core.specs.Queue.{Queue, count_of, seats_of}
use Rattle.meet_core.specs.declared.answers.Polled.TheVariants.{Meets, Fails}
use Rattle.meet_core.specs.QueueRecords.{queue_record}
use Rattle.meet_core.specs.QueueSteps.{QueueStep, queue_available, queue_refusal}
use Rattle.meet_core.specs.declared.calls.queue_calls.QueueCall.{QueueCall}
use Rattle.meet_core.specs.declared.calls.queue_calls.QueueCall.TheVariants.{Poll}
use Rattle.meet_core.specs.declared.calls.queue_calls.QueueAnswer.{QueueAnswer}
use Rattle.meet_core.specs.declared.calls.queue_calls.QueueAnswer.TheVariants.{Polled}
use Rattle.meet_place.specs.Holds.{IsBookOf}
use Rattle.meet_place.specs.Seats.{SeatView, DrainedAs}
use Rattle.meet_sync.proofs.Reasons.{is_there}
use Rattle.meet_sync.specs.Told.{IsRequestWhy}
use Rattle.meet_sync.specs.Drained.{Taken, taken_record, item_told, AllBring, AreItemsOf, DrainedTo}

some_is : {A : Type 0} {a b : A} → Some a ≡ Some b → b ≡ a
some_is e = cc

brings : {A : Type 0} {item : Option A} {a : A} → item ≡ Some a → IsSome item
brings e = rw e refl

head_is : {A : Type 0} {x y : A} {xs ys : List A} → x ∷ xs ≡ y ∷ ys → x ≡ y
head_is e = cc

tail_is : {A : Type 0} {x y : A} {xs ys : List A} → x ∷ xs ≡ y ∷ ys → xs ≡ ys
tail_is e = cc

same_somes : {A : Type 0} (xs ys : List A) → map (λ x. Some x) xs ≡ map (λ x. Some x) ys → xs ≡ ys
same_somes [] [] e = refl
same_somes [] (y ∷ ys) e = absurd (cc)
same_somes (x ∷ xs) [] e = absurd (cc)
same_somes (x ∷ xs) (y ∷ ys) e = (λ j. some_is (sym (head_is e)) j ∷ same_somes xs ys (tail_is e) j)

-- a poll that lowers the number of items takes one
pub takes : {T : Type 0} (mark : T → ℕ) (k : Kind) (i : ℕ) (old : Queue T) (answer : QueueAnswer T) (new : Queue T)
    (e : Record Deed) → QueueStep mark k old i Poll answer new → queue_available new + 1 ≡ queue_available old
    → queue_record mark i Poll answer ≡ Some e
    → (t : Taken T) × (item_told answer ≡ Some t.item) × (e ≡ taken_record mark i t)
takes mark k i old (Polled (Meets t u item)) new e step fewer is =
    (record { ticket = t; giver = u; item = item }, refl, some_is is)
takes mark k i old (Polled (Fails t)) new e step fewer is =
    let same = ap (λ s. count_on Giver s.line) step.1.seats_are in absurd (omega arith)
takes mark k i old answer new e step fewer is = absurd step

-- so does one of a place that is a queue
module _ {O T : Type 0} (k : Kind) (mark : T → ℕ) (queue_of : O → Queue T) (i : ℕ)
    (steps : O → ℕ → QueueCall T → QueueAnswer T → O → Type 0)
    (record_of : ℕ → QueueCall T → QueueAnswer T → Option (Record Deed)) (available_of : O → ℕ) (poll : QueueCall T)
    (is_step : (old : O) (seat : ℕ) (call : QueueCall T) (answer : QueueAnswer T) (new : O)
    → steps old seat call answer new → QueueStep mark k (queue_of old) seat call answer (queue_of new))
    (is_record : (seat : ℕ) (call : QueueCall T) (answer : QueueAnswer T)
    → record_of seat call answer ≡ queue_record mark seat call answer)
    (is_available : (o : O) → available_of o ≡ queue_available (queue_of o)) (is_poll : poll ≡ Poll) where
  pub place_takes : (old : O) (answer : QueueAnswer T) (new : O) (e : Record Deed) → steps old i poll answer new
      → available_of new + 1 ≡ available_of old → record_of i poll answer ≡ Some e
      → (t : Taken T) × (item_told answer ≡ Some t.item) × (e ≡ taken_record mark i t)
  place_takes old answer new e step fewer is =
      takes mark k i (queue_of old) answer (queue_of new) e
      (is_step old i Poll answer new (subst (λ call. steps old i call answer new) is_poll step))
      (ap (λ n. n + 1) (sym (is_available new)) ∙ fewer ∙ is_available old)
      (sym (is_record i Poll answer) ∙ ap (λ call. record_of i call answer) (sym is_poll) ∙ is)

-- the receipts of a drain are numbered on
numbers : {A D : Type 0} (last : ℕ) (got : List (A × Received D)) → AreNumbered last got
    → map (λ r. r.place) (map (λ one. one.1) got) ≡ range_with_len (last + 1) (length (map (λ one. one.1) got))
numbers last [] h = refl
numbers last (one ∷ got) (first, rest) = (λ j. first j ∷ numbers (last + 1) got rest j)

module _ {O T : Type 0} (mark : T → ℕ) (i : ℕ) (steps : O → QueueAnswer T → O → Type 0)
    (record_of : QueueAnswer T → Option (Record Deed)) (refusal_of : O → Option Refusal) (available_of unspent_of owed_of : O → ℕ)
    (one_taken : (old : O) (answer : QueueAnswer T) (new : O) (e : Record Deed) → steps old answer new
    → available_of new + 1 ≡ available_of old → record_of answer ≡ Some e
    → (t : Taken T) × (item_told answer ≡ Some t.item) × (e ≡ taken_record mark i t)) where
  -- polls that take take items, each of its own record
  all_taken : (old : O) (got : List (QueueAnswer T × Received Deed)) (new : O)
      → TakingPolls steps record_of refusal_of available_of unspent_of owed_of old got new
      → (all : List (Taken T)) × (map item_told (map (λ one. one.0) got) ≡ map (λ item. Some item) (map (λ t. t.item) all))
      × (map (λ r. r.entry) (map (λ one. one.1) got) ≡ map (taken_record mark i) all)
      × AllBring (map (λ one. one.0) got)
  all_taken old [] new polls = ([], refl, refl, tt)
  all_taken old (one ∷ got) new (mid, does, is, polls) =
      let first = one_taken old one.0 mid one.1.entry does.0 does.1.available is in
      let rest = all_taken mid got new polls in (
        first.0 ∷ rest.0,
        (λ j. first.1 j ∷ rest.1 j),
        (λ j. first.2 j ∷ rest.2 j),
        (brings first.1, rest.3),
      )

  -- what a drain of a place with so many seats says of the list and the answers
  abbrev Drains : (count_of : O → ℕ) → (seats max : ℕ) → (old new : List (Received Deed)) → List (QueueAnswer T) → Type 0
  Drains count_of seats max old new answers = (before : O) × (after : O) × (last : ℕ) × (count_of before ≡ seats)
      × (length answers ≡ min max (available_of before))
      × DrainedAs (λ got. TakingPolls steps record_of refusal_of available_of unspent_of owed_of before got after
      × AreNumbered last got) old new answers

  -- so the answers bring items
  pub all_bring : (count_of : O → ℕ) (seats max : ℕ) (old new : List (Received Deed)) (answers : List (QueueAnswer T))
      → Drains count_of seats max old new answers → AllBring answers
  all_bring count_of seats max old new answers (before, after, last, all, count, (got, (polls, numbered), list, is)) =
      rw is (all_taken before got after polls).3

  -- and these are what was drained
  pub all_drained : (count_of : O → ℕ) (seats max : ℕ) (old new : SeatView Deed) (answers : List (QueueAnswer T)) (items : List T)
      → old.number ≡ i → Drains count_of seats max old.list new.list answers → AreItemsOf answers items
      → DrainedTo mark old new items
  all_drained count_of seats max old new answers items number
      (before, after, last, all, count, (got, (polls, numbered), list, is)) are =
      let h = all_taken before got after polls in (
        last,
        h.0,
        same_somes _ items (sym h.1 ∙ ap (map item_told) (sym is) ∙ are),
        (
          map (λ one. one.1) got,
          list,
          h.2 ∙ ap (λ n. map (taken_record mark n) h.0) (sym number),
          numbers last got numbered,
        ),
      )

  -- as many as the least of what was there when it looked, of `max`, and of what is there
  pub least_of : (count_of : O → ℕ) (seats max there : ℕ) (old new : List (Received Deed))
      (answers : List (QueueAnswer T)) (items : List T)
      → (there ≡ max) ⊎ ((look : O) × (count_of look ≡ seats) × (there ≡ min (available_of look) max))
      → Drains count_of seats there old new answers → AreItemsOf answers items
      → (before : O) × (held : O) × (count_of before ≡ seats) × (count_of held ≡ seats)
      × (length items ≡ min (min (available_of before) max) (available_of held))
  least_of count_of seats max there old new answers items (inl is) (before, after, last, all, count, rest) are =
      let same = sym (length-map items (λ item. Some item)) ∙ sym (ap length are) ∙ length-map answers item_told in
      let there = available_of before in
      let least : min max there ≡ min (min there max) there = min_comm max there ∙ sym (min-eq_left (min-le_left there max)) in
      (before, before, all, all, same ∙ count ∙ ap (λ n. min n there) is ∙ least)
  least_of count_of seats max there old new answers items (inr (look, both, is)) (before, after, last, all, count, rest) are =
      let same = sym (length-map items (λ item. Some item)) ∙ sym (ap length are) ∙ length-map answers item_told in
      (look, before, both, all, same ∙ count ∙ ap (λ n. min n (available_of before)) is)

-- why a drain of a queue may be refused
last_why : (spent full : Bool) (why : Refusal)
    → IsWhy (if spent then Some TicketsSpent else (if full then Some HistoryFull else None)) why → IsRequestWhy why
last_why true full why e = rw e tt
last_why false true why e = rw e tt
last_why false false why e = rw e tt

drain_why_by : (absent taken spent : Bool) (left k : ℕ) (full : Bool) (why : Refusal) → (absent ≡ true → ⊥)
    → IsWhy (drain_refusal_by (if absent then Some NoSuchSeat
    else (if taken then Some SeatOpen else (if spent then Some TicketsSpent else None))) left k full) why
    → IsRequestWhy why
drain_why_by true taken spent left k full why there e = absurd (there refl)
drain_why_by false true spent left zero full why there e = rw e tt
drain_why_by false true spent left (suc k) full why there e = rw e tt
drain_why_by false false true left zero full why there e = rw e tt
drain_why_by false false true left (suc k) full why there e = last_why (nat_lt left (suc k)) full why e
drain_why_by false false false left zero full why there e = rw e tt
drain_why_by false false false left (suc k) full why there e = last_why (nat_lt left (suc k)) full why e

pub drain_why : {O T B D : Type 0} (queue_of : O → Queue T) (seat_count_of unspent_of owed_of : O → ℕ)
    (refusal_of : O → Option Refusal) (Since : Booked O B D → Type 0) (seats cap i most : ℕ) (why : Refusal)
    → ((o : O) → seat_count_of o ≡ count_of (queue_of o)) → ((o : O) → refusal_of o ≡ queue_refusal (queue_of o) i Poll)
    → (why ≡ Memory) ⊎ ((book : Booked O B D) × (k : ℕ) × (k ≤ most) × IsBookOf seat_count_of seats cap book × Since book
    × (i < seats) × IsWhy (book_drain_refusal (refusal_of book.object) (unspent_of book.object) (owed_of book.object) book k) why)
    → IsRequestWhy why
drain_why queue_of seat_count_of unspent_of owed_of refusal_of Since seats cap i most why is_count is_refusal (inl e) = rw e tt
drain_why queue_of seat_count_of unspent_of owed_of refusal_of Since seats cap i most why is_count is_refusal
    (inr (book, k, few, of, since, there, e)) =
    let o = book.object in
    let q = queue_of o in
    drain_why_by (nat_le (count_of q) i) (is_open ((seats_of q).holds i)) (nat_lt last_ticket q.next)
    (unspent_of o) k (is_book_full book (owed_of o) (k + 1)) why
    (is_there (count_of q) seats i (sym (is_count o) ∙ of.0) there)
    (subst (λ first. IsWhy (book_drain_refusal first (unspent_of o) (owed_of o) book k) why) (is_refusal o) e)
