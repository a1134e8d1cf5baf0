-- Worked scripts about places of each kind, computed by the definitions.
use Rattle.std.proofs.Common.{◌≡◌, ℕ, refl, List, [], ◌∷◌, Option, Some, None, length}
use Rattle.meet_tickets.specs.declared.places.Order.{Order}
use Rattle.meet_tickets.specs.declared.places.Order.TheVariants.{Fair, Unfair, Transfer}
use Rattle.meet_tickets.specs.declared.records.Cause.TheVariants.{Cancelled, Expired, Interrupted}
use Rattle.meet_tickets.specs.declared.refusals.Refusal.TheVariants.{HistoryFull, TicketsSpent, SeatOpen, NoSuchSeat}
use Rattle.meet_history.specs.declared.one_thread.verbs.Call.{Call}
use Rattle.meet_history.specs.declared.one_thread.verbs.Verb.{Verb}
use Rattle.meet_history.specs.declared.one_thread.verbs.Verb.TheVariants.{Put, Offer, Take, Poll, Transfer as TransferItem, Try, Follow, Cancel, Expire, Interrupt as InterruptSeat, Drain, Look}
use Rattle.meet_history.specs.declared.one_thread.verbs.Probe.TheVariants.{Size, Room, Peek, Consumers}
use Rattle.meet_history.specs.declared.one_thread.setup.Setup.{Setup}
use Rattle.meet_history.specs.declared.one_thread.replies.Reply.{Reply}
use Rattle.meet_history.specs.declared.one_thread.replies.Outcome.{Outcome}
use Rattle.meet_history.specs.declared.one_thread.replies.Outcome.TheVariants.{Recorded, Interrupted as InterruptedSeat, NotYet, Late, Drained, Count, Peeked, Refused}
use Rattle.meet_history.specs.declared.one_thread.replies.Answer.{Answer}
use Rattle.meet_history.specs.declared.one_thread.replies.Answer.TheVariants.{Waits, Kept, Gave, Got as GotItem, Fails, Done as Finished, Withdrawn as WasWithdrawn}
use Rattle.meet_history.specs.OneThread.{start, turns, standing_of}

abbrev place : Order → (bound : Option ℕ) → (seats cap first : ℕ) → Setup
place order bound seats cap first =
    record { kind = record { order = order; bound = bound }; seats = seats; cap = cap; first = first }

abbrev by : (seat : ℕ) → Verb → Call
by seat verb = record { seat = seat; verb = verb }

abbrev writes : (n seat ticket : ℕ) → Answer → Reply
writes n seat ticket answer = record { seat = seat; outcome = Recorded n ticket answer }

abbrev interrupts : (n seat target : ℕ) → (cut : Option ℕ) → Reply
interrupts n seat target cut = record { seat = seat; outcome = InterruptedSeat n target cut }

abbrev says : (seat : ℕ) → Outcome → Reply
says seat outcome = record { seat = seat; outcome = outcome }

-- a script's calls have these replies, write so many records, and leave so many waiting, uncollected and kept
abbrev Answers : Setup → List Call → List Reply → (records waiting uncollected kept : ℕ) → Type 0
Answers setup calls replies records waiting uncollected kept =
    ((turns setup (start setup) calls).replies ≡ replies) × (length (turns setup (start setup) calls).records ≡ records) × (standing_of setup (turns setup (start setup) calls).place ≡ record { waiting = waiting; uncollected = uncollected; kept = kept })

-- fair; 0 put 5; 1 take; 0 follow
handoff : Answers (place Fair None 64 1048576 1) (by 0 (Put 5) ∷ by 1 Take ∷ by 0 Follow ∷ [])
    (writes 1 0 1 Waits ∷ writes 2 1 2 (GotItem 5 1) ∷ writes 3 0 1 Finished ∷ [])
    3 0 0 0
handoff = (refl, refl, refl)

-- fair; 0 put 1; 1 put 2; 2 take
oldest_first : Answers (place Fair None 64 1048576 1) (by 0 (Put 1) ∷ by 1 (Put 2) ∷ by 2 Take ∷ [])
    (writes 1 0 1 Waits ∷ writes 2 1 2 Waits ∷ writes 3 2 3 (GotItem 1 1) ∷ [])
    3 1 1 0
oldest_first = (refl, refl, refl)

-- unfair; 0 put 1; 1 put 2; 2 take
newest_first : Answers (place Unfair None 64 1048576 1) (by 0 (Put 1) ∷ by 1 (Put 2) ∷ by 2 Take ∷ [])
    (writes 1 0 1 Waits ∷ writes 2 1 2 Waits ∷ writes 3 2 3 (GotItem 2 2) ∷ [])
    3 1 1 0
newest_first = (refl, refl, refl)

-- fair; 0 put 5; 0 cancel; 1 poll
cancelled : Answers (place Fair None 64 1048576 1) (by 0 (Put 5) ∷ by 0 Cancel ∷ by 1 Poll ∷ [])
    (writes 1 0 1 Waits ∷ writes 2 0 1 (WasWithdrawn Cancelled (Some 5)) ∷ writes 3 1 2 (Fails None) ∷ [])
    3 0 0 0
cancelled = (refl, refl, refl)

-- fair; 0 put 5; 1 take; 0 cancel; 0 follow
cancelled_late : Answers (place Fair None 64 1048576 1) (by 0 (Put 5) ∷ by 1 Take ∷ by 0 Cancel ∷ by 0 Follow ∷ [])
    (writes 1 0 1 Waits ∷ writes 2 1 2 (GotItem 5 1) ∷ says 0 Late ∷ writes 3 0 1 Finished ∷ [])
    3 0 0 0
cancelled_late = (refl, refl, refl)

-- fair; 0 take; 1 take; 2 put 9; 1 follow; 0 follow
waiting_takers : Answers (place Fair None 64 1048576 1) (by 0 Take ∷ by 1 Take ∷ by 2 (Put 9) ∷ by 1 Follow ∷ by 0 Follow ∷ [])
    (writes 1 0 1 Waits ∷ writes 2 1 2 Waits ∷ writes 3 2 3 (Gave 9 1) ∷ says 1 NotYet ∷ writes 4 0 1 (GotItem 9 3) ∷ [])
    4 1 0 0
waiting_takers = (refl, refl, refl)

-- fair; 0 offer 7; 1 take; 0 offer 7
immediate : Answers (place Fair None 64 1048576 1) (by 0 (Offer 7) ∷ by 1 Take ∷ by 0 (Offer 7) ∷ [])
    (writes 1 0 1 (Fails (Some 7)) ∷ writes 2 1 2 Waits ∷ writes 3 0 3 (Gave 7 2) ∷ [])
    3 0 1 0
immediate = (refl, refl, refl)

-- fair; 0 put 1; 1 put 2; 2 put 3; 1 expire; 3 take; 4 take
expired_in_the_middle : Answers (place Fair None 64 1048576 1) (by 0 (Put 1) ∷ by 1 (Put 2) ∷ by 2 (Put 3) ∷ by 1 Expire ∷ by 3 Take ∷ by 4 Take ∷ [])
    (writes 1 0 1 Waits ∷ writes 2 1 2 Waits ∷ writes 3 2 3 Waits ∷ writes 4 1 2 (WasWithdrawn Expired (Some 2)) ∷ writes 5 3 4 (GotItem 1 1) ∷ writes 6 4 5 (GotItem 3 3) ∷ [])
    6 0 2 0
expired_in_the_middle = (refl, refl, refl)

-- fair; 0 take; 1 interrupt 0; 0 follow; 2 offer 4
interrupted_taker : Answers (place Fair None 64 1048576 1) (by 0 Take ∷ by 1 (InterruptSeat 0) ∷ by 0 Follow ∷ by 2 (Offer 4) ∷ [])
    (writes 1 0 1 Waits ∷ interrupts 2 1 0 (Some 1) ∷ writes 3 0 1 (WasWithdrawn Interrupted None) ∷ writes 4 2 2 (Fails (Some 4)) ∷ [])
    4 0 0 0
interrupted_taker = (refl, refl, refl)

-- fair; 0 take; 1 put 4; 2 interrupt 0; 0 follow; 0 take
interrupted_once_paired : Answers (place Fair None 64 1048576 1) (by 0 Take ∷ by 1 (Put 4) ∷ by 2 (InterruptSeat 0) ∷ by 0 Follow ∷ by 0 Take ∷ [])
    (writes 1 0 1 Waits ∷ writes 2 1 2 (Gave 4 1) ∷ interrupts 3 2 0 None ∷ writes 4 0 1 (GotItem 4 2) ∷ writes 5 0 3 (WasWithdrawn Interrupted None) ∷ [])
    5 0 0 0
interrupted_once_paired = (refl, refl, refl)

-- transfer; 0 put 1; 1 transfer 2; 2 try 3; 3 poll; 3 poll; 1 follow
kept_and_waiting : Answers (place Transfer None 64 1048576 1) (by 0 (Put 1) ∷ by 1 (TransferItem 2) ∷ by 2 (Try 3) ∷ by 3 Poll ∷ by 3 Poll ∷ by 1 Follow ∷ [])
    (writes 1 0 1 Kept ∷ writes 2 1 2 Waits ∷ writes 3 2 3 (Fails (Some 3)) ∷ writes 4 3 4 (GotItem 1 1) ∷ writes 5 3 5 (GotItem 2 2) ∷ writes 6 1 2 Finished ∷ [])
    6 0 0 0
kept_and_waiting = (refl, refl, refl)

-- transfer; 0 size; 0 room; 1 take; 0 size; 0 consumers
probes : Answers (place Transfer None 64 1048576 1) (by 0 (Look Size) ∷ by 0 (Look Room) ∷ by 1 Take ∷ by 0 (Look Size) ∷ by 0 (Look Consumers) ∷ [])
    (says 0 (Count 0) ∷ says 0 (Count 2147483647) ∷ writes 1 1 1 Waits ∷ says 0 (Count 0) ∷ says 0 (Count 1) ∷ [])
    1 1 0 0
probes = (refl, refl, refl)

-- fair cap 4; 0 put 1; 1 put 2; 2 put 3; 0 cancel; 1 cancel
full_history : Answers (place Fair None 64 4 1) (by 0 (Put 1) ∷ by 1 (Put 2) ∷ by 2 (Put 3) ∷ by 0 Cancel ∷ by 1 Cancel ∷ [])
    (writes 1 0 1 Waits ∷ writes 2 1 2 Waits ∷ says 2 (Refused HistoryFull) ∷ writes 3 0 1 (WasWithdrawn Cancelled (Some 1)) ∷ writes 4 1 2 (WasWithdrawn Cancelled (Some 2)) ∷ [])
    4 0 0 0
full_history = (refl, refl, refl)

-- transfer; 0 put 4; 0 put 5; 1 drain 3
drained : Answers (place Transfer None 64 1048576 1) (by 0 (Put 4) ∷ by 0 (Put 5) ∷ by 1 (Drain 3) ∷ [])
    (writes 1 0 1 Kept ∷ writes 2 0 2 Kept ∷ writes 3 1 3 (GotItem 4 1) ∷ writes 4 1 4 (GotItem 5 2) ∷ says 1 (Drained 2) ∷ [])
    4 0 0 0
drained = (refl, refl, refl)

-- fair first 9223372036854775807; 0 offer 1; 0 offer 2
last_ticket : Answers (place Fair None 64 1048576 9223372036854775807) (by 0 (Offer 1) ∷ by 0 (Offer 2) ∷ [])
    (writes 1 0 9223372036854775807 (Fails (Some 1)) ∷ says 0 (Refused TicketsSpent) ∷ [])
    1 0 0 0
last_ticket = (refl, refl, refl)

-- fair seats 2; 2 poll; 0 put 1; 0 poll
no_such_seat : Answers (place Fair None 2 1048576 1) (by 2 Poll ∷ by 0 (Put 1) ∷ by 0 Poll ∷ [])
    (says 2 (Refused NoSuchSeat) ∷ writes 1 0 1 Waits ∷ says 0 (Refused SeatOpen) ∷ [])
    1 1 0 0
no_such_seat = (refl, refl, refl)

-- fair; 0 put 5; 1 interrupt 0; 0 cancel; 0 follow; 0 put 6
interrupted_giver : Answers (place Fair None 64 1048576 1) (by 0 (Put 5) ∷ by 1 (InterruptSeat 0) ∷ by 0 Cancel ∷ by 0 Follow ∷ by 0 (Put 6) ∷ [])
    (writes 1 0 1 Waits ∷ interrupts 2 1 0 (Some 1) ∷ says 0 Late ∷ writes 3 0 1 (WasWithdrawn Interrupted (Some 5)) ∷ writes 4 0 2 Waits ∷ [])
    4 1 0 0
interrupted_giver = (refl, refl, refl)

-- transfer bound 1; 0 put 1; 0 put 2; 1 take; 0 put 2
bounded : Answers (place Transfer (Some 1) 64 1048576 1) (by 0 (Put 1) ∷ by 0 (Put 2) ∷ by 1 Take ∷ by 0 (Put 2) ∷ [])
    (writes 1 0 1 Kept ∷ writes 2 0 2 (Fails (Some 2)) ∷ writes 3 1 3 (GotItem 1 1) ∷ writes 4 0 4 Kept ∷ [])
    4 0 0 1
bounded = (refl, refl, refl)

-- fair; 0 put 1; 1 put 2; 2 drain 1; 2 size; 2 peek
drained_by_one : Answers (place Fair None 64 1048576 1) (by 0 (Put 1) ∷ by 1 (Put 2) ∷ by 2 (Drain 1) ∷ by 2 (Look Size) ∷ by 2 (Look Peek) ∷ [])
    (writes 1 0 1 Waits ∷ writes 2 1 2 Waits ∷ writes 3 2 3 (GotItem 1 1) ∷ says 2 (Drained 1) ∷ says 2 (Count 0) ∷ says 2 (Peeked None) ∷ [])
    3 1 1 0
drained_by_one = (refl, refl, refl)

-- fair cap 6; 0 put 1; 1 put 2; 2 drain 2; 2 drain 0; 2 drain 1; 1 cancel
drained_when_full : Answers (place Fair None 64 6 1) (by 0 (Put 1) ∷ by 1 (Put 2) ∷ by 2 (Drain 2) ∷ by 2 (Drain 0) ∷ by 2 (Drain 1) ∷ by 1 Cancel ∷ [])
    (writes 1 0 1 Waits ∷ writes 2 1 2 Waits ∷ says 2 (Refused HistoryFull) ∷ says 2 (Drained 0) ∷ writes 3 2 3 (GotItem 1 1) ∷ says 2 (Drained 1) ∷ writes 4 1 2 (WasWithdrawn Cancelled (Some 2)) ∷ [])
    4 0 1 0
drained_when_full = (refl, refl, refl)

-- transfer; 0 put 1; 1 interrupt 0; 0 put 2; 0 transfer 3
interrupted_while_kept : Answers (place Transfer None 64 1048576 1) (by 0 (Put 1) ∷ by 1 (InterruptSeat 0) ∷ by 0 (Put 2) ∷ by 0 (TransferItem 3) ∷ [])
    (writes 1 0 1 Kept ∷ interrupts 2 1 0 None ∷ writes 3 0 2 Kept ∷ writes 4 0 3 (WasWithdrawn Interrupted (Some 3)) ∷ [])
    4 0 0 2
interrupted_while_kept = (refl, refl, refl)
