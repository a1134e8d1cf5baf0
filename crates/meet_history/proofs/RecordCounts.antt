-- A place counts the records that its turns write.
use Rattle.std.proofs.Common.{◌≡◌, ℕ, zero, suc, ◌+◌, List, [], ◌∷◌, length, Option, Some, None, arith, length-append}
use Rattle.std.specs.Prelude.{min}
use Rattle.std.specs.Option.{option_map_or}
use Rattle.meet_tickets.specs.declared.lines.Hold.{Hold}
use Rattle.meet_tickets.specs.declared.lines.Hold.TheVariants.{Free, Waiting, Handed, Served, Cut}
use Rattle.meet_tickets.specs.declared.records.Cause.{Cause}
use Rattle.meet_tickets.specs.declared.records.Cause.TheVariants.{Cancelled, Expired}
use Rattle.meet_tickets.specs.declared.records.Deed.{Deed}
use Rattle.meet_tickets.specs.declared.places.Side.TheVariants.{Giver}
use Rattle.meet_tickets.specs.Meeting.{count_on}
use Rattle.meet_tickets.specs.BySeat.{entry_of}
use Rattle.meet_history.specs.declared.one_thread.verbs.Call.{Call}
use Rattle.meet_history.specs.declared.one_thread.verbs.Verb.{Verb}
use Rattle.meet_history.specs.declared.one_thread.verbs.Verb.TheVariants.{Put, Offer, Take, Poll, Transfer as TransferItem, Try, Follow, Cancel, Expire, Interrupt as InterruptSeat, Drain, Look, Checkpoint}
use Rattle.meet_history.specs.declared.one_thread.setup.Setup.{Setup}
use Rattle.meet_history.specs.declared.one_thread.replies.Outcome.TheVariants.{Drained}
use Rattle.meet_history.specs.OneThread.{Place, Turn, Form, immediate, waiting, put_form, offer_form, silent, refused, joined, checkpoint, checkpoint_refusal, folded, stepped, request_refusal, request, give, take, give_deed, take_deed, follow, withdraw, interrupt, interrupt_refusal, polls, drain, drain_refusal, turn_of, turn, turns}

-- a turn counts its records
abbrev IsCounted : Place → Turn → Type 0
IsCounted p t = t.place.gone + t.place.records ≡ p.gone + p.records + length t.records

-- a turn of another kind where there is such a value
chosen : {A : Type 0} (p : Place) (o : Option A) (other : A → Turn) (t : Turn) → ((x : A) → IsCounted p (other x)) → IsCounted p t → IsCounted p (option_map_or other o t)
chosen p None other t h k = k
chosen p (Some x) other t h k = h x

-- a turn without a record
still : (n : ℕ) → n ≡ n + 0
still n = omega arith

joined-counted : (p : Place) (t : Turn) (rest : Place → Turn) → IsCounted p t → IsCounted t.place (rest t.place) → IsCounted p (joined t rest)
joined-counted p t rest h k = omega (arith, length-append t.records (rest t.place).records)

request-counted : (setup : Setup) (p : Place) (seat : ℕ) (deed : Deed) (item : Option ℕ) → IsCounted p (request setup p seat deed item)
request-counted setup p seat deed item =
    chosen p (request_refusal setup p seat) (refused p seat) (stepped setup p seat p.next deed item) (λ why. still (p.gone + p.records)) (omega arith)

give-counted : (setup : Setup) (p : Place) (seat : ℕ) (form : Form) (mark : ℕ) → IsCounted p (give setup p seat form mark)
give-counted setup p seat form mark = request-counted setup p seat (give_deed setup.kind p.seats seat form mark) (Some mark)

take-counted : (setup : Setup) (p : Place) (seat : ℕ) (form : Form) → IsCounted p (take setup p seat form)
take-counted setup p seat form = request-counted setup p seat (take_deed setup.kind p.seats seat form) None

follow-counted : (setup : Setup) (p : Place) (seat : ℕ) (hold : Hold ℕ) → IsCounted p (follow setup p seat hold)
follow-counted setup p seat Free = still (p.gone + p.records)
follow-counted setup p seat (Waiting t) = still (p.gone + p.records)
follow-counted setup p seat (Handed t u mark) = omega arith
follow-counted setup p seat (Served t u item) = omega arith
follow-counted setup p seat (Cut t item) = omega arith

withdraw-counted : (setup : Setup) (p : Place) (seat : ℕ) (cause : Cause) (hold : Hold ℕ) → IsCounted p (withdraw setup p seat cause hold)
withdraw-counted setup p seat cause Free = still (p.gone + p.records)
withdraw-counted setup p seat cause (Waiting t) =
    chosen p (entry_of p.seats.line (Waiting t)) _ _ (λ e. omega arith) (still (p.gone + p.records))
withdraw-counted setup p seat cause (Handed t u mark) = still (p.gone + p.records)
withdraw-counted setup p seat cause (Served t u item) = still (p.gone + p.records)
withdraw-counted setup p seat cause (Cut t item) = still (p.gone + p.records)

interrupt-counted : (setup : Setup) (p : Place) (seat target : ℕ) → IsCounted p (interrupt setup p seat target)
interrupt-counted setup p seat target =
    chosen p (interrupt_refusal setup p seat target) (refused p seat) _ (λ why. still (p.gone + p.records)) (omega arith)

polls-counted : (setup : Setup) (p : Place) (seat n : ℕ) → IsCounted p (polls setup p seat n)
polls-counted setup p seat zero = omega arith
polls-counted setup p seat (suc n) =
    joined-counted p (take setup p seat immediate) (λ q. polls setup q seat n) (take-counted setup p seat immediate) (polls-counted setup (take setup p seat immediate).place seat n)

drain-counted : (setup : Setup) (p : Place) (seat k : ℕ) → IsCounted p (drain setup p seat k)
drain-counted setup p seat k =
    chosen p (drain_refusal setup p seat k) (refused p seat) _ (λ why. still (p.gone + p.records)) (joined-counted p (polls setup p seat k) (λ q. silent q seat (Drained k)) (polls-counted setup p seat k) (still _))

checkpoint-counted : (setup : Setup) (p : Place) (seat : ℕ) → IsCounted p (checkpoint setup p seat)
checkpoint-counted setup p seat =
    chosen p (checkpoint_refusal setup p seat) (refused p seat) (folded p seat) (λ why. still (p.gone + p.records)) (omega arith)

verb-counted : (setup : Setup) (p : Place) (seat : ℕ) (verb : Verb) → IsCounted p (turn_of setup p seat verb)
verb-counted setup p seat (Put m) = give-counted setup p seat (put_form setup.kind.order) m
verb-counted setup p seat (Offer m) = give-counted setup p seat (offer_form setup.kind.order) m
verb-counted setup p seat Take = take-counted setup p seat waiting
verb-counted setup p seat Poll = take-counted setup p seat immediate
verb-counted setup p seat (TransferItem m) = give-counted setup p seat waiting m
verb-counted setup p seat (Try m) = give-counted setup p seat immediate m
verb-counted setup p seat Follow = follow-counted setup p seat (p.seats.holds seat)
verb-counted setup p seat Cancel = withdraw-counted setup p seat Cancelled (p.seats.holds seat)
verb-counted setup p seat Expire = withdraw-counted setup p seat Expired (p.seats.holds seat)
verb-counted setup p seat (InterruptSeat target) = interrupt-counted setup p seat target
verb-counted setup p seat (Drain most) = drain-counted setup p seat (min most (count_on Giver p.seats.line))
verb-counted setup p seat (Look probe) = still (p.gone + p.records)
verb-counted setup p seat Checkpoint = checkpoint-counted setup p seat

-- a turn adds as many records as it writes
pub turn-counted : (setup : Setup) (p : Place) (call : Call) → (turn setup p call).place.gone + (turn setup p call).place.records ≡ p.gone + p.records + length (turn setup p call).records
turn-counted setup p call = verb-counted setup p call.seat call.verb

-- and so do many
pub turns-counted : (setup : Setup) (p : Place) (calls : List Call) → (turns setup p calls).place.gone + (turns setup p calls).place.records ≡ p.gone + p.records + length (turns setup p calls).records
turns-counted setup p [] = omega arith
turns-counted setup p (call ∷ calls) =
    joined-counted p (turn setup p call) (λ q. turns setup q calls) (turn-counted setup p call) (turns-counted setup (turn setup p call).place calls)
