-- What the lines of a script say.
use Rattle.std.specs.Prelude.{ℕ, nat_lt, Option, Some, None, unwrap_or}
use Rattle.std.specs.Prelude.{List, [], ◌∷◌, length, codes, if◌then◌else◌}
use Rattle.std.specs.Str.{bytes_eq}
use Rattle.meet_tickets.specs.declared.places.Order.{Order}
use Rattle.meet_tickets.specs.Limits.{most_seats, most_records, most_kept, last_ticket}
use Rattle.meet_history.specs.declared.one_thread.verbs.Call.{Call}
use Rattle.meet_history.specs.declared.one_thread.verbs.Verb.{Verb}
use Rattle.meet_history.specs.declared.one_thread.verbs.Verb.TheVariants.{Put, Offer, Take, Poll}
use Rattle.meet_history.specs.declared.one_thread.verbs.Verb.TheVariants.{Transfer as TransferItem, Try, Follow}
use Rattle.meet_history.specs.declared.one_thread.verbs.Verb.TheVariants.{Cancel, Expire, Interrupt, Drain, Look}
use Rattle.meet_history.specs.declared.one_thread.verbs.Verb.TheVariants.{Checkpoint}
use Rattle.meet_history.specs.declared.one_thread.verbs.Probe.TheVariants.{Size, Room, Peek, Consumers}
use Rattle.meet_run.specs.declared.script.first_line.Options.{Options}
use Rattle.meet_history.specs.declared.one_thread.setup.Setup.{Setup}
use Rattle.meet_history.specs.Served.{serves}
use Rattle.meet_run.specs.Texts.Words.{word_of, rest_of, number_spelled}
use Rattle.meet_run.specs.Texts.Grammar.{◌>>=◌, provided, seat_in, seat_of, order_of, option_in, may_have}

-- the verb of a word that stands alone
unfoldable pub bare_verb_of : (word : List ℕ) → Option Verb
bare_verb_of word =
    if bytes_eq word (codes "take") then Some Take else (
    if bytes_eq word (codes "poll") then Some Poll else (
    if bytes_eq word (codes "follow") then Some Follow else (
    if bytes_eq word (codes "cancel") then Some Cancel else (
    if bytes_eq word (codes "expire") then Some Expire else (
    if bytes_eq word (codes "size") then Some (Look Size) else (
    if bytes_eq word (codes "room") then Some (Look Room) else (
    if bytes_eq word (codes "peek") then Some (Look Peek) else (
    if bytes_eq word (codes "consumers") then Some (Look Consumers) else (
    if bytes_eq word (codes "checkpoint") then Some Checkpoint else None)))))))))

-- the interrupt of a seat
unfoldable pub interrupt_of : (number : ℕ) → Option Verb
interrupt_of number = seat_in number >>= λ target. Some (Interrupt target)

-- the verb of a word with a number behind it
unfoldable pub numbered_verb_of : (word : List ℕ) → (number : ℕ) → Option Verb
numbered_verb_of word number =
    if bytes_eq word (codes "put") then Some (Put number) else (
    if bytes_eq word (codes "offer") then Some (Offer number) else (
    if bytes_eq word (codes "transfer") then Some (TransferItem number) else (
    if bytes_eq word (codes "try") then Some (Try number) else (
    if bytes_eq word (codes "drain") then Some (Drain number) else (
    if bytes_eq word (codes "interrupt") then interrupt_of number else None)))))

-- the verb of a word and the rest of its line: nothing, or a space and a number
unfoldable pub verb_of : (word rest : List ℕ) → Option Verb
verb_of word [] = bare_verb_of word
verb_of word (space ∷ text) = number_spelled text >>= numbered_verb_of word

-- the verb behind a line's first word
unfoldable pub verb_behind : (rest : List ℕ) → Option Verb
verb_behind [] = None
verb_behind (space ∷ text) = verb_of (word_of text) (rest_of text)

-- the call of a line, whatever is served
unfoldable pub call_in : (line : List ℕ) → Option Call
call_in line = do
  seat ← seat_of (word_of line)
  verb ← verb_behind (rest_of line)
  Some (record { seat = seat; verb = verb })

-- a call that the place serves
unfoldable pub served_call : Order → Call → Option Call
served_call order call = provided (serves order call.verb) call

-- the call of a line of a script about such a place
unfoldable pub call_of : Order → (line : List ℕ) → Option Call
call_of order line = if nat_lt 128 (length line) then None else (call_in line >>= served_call order)

-- the options of a first line, each at most once and in this order
unfoldable pub written_in : (rest : List ℕ) → Option (Options × List ℕ)
written_in rest = do
  seats ← option_in (codes " seats ") most_seats rest
  cap ← option_in (codes " cap ") most_records seats.1
  first ← option_in (codes " first ") last_ticket cap.1
  bound ← option_in (codes " bound ") most_kept first.1
  Some (record { seats = seats.0; cap = cap.0; first = first.0; bound = bound.0 }, bound.1)

-- the place of an order, with the defaults of what isn't spelled out
abbrev pub setup_with : Order → Options → Setup
setup_with order written = record {
  kind = record { order = order; bound = written.bound };
  seats = unwrap_or written.seats 64;
  cap = unwrap_or written.cap most_records;
  first = unwrap_or written.first 1;
}

-- the place, where nothing is left of the line, and it may have that bound
unfoldable pub setup_at_end : Order → Options → (rest : List ℕ) → Option Setup
setup_at_end order written [] = provided (may_have order written.bound) (setup_with order written)
setup_at_end order written (b ∷ rest) = None

-- the place of a first line, however long
unfoldable pub setup_in : (line : List ℕ) → Option Setup
setup_in line = do
  order ← order_of (word_of line)
  written ← written_in (rest_of line)
  setup_at_end order written.0 written.1

-- the place of a script's first line
unfoldable pub setup_of : (line : List ℕ) → Option Setup
setup_of line = if nat_lt 128 (length line) then None else setup_in line
