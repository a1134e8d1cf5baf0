-- What the lines of a pool's trace say, but for the first: each is a record (our choice of format).
use Rattle.std.specs.Prelude.{ℕ, ◌+◌, nat_lt, Option, Some, None, List, [], ◌∷◌, length, codes, if◌then◌else◌}
use Rattle.std.specs.Str.{bytes_eq}
use Rattle.meet_tickets.specs.declared.records.Record.{Record}
use Rattle.meet_tickets.specs.Limits.{most_records}
use Rattle.pool_core.specs.declared.deeds.PoolDeed.{PoolDeed}
use Rattle.pool_core.specs.declared.deeds.PoolDeed.TheVariants.{Handed, Started, Kept, KeptStart, Aborted, CallerRuns}
use Rattle.pool_core.specs.declared.deeds.PoolDeed.TheVariants.{Dropped, DroppedOldest, Runs, Waits, Exits, Finished}
use Rattle.pool_core.specs.declared.deeds.PoolDeed.TheVariants.{IdleExit, Leaves, StartFailed, ShutDown, ShutDownNow}
use Rattle.meet_run.specs.Texts.Words.{word_of, rest_of, number_spelled}
use Rattle.meet_run.specs.Texts.Grammar.{◌>>=◌, seat_of}
use Rattle.meet_run.specs.Tracing.TraceGrammar.{ticket_in, ticket_of}

-- the deed of a word that stands alone
unfoldable pub bare_deed_of : (word : List ℕ) → Option (PoolDeed ℕ)
bare_deed_of word =
    if bytes_eq word (codes "waits") then Some Waits else (
    if bytes_eq word (codes "exits") then Some Exits else (
    if bytes_eq word (codes "idle-exit") then Some IdleExit else (
    if bytes_eq word (codes "leaves") then Some Leaves else (
    if bytes_eq word (codes "start-failed") then Some StartFailed else (
    if bytes_eq word (codes "shut-down") then Some ShutDown else None)))))

-- the deed of a word with one number behind it: a job, what a job answered, or how many jobs come back
unfoldable pub numbered_deed_of : (word : List ℕ) → (number : ℕ) → Option (PoolDeed ℕ)
numbered_deed_of word number =
    if bytes_eq word (codes "kept") then Some (Kept number) else (
    if bytes_eq word (codes "aborted") then Some (Aborted number) else (
    if bytes_eq word (codes "caller-runs") then Some (CallerRuns number) else (
    if bytes_eq word (codes "dropped") then Some (Dropped number) else (
    if bytes_eq word (codes "finished") then Some (Finished number) else (
    if bytes_eq word (codes "shut-down-now") then Some (ShutDownNow number) else None)))))

-- the deed of a word with two numbers behind it: a worker or a ticket, and a job
unfoldable pub paired_deed_of : (word : List ℕ) → (number job : ℕ) → Option (PoolDeed ℕ)
paired_deed_of word number job =
    if bytes_eq word (codes "handed") then Some (Handed number job) else (
    if bytes_eq word (codes "started") then Some (Started number job) else (
    if bytes_eq word (codes "kept-start") then Some (KeptStart number job) else (
    if bytes_eq word (codes "runs") then (ticket_in number >>= λ ticket. Some (Runs ticket job)) else None)))

-- the deed of a word with a ticket and two jobs behind it
unfoldable pub tripled_deed_of : (word : List ℕ) → (ticket oldest job : ℕ) → Option (PoolDeed ℕ)
tripled_deed_of word ticket oldest job =
    if bytes_eq word (codes "dropped-oldest") then Some (DroppedOldest ticket oldest job) else None

-- the deed of a word and its first number, the next word, and the rest of the line: nothing, or a space and a number
unfoldable pub deed_behind_one : (word : List ℕ) → (first : ℕ) → (second rest : List ℕ) → Option (PoolDeed ℕ)
deed_behind_one word first second [] = number_spelled second >>= paired_deed_of word first
deed_behind_one word first second (space ∷ text) = do
  ticket ← ticket_in first
  oldest ← number_spelled second
  job ← number_spelled text
  tripled_deed_of word ticket oldest job

-- the deed of a word and a number, by the rest of the line
unfoldable pub deed_with : (word : List ℕ) → (first : ℕ) → (rest : List ℕ) → Option (PoolDeed ℕ)
deed_with word first [] = numbered_deed_of word first
deed_with word first (space ∷ text) = deed_behind_one word first (word_of text) (rest_of text)

-- the deed of a word and the rest of its line
unfoldable pub deed_of : (word rest : List ℕ) → Option (PoolDeed ℕ)
deed_of word [] = bare_deed_of word
deed_of word (space ∷ text) = number_spelled (word_of text) >>= λ first. deed_with word first (rest_of text)

-- the deed behind a ticket
unfoldable pub deed_behind : (rest : List ℕ) → Option (PoolDeed ℕ)
deed_behind [] = None
deed_behind (space ∷ text) = deed_of (word_of text) (rest_of text)

-- the record of a seat, by what stands behind the seat
unfoldable pub record_behind : (seat : ℕ) → (rest : List ℕ) → Option (Record (PoolDeed ℕ))
record_behind seat [] = None
record_behind seat (space ∷ text) = do
  ticket ← ticket_of (word_of text)
  deed ← deed_behind (rest_of text)
  Some (record { seat = seat; ticket = ticket; deed = deed })

-- the record of a line, however long
unfoldable pub record_in : (line : List ℕ) → Option (Record (PoolDeed ℕ))
record_in line = do
  seat ← seat_of (word_of line)
  record_behind seat (rest_of line)

-- the record of a line of a pool's trace
unfoldable pub pool_record_of : (line : List ℕ) → Option (Record (PoolDeed ℕ))
pool_record_of line = if nat_lt 128 (length line) then None else record_in line

-- the record of a line with this number: a trace has at most 1,048,576 of them, and no line behind these (our choice)
unfoldable pub pool_record_at : (n : ℕ) → (line : List ℕ) → Option (Record (PoolDeed ℕ))
pool_record_at n line = if nat_lt (most_records + 1) n then None else pool_record_of line
