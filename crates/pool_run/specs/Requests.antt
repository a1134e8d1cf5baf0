-- What the lines of a pool's script say, but for the first: each is a call.
use Rattle.std.specs.Prelude.{ℕ, nat_lt, Option, Some, None, List, [], ◌∷◌, length, codes, if◌then◌else◌}
use Rattle.std.specs.Str.{bytes_eq}
use Rattle.pool_history.specs.declared.one_thread.verbs.PoolRequest.{PoolRequest}
use Rattle.pool_history.specs.declared.one_thread.verbs.PoolVerb.{PoolVerb}
use Rattle.pool_history.specs.declared.one_thread.verbs.PoolVerb.TheVariants.{Execute, Ready, Follow, Finish, Idle}
use Rattle.pool_history.specs.declared.one_thread.verbs.PoolVerb.TheVariants.{Leave, Failed, ShutDown, Now, Counters}
use Rattle.pool_history.specs.declared.one_thread.verbs.PoolVerb.TheVariants.{Checkpoint}
use Rattle.meet_run.specs.Texts.Words.{word_of, rest_of, number_spelled}
use Rattle.meet_run.specs.Texts.Grammar.{◌>>=◌, seat_of}

-- the verb of a word that stands alone
unfoldable pub bare_verb_of : (word : List ℕ) → Option PoolVerb
bare_verb_of word =
    if bytes_eq word (codes "ready") then Some Ready else (
    if bytes_eq word (codes "follow") then Some Follow else (
    if bytes_eq word (codes "idle") then Some Idle else (
    if bytes_eq word (codes "leave") then Some Leave else (
    if bytes_eq word (codes "failed") then Some Failed else (
    if bytes_eq word (codes "shutdown") then Some ShutDown else (
    if bytes_eq word (codes "now") then Some Now else (
    if bytes_eq word (codes "counters") then Some Counters else (
    if bytes_eq word (codes "checkpoint") then Some Checkpoint else None))))))))

-- the verb of a word with a number behind it: a job, or what a job answered
unfoldable pub numbered_verb_of : (word : List ℕ) → (number : ℕ) → Option PoolVerb
numbered_verb_of word number =
    if bytes_eq word (codes "execute") then Some (Execute number) else (
    if bytes_eq word (codes "finish") then Some (Finish number) else None)

-- the verb of a word and the rest of its line: nothing, or a space and a number
unfoldable pub verb_of : (word rest : List ℕ) → Option PoolVerb
verb_of word [] = bare_verb_of word
verb_of word (space ∷ text) = number_spelled text >>= numbered_verb_of word

-- the verb behind a line's first word
unfoldable pub verb_behind : (rest : List ℕ) → Option PoolVerb
verb_behind [] = None
verb_behind (space ∷ text) = verb_of (word_of text) (rest_of text)

-- the call of a line, however long
unfoldable pub request_in : (line : List ℕ) → Option PoolRequest
request_in line = do
  seat ← seat_of (word_of line)
  verb ← verb_behind (rest_of line)
  Some (record { seat = seat; verb = verb })

-- the call of a line of a pool's script
unfoldable pub request_of : (line : List ℕ) → Option PoolRequest
request_of line = if nat_lt 128 (length line) then None else request_in line
