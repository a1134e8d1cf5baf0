-- What a first line says: a script's names what a pool is made with, and so does a trace's, behind its format.
use Rattle.std.specs.Prelude.{ℕ, nat_lt, Bool, true, false, Option, Some, None, is_none, List, length, codes}
use Rattle.std.specs.Prelude.{if◌then◌else◌}
use Rattle.std.specs.Option.{option_map_or}
use Rattle.std.specs.Str.{bytes_eq}
use Rattle.meet_tickets.specs.declared.places.Order.TheVariants.{Fair, Unfair}
use Rattle.pool_core.specs.declared.settings.Sizes.{Sizes}
use Rattle.pool_core.specs.declared.settings.PoolQueue.{PoolQueue}
use Rattle.pool_core.specs.declared.settings.PoolQueue.TheVariants.{Hand, Unbounded, Bounded}
use Rattle.pool_core.specs.declared.settings.Policy.{Policy}
use Rattle.pool_core.specs.declared.settings.Policy.TheVariants.{Abort, CallerRuns, Discard, DiscardOldest}
use Rattle.pool_core.specs.declared.settings.Settings.{Settings}
use Rattle.pool_core.specs.Calls.{settings_refusal}
use Rattle.meet_run.specs.Texts.Words.{word_of, rest_of, behind, number_spelled}
use Rattle.meet_run.specs.Texts.Grammar.{◌>>=◌, provided}

-- a number behind its name, and the rest of the line
unfoldable pub number_behind : (name rest : List ℕ) → Option (ℕ × List ℕ)
number_behind name rest = do
  text ← behind name rest
  number ← number_spelled (word_of text)
  Some (number, rest_of text)

-- whether core workers' waits end too, and the rest of the line
unfoldable pub timeout_in : (rest : List ℕ) → Bool × List ℕ
timeout_in rest = option_map_or (λ text. (true, text)) (behind (codes " timeout") rest) (false, rest)

-- the sizes at the front of a line, and the rest of it
unfoldable pub sizes_in : (line : List ℕ) → Option (Sizes × List ℕ)
sizes_in line = do
  core ← number_behind (codes "pool core ") line
  maximum ← number_behind (codes " maximum ") core.1
  callers ← number_behind (codes " callers ") maximum.1
  keep ← number_behind (codes " keep ") callers.1
  Some (
    record {
      core = core.0;
      maximum = maximum.0;
      callers = callers.0;
      keep_alive = keep.0;
      core_timeout = (timeout_in keep.1).0;
    },
    (timeout_in keep.1).1,
  )

-- a queue with a bound, and the rest of the line
unfoldable pub bounded_in : (rest : List ℕ) → Option (PoolQueue × List ℕ)
bounded_in rest = number_behind (codes " bounded ") rest >>= λ bound. Some (Bounded bound.0, bound.1)

-- a queue by its words, each with a space in front, and the rest of the line
unfoldable pub queue_in : (rest : List ℕ) → Option (PoolQueue × List ℕ)
queue_in rest =
    option_map_or (λ text. Some (Hand Fair, text)) (behind (codes " hand fair") rest) (
    option_map_or (λ text. Some (Hand Unfair, text)) (behind (codes " hand unfair") rest) (
    option_map_or (λ text. Some (Unbounded, text)) (behind (codes " unbounded") rest) (bounded_in rest)))

-- a policy by its word
unfoldable pub policy_of : (word : List ℕ) → Option Policy
policy_of word =
    if bytes_eq word (codes "abort") then Some Abort else (
    if bytes_eq word (codes "caller-runs") then Some CallerRuns else (
    if bytes_eq word (codes "discard") then Some Discard else (
    if bytes_eq word (codes "discard-oldest") then Some DiscardOldest else None)))

-- the policy at the end of a line
unfoldable pub policy_in : (rest : List ℕ) → Option Policy
policy_in rest = behind (codes " policy ") rest >>= policy_of

-- what the pool of a line is made with, however long the line
unfoldable pub settings_in : (line : List ℕ) → Option Settings
settings_in line = do
  sizes ← sizes_in line
  queue ← queue_in sizes.1
  policy ← policy_in queue.1
  Some (record { sizes = sizes.0; queue = queue.0; policy = policy })

-- what the pool of a script's first line is made with, whether or not it can be made
unfoldable pub settings_of : (line : List ℕ) → Option Settings
settings_of line = if nat_lt 128 (length line) then None else settings_in line

-- these settings, where a pool can be made of them
unfoldable pub makeable : Settings → Option Settings
makeable s = provided (is_none (settings_refusal s)) s

-- what the pool of a trace's first line is made with, however long the line
unfoldable pub pool_head_in : (line : List ℕ) → Option Settings
pool_head_in line = do
  text ← behind (codes "trace 1 ") line
  settings ← settings_in text
  makeable settings

-- what the pool of a trace's first line is made with
unfoldable pub pool_head_of : (line : List ℕ) → Option Settings
pool_head_of line = if nat_lt 128 (length line) then None else pool_head_in line
