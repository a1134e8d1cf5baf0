-- The one spelling of a call, of what a pool is made with, and of a trace's first line.
use Rattle.std.specs.Prelude.{◌≡◌, ◌↔◌, ◌<◌, ◌≤◌, ℕ, ◌^◌, Bool, true, false, Some, None, ⊤, List, [], ◌∷◌, ◌++◌, length}
use Rattle.std.specs.Prelude.{codes, decimal}
use Rattle.meet_tickets.specs.Limits.{most_seats}
use Rattle.meet_tickets.specs.Meeting.{keeps}
use Rattle.pool_core.specs.declared.settings.Sizes.{Sizes}
use Rattle.pool_core.specs.declared.settings.PoolQueue.{PoolQueue}
use Rattle.pool_core.specs.declared.settings.PoolQueue.TheVariants.{Hand, Unbounded, Bounded}
use Rattle.pool_core.specs.declared.settings.Policy.{Policy}
use Rattle.pool_core.specs.declared.settings.Policy.TheVariants.{Abort, CallerRuns, Discard, DiscardOldest}
use Rattle.pool_core.specs.declared.settings.Settings.{Settings}
use Rattle.pool_core.specs.Calls.{settings_refusal}
use Rattle.pool_history.specs.declared.one_thread.verbs.PoolRequest.{PoolRequest}
use Rattle.pool_history.specs.declared.one_thread.verbs.PoolVerb.{PoolVerb}
use Rattle.pool_history.specs.declared.one_thread.verbs.PoolVerb.TheVariants.{Execute, Ready, Follow, Finish, Idle}
use Rattle.pool_history.specs.declared.one_thread.verbs.PoolVerb.TheVariants.{Leave, Failed, ShutDown, Now, Counters}
use Rattle.pool_history.specs.declared.one_thread.verbs.PoolVerb.TheVariants.{Checkpoint}
use Rattle.meet_run.specs.Scripts.Spelling.{place_text}
use Rattle.pool_run.specs.Requests.{request_of}
use Rattle.pool_run.specs.FirstLines.{settings_of, pool_head_of}

-- a verb's word, and its number
abbrev pub verb_text : PoolVerb → List ℕ
verb_text (Execute job) = codes "execute " ++ decimal job
verb_text Ready = codes "ready"
verb_text Follow = codes "follow"
verb_text (Finish answer) = codes "finish " ++ decimal answer
verb_text Idle = codes "idle"
verb_text Leave = codes "leave"
verb_text Failed = codes "failed"
verb_text ShutDown = codes "shutdown"
verb_text Now = codes "now"
verb_text Counters = codes "counters"
verb_text Checkpoint = codes "checkpoint"

-- the one spelling of a call: its seat and its verb
abbrev pub request_text : PoolRequest → List ℕ
request_text request = decimal request.seat ++ 32 ∷ verb_text request.verb

-- a verb's number is in its limits
abbrev pub FitsVerb : PoolVerb → Type 0
FitsVerb (Execute job) = job < 2 ^ 64
FitsVerb (Finish answer) = answer < 2 ^ 64
FitsVerb verb = ⊤

-- a call has its numbers in their limits
pub record FitsRequest (request : PoolRequest) : Type 0 where
  pub seat : request.seat < most_seats
  pub verb : FitsVerb request.verb

-- a line reads as a call exactly where it is that call's one spelling
abbrev pub RequestsHaveOneSpelling : Type 0
RequestsHaveOneSpelling =
    (line : List ℕ) (request : PoolRequest)
    → (request_of line ≡ Some request) ↔ ((line ≡ request_text request) × FitsRequest request)

-- the word of a timeout, where there is one
abbrev pub timeout_text : Bool → List ℕ
timeout_text true = codes " timeout"
timeout_text false = []

-- the sizes, each behind its name
abbrev pub sizes_text : Sizes → List ℕ
sizes_text z =
    codes "pool core " ++ (decimal z.core ++ (codes " maximum " ++ (decimal z.maximum
    ++ (codes " callers " ++ (decimal z.callers ++ (codes " keep " ++ (decimal z.keep_alive
    ++ timeout_text z.core_timeout)))))))

-- a queue by its words, each with a space in front
abbrev pub queue_text : PoolQueue → List ℕ
queue_text (Hand order) = codes " hand " ++ place_text order
queue_text Unbounded = codes " unbounded"
queue_text (Bounded most) = codes " bounded " ++ decimal most

-- a policy's word
abbrev pub policy_text : Policy → List ℕ
policy_text Abort = codes "abort"
policy_text CallerRuns = codes "caller-runs"
policy_text Discard = codes "discard"
policy_text DiscardOldest = codes "discard-oldest"

-- the one spelling of what a pool is made with
abbrev pub settings_text : Settings → List ℕ
settings_text s = sizes_text s.sizes ++ (queue_text s.queue ++ (codes " policy " ++ policy_text s.policy))

-- each size is a number of a line
pub record FitsSizes (z : Sizes) : Type 0 where
  pub core : z.core < 2 ^ 64
  pub maximum : z.maximum < 2 ^ 64
  pub callers : z.callers < 2 ^ 64
  pub keep : z.keep_alive < 2 ^ 64

-- a queue that hands jobs over keeps none, and a bound is a number of a line
abbrev pub FitsQueue : PoolQueue → Type 0
FitsQueue (Hand order) = keeps order ≡ false
FitsQueue Unbounded = ⊤
FitsQueue (Bounded most) = most < 2 ^ 64

-- what a pool is made with has its numbers in their limits, and its spelling is no longer than a line
pub record FitsSettings (s : Settings) : Type 0 where
  pub sizes : FitsSizes s.sizes
  pub queue : FitsQueue s.queue
  pub short : length (settings_text s) ≤ 128

-- a first line reads as what a pool is made with exactly where it is its one spelling
abbrev pub SettingsHaveOneSpelling : Type 0
SettingsHaveOneSpelling =
    (line : List ℕ) (s : Settings) → (settings_of line ≡ Some s) ↔ ((line ≡ settings_text s) × FitsSettings s)

-- the one spelling of a trace's first line: its format, and what the pool is made with
abbrev pub pool_head_text : Settings → List ℕ
pool_head_text s = codes "trace 1 " ++ settings_text s

-- a pool can be made of these, and its keep-alive is a number of a line
pub record FitsPoolHead (s : Settings) : Type 0 where
  pub made : settings_refusal s ≡ None
  pub keep : s.sizes.keep_alive < 2 ^ 64

-- a trace's first line reads as what a pool is made with exactly where it is its one spelling
abbrev pub PoolHeadsHaveOneSpelling : Type 0
PoolHeadsHaveOneSpelling =
    (line : List ℕ) (s : Settings) → (pool_head_of line ≡ Some s) ↔ ((line ≡ pool_head_text s) × FitsPoolHead s)
