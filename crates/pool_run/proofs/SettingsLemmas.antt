-- A first line reads as what a pool is made with exactly where it is its one spelling.
use Rattle.std.proofs.Common.{◌≡◌, ℕ, ◌^◌, ◌<◌, ◌≤◌, Bool, true, false, ltb, List, [], ◌∷◌, ◌++◌, length, Option, Some, None, refl, sym, ap, subst, ◌∙◌, append_assoc, arith}
use Rattle.std.specs.Prelude.{decimal, codes, IfSome}
use Rattle.std.specs.Option.{option_map_or}
use Rattle.std.proofs.lemmas.Bool.{lt-ltb, le-ltb, ltb-false, eq-eqb}
use Rattle.meet_tickets.specs.declared.places.Order.TheVariants.{Fair, Unfair, Transfer}
use Rattle.pool_core.specs.declared.settings.Sizes.{Sizes}
use Rattle.pool_core.specs.declared.settings.PoolQueue.{PoolQueue}
use Rattle.pool_core.specs.declared.settings.PoolQueue.TheVariants.{Hand, Unbounded, Bounded}
use Rattle.pool_core.specs.declared.settings.Policy.{Policy}
use Rattle.pool_core.specs.declared.settings.Policy.TheVariants.{Abort, CallerRuns, Discard, DiscardOldest}
use Rattle.pool_core.specs.declared.settings.Settings.{Settings}
use Rattle.meet_run.specs.Texts.Words.{word_of, rest_of, behind, number_spelled}
use Rattle.meet_run.proofs.Texts.WordLemmas.{number_spelled-is, number_spelled-decimal, behind-is, word-rest, IsTail, tail-space, no_space-decimal}
use Rattle.meet_run.proofs.Texts.GrammarLemmas.{bind-some, chosen, chosen-second}
use Rattle.pool_run.specs.FirstLines.{number_behind, timeout_in, sizes_in, bounded_in, queue_in, policy_of, policy_in, settings_in, settings_of}
use Rattle.pool_run.specs.Spelling.{timeout_text, sizes_text, queue_text, policy_text, settings_text, FitsSizes, FitsQueue, FitsSettings, SettingsHaveOneSpelling}

-- ---- what is read is spelled

-- a number behind its name, and what follows it
abbrev IsNumber : (name rest : List ℕ) → ℕ × List ℕ → Type 0
IsNumber name rest found = (rest ≡ name ++ (decimal found.0 ++ found.1)) × (found.0 < 2 ^ 64)

number-is : (name rest : List ℕ) (found : ℕ × List ℕ) → number_behind name rest ≡ Some found → IsNumber name rest found
unfolding number_behind
number-is name rest found e =
    let t = bind-some (behind name rest) _ found e in
    let n = bind-some (number_spelled (word_of t.0)) _ found t.2 in
    let number = number_spelled-is (word_of t.0) n.0 n.1 in
    let text : t.0 ≡ decimal n.0 ++ rest_of t.0 = sym (word-rest t.0) ∙ ap (λ (w : List ℕ). w ++ rest_of t.0) number.0 in
    let made : ℕ × List ℕ = (n.0, rest_of t.0) in
    let same : made ≡ found = (let inner : Some made ≡ Some found = n.2 in cc) in
    subst (λ (f : ℕ × List ℕ). IsNumber name rest f) same (behind-is name rest t.0 t.1 ∙ ap (λ (x : List ℕ). name ++ x) text, number.1)

timeout-is : (rest : List ℕ) (found : Bool × List ℕ) → timeout_in rest ≡ found → rest ≡ timeout_text found.0 ++ found.1
unfolding timeout_in
timeout-is rest found e = go (behind (codes " timeout") rest) refl e
  where
    go : (o : Option (List ℕ)) → behind (codes " timeout") rest ≡ o → option_map_or (λ text. (true, text)) o (false, rest) ≡ found → rest ≡ timeout_text found.0 ++ found.1
    go None is e = subst (λ (f : Bool × List ℕ). rest ≡ timeout_text f.0 ++ f.1) e refl
    go (Some text) is e = subst (λ (f : Bool × List ℕ). rest ≡ timeout_text f.0 ++ f.1) e (behind-is (codes " timeout") rest text is)

-- a number behind its name and what follows it, of which a part is told with it
glued : (name : List ℕ) (n : ℕ) (more tail : List ℕ) → name ++ (decimal n ++ (more ++ tail)) ≡ (name ++ (decimal n ++ more)) ++ tail
glued name n more tail =
    ap (λ (t : List ℕ). name ++ t) (sym (append_assoc (decimal n) more tail)) ∙ sym (append_assoc name (decimal n ++ more) tail)

step : (name rest : List ℕ) (found : ℕ × List ℕ) (more tail : List ℕ) → IsNumber name rest found → found.1 ≡ more ++ tail → rest ≡ (name ++ (decimal found.0 ++ more)) ++ tail
step name rest found more tail is next =
    is.0 ∙ (ap (λ (t : List ℕ). name ++ (decimal found.0 ++ t)) next ∙ glued name found.0 more tail)

sizes-is : (line : List ℕ) (found : Sizes × List ℕ) → sizes_in line ≡ Some found → (line ≡ sizes_text found.0 ++ found.1) × FitsSizes found.0
unfolding sizes_in
sizes-is line found e =
    let a = bind-some (number_behind (codes "pool core ") line) _ found e in
    let b = bind-some (number_behind (codes " maximum ") a.0.1) _ found a.2 in
    let c = bind-some (number_behind (codes " callers ") b.0.1) _ found b.2 in
    let d = bind-some (number_behind (codes " keep ") c.0.1) _ found c.2 in
    let t : Bool × List ℕ = timeout_in d.0.1 in
    let core = number-is (codes "pool core ") line a.0 a.1 in
    let maximum = number-is (codes " maximum ") a.0.1 b.0 b.1 in
    let callers = number-is (codes " callers ") b.0.1 c.0 c.1 in
    let keep = number-is (codes " keep ") c.0.1 d.0 d.1 in
    let z : Sizes = record { core = a.0.0; maximum = b.0.0; callers = c.0.0; keep_alive = d.0.0; core_timeout = t.0 } in
    let m0 : List ℕ = timeout_text t.0 in
    let m1 : List ℕ = codes " keep " ++ (decimal d.0.0 ++ m0) in
    let m2 : List ℕ = codes " callers " ++ (decimal c.0.0 ++ m1) in
    let m3 : List ℕ = codes " maximum " ++ (decimal b.0.0 ++ m2) in
    let s0 : d.0.1 ≡ m0 ++ t.1 = timeout-is d.0.1 t refl in
    let s1 : c.0.1 ≡ m1 ++ t.1 = step (codes " keep ") c.0.1 d.0 m0 t.1 keep s0 in
    let s2 : b.0.1 ≡ m2 ++ t.1 = step (codes " callers ") b.0.1 c.0 m1 t.1 callers s1 in
    let s3 : a.0.1 ≡ m3 ++ t.1 = step (codes " maximum ") a.0.1 b.0 m2 t.1 maximum s2 in
    let s4 : line ≡ sizes_text z ++ t.1 = step (codes "pool core ") line a.0 m3 t.1 core s3 in
    let made : Sizes × List ℕ = (z, t.1) in
    let same : made ≡ found = (let inner : Some made ≡ Some found = d.2 in cc) in
    subst (λ (f : Sizes × List ℕ). (line ≡ sizes_text f.0 ++ f.1) × FitsSizes f.0) same (s4, record { core = core.1; maximum = maximum.1; callers = callers.1; keep = keep.1 })

-- what a dispatch on a prefix chose
prefixed : {A : Type 0} (prefix rest : List ℕ) (f : List ℕ → Option A) (other : Option A) (x : A) (P : Type 0) → option_map_or f (behind prefix rest) other ≡ Some x → ((text : List ℕ) → rest ≡ prefix ++ text → f text ≡ Some x → P) → (other ≡ Some x → P) → P
prefixed {A} prefix rest f other x P e this more = go (behind prefix rest) refl e
  where
    go : (o : Option (List ℕ)) → behind prefix rest ≡ o → option_map_or f o other ≡ Some x → P
    go None is e = more e
    go (Some text) is e = this text (behind-is prefix rest text is) e

-- a queue was taken from the front of a line's rest
abbrev IsQueue : (rest : List ℕ) → PoolQueue × List ℕ → Type 0
IsQueue rest found = (rest ≡ queue_text found.0 ++ found.1) × FitsQueue found.0

queued : (rest text : List ℕ) (q : PoolQueue) (found : PoolQueue × List ℕ) → FitsQueue q → rest ≡ queue_text q ++ text → Some (q, text) ≡ Some found → IsQueue rest found
queued rest text q found fits is e =
    let made : PoolQueue × List ℕ = (q, text) in
    let same : made ≡ found = (let inner : Some made ≡ Some found = e in cc) in
    subst (λ (f : PoolQueue × List ℕ). IsQueue rest f) same (is, fits)

bounded-is : (rest : List ℕ) (found : PoolQueue × List ℕ) → bounded_in rest ≡ Some found → IsQueue rest found
unfolding bounded_in
bounded-is rest found e =
    let b = bind-some (number_behind (codes " bounded ") rest) _ found e in
    let n = number-is (codes " bounded ") rest b.0 b.1 in
    queued rest b.0.1 (Bounded b.0.0) found n.1 (n.0 ∙ sym (append_assoc (codes " bounded ") (decimal b.0.0) b.0.1)) b.2

queue-is : (rest : List ℕ) (found : PoolQueue × List ℕ) → queue_in rest ≡ Some found → IsQueue rest found
unfolding queue_in
queue-is rest found e =
    let P : Type 0 = IsQueue rest found in
    prefixed (codes " hand fair") rest (λ text. Some (Hand Fair, text)) _ found P e (λ text is f. queued rest text (Hand Fair) found refl is f) (λ e1.
    prefixed (codes " hand unfair") rest (λ text. Some (Hand Unfair, text)) _ found P e1 (λ text is f. queued rest text (Hand Unfair) found refl is f) (λ e2.
    prefixed (codes " unbounded") rest (λ text. Some (Unbounded, text)) _ found P e2 (λ text is f. queued rest text Unbounded found tt is f) (bounded-is rest found)))

policy_word-is : (word : List ℕ) (policy : Policy) → policy_of word ≡ Some policy → word ≡ policy_text policy
unfolding policy_of
policy_word-is word policy e =
    let P : Type 0 = word ≡ policy_text policy in
    chosen word (codes "abort") (Some Abort) _ policy P e (λ is f. let same : Abort ≡ policy = cc in is ∙ ap (λ (p : Policy). policy_text p) same) (λ e1.
    chosen word (codes "caller-runs") (Some CallerRuns) _ policy P e1 (λ is f. let same : CallerRuns ≡ policy = cc in is ∙ ap (λ (p : Policy). policy_text p) same) (λ e2.
    chosen word (codes "discard") (Some Discard) _ policy P e2 (λ is f. let same : Discard ≡ policy = cc in is ∙ ap (λ (p : Policy). policy_text p) same) (λ e3.
    chosen word (codes "discard-oldest") (Some DiscardOldest) _ policy P e3 (λ is f. let same : DiscardOldest ≡ policy = cc in is ∙ ap (λ (p : Policy). policy_text p) same) (λ e4. absurd cc))))

policy-is : (rest : List ℕ) (policy : Policy) → policy_in rest ≡ Some policy → rest ≡ codes " policy " ++ policy_text policy
unfolding policy_in
policy-is rest policy e =
    let b = bind-some (behind (codes " policy ") rest) policy_of policy e in
    behind-is (codes " policy ") rest b.0 b.1 ∙ ap (λ (t : List ℕ). codes " policy " ++ t) (policy_word-is b.0 policy b.2)

-- a text spells what a pool is made with, in its limits
abbrev pub Spells : (line : List ℕ) → Settings → Type 0
Spells line s = (line ≡ settings_text s) × FitsSizes s.sizes × FitsQueue s.queue

-- what the pool of a line is made with is spelled there
pub settings_in-is : (line : List ℕ) (s : Settings) → settings_in line ≡ Some s → Spells line s
unfolding settings_in
settings_in-is line s e =
    let a = bind-some (sizes_in line) _ s e in
    let b = bind-some (queue_in a.0.1) _ s a.2 in
    let c = bind-some (policy_in b.0.1) _ s b.2 in
    let sizes = sizes-is line a.0 a.1 in
    let queue = queue-is a.0.1 b.0 b.1 in
    let policy = policy-is b.0.1 c.0 c.1 in
    let found : Settings = record { sizes = a.0.0; queue = b.0.0; policy = c.0 } in
    let rest : a.0.1 ≡ queue_text b.0.0 ++ (codes " policy " ++ policy_text c.0) = queue.0 ∙ ap (λ (t : List ℕ). queue_text b.0.0 ++ t) policy in
    let spelled : line ≡ settings_text found = sizes.0 ∙ ap (λ (t : List ℕ). sizes_text a.0.0 ++ t) rest in
    let same : found ≡ s = (let inner : Some found ≡ Some s = c.2 in cc) in
    subst (λ (x : Settings). Spells line x) same (spelled, sizes.1, queue.1)

-- ---- what is spelled is read

behind-again : (prefix rest : List ℕ) → behind prefix (prefix ++ rest) ≡ Some rest
unfolding behind
behind-again [] rest = refl
behind-again (c ∷ prefix) rest = rw (eq-eqb c c refl) (behind-again prefix rest)

number-again : (name : List ℕ) (n : ℕ) (rest : List ℕ) → n < 2 ^ 64 → IsTail rest → number_behind name (name ++ (decimal n ++ rest)) ≡ Some (n, rest)
unfolding number_behind
number-again name n rest lt tail =
    let cut = tail (decimal n) (no_space-decimal n lt) in
    rw (behind-again name (decimal n ++ rest), cut.0, cut.1, number_spelled-decimal n lt) refl

-- what may stand behind the sizes
abbrev IsBehindSizes : (rest : List ℕ) → Type 0
IsBehindSizes rest = IsTail rest × (behind (codes " timeout") rest ≡ None)

timeout-again : (b : Bool) (rest : List ℕ) → behind (codes " timeout") rest ≡ None → timeout_in (timeout_text b ++ rest) ≡ (b, rest)
unfolding timeout_in
timeout-again true rest h = rw (behind-again (codes " timeout") rest) refl
timeout-again false rest h = rw h refl

timeout-tail : (b : Bool) (rest : List ℕ) → IsTail rest → IsTail (timeout_text b ++ rest)
timeout-tail true rest h = tail-space _
timeout-tail false rest h = h

sizes-again : (z : Sizes) (rest : List ℕ) → FitsSizes z → IsBehindSizes rest → sizes_in (sizes_text z ++ rest) ≡ Some (z, rest)
unfolding sizes_in
sizes-again z rest fits h =
    let m0 : List ℕ = timeout_text z.core_timeout in
    let m1 : List ℕ = codes " keep " ++ (decimal z.keep_alive ++ m0) in
    let m2 : List ℕ = codes " callers " ++ (decimal z.callers ++ m1) in
    let m3 : List ℕ = codes " maximum " ++ (decimal z.maximum ++ m2) in
    let t3 : IsTail (m3 ++ rest) = tail-space _ in
    let t2 : IsTail (m2 ++ rest) = tail-space _ in
    let t1 : IsTail (m1 ++ rest) = tail-space _ in
    let t0 : IsTail (m0 ++ rest) = timeout-tail z.core_timeout rest h.0 in
    let core : number_behind (codes "pool core ") (sizes_text z ++ rest) ≡ Some (z.core, m3 ++ rest)
    = ap (λ (t : List ℕ). number_behind (codes "pool core ") t) (sym (glued (codes "pool core ") z.core m3 rest)) ∙ number-again (codes "pool core ") z.core (m3 ++ rest) fits.core t3 in
    let maximum : number_behind (codes " maximum ") (m3 ++ rest) ≡ Some (z.maximum, m2 ++ rest)
    = ap (λ (t : List ℕ). number_behind (codes " maximum ") t) (sym (glued (codes " maximum ") z.maximum m2 rest)) ∙ number-again (codes " maximum ") z.maximum (m2 ++ rest) fits.maximum t2 in
    let callers : number_behind (codes " callers ") (m2 ++ rest) ≡ Some (z.callers, m1 ++ rest)
    = ap (λ (t : List ℕ). number_behind (codes " callers ") t) (sym (glued (codes " callers ") z.callers m1 rest)) ∙ number-again (codes " callers ") z.callers (m1 ++ rest) fits.callers t1 in
    let keep : number_behind (codes " keep ") (m1 ++ rest) ≡ Some (z.keep_alive, m0 ++ rest)
    = ap (λ (t : List ℕ). number_behind (codes " keep ") t) (sym (glued (codes " keep ") z.keep_alive m0 rest)) ∙ number-again (codes " keep ") z.keep_alive (m0 ++ rest) fits.keep t0 in
    rw (core, maximum, callers, keep, timeout-again z.core_timeout rest h.1) refl

bounded-again : (most : ℕ) (tail : List ℕ) → most < 2 ^ 64 → IsTail tail → bounded_in (queue_text (Bounded most) ++ tail) ≡ Some (Bounded most, tail)
unfolding bounded_in
bounded-again most tail lt h =
    let flat : queue_text (Bounded most) ++ tail ≡ codes " bounded " ++ (decimal most ++ tail) = append_assoc (codes " bounded ") (decimal most) tail in
    let number : number_behind (codes " bounded ") (queue_text (Bounded most) ++ tail) ≡ Some (most, tail)
    = ap (λ (t : List ℕ). number_behind (codes " bounded ") t) flat ∙ number-again (codes " bounded ") most tail lt h in
    rw number refl

queue-again : (q : PoolQueue) (tail : List ℕ) → FitsQueue q → IsTail tail → queue_in (queue_text q ++ tail) ≡ Some (q, tail)
unfolding queue_in behind
queue-again (Hand Fair) tail fits h = refl
queue-again (Hand Unfair) tail fits h = refl
queue-again (Hand Transfer) tail fits h = absurd (let no : true ≡ false = fits in cc)
queue-again Unbounded tail fits h = refl
queue-again (Bounded most) tail fits h = bounded-again most tail fits h

queue-behind : (q : PoolQueue) (tail : List ℕ) → IsBehindSizes (queue_text q ++ tail)
unfolding behind
queue-behind (Hand order) tail = (tail-space _, refl)
queue-behind Unbounded tail = (tail-space _, refl)
queue-behind (Bounded most) tail = (tail-space _, refl)

policy_word-again : (policy : Policy) → policy_of (policy_text policy) ≡ Some policy
unfolding policy_of
policy_word-again Abort = refl
policy_word-again CallerRuns = refl
policy_word-again Discard = refl
policy_word-again DiscardOldest = refl

policy-again : (policy : Policy) → policy_in (codes " policy " ++ policy_text policy) ≡ Some policy
unfolding policy_in
policy-again policy = rw (behind-again (codes " policy ") (policy_text policy)) (policy_word-again policy)

pub settings_in-again : (s : Settings) → FitsSizes s.sizes → FitsQueue s.queue → settings_in (settings_text s) ≡ Some s
unfolding settings_in
settings_in-again s sizes queue =
    let end : List ℕ = codes " policy " ++ policy_text s.policy in
    rw (sizes-again s.sizes (queue_text s.queue ++ end) sizes (queue-behind s.queue end), queue-again s.queue end queue (tail-space _), policy-again s.policy) refl

-- ---- the law

reads : (line : List ℕ) (s : Settings) → settings_of line ≡ Some s → (line ≡ settings_text s) × FitsSettings s
unfolding settings_of
reads line s e =
    let whole = chosen-second (ltb 128 (length line)) (settings_in line) s e in
    let is = settings_in-is line s whole.1 in
    let short : length line ≤ 128 = omega (arith, ltb-false 128 (length line) whole.0) in
    (is.0, record { sizes = is.1; queue = is.2; short = subst (λ (l : List ℕ). length l ≤ 128) is.0 short })

again : (s : Settings) → FitsSettings s → settings_of (settings_text s) ≡ Some s
unfolding settings_of
again s fits = rw (le-ltb 128 (length (settings_text s)) fits.short) (settings_in-again s fits.sizes fits.queue)

pub settings-have-one-spelling : SettingsHaveOneSpelling
settings-have-one-spelling line s = (reads line s, λ p. ap (λ (l : List ℕ). settings_of l) p.0 ∙ again s p.1)

-- what is read is in its limits
pub settings-limits : (line : List ℕ) (o : Option Settings) → length line ≤ 128 → o ≡ settings_in line → IfSome o FitsSettings
settings-limits line None short is = tt
settings-limits line (Some s) short is =
    let found = settings_in-is line s (sym is) in
    record { sizes = found.1; queue = found.2; short = subst (λ (l : List ℕ). length l ≤ 128) found.0 short }

pub settings-too_long : (line : List ℕ) → 128 < length line → settings_of line ≡ None
unfolding settings_of
settings-too_long line long = rw (lt-ltb 128 (length line) long) refl
