-- A trace's first line reads as what a pool is made with exactly where it is its one spelling.
use Rattle.std.proofs.Common.{◌≡◌, ℕ, ◌+◌, ◌^◌, ◌<◌, ◌≤◌, Bool, true, false, cond, ltb, eqb, ◌&&◌, List, ◌++◌, length, Option, Some, None, refl, sym, ap, subst, ◌∙◌, arith, length-append, lit<, lit≤}
use Rattle.std.specs.Prelude.{decimal, codes, IfSome, is_none, ◌||◌}
use Rattle.std.proofs.lemmas.Bool.{lt-ltb, le-ltb, ltb-false, or_parts}
use Rattle.std.proofs.lemmas.Fmt.{length-decimal-le}
use Rattle.std.proofs.lemmas.Option.{cond_some}
use Rattle.meet_tickets.specs.declared.places.Order.TheVariants.{Fair, Unfair, Transfer}
use Rattle.meet_tickets.specs.declared.refusals.Refusal.{Refusal}
use Rattle.meet_tickets.specs.declared.refusals.Refusal.TheVariants.{BadSizes, PolicyNeedsBuffer}
use Rattle.meet_tickets.specs.Limits.{most_kept}
use Rattle.pool_core.specs.declared.settings.Sizes.{Sizes}
use Rattle.pool_core.specs.declared.settings.PoolQueue.{PoolQueue}
use Rattle.pool_core.specs.declared.settings.PoolQueue.TheVariants.{Hand, Unbounded, Bounded}
use Rattle.pool_core.specs.declared.settings.Policy.{Policy}
use Rattle.pool_core.specs.declared.settings.Policy.TheVariants.{Abort, CallerRuns, Discard, DiscardOldest}
use Rattle.pool_core.specs.declared.settings.Settings.{Settings}
use Rattle.pool_core.specs.Limits.{most_together}
use Rattle.pool_core.specs.Sound.{IsFit}
use Rattle.pool_core.specs.Calls.{settings_refusal, bad_queue, needs_buffer}
use Rattle.pool_core.proofs.Begun.{fits-from}
use Rattle.meet_run.specs.Texts.Words.{behind}
use Rattle.meet_run.proofs.Texts.WordLemmas.{behind-is}
use Rattle.meet_run.proofs.Texts.GrammarLemmas.{bind-some, chosen-second, number-short}
use Rattle.pool_run.specs.FirstLines.{settings_in, makeable, pool_head_in, pool_head_of}
use Rattle.pool_run.specs.Spelling.{timeout_text, sizes_text, queue_text, policy_text, pool_head_text, FitsSizes, FitsQueue, FitsPoolHead, PoolHeadsHaveOneSpelling}
use Rattle.pool_run.proofs.SettingsLemmas.{settings_in-is, settings_in-again}

-- ---- what is read is spelled

no-refusal : (o : Option Refusal) → is_none o ≡ true → o ≡ None
no-refusal None e = refl
no-refusal (Some why) e = absurd cc

makeable-is : (s found : Settings) → makeable s ≡ Some found → (s ≡ found) × (settings_refusal found ≡ None)
unfolding makeable
makeable-is s found e =
    let p = cond_some (is_none (settings_refusal s)) s found e in
    (p.1, subst (λ (x : Settings). settings_refusal x ≡ None) p.1 (no-refusal (settings_refusal s) p.0))

head_in-is : (line : List ℕ) (s : Settings) → pool_head_in line ≡ Some s → (line ≡ pool_head_text s) × FitsPoolHead s
unfolding pool_head_in
head_in-is line s e =
    let a = bind-some (behind (codes "trace 1 ") line) _ s e in
    let b = bind-some (settings_in a.0) makeable s a.2 in
    let is = settings_in-is a.0 b.0 b.1 in
    let made = makeable-is b.0 s b.2 in
    let spelled : line ≡ pool_head_text b.0 = behind-is (codes "trace 1 ") line a.0 a.1 ∙ ap (λ (t : List ℕ). codes "trace 1 " ++ t) is.0 in
    (spelled ∙ ap (λ (x : Settings). pool_head_text x) made.0, record { made = made.1; keep = subst (λ (x : Settings). x.sizes.keep_alive < 2 ^ 64) made.0 is.1.keep })

-- ---- what can be made is in the limits of a line

sizes-fit : (s : Settings) → FitsPoolHead s → FitsSizes s.sizes
sizes-fit s fits =
    let fit : IsFit s = fits-from s fits.made in
    record {
      core = omega (arith, fit.core, fit.seats);
      maximum = omega (arith, fit.seats);
      callers = omega (arith, fit.seats);
      keep = fits.keep;
    }

-- a queue that isn't refused
good : (bad_sizes bad buffer : Bool) → cond (bad_sizes || bad) (Some BadSizes) (cond buffer (Some PolicyNeedsBuffer) None) ≡ None → bad ≡ false
good true bad buffer e = absurd cc
good false true buffer e = absurd cc
good false false buffer e = refl

good-queue : (s : Settings) → settings_refusal s ≡ None → bad_queue s.queue ≡ false
good-queue s is =
    let z : Sizes = s.sizes in
    good (eqb z.callers 0 || eqb z.maximum 0 || ltb z.maximum z.core || ltb most_together (z.callers + z.maximum) || (z.core_timeout && eqb z.keep_alive 0)) (bad_queue s.queue) (needs_buffer s.policy s.queue) is

bound-within : (most : ℕ) → bad_queue (Bounded most) ≡ false → most ≤ most_kept
bound-within most e = omega (arith, ltb-false most_kept most (or_parts (eqb most 0) (ltb most_kept most) e).1)

queue-fits : (q : PoolQueue) → bad_queue q ≡ false → FitsQueue q
queue-fits (Hand Fair) e = refl
queue-fits (Hand Unfair) e = refl
queue-fits (Hand Transfer) e = absurd (let no : true ≡ false = e in cc)
queue-fits Unbounded e = tt
queue-fits (Bounded most) e = omega (arith, bound-within most e)

-- ---- and its spelling is short

small-short : (n : ℕ) → n ≤ 1024 → length (decimal n) ≤ 4
small-short n le = length-decimal-le 4 n (lit< tt) (omega arith) (omega arith)

bound-short : (n : ℕ) → n ≤ most_kept → length (decimal n) ≤ 7
bound-short n le = length-decimal-le 7 n (lit< tt) (omega arith) (omega arith)

timeout-short : (b : Bool) → length (timeout_text b) ≤ 8
timeout-short true = lit≤ tt
timeout-short false = lit≤ tt

queue-short : (q : PoolQueue) → bad_queue q ≡ false → length (queue_text q) ≤ 16
queue-short (Hand Fair) e = lit≤ tt
queue-short (Hand Unfair) e = lit≤ tt
queue-short (Hand Transfer) e = lit≤ tt
queue-short Unbounded e = lit≤ tt
queue-short (Bounded most) e =
    omega (arith, length-append (codes " bounded ") (decimal most), bound-short most (bound-within most e))

policy-short : (p : Policy) → length (policy_text p) ≤ 14
policy-short Abort = lit≤ tt
policy-short CallerRuns = lit≤ tt
policy-short Discard = lit≤ tt
policy-short DiscardOldest = lit≤ tt

-- a number behind its name, and what follows
piece-short : (name : List ℕ) (n : ℕ) (more : List ℕ) (a b c : ℕ) → length name ≤ a → length (decimal n) ≤ b → length more ≤ c → length (name ++ (decimal n ++ more)) ≤ a + b + c
piece-short name n more a b c ha hb hc =
    omega (arith, ha, hb, hc, length-append name (decimal n ++ more), length-append (decimal n) more)

sizes-short : (s : Settings) → FitsPoolHead s → length (sizes_text s.sizes) ≤ 74
sizes-short s fits =
    let fit : IsFit s = fits-from s fits.made in
    let z : Sizes = s.sizes in
    let m0 : List ℕ = timeout_text z.core_timeout in
    let m1 : List ℕ = codes " keep " ++ (decimal z.keep_alive ++ m0) in
    let m2 : List ℕ = codes " callers " ++ (decimal z.callers ++ m1) in
    let m3 : List ℕ = codes " maximum " ++ (decimal z.maximum ++ m2) in
    let s1 : length m1 ≤ 34 = piece-short (codes " keep ") z.keep_alive m0 6 20 8 (lit≤ tt) (number-short z.keep_alive fits.keep) (timeout-short z.core_timeout) in
    let s2 : length m2 ≤ 47 = piece-short (codes " callers ") z.callers m1 9 4 34 (lit≤ tt) (small-short z.callers (omega (arith, fit.seats))) s1 in
    let s3 : length m3 ≤ 60 = piece-short (codes " maximum ") z.maximum m2 9 4 47 (lit≤ tt) (small-short z.maximum (omega (arith, fit.seats))) s2 in
    piece-short (codes "pool core ") z.core m3 10 4 60 (lit≤ tt) (small-short z.core (omega (arith, fit.core, fit.seats))) s3

joined-short : (a b c : List ℕ) → length a ≤ 74 → length b ≤ 16 → length c ≤ 14 → length (codes "trace 1 " ++ (a ++ (b ++ (codes " policy " ++ c)))) ≤ 128
joined-short a b c ha hb hc =
    omega (arith, ha, hb, hc, length-append (codes "trace 1 ") (a ++ (b ++ (codes " policy " ++ c))), length-append a (b ++ (codes " policy " ++ c)), length-append b (codes " policy " ++ c), length-append (codes " policy ") c)

head-short : (s : Settings) → FitsPoolHead s → length (pool_head_text s) ≤ 128
head-short s fits =
    joined-short (sizes_text s.sizes) (queue_text s.queue) (policy_text s.policy) (sizes-short s fits) (queue-short s.queue (good-queue s fits.made)) (policy-short s.policy)

-- ---- what is spelled is read

makeable-again : (s : Settings) → settings_refusal s ≡ None → makeable s ≡ Some s
unfolding makeable
makeable-again s made = rw made refl

head_in-again : (s : Settings) → FitsPoolHead s → pool_head_in (pool_head_text s) ≡ Some s
unfolding pool_head_in behind
head_in-again s fits =
    rw (settings_in-again s (sizes-fit s fits) (queue-fits s.queue (good-queue s fits.made))) (makeable-again s fits.made)

-- ---- the law

reads : (line : List ℕ) (s : Settings) → pool_head_of line ≡ Some s → (line ≡ pool_head_text s) × FitsPoolHead s
unfolding pool_head_of
reads line s e = head_in-is line s (chosen-second (ltb 128 (length line)) (pool_head_in line) s e).1

again : (s : Settings) → FitsPoolHead s → pool_head_of (pool_head_text s) ≡ Some s
unfolding pool_head_of
again s fits = rw (le-ltb 128 (length (pool_head_text s)) (head-short s fits)) (head_in-again s fits)

pub pool-heads-have-one-spelling : PoolHeadsHaveOneSpelling
pool-heads-have-one-spelling line s = (reads line s, λ p. ap (λ (l : List ℕ). pool_head_of l) p.0 ∙ again s p.1)

-- what is read is in its limits
pub head-limits : (line : List ℕ) (o : Option Settings) → o ≡ pool_head_in line → IfSome o FitsPoolHead
head-limits line None is = tt
head-limits line (Some s) is = (head_in-is line s (sym is)).1

pub head-too_long : (line : List ℕ) → 128 < length line → pool_head_of line ≡ None
unfolding pool_head_of
head-too_long line long = rw (lt-ltb 128 (length line) long) refl
