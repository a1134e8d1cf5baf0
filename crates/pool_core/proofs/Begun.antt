-- A new pool.
use Rattle.std.proofs.Common.{◌≡◌, ℕ, zero, suc, ◌+◌, ◌*◌, ◌<◌, ◌≤◌, refl, sym, ap, ◌∙◌, Bool, true, false, cond, eqb, ltb, Option, Some, None, [], get_or, replicate, arith, ◌⊎◌, inl, inr}
use Rattle.std.specs.Prelude.{◌||◌, ◌&&◌, MatchOption, ⊤, sum_by}
use Rattle.std.proofs.Math.Path.{fun_ext}
use Rattle.std.proofs.lemmas.List.{length-replicate}
use Rattle.std.proofs.lemmas.List.Folds.{sum_by-replicate}
use Rattle.meet_tickets.specs.Limits.{most_kept}
use Rattle.meet_tickets.specs.declared.lines.Hold.TheVariants.{Free}
use Rattle.meet_tickets.specs.declared.refusals.Refusal.TheVariants.{BadSizes, PolicyNeedsBuffer}
use Rattle.meet_line.proofs.Sound.{IsSound-new}
use Rattle.pool_core.specs.Limits.{most_together}
use Rattle.pool_core.specs.declared.settings.Settings.{Settings}
use Rattle.pool_core.specs.declared.settings.Policy.{Policy}
use Rattle.pool_core.specs.declared.settings.Policy.TheVariants.{DiscardOldest}
use Rattle.pool_core.specs.declared.settings.PoolQueue.{PoolQueue}
use Rattle.pool_core.specs.declared.settings.PoolQueue.TheVariants.{Hand, Unbounded, Bounded}
use Rattle.pool_core.specs.declared.stages.Stage.{Stage}
use Rattle.pool_core.specs.declared.stages.Stage.TheVariants.{Absent}
use Rattle.pool_core.specs.Pools.{bound_of, jobs_at}
use Rattle.pool_core.specs.Histories.{nobody}
use Rattle.pool_core.specs.Calls.{settings_refusal, bad_queue, needs_buffer}
use Rattle.pool_core.specs.Sound.{IsSound, IsFit, hold_of, holds_of}
use Rattle.pool_core.proofs.Seats.{ltb_tells, stage-at, stage-caller}

-- none of the tests refuses
tests : (a b c d e f buffer : Bool) → cond (a || b || c || d || e || f) (Some BadSizes) (cond buffer (Some PolicyNeedsBuffer) None) ≡ None → (b ≡ false) × (c ≡ false) × (d ≡ false) × (f ≡ false) × (buffer ≡ false)
tests true b c d e f buffer is = cc
tests false true c d e f buffer is = cc
tests false false true d e f buffer is = cc
tests false false false true e f buffer is = cc
tests false false false false true f buffer is = cc
tests false false false false false true buffer is = cc
tests false false false false false false true is = cc
tests false false false false false false false is = (refl, refl, refl, refl, refl)

above : (a b : ℕ) → ltb a b ≡ false → b ≤ a
above a b is = by_test (ltb_tells a b)
  where
    by_test : ((ltb a b ≡ true) × (a < b)) ⊎ ((ltb a b ≡ false) × (b ≤ a)) → b ≤ a
    by_test (inl h) = absurd (let no : true ≡ false = sym h.0 ∙ is in cc)
    by_test (inr h) = h.1

some : (n : ℕ) → eqb n 0 ≡ false → 0 < n
some zero is = absurd (let no : true ≡ false = is in cc)
some (suc n) is = omega arith

buffered : (policy : Policy) (queue : PoolQueue) → needs_buffer policy queue ≡ false → bad_queue queue ≡ false → policy ≡ DiscardOldest → MatchOption (bound_of queue) ⊤ (λ most. 0 < most)
buffered policy (Hand order) buffer bad oldest = absurd (let no : true ≡ false = sym (ap (λ y. needs_buffer y (Hand order)) oldest) ∙ buffer in cc)
buffered policy Unbounded buffer bad oldest = tt
buffered policy (Bounded most) buffer bad oldest = some most (by_tests (eqb most 0) (ltb most_kept most) bad)
  where
    by_tests : (a b : Bool) → (a || b) ≡ false → a ≡ false
    by_tests true b is = cc
    by_tests false b is = refl

-- what isn't refused fits
pub fits-from : (s : Settings) → settings_refusal s ≡ None → IsFit s
fits-from s is =
    let all : (eqb s.sizes.maximum 0 ≡ false) × (ltb s.sizes.maximum s.sizes.core ≡ false) × (ltb most_together (s.sizes.callers + s.sizes.maximum) ≡ false) × (bad_queue s.queue ≡ false) × (needs_buffer s.policy s.queue ≡ false)
    = tests (eqb s.sizes.callers 0) (eqb s.sizes.maximum 0) (ltb s.sizes.maximum s.sizes.core) (ltb most_together (s.sizes.callers + s.sizes.maximum)) (s.sizes.core_timeout && eqb s.sizes.keep_alive 0) (bad_queue s.queue) (needs_buffer s.policy s.queue) is in
    record {
      maximum = some s.sizes.maximum all.0;
      core = above s.sizes.maximum s.sizes.core all.1;
      seats = above most_together (s.sizes.callers + s.sizes.maximum) all.2;
      buffer = buffered s.policy s.queue all.4 all.3;
    }

-- where all are absent nobody has anything open
absent-at : {X : Type 0} (n w : ℕ) → get_or (replicate {A = Stage X} n Absent) w Absent ≡ Absent
absent-at zero w = refl
absent-at (suc n) zero = refl
absent-at (suc n) (suc w) = absent-at n w

holds-new : {X : Type 0} (s : Settings) (n : ℕ) → holds_of {X = X} s (nobody (replicate n Absent)) ≡ (λ _. Free)
holds-new {X} s n = fun_ext (λ i. by_seat i (ltb_tells i s.sizes.callers))
  where
    by_seat : (i : ℕ) → ((ltb i s.sizes.callers ≡ true) × (i < s.sizes.callers)) ⊎ ((ltb i s.sizes.callers ≡ false) × (s.sizes.callers ≤ i)) → holds_of {X = X} s (nobody (replicate n Absent)) i ≡ Free
    by_seat i (inl h) = ap hold_of (stage-caller s (nobody (replicate n Absent)) i h.1)
    by_seat i (inr h) = ap hold_of (stage-at s (nobody (replicate n Absent)) i h.1 ∙ absent-at n _)

-- a bound is above nothing
none-within : (bound : Option ℕ) → MatchOption bound ⊤ (λ most. 0 ≤ most)
none-within None = tt
none-within (Some most) = omega arith

pub sound-new : {X : Type 0} (s : Settings) → IsFit s → IsSound {X = X} s (nobody (replicate s.sizes.maximum Absent)) 1
sound-new {X} s fits = record {
  fits = fits;
  lined = IsSound-new [] (holds_of s (nobody (replicate s.sizes.maximum Absent))) 1 refl (holds-new s s.sizes.maximum) (omega arith) (omega arith);
  takes = λ k d below. absurd (omega arith);
  count = length-replicate s.sizes.maximum Absent;
  counted = let none : sum_by jobs_at (replicate {A = Stage X} s.sizes.maximum Absent) ≡ s.sizes.maximum * 0 = sum_by-replicate jobs_at s.sizes.maximum Absent in omega (arith, none);
  within = none-within (bound_of s.queue);
  risen = λ i j d less below. absurd (omega arith);
}
