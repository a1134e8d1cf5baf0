-- No thread was made.
use Rattle.std.proofs.Common.{◌≡◌, ℕ, [], ◌∷◌, Option, Some, None, subst, ◌∙◌, ⊎_elim, inl, inr}
use Rattle.meet_place.specs.Seats.{SeatView, Adds}
use Rattle.pool_core.specs.Calls.{execute_deed}
use Rattle.pool_core.specs.declared.answers.Executed.{Executed as ExecuteAnswer}
use Rattle.pool_core.specs.declared.answers.Executed.TheVariants as answer
use Rattle.pool_core.specs.declared.deeds.PoolDeed.{PoolDeed}
use Rattle.pool_threads.specs.declared.jobs.Job.{Job}
use Rattle.pool_threads.specs.Outcomes.{Handed, IsUnstarted}
use Rattle.pool_threads.specs.Mirrored.{given_tag}
use Rattle.pool_threads.specs.Told.{Starts}

-- the same seat, with more room
pub handed_from : (old mid new : SeatView (PoolDeed ℕ)) (tag : ℕ) (a : ExecuteAnswer ℕ) → mid.number ≡ old.number → mid.past ≡ old.past
    → mid.moment ≡ old.moment → mid.list ≡ old.list → Handed mid new tag a → Handed old new tag a
handed_from old mid new tag a number past moment list h = record {
  same = (h.same.0 ∙ number, h.same.1 ∙ past, rw (← moment, ← list) h.same.2);
  adds = (
    h.adds.0,
    subst (λ (i : ℕ). Adds old.list new.list (record { seat = i; ticket = h.adds.0; deed = execute_deed tag a } ∷ [])) number
        (subst (λ l. Adds l new.list (record { seat = mid.number; ticket = h.adds.0; deed = execute_deed tag a } ∷ [])) list h.adds.1),
  );
}

pub unstarted : {C : Type 0} (old mid new : SeatView (PoolDeed ℕ)) (job : Job C) (back : Option (Job C)) (a : ExecuteAnswer ℕ) (w : ℕ)
    → mid.number ≡ old.number → mid.past ≡ old.past → mid.moment ≡ old.moment → mid.list ≡ old.list
    → Handed mid new job.tag a → Starts a w
    → (first : Option ℕ) → ((w : ℕ) → a ≡ answer.Started w → first ≡ Some job.tag)
    → ((w : ℕ) → a ≡ answer.KeptStart w → first ≡ None) → given_tag back ≡ first → IsUnstarted old new job back
unstarted old mid new job back a w number past moment list h starts first began kept came =
    let here = handed_from old mid new job.tag a number past moment list h in (
      w,
      ⊎_elim
          (λ (is : a ≡ answer.Started w). inl (subst (λ b. Handed old new job.tag b) is here, came ∙ began w is))
          (λ (is : a ≡ answer.KeptStart w). inr (subst (λ b. Handed old new job.tag b) is here, came ∙ kept w is))
          starts,
    )
