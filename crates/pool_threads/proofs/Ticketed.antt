-- The kept jobs get their tickets.
use Rattle.std.proofs.Common.{◌≡◌, ℕ, List, [], ◌∷◌, ◌++◌, Option, Some, None, refl, sym, ap, ◌∙◌, append_assoc}
use Rattle.std.proofs.lemmas.List.{map-append, append-nil}
use Rattle.std.specs.Prelude.{map, IsSome, option_to_list}
use Rattle.pool_core.specs.Moves.{job_in}
use Rattle.pool_core.specs.declared.stages.Task.{Task}
use Rattle.pool_threads.specs.Mirrored.{tag_in, told_task}
use Rattle.pool_threads.specs.declared.jobs.Job.{Job}

-- so far these got theirs, those are kept yet, and these are the tasks after theirs
pub record IsBetween {C : Type 0} (all more : List (Task ℕ)) (left : List (ℕ × Job C)) (kept : List (Job C)) (items : List (Task ℕ)) : Type 0 where
  pub rest : List (Task ℕ)
  pub parts : map told_task left ++ rest ≡ all
  pub tags : map tag_in kept ≡ map job_in rest
  pub after : items ≡ rest ++ more

abbrev pub AreTicketed : {C : Type 0} → (tasks : List (Task ℕ)) → (first : List (Job C)) → (left : List (ℕ × Job C)) → (kept : List (Job C)) → (items : List (Task ℕ)) → Type 0
AreTicketed tasks first left kept items = (all more : List (Task ℕ)) → tasks ≡ all ++ more → map tag_in first ≡ map job_in all → IsBetween all more left kept items

-- the first elements of equal lists are equal, and the others
heads : {A : Type 0} {x y : A} {xs ys : List A} → x ∷ xs ≡ y ∷ ys → x ≡ y
heads e = cc

tails : {A : Type 0} {x y : A} {xs ys : List A} → x ∷ xs ≡ y ∷ ys → xs ≡ ys
tails e = cc

one_more : {C : Type 0} (all more rest : List (Task ℕ)) (left left2 : List (ℕ × Job C)) (kept2 : List (Job C)) (job : Job C)
    (o : Option (Task ℕ)) (items2 : List (Task ℕ)) → IsSome o → map told_task left ++ rest ≡ all → job.tag ∷ map tag_in kept2 ≡ map job_in rest
    → option_to_list o ++ items2 ≡ rest ++ more → ((t : Task ℕ) → o ≡ Some t → left2 ≡ left ++ (t.ticket, job) ∷ [])
    → IsBetween all more left2 kept2 items2
one_more all more [] left left2 kept2 job o items2 some parts tags after adds = absurd (cc)
one_more all more (t ∷ rest) left left2 kept2 job None items2 some parts tags after adds = absurd (cc)
one_more all more (t ∷ rest) left left2 kept2 job (Some u) items2 some parts tags after adds =
    let same : u ≡ t = heads after in
    let told : told_task (u.ticket, job) ≡ t =
    ap (λ (n : ℕ). let k : Task ℕ = record { ticket = u.ticket; job = n } in k) (heads tags ∙ ap (λ (x : Task ℕ). x.job) (sym same)) ∙ same in
    record {
      rest = rest;
      parts = ap (λ l. map told_task l ++ rest) (adds u refl) ∙ ap (λ l. l ++ rest) (map-append told_task left ((u.ticket, job) ∷ []))
          ∙ append_assoc (map told_task left) (told_task (u.ticket, job) ∷ []) rest ∙ ap (λ (x : Task ℕ). map told_task left ++ x ∷ rest) told ∙ parts;
      tags = tails tags;
      after = tails after;
    }

pub ticketed_step : {C : Type 0} (tasks : List (Task ℕ)) (first kept kept2 : List (Job C)) (left left2 : List (ℕ × Job C)) (job : Job C)
    (items items2 : List (Task ℕ)) (o : Option (Task ℕ)) → kept ≡ job ∷ kept2 → items ≡ option_to_list o ++ items2 → IsSome o
    → ((t : Task ℕ) → o ≡ Some t → left2 ≡ left ++ (t.ticket, job) ∷ [])
    → AreTicketed tasks first left kept items → AreTicketed tasks first left2 kept2 items2
ticketed_step tasks first kept kept2 left left2 job items items2 o pops takes some adds h all more e m =
    let b = h all more e m in
    one_more all more b.rest left left2 kept2 job o items2 some b.parts (ap (λ l. map tag_in l) (sym pops) ∙ b.tags) (sym takes ∙ b.after) adds

nothing_left : (rest : List (Task ℕ)) → [] ≡ map job_in rest → rest ≡ []
nothing_left [] e = refl
nothing_left (t ∷ rest) e = absurd (cc)

pub ticketed_end : {C : Type 0} (tasks : List (Task ℕ)) (first kept : List (Job C)) (left : List (ℕ × Job C)) (items : List (Task ℕ))
    → kept ≡ [] → AreTicketed tasks first left kept items
    → (all more : List (Task ℕ)) → tasks ≡ all ++ more → map tag_in first ≡ map job_in all → map told_task left ≡ all
ticketed_end tasks first kept left items none h all more e m =
    let b = h all more e m in
    let nil = nothing_left b.rest (ap (λ l. map tag_in l) (sym none) ∙ b.tags) in
    sym (append-nil (map told_task left)) ∙ ap (λ l. map told_task left ++ l) (sym nil) ∙ b.parts
