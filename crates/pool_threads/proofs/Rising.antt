-- The tickets of kept jobs rise.
use Rattle.std.proofs.Common.{◌≡◌, ℕ, ◌<◌, List, [], ◌∷◌, ◌++◌, length, get_or, Option, Some, None, option_map, sym, ap, subst, arith}
use Rattle.std.specs.Prelude.{map, All, AllPairs, option_to_list}
use Rattle.std.proofs.lemmas.List.{get_or-map, length-map}
use Rattle.std.proofs.lemmas.List.Elements.{All-cons, All-head, All-tail}
use Rattle.std.proofs.lemmas.List.Kept.{AllPairs-cons}
use Rattle.meet_tickets.specs.declared.lines.Entry.{Entry}
use Rattle.meet_tickets.proofs.Line.Sides.{AllPairs-head, AllPairs-tail}
use Rattle.pool_core.specs.Pools.{kept_tasks}
use Rattle.pool_core.specs.declared.stages.Task.{Task}
use Rattle.pool_threads.specs.Mirrored.{told_task}
use Rattle.pool_threads.specs.declared.jobs.Job.{Job}

abbrev one : {X : Type 0} → ℕ → X → Task X
one t job = record { ticket = t; job = job }

-- what is above all tickets of a line is above those of its kept jobs
all_kept : {X : Type 0} (t : ℕ) (line : List (Entry X)) → All (λ e. t < e.ticket) line → All (λ (task : Task X). t < task.ticket) (kept_tasks line)
all_kept t [] above = λ k d below. absurd (omega arith)
all_kept {X} t (e ∷ line) above = by_item (all_kept t line (All-tail (λ f. t < f.ticket) e line above)) e.item
  where
    by_item : All (λ (task : Task X). t < task.ticket) (kept_tasks line) → (o : Option X) → All (λ (task : Task X). t < task.ticket) (option_to_list (option_map (λ (y : X). one e.ticket y) o) ++ kept_tasks line)
    by_item rest None = rest
    by_item rest (Some job) = All-cons (λ (task : Task X). t < task.ticket) (one e.ticket job) (kept_tasks line) (All-head (λ f. t < f.ticket) e line above) rest

kept_rise : {X : Type 0} (line : List (Entry X)) → AllPairs (λ e f. e.ticket < f.ticket) line → AllPairs (λ (a b : Task X). a.ticket < b.ticket) (kept_tasks line)
kept_rise [] pairs = λ i j d less below. absurd (omega arith)
kept_rise {X} (e ∷ line) pairs =
    by_item (all_kept e.ticket line (AllPairs-head (λ f g. f.ticket < g.ticket) e line pairs)) (kept_rise line (AllPairs-tail (λ f g. f.ticket < g.ticket) e line pairs)) e.item
  where
    by_item : All (λ (task : Task X). e.ticket < task.ticket) (kept_tasks line) → AllPairs (λ (a b : Task X). a.ticket < b.ticket) (kept_tasks line) → (o : Option X) → AllPairs (λ (a b : Task X). a.ticket < b.ticket) (option_to_list (option_map (λ (y : X). one e.ticket y) o) ++ kept_tasks line)
    by_item above rest None = rest
    by_item above rest (Some job) = AllPairs-cons (λ (a b : Task X). a.ticket < b.ticket) (one e.ticket job) (kept_tasks line) above rest

-- so those of the jobs that are told of them rise
pub left_rise : {C : Type 0} (line : List (Entry ℕ)) (left : List (ℕ × Job C)) → AllPairs (λ e f. e.ticket < f.ticket) line
    → map told_task left ≡ kept_tasks line → AllPairs (λ (a b : ℕ × Job C). a.0 < b.0) left
left_rise {C} line left pairs is = λ i j d less below.
    let told : AllPairs (λ (a b : Task ℕ). a.ticket < b.ticket) (map told_task left) = subst (AllPairs (λ (a b : Task ℕ). a.ticket < b.ticket)) (sym is) (kept_rise line pairs) in
    let long : length (map told_task left) ≡ length left = length-map left told_task in
    let rise : (get_or (map told_task left) i (told_task d)).ticket < (get_or (map told_task left) j (told_task d)).ticket = told i j (told_task d) less (omega (arith, long)) in
    let first : get_or (map told_task left) i (told_task d) ≡ told_task (get_or left i d) = get_or-map told_task left i d (told_task d) (omega arith) in
    let second : get_or (map told_task left) j (told_task d) ≡ told_task (get_or left j d) = get_or-map told_task left j d (told_task d) (omega arith) in
    let low = ap (λ (t : Task ℕ). t.ticket) first in
    let high = ap (λ (t : Task ℕ). t.ticket) second in
    omega (arith, rise, low, high)
