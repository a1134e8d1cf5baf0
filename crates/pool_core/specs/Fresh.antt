-- A pool without a history owes nothing.
use Rattle.std.proofs.Common.{◌≡◌, ℕ, ◌+◌, ◌-◌, ◌*◌, refl, sym, ap, ◌∙◌, cond, not, Some, None, List, [], ◌∷◌, map}
use Rattle.std.proofs.Common.{replicate, arith}
use Rattle.std.specs.Prelude.{sum_by}
use Rattle.std.proofs.lemmas.List.Sums.{sum_by-cons}
use Rattle.std.proofs.lemmas.List.Folds.{sum_by-replicate}
use Rattle.meet_tickets.specs.declared.lines.Entry.{Entry}
use Rattle.meet_tickets.specs.Meeting.{kept_count}
use Rattle.meet_line.specs.Seen.{marked_entry}
use Rattle.pool_core.specs.declared.stages.Stage.{Stage}
use Rattle.pool_core.specs.declared.stages.Stage.TheVariants.{Absent, Starting, Waiting, Cut, HandedOver, Running}
use Rattle.pool_core.specs.Pools.{Pool, stage_owes, owed}
use Rattle.pool_core.specs.Histories.{nobody, no_base}
use Rattle.pool_core.specs.Shown.{Shown}
use Rattle.pool_core.specs.Bases.{tagged_stage, tagged, LeadsTo}

module _ {X : Type 0} (mark : X → ℕ) where
  -- as many are kept
  pub kept-marked : (line : List (Entry X)) → kept_count (map (marked_entry mark) line) ≡ kept_count line
  kept-marked [] = refl
  kept-marked (e ∷ line) =
      sum_by-cons (λ f. cond (not f.waits) 1 0) (marked_entry mark e) (map (marked_entry mark) line)
      ∙ (λ j. cond (not e.waits) 1 0 + kept-marked line j)
      ∙ sym (sum_by-cons (λ f. cond (not f.waits) 1 0) e line)

  -- each worker owes as much
  pub owes-tagged : (st : Stage X) → stage_owes (tagged_stage mark st) ≡ stage_owes st
  owes-tagged Absent = refl
  owes-tagged (Starting None) = refl
  owes-tagged (Starting (Some task)) = refl
  owes-tagged (Waiting t) = refl
  owes-tagged (Cut t) = refl
  owes-tagged (HandedOver t task) = refl
  owes-tagged (Running t) = refl

  pub sum-tagged : (f : Stage ℕ → ℕ) (g : Stage X → ℕ) → ((st : Stage X) → f (tagged_stage mark st) ≡ g st)
      → (workers : List (Stage X)) → sum_by f (map (tagged_stage mark) workers) ≡ sum_by g workers
  sum-tagged f g same [] = refl
  sum-tagged f g same (st ∷ workers) =
      omega (
        arith,
        sum_by-cons f (tagged_stage mark st) (map (tagged_stage mark) workers),
        sum_by-cons g st workers,
        same st,
        sum-tagged f g same workers,
      )

  -- and so does the pool
  pub owed-tagged : (p : Pool X) → owed (tagged mark p) ≡ owed p
  owed-tagged p =
      let workers = sum-tagged stage_owes stage_owes owes-tagged p.workers in
      omega (arith, workers, kept-marked p.line)

-- nobody owes anything
pub owed-new : (X : Type 0) (n : ℕ) → owed {X = X} (nobody (replicate n Absent)) ≡ 0
owed-new X n =
    let none : sum_by stage_owes (replicate {A = Stage X} n Absent) ≡ n * 0 = sum_by-replicate stage_owes n Absent in
    omega (arith, none)

-- a pool without a history owes nothing
pub fresh-owes : {X : Type 0} (mark : X → ℕ) (p : Shown X) → LeadsTo mark no_base [] p → owed p.pool ≡ 0
fresh-owes {X} mark p leads =
    sym (owed-tagged mark p.pool) ∙ ap (λ (q : Pool ℕ). owed q) (sym leads.leaves)
    ∙ owed-new ℕ (p.settings.sizes.maximum - 0)
