-- Proof of `Crew::new`, src/crew.rt. So many numbers that no worker has.
use Rattle.std.proofs.Common.{arith, ◌∙◌, ap, sym, refl, not, length, cond, ℕ}
use Rattle.std.proofs.lemmas.List.{length-replicate}
use Rattle.std.specs.Prelude.{count_by, sum_by}
use Rattle.std.proofs.lemmas.List.Folds.{sum_by-replicate}
use Rattle.pool_core.specs.declared.stages.Stage.TheVariants.{Absent, Running}
use Rattle.pool_core.specs.Calls.{is_running, is_cut}
use Rattle.pool_core.specs.Pools.{is_there, stage_owes}
use Rattle.pool_core.proofs.Marked.{marks-all, marks-none}
use Rattle.pool_core.proofs.crew.Crew.new.Goals as goal

pub invariant_of-result : goal.invariant_of-result
invariant_of-result g c =
    let n = c.args.count in
    let is = c.in_ok-stages.ensures in
    let len = ap length is ∙ length-replicate n Absent in
    record {
      there = sym (ap (count_by is_there) is ∙ sum_by-replicate (λ x. cond {A = ℕ} (is_there x) 1 0) n Absent ∙ omega arith);
      running = sym (ap (count_by is_running) is ∙ sum_by-replicate (λ x. cond {A = ℕ} (is_running x) 1 0) n Absent ∙ omega arith);
      owes = sym (ap (sum_by stage_owes) is ∙ sum_by-replicate stage_owes n Absent ∙ omega arith);
      few = omega (arith, len, c.in_ok-stages.stages.ok, c.requires);
      free = rw is (marks-all (λ x. not (is_there x)) (Running 0) Absent n c.in_ok-free.free.words.items refl refl c.in_ok-free.ensures.all);
      free_fits = omega (arith, len, c.in_ok-stages.stages.ok, c.in_ok-free.ensures.room);
      cut = rw is (marks-none is_cut Absent n c.in_ok-cut.cut.words.items refl c.in_ok-cut.ensures.none);
      cut_fits = omega (arith, len, c.in_ok-stages.stages.ok, c.in_ok-cut.ensures.room);
    }
