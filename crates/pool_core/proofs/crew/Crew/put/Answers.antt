-- Proof of `Crew::put`, src/crew.rt. The worker of this number comes to another stage: the one that it leaves.
use Rattle.std.proofs.Common.{arith, Bool, ℕ, cond, not, sym, ap, ◌∙◌}
use Rattle.std.proofs.lemmas.List.Sums.{sum_by-set}
use Rattle.pool_core.specs.declared.stages.Stage.TheVariants.{Absent, Running}
use Rattle.pool_core.specs.Calls.{is_running, is_cut}
use Rattle.pool_core.specs.Pools.{is_there, stage_owes}
use Rattle.pool_core.proofs.Marked.{marks-set}
use Rattle.pool_core.proofs.Owing.{few-owed, few-counted}
use Rattle.pool_core.proofs.crew.Crew.put.Goals as goal

abbrev one : Bool → ℕ
one b = cond b 1 0

pub overflow_add-self : goal.overflow_add-self
overflow_add-self g c = omega (arith, c.self.invariant.there, c.self.invariant.few, few-counted is_there c.self.inside.stages.items, c.one_if-there.ensures.few)

pub overflow_add-self-2 : goal.overflow_add-self-2
overflow_add-self-2 g c = omega (arith, c.self.invariant.running, c.self.invariant.few, few-counted is_running c.self.inside.stages.items, c.one_if-running.ensures.few)

pub overflow_add-self-3 : goal.overflow_add-self-3
overflow_add-self-3 g c = omega (arith, c.self.invariant.owes, c.self.invariant.few, few-owed c.self.inside.stages.items, c.owes-owes.ensures.few)

pub invariant_of-self : goal.invariant_of-self
invariant_of-self g c =
    let well = c.self.invariant in
    let stages = c.self.inside.stages.items in
    let w = c.args.worker in
    let at = rw (← c.self.view_is) at c.requires in
    let now = c.replace-was.new.dest in
    let new = c.replace-was.ensures.after in
    let was = c.index_mut.result.now in
    let old = c.replace-was.ensures.value in
    let own = sym c.index_mut.ensures.value in
    let there_was = ap (λ x. one (is_there x)) own in
    let runs_was = ap (λ x. one (is_running x)) own in
    let owes_was = ap stage_owes own in
    let there_new = c.one_if-there.ensures.value ∙ ap one (c.is_there.ensures ∙ ap is_there (sym new)) in
    let there_old = c.one_if.ensures.value ∙ ap one (c.is_there-3.ensures ∙ ap is_there old) in
    let runs_new = c.one_if-running.ensures.value ∙ ap one (c.is_running.ensures ∙ ap is_running (sym new)) in
    let runs_old = c.one_if-2.ensures.value ∙ ap one (c.is_running-2.ensures ∙ ap is_running old) in
    let owes_new = c.owes-owes.ensures.value ∙ ap stage_owes (sym new) in
    let owes_old = c.owes.ensures.value ∙ ap stage_owes old in
    record {
      there = omega (arith, well.there, there_was, there_new, there_old, sum_by-set (λ x. one (is_there x)) stages w now was at);
      running = omega (arith, well.running, runs_was, runs_new, runs_old, sum_by-set (λ x. one (is_running x)) stages w now was at);
      owes = omega (arith, well.owes, owes_was, owes_new, owes_old, sum_by-set stage_owes stages w now was at);
      few = well.few;
      free = marks-set (λ x. not (is_there x)) (Running 0) stages c.self.inside.free.words.items well.free w now c.change.new.self.words.items at (c.change.ensures.own ∙ ap (λ b. one (not b)) (c.is_there-is_there.ensures ∙ ap is_there (sym new))) c.change.ensures.others;
      free_fits = omega (arith, well.free_fits, c.change.ensures.room);
      cut = marks-set is_cut Absent stages c.self.inside.cut.words.items well.cut w now c.change-2.new.self.words.items at (c.change-2.ensures.own ∙ ap one (c.is_cut-is_cut.ensures ∙ ap is_cut (sym new))) c.change-2.ensures.others;
      cut_fits = omega (arith, well.cut_fits, c.change-2.ensures.room);
    }
