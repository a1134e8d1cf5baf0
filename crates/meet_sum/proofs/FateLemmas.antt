-- The numbers of fates, one fate more.
use Rattle.std.proofs.Common.{◌≡◌, ◌+◌, ◌≤◌, ap, ◌∙◌, arith, Bool, List, [], ◌∷◌, ◌++◌, length, count_by, add-zero, add_comm}
use Rattle.meet_tickets.specs.declared.records.Cause.TheVariants.{Cancelled, Expired, Interrupted}
use Rattle.meet_tickets.specs.declared.fates.Fate.{Fate}
use Rattle.meet_tickets.specs.declared.fates.Fate.TheVariants.{Never, Failed, EntryRefused, Paired, Collected, Withdrawn, Cut, Kept, Waiting, Past}
use Rattle.meet_tickets.specs.Fates.{is_waiting, is_kept}
use Rattle.meet_tickets.proofs.Lists.Changed.{one, count-push, count-cons}
use Rattle.meet_sum.specs.declared.fates.FateCounts.{FateCounts}
use Rattle.meet_sum.specs.FatesCounted.{is_paired, is_collected, is_cancelled, is_expired, is_interrupted, is_cut, is_failed, is_entry_refused, numbers_of, fates_counted, with_fate}

-- the numbers with what each test adds
tested : FateCounts → Fate → FateCounts
tested c f = record {
  waiting = c.waiting + one (is_waiting f);
  kept = c.kept + one (is_kept f);
  paired = c.paired + one (is_paired f);
  collected = c.collected + one (is_collected f);
  cancelled = c.cancelled + one (is_cancelled f);
  expired = c.expired + one (is_expired f);
  interrupted = c.interrupted + one (is_interrupted f);
  cut = c.cut + one (is_cut f);
  failed = c.failed + one (is_failed f);
  entry_refused = c.entry_refused + one (is_entry_refused f);
}

adds : (c : FateCounts) (f : Fate) → tested c f ≡ with_fate c f
unfolding tested
adds c Waiting = simp add-zero
adds c Kept = simp add-zero
adds c (Paired u) = simp add-zero
adds c (Collected u) = simp add-zero
adds c (Withdrawn Cancelled) = simp add-zero
adds c (Withdrawn Expired) = simp add-zero
adds c (Withdrawn Interrupted) = simp add-zero
adds c Cut = simp add-zero
adds c Failed = simp add-zero
adds c EntryRefused = simp add-zero
adds c Never = simp add-zero
adds c Past = simp add-zero

pushed : (fates : List Fate) (f : Fate) → numbers_of (fates ++ f ∷ []) ≡ tested (numbers_of fates) f
unfolding tested
pushed fates f = λ i. record {
  waiting = count-push is_waiting fates f i;
  kept = count-push is_kept fates f i;
  paired = count-push is_paired fates f i;
  collected = count-push is_collected fates f i;
  cancelled = count-push is_cancelled fates f i;
  expired = count-push is_expired fates f i;
  interrupted = count-push is_interrupted fates f i;
  cut = count-push is_cut fates f i;
  failed = count-push is_failed fates f i;
  entry_refused = count-push is_entry_refused fates f i;
}

pub numbers-push : (fates : List Fate) (f : Fate) → numbers_of (fates ++ f ∷ []) ≡ with_fate (numbers_of fates) f
numbers-push fates f = pushed fates f ∙ adds (numbers_of fates) f

with_fate-counted : (c : FateCounts) (f : Fate) → fates_counted (with_fate c f) ≤ fates_counted c + 1
with_fate-counted c Waiting = omega arith
with_fate-counted c Kept = omega arith
with_fate-counted c (Paired u) = omega arith
with_fate-counted c (Collected u) = omega arith
with_fate-counted c (Withdrawn Cancelled) = omega arith
with_fate-counted c (Withdrawn Expired) = omega arith
with_fate-counted c (Withdrawn Interrupted) = omega arith
with_fate-counted c Cut = omega arith
with_fate-counted c Failed = omega arith
with_fate-counted c EntryRefused = omega arith
with_fate-counted c Never = omega arith
with_fate-counted c Past = omega arith

count-front : (p : Fate → Bool) (f : Fate) (fates : List Fate) → count_by p (f ∷ fates) ≡ count_by p fates + one (p f)
count-front p f fates = count-cons p f fates ∙ add_comm (one (p f)) (count_by p fates)

in_front : (f : Fate) (fates : List Fate) → numbers_of (f ∷ fates) ≡ tested (numbers_of fates) f
unfolding tested
in_front f fates = λ i. record {
  waiting = count-front is_waiting f fates i;
  kept = count-front is_kept f fates i;
  paired = count-front is_paired f fates i;
  collected = count-front is_collected f fates i;
  cancelled = count-front is_cancelled f fates i;
  expired = count-front is_expired f fates i;
  interrupted = count-front is_interrupted f fates i;
  cut = count-front is_cut f fates i;
  failed = count-front is_failed f fates i;
  entry_refused = count-front is_entry_refused f fates i;
}

pub numbers-front : (f : Fate) (fates : List Fate) → numbers_of (f ∷ fates) ≡ with_fate (numbers_of fates) f
numbers-front f fates = in_front f fates ∙ adds (numbers_of fates) f

-- no ticket counts twice
pub fates_counted-most : (fates : List Fate) → fates_counted (numbers_of fates) ≤ length fates
fates_counted-most [] = omega arith
fates_counted-most (f ∷ fates) =
    let same : fates_counted (numbers_of (f ∷ fates)) ≡ fates_counted (with_fate (numbers_of fates) f) = ap fates_counted (in_front f fates ∙ adds (numbers_of fates) f) in
    omega (arith, same, with_fate-counted (numbers_of fates) f, fates_counted-most fates)
