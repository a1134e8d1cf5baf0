-- The numbers of deeds, one record more.
use Rattle.std.proofs.Common.{◌≡◌, ◌+◌, refl, ap, ◌∙◌, arith, List, [], ◌∷◌, ◌++◌, length, count_by, add-zero, add-one, add_comm, Bool}
use Rattle.meet_tickets.specs.declared.records.Record.{Record}
use Rattle.meet_tickets.specs.declared.records.Deed.{Deed}
use Rattle.meet_tickets.specs.declared.records.Deed.TheVariants.{GiveWaits, GiveMeets, GiveFails, GiveKept, TakeWaits, TakeMeets, TakeFails, EntryInterrupted, Done, Got, Withdrawn, Interrupt}
use Rattle.meet_tickets.proofs.Lists.Changed.{one, count-push, count-cons}
use Rattle.meet_sum.specs.declared.deeds.DeedCounts.{DeedCounts}
use Rattle.meet_sum.specs.Deeds.{is_give_waits, is_give_meets, is_give_fails, is_give_kept, is_take_waits, is_take_meets, is_take_fails, is_entry_interrupted, is_done, is_got, is_withdrawn, is_interrupt, deeds_in, deeds_counted, with_deed}

-- the numbers with what each test adds
tested : DeedCounts → Deed → DeedCounts
tested c d = record {
  give_waits = c.give_waits + one (is_give_waits d);
  give_meets = c.give_meets + one (is_give_meets d);
  give_fails = c.give_fails + one (is_give_fails d);
  give_kept = c.give_kept + one (is_give_kept d);
  take_waits = c.take_waits + one (is_take_waits d);
  take_meets = c.take_meets + one (is_take_meets d);
  take_fails = c.take_fails + one (is_take_fails d);
  entry_interrupted = c.entry_interrupted + one (is_entry_interrupted d);
  done = c.done + one (is_done d);
  got = c.got + one (is_got d);
  withdrawn = c.withdrawn + one (is_withdrawn d);
  interrupt = c.interrupt + one (is_interrupt d);
}

pushed : (records : List (Record Deed)) (r : Record Deed) → deeds_in (records ++ r ∷ []) ≡ tested (deeds_in records) r.deed
unfolding tested
pushed records r = λ i. record {
  give_waits = count-push (λ (q : Record Deed). is_give_waits q.deed) records r i;
  give_meets = count-push (λ (q : Record Deed). is_give_meets q.deed) records r i;
  give_fails = count-push (λ (q : Record Deed). is_give_fails q.deed) records r i;
  give_kept = count-push (λ (q : Record Deed). is_give_kept q.deed) records r i;
  take_waits = count-push (λ (q : Record Deed). is_take_waits q.deed) records r i;
  take_meets = count-push (λ (q : Record Deed). is_take_meets q.deed) records r i;
  take_fails = count-push (λ (q : Record Deed). is_take_fails q.deed) records r i;
  entry_interrupted = count-push (λ (q : Record Deed). is_entry_interrupted q.deed) records r i;
  done = count-push (λ (q : Record Deed). is_done q.deed) records r i;
  got = count-push (λ (q : Record Deed). is_got q.deed) records r i;
  withdrawn = count-push (λ (q : Record Deed). is_withdrawn q.deed) records r i;
  interrupt = count-push (λ (q : Record Deed). is_interrupt q.deed) records r i;
}

adds : (c : DeedCounts) (d : Deed) → tested c d ≡ with_deed c d
unfolding tested
adds c (GiveWaits m) = simp add-zero
adds c (GiveMeets m u) = simp add-zero
adds c (GiveFails m) = simp add-zero
adds c (GiveKept m) = simp add-zero
adds c TakeWaits = simp add-zero
adds c (TakeMeets m u) = simp add-zero
adds c TakeFails = simp add-zero
adds c (EntryInterrupted side) = simp add-zero
adds c Done = simp add-zero
adds c (Got m u) = simp add-zero
adds c (Withdrawn cause) = simp add-zero
adds c (Interrupt j) = simp add-zero

pub deeds-push : (records : List (Record Deed)) (r : Record Deed) → deeds_in (records ++ r ∷ []) ≡ with_deed (deeds_in records) r.deed
deeds-push records r = pushed records r ∙ adds (deeds_in records) r.deed

with_deed-counted : (c : DeedCounts) (d : Deed) → deeds_counted (with_deed c d) ≡ deeds_counted c + 1
with_deed-counted c (GiveWaits m) = omega arith
with_deed-counted c (GiveMeets m u) = omega arith
with_deed-counted c (GiveFails m) = omega arith
with_deed-counted c (GiveKept m) = omega arith
with_deed-counted c TakeWaits = omega arith
with_deed-counted c (TakeMeets m u) = omega arith
with_deed-counted c TakeFails = omega arith
with_deed-counted c (EntryInterrupted side) = omega arith
with_deed-counted c Done = omega arith
with_deed-counted c (Got m u) = omega arith
with_deed-counted c (Withdrawn cause) = omega arith
with_deed-counted c (Interrupt j) = omega arith

count-front : {X : Type 0} (p : X → Bool) (x : X) (xs : List X) → count_by p (x ∷ xs) ≡ count_by p xs + one (p x)
count-front p x xs = count-cons p x xs ∙ add_comm (one (p x)) (count_by p xs)

in_front : (r : Record Deed) (records : List (Record Deed)) → deeds_in (r ∷ records) ≡ tested (deeds_in records) r.deed
unfolding tested
in_front r records = λ i. record {
  give_waits = count-front (λ (q : Record Deed). is_give_waits q.deed) r records i;
  give_meets = count-front (λ (q : Record Deed). is_give_meets q.deed) r records i;
  give_fails = count-front (λ (q : Record Deed). is_give_fails q.deed) r records i;
  give_kept = count-front (λ (q : Record Deed). is_give_kept q.deed) r records i;
  take_waits = count-front (λ (q : Record Deed). is_take_waits q.deed) r records i;
  take_meets = count-front (λ (q : Record Deed). is_take_meets q.deed) r records i;
  take_fails = count-front (λ (q : Record Deed). is_take_fails q.deed) r records i;
  entry_interrupted = count-front (λ (q : Record Deed). is_entry_interrupted q.deed) r records i;
  done = count-front (λ (q : Record Deed). is_done q.deed) r records i;
  got = count-front (λ (q : Record Deed). is_got q.deed) r records i;
  withdrawn = count-front (λ (q : Record Deed). is_withdrawn q.deed) r records i;
  interrupt = count-front (λ (q : Record Deed). is_interrupt q.deed) r records i;
}

-- each record counts once
pub deeds_counted-all : (records : List (Record Deed)) → deeds_counted (deeds_in records) ≡ length records
deeds_counted-all [] = refl
deeds_counted-all (r ∷ records) =
    ap deeds_counted (in_front r records ∙ adds (deeds_in records) r.deed)
    ∙ with_deed-counted (deeds_in records) r.deed
    ∙ ap (λ n. n + 1) (deeds_counted-all records)
    ∙ add-one (length records)
