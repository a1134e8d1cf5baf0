-- How many records have which deed.
use Rattle.std.specs.Prelude.{ℕ, ◌+◌, Bool, true, false, List, count_by}
use Rattle.meet_tickets.specs.declared.records.Record.{Record}
use Rattle.meet_tickets.specs.declared.records.Deed.{Deed}
use Rattle.meet_tickets.specs.declared.records.Deed.TheVariants.{GiveWaits, GiveMeets, GiveFails, GiveKept, TakeWaits}
use Rattle.meet_tickets.specs.declared.records.Deed.TheVariants.{TakeMeets, TakeFails, EntryInterrupted, Done, Got}
use Rattle.meet_tickets.specs.declared.records.Deed.TheVariants.{Withdrawn, Interrupt}
use Rattle.meet_sum.specs.declared.deeds.DeedCounts.{DeedCounts}

-- whether a deed is this one
abbrev pub is_give_waits : Deed → Bool
is_give_waits (GiveWaits m) = true
is_give_waits deed = false

abbrev pub is_give_meets : Deed → Bool
is_give_meets (GiveMeets m u) = true
is_give_meets deed = false

abbrev pub is_give_fails : Deed → Bool
is_give_fails (GiveFails m) = true
is_give_fails deed = false

abbrev pub is_give_kept : Deed → Bool
is_give_kept (GiveKept m) = true
is_give_kept deed = false

abbrev pub is_take_waits : Deed → Bool
is_take_waits TakeWaits = true
is_take_waits deed = false

abbrev pub is_take_meets : Deed → Bool
is_take_meets (TakeMeets m u) = true
is_take_meets deed = false

abbrev pub is_take_fails : Deed → Bool
is_take_fails TakeFails = true
is_take_fails deed = false

abbrev pub is_entry_interrupted : Deed → Bool
is_entry_interrupted (EntryInterrupted side) = true
is_entry_interrupted deed = false

abbrev pub is_done : Deed → Bool
is_done Done = true
is_done deed = false

abbrev pub is_got : Deed → Bool
is_got (Got m u) = true
is_got deed = false

abbrev pub is_withdrawn : Deed → Bool
is_withdrawn (Withdrawn cause) = true
is_withdrawn deed = false

abbrev pub is_interrupt : Deed → Bool
is_interrupt (Interrupt j) = true
is_interrupt deed = false

-- how many of these records have which deed
abbrev pub deeds_in : List (Record Deed) → DeedCounts
deeds_in records = record {
  give_waits = count_by (λ r. is_give_waits r.deed) records;
  give_meets = count_by (λ r. is_give_meets r.deed) records;
  give_fails = count_by (λ r. is_give_fails r.deed) records;
  give_kept = count_by (λ r. is_give_kept r.deed) records;
  take_waits = count_by (λ r. is_take_waits r.deed) records;
  take_meets = count_by (λ r. is_take_meets r.deed) records;
  take_fails = count_by (λ r. is_take_fails r.deed) records;
  entry_interrupted = count_by (λ r. is_entry_interrupted r.deed) records;
  done = count_by (λ r. is_done r.deed) records;
  got = count_by (λ r. is_got r.deed) records;
  withdrawn = count_by (λ r. is_withdrawn r.deed) records;
  interrupt = count_by (λ r. is_interrupt r.deed) records;
}

-- of how many records these are the numbers
abbrev pub deeds_counted : DeedCounts → ℕ
deeds_counted c = c.give_waits + c.give_meets + c.give_fails + c.give_kept + c.take_waits + c.take_meets
    + c.take_fails + c.entry_interrupted + c.done + c.got + c.withdrawn + c.interrupt

-- the numbers with one deed more
abbrev pub with_deed : DeedCounts → Deed → DeedCounts
with_deed c (GiveWaits m) = record c { give_waits = c.give_waits + 1 }
with_deed c (GiveMeets m u) = record c { give_meets = c.give_meets + 1 }
with_deed c (GiveFails m) = record c { give_fails = c.give_fails + 1 }
with_deed c (GiveKept m) = record c { give_kept = c.give_kept + 1 }
with_deed c TakeWaits = record c { take_waits = c.take_waits + 1 }
with_deed c (TakeMeets m u) = record c { take_meets = c.take_meets + 1 }
with_deed c TakeFails = record c { take_fails = c.take_fails + 1 }
with_deed c (EntryInterrupted side) = record c { entry_interrupted = c.entry_interrupted + 1 }
with_deed c Done = record c { done = c.done + 1 }
with_deed c (Got m u) = record c { got = c.got + 1 }
with_deed c (Withdrawn cause) = record c { withdrawn = c.withdrawn + 1 }
with_deed c (Interrupt j) = record c { interrupt = c.interrupt + 1 }
