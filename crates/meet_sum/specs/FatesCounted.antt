-- How many tickets have which fate.
use Rattle.std.specs.Prelude.{◌≡◌, ℕ, ◌+◌, Bool, true, false, List, ◌++◌, map, count_by}
use Rattle.meet_tickets.specs.declared.records.Record.{Record}
use Rattle.meet_tickets.specs.declared.records.Deed.{Deed}
use Rattle.meet_tickets.specs.declared.records.Cause.TheVariants.{Cancelled, Expired, Interrupted}
use Rattle.meet_tickets.specs.declared.fates.Fate.{Fate}
use Rattle.meet_tickets.specs.declared.fates.Fate.TheVariants.{Never, Failed, EntryRefused, Paired, Collected}
use Rattle.meet_tickets.specs.declared.fates.Fate.TheVariants.{Withdrawn, Cut, Kept, Waiting, Past}
use Rattle.meet_tickets.specs.Bases.{Based}
use Rattle.meet_tickets.specs.Fates.{fate, opening, is_waiting, is_kept}
use Rattle.meet_sum.specs.declared.fates.FateCounts.{FateCounts}
use Rattle.meet_sum.specs.Stories.{AreRequested}

-- whether a fate is this one
abbrev pub is_failed : Fate → Bool
is_failed Failed = true
is_failed fate = false

abbrev pub is_entry_refused : Fate → Bool
is_entry_refused EntryRefused = true
is_entry_refused fate = false

abbrev pub is_paired : Fate → Bool
is_paired (Paired u) = true
is_paired fate = false

abbrev pub is_collected : Fate → Bool
is_collected (Collected u) = true
is_collected fate = false

abbrev pub is_cancelled : Fate → Bool
is_cancelled (Withdrawn Cancelled) = true
is_cancelled fate = false

abbrev pub is_expired : Fate → Bool
is_expired (Withdrawn Expired) = true
is_expired fate = false

abbrev pub is_interrupted : Fate → Bool
is_interrupted (Withdrawn Interrupted) = true
is_interrupted fate = false

abbrev pub is_cut : Fate → Bool
is_cut Cut = true
is_cut fate = false

-- how many of these fates are which
abbrev pub numbers_of : List Fate → FateCounts
numbers_of fates = record {
  waiting = count_by is_waiting fates;
  kept = count_by is_kept fates;
  paired = count_by is_paired fates;
  collected = count_by is_collected fates;
  cancelled = count_by is_cancelled fates;
  expired = count_by is_expired fates;
  interrupted = count_by is_interrupted fates;
  cut = count_by is_cut fates;
  failed = count_by is_failed fates;
  entry_refused = count_by is_entry_refused fates;
}

-- how many of these tickets have which fate, by a base and the records since
abbrev pub fates_on : Based → List (Record Deed) → (tickets : List ℕ) → FateCounts
fates_on b records tickets = numbers_of (map (fate (opening b ++ records)) tickets)

-- how many of the tickets that a base and the records since name as requested have which fate
abbrev pub AreFates : Based → List (Record Deed) → FateCounts → Type 0
AreFates b records counts =
    (tickets : List ℕ) × AreRequested b records tickets × (counts ≡ fates_on b records tickets)

-- of how many tickets these are the numbers
abbrev pub fates_counted : FateCounts → ℕ
fates_counted c = c.waiting + c.kept + c.paired + c.collected + c.cancelled + c.expired + c.interrupted + c.cut
    + c.failed + c.entry_refused

-- the numbers with one fate more
abbrev pub with_fate : FateCounts → Fate → FateCounts
with_fate c Waiting = record c { waiting = c.waiting + 1 }
with_fate c Kept = record c { kept = c.kept + 1 }
with_fate c (Paired u) = record c { paired = c.paired + 1 }
with_fate c (Collected u) = record c { collected = c.collected + 1 }
with_fate c (Withdrawn Cancelled) = record c { cancelled = c.cancelled + 1 }
with_fate c (Withdrawn Expired) = record c { expired = c.expired + 1 }
with_fate c (Withdrawn Interrupted) = record c { interrupted = c.interrupted + 1 }
with_fate c Cut = record c { cut = c.cut + 1 }
with_fate c Failed = record c { failed = c.failed + 1 }
with_fate c EntryRefused = record c { entry_refused = c.entry_refused + 1 }
with_fate c Never = c
with_fate c Past = c
