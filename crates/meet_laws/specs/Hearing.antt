-- What is told of one ticket, record by record.
use Rattle.std.specs.Prelude.{ℕ, option_map, List, find, if◌then◌else◌}
use Rattle.std.specs.Option.{option_or, option_map_or}
use Rattle.meet_tickets.specs.declared.records.Record.{Record}
use Rattle.meet_tickets.specs.declared.records.Deed.{Deed}
use Rattle.meet_tickets.specs.declared.records.Deed.TheVariants.{GiveFails, TakeFails, EntryInterrupted}
use Rattle.meet_tickets.specs.declared.fates.Fate.{Fate}
use Rattle.meet_tickets.specs.declared.fates.Fate.TheVariants.{Never, Failed, EntryRefused, Paired, Collected}
use Rattle.meet_tickets.specs.declared.fates.Fate.TheVariants.{Withdrawn as WasWithdrawn, Cut, Kept, Waiting}
use Rattle.meet_tickets.specs.Fates.{request_of, meets_it, has_learned, withdrawal_of, was_cut, named_by, waits_first}
use Rattle.meet_laws.specs.declared.fates.Told.{Told}

-- what these records tell of a ticket
abbrev pub told_in : List (Record Deed) → (ticket : ℕ) → Told
told_in history t = record {
  asked = request_of history t;
  met = option_map (λ r. r.ticket) (find (meets_it t) history);
  learned = has_learned history t;
  back = withdrawal_of history t;
  cut = was_cut history t;
}

-- the fate of a ticket of which this is told, and whose request has this deed
abbrev pub fate_settled : Told → Deed → Fate
fate_settled x deed =
    option_map_or (λ u. if x.learned then Collected u else Paired u) (option_or (named_by deed) x.met)
    (option_map_or (λ cause. WasWithdrawn cause) x.back
    (if x.cut then Cut else (if waits_first deed then Waiting else Kept)))

abbrev pub fate_told_asked : Told → Deed → Fate
fate_told_asked x (GiveFails m) = Failed
fate_told_asked x TakeFails = Failed
fate_told_asked x (EntryInterrupted side) = EntryRefused
fate_told_asked x deed = fate_settled x deed

-- the fate of a ticket of which this is told
abbrev pub fate_told : Told → Fate
fate_told x = option_map_or (fate_told_asked x) x.asked Never
