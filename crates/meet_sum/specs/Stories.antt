-- What records tell of one ticket, and when; records are numbered from 1.
use Rattle.std.specs.Prelude.{ℕ, ◌==◌, ◌&&◌, ◌||◌, ◌↔◌, Bool, nat_lt, is_some, option_map, List, find}
use Rattle.std.specs.Prelude.{◌++◌, Contains, if◌then◌else◌}
use Rattle.std.specs.List.{position_from}
use Rattle.std.specs.List.Sorted.{IsStrictlyIncreasing}
use Rattle.std.specs.Option.{option_map_or}
use Rattle.meet_tickets.specs.declared.records.Record.{Record}
use Rattle.meet_tickets.specs.declared.records.Deed.{Deed}
use Rattle.meet_tickets.specs.declared.records.Deed.TheVariants.{GiveWaits, GiveMeets, GiveFails, GiveKept, TakeWaits}
use Rattle.meet_tickets.specs.declared.records.Deed.TheVariants.{TakeMeets, TakeFails}
use Rattle.meet_tickets.specs.declared.fates.Fate.{Fate}
use Rattle.meet_tickets.specs.declared.fates.Fate.TheVariants.{Never, Failed, EntryRefused, Paired, Collected}
use Rattle.meet_tickets.specs.declared.fates.Fate.TheVariants.{Withdrawn as WasWithdrawn, Cut, Kept, Waiting}
use Rattle.meet_tickets.specs.Bases.{Based}
use Rattle.meet_tickets.specs.BySeat.{is_request}
use Rattle.meet_tickets.specs.Fates.{meets_it, has_learned, withdrawn_by, withdrawal_of, interrupts, was_cut}
use Rattle.meet_tickets.specs.Fates.{tickets_of, entered_in}
use Rattle.meet_sum.specs.declared.stories.Asked.{Asked}
use Rattle.meet_sum.specs.declared.stories.AtOnce.{AtOnce}
use Rattle.meet_sum.specs.declared.stories.AtOnce.TheVariants.{Waits, IsKept, Meets, Fails, Refused}
use Rattle.meet_sum.specs.declared.stories.Story.{Story}

-- whether a record is the request of this ticket
abbrev pub asks_for : (ticket : ℕ) → Record Deed → Bool
asks_for t r = is_request r.deed && (r.ticket == t)

-- whether a record takes this ticket out of the line: a request that meets it, its withdrawal, or what cuts it
abbrev pub takes_out : (ticket : ℕ) → Record Deed → Bool
takes_out t r =
    meets_it t r || (is_some (withdrawn_by r.deed) && (r.ticket == t))
    || (interrupts r.deed && nat_lt 0 t && (r.ticket == t))

-- what a request came to at once; one that is none of the others was refused at its entry
abbrev pub at_once : Deed → AtOnce
at_once (GiveWaits m) = Waits
at_once (GiveMeets m u) = Meets
at_once (GiveFails m) = Fails
at_once (GiveKept m) = IsKept
at_once TakeWaits = Waits
at_once (TakeMeets m u) = Meets
at_once TakeFails = Fails
at_once deed = Refused

-- who asked for which ticket, and what it came to at once, by the record of a request
abbrev pub asked_by : Record Deed → Asked
asked_by r = record { seat = r.seat; ticket = r.ticket; how = at_once r.deed }

-- what these records tell of a ticket
abbrev pub story_in : List (Record Deed) → (ticket : ℕ) → Story
story_in history t = record {
  asked = option_map asked_by (find (asks_for t) history);
  came = position_from (asks_for t) 1 history;
  met = is_some (find (meets_it t) history);
  learned = has_learned history t;
  back = withdrawal_of history t;
  cut = was_cut history t;
  went = position_from (takes_out t) 1 history;
}

-- the tickets that a base and the records since name as requested, each once and rising: those of the base's entries,
-- which are its line, the open tickets that were met and those that were cut, but not their partners (our choice), and
-- those of the requests
pub record AreRequested (b : Based) (records : List (Record Deed)) (tickets : List ℕ) : Type 0 where
  pub rising : IsStrictlyIncreasing tickets
  pub those : (t : ℕ) → Contains tickets t ↔ Contains (entered_in b ++ tickets_of records) t

-- the fate of one that met somebody; of whom its story doesn't tell, so 0 stands there
abbrev pub fate_met : (learned : Bool) → Fate
fate_met learned = if learned then Collected 0 else Paired 0

-- the fate of one whose request stood in the line, where this is what it came to at once
abbrev pub fate_stood : Story → (first : Fate) → Fate
fate_stood s first =
    if s.met then fate_met s.learned
    else option_map_or (λ cause. WasWithdrawn cause) s.back (if s.cut then Cut else first)

-- the fate of a ticket with this story, whose request came to this at once
abbrev pub fate_asked : Story → AtOnce → Fate
fate_asked s Waits = fate_stood s Waiting
fate_asked s IsKept = fate_stood s Kept
fate_asked s Meets = fate_met s.learned
fate_asked s Fails = Failed
fate_asked s Refused = EntryRefused

-- the fate of a ticket with this story
abbrev pub fate_told : Story → Fate
fate_told s = option_map_or (λ a. fate_asked s a.how) s.asked Never
