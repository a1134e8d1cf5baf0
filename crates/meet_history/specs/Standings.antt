-- Where a place's tickets and items are: as the place shows it, and as its records tell it.
use Rattle.std.specs.Prelude.{◌≡◌, List, ◌++◌, length}
use Rattle.meet_tickets.specs.declared.records.Record.{Record}
use Rattle.meet_tickets.specs.declared.records.Deed.{Deed}
use Rattle.meet_tickets.specs.declared.places.Kind.{Kind}
use Rattle.meet_tickets.specs.Bases.{Based, no_base, Folds}
use Rattle.meet_tickets.specs.ByLists.{IsLegal}
use Rattle.meet_tickets.specs.BySeat.{beginning, moment_of}
use Rattle.meet_tickets.specs.Fates.{waiting_in, uncollected_in, kept_in, opening}
use Rattle.meet_history.specs.declared.one_thread.verbs.Call.{Call}
use Rattle.meet_history.specs.declared.checker.Standing.{Standing}
use Rattle.meet_history.specs.declared.one_thread.setup.Setup.{Setup}
use Rattle.meet_history.specs.OneThread.{start, turns, records, standing_of}

-- the numbers of tickets with these fates: that wait in the line; that waited, were met or cut, and weren't told so;
-- and whose items are kept
abbrev pub standing_in : List (Record Deed) → Standing
standing_in history =
    record { waiting = waiting_in history; uncollected = uncollected_in history; kept = kept_in history }

-- the same after a base, whose entries count as requests before the first record
abbrev pub standing_on : Based → List (Record Deed) → Standing
standing_on base records = standing_in (opening base ++ records)

-- of all these records the first were folded into this base, as many as it says, and these are the others
pub record IsFolded (k : Kind) (all : List (Record Deed)) (base : Based) (records : List (Record Deed)) : Type 0 where
  pub past : List (Record Deed)
  pub parts : all ≡ past ++ records
  pub gone : base.gone ≡ length past
  pub folds : Folds k no_base past base

-- what one thread's calls write is legal, leaves the place as they do, and tells what stands there
pub record IsRecorded (setup : Setup) (calls : List Call) : Type 0 where
  pub legal : IsLegal setup.kind (records setup calls)
  pub leaves : (moment_of setup.kind beginning (records setup calls)).seats
      ≡ (turns setup (start setup) calls).place.seats
  pub standing : standing_of setup (turns setup (start setup) calls).place ≡ standing_in (records setup calls)
