-- Where the items are that were given, by number: each give request counts once, by its ticket's fate.
use Rattle.std.specs.Prelude.{◌≡◌, ℕ, ◌+◌, ◌&&◌, Bool, true, false, is_some, List, ◌++◌, length, count_by}
use Rattle.std.specs.Option.{option_map_or}
use Rattle.meet_tickets.specs.declared.fates.Fate.{Fate}
use Rattle.meet_tickets.specs.declared.fates.Fate.TheVariants.{Failed, EntryRefused, Paired, Collected}
use Rattle.meet_tickets.specs.declared.fates.Fate.TheVariants.{Withdrawn as WasWithdrawn, Cut, Waiting}
use Rattle.meet_tickets.specs.declared.places.Side.{Side}
use Rattle.meet_tickets.specs.declared.places.Side.TheVariants.{Giver, Taker}
use Rattle.meet_tickets.specs.declared.records.Record.{Record}
use Rattle.meet_tickets.specs.declared.records.Deed.{Deed}
use Rattle.meet_tickets.specs.declared.records.Deed.TheVariants.{GiveWaits, GiveMeets, GiveFails, GiveKept}
use Rattle.meet_tickets.specs.declared.records.Deed.TheVariants.{EntryInterrupted, Got}
use Rattle.meet_tickets.specs.Bases.{Based}
use Rattle.meet_tickets.specs.Fates.{fate, request_of, tickets_of, named_by, is_kept, opening}
use Rattle.meet_core.specs.declared.left.LeftStanding.{LeftStanding}
use Rattle.meet_core.specs.declared.left.LeftStanding.TheVariants.{Kept}
use Rattle.meet_laws.specs.declared.tally.Tally.{Tally}

-- whether a request gives
abbrev pub gives : Deed → Bool
gives (GiveWaits m) = true
gives (GiveMeets m u) = true
gives (GiveFails m) = true
gives (GiveKept m) = true
gives (EntryInterrupted Giver) = true
gives deed = false

-- whether a ticket's request gives
abbrev pub has_given : List (Record Deed) → (ticket : ℕ) → Bool
has_given history t = option_map_or gives (request_of history t) false

-- the item was handed to a taker
abbrev pub is_delivered : Fate → Bool
is_delivered (Paired u) = true
is_delivered (Collected u) = true
is_delivered fate = false

-- it came back to its giver
abbrev pub is_returned : Fate → Bool
is_returned Failed = true
is_returned EntryRefused = true
is_returned (WasWithdrawn cause) = true
is_returned fate = false

-- it is in the place, and its giver is still there
abbrev pub is_offered : Fate → Bool
is_offered Waiting = true
is_offered Cut = true
is_offered fate = false

-- how many give requests have such a fate
abbrev pub given_in : (Fate → Bool) → List (Record Deed) → ℕ
given_in such history = count_by (λ t. has_given history t && such (fate history t)) (tickets_of history)

-- how many give requests there are
abbrev pub gives_in : List (Record Deed) → ℕ
gives_in history = count_by (λ r. gives r.deed) history

-- the numbers of give requests by where their items are; after a base its entries count too, a pair by its giver
abbrev pub tally_in : List (Record Deed) → Tally
tally_in history = record {
  delivered = given_in is_delivered history;
  returned = given_in is_returned history;
  kept = given_in is_kept history;
  offered = given_in is_offered history;
}

-- each give request counts once
abbrev pub CountsOnce : Based → List (Record Deed) → Type 0
CountsOnce b records = (tally_in (opening b ++ records)).delivered + (tally_in (opening b ++ records)).returned
    + (tally_in (opening b ++ records)).kept + (tally_in (opening b ++ records)).offered
    ≡ gives_in (opening b ++ records)

-- how a tally is counted

-- whether a request met somebody: it names its partner
abbrev pub meets : Deed → Bool
meets deed = is_some (named_by deed)

-- whether a giver met a taker that waited, and whether a taker that waited learned so
abbrev pub is_give_meets : Deed → Bool
is_give_meets (GiveMeets m u) = true
is_give_meets deed = false

abbrev pub is_got : Deed → Bool
is_got (Got m u) = true
is_got deed = false

abbrev pub is_taker : Side → Bool
is_taker Giver = false
is_taker Taker = true

-- whether an item is left as kept
abbrev pub stands_kept : LeftStanding → Bool
stands_kept Kept = true
stands_kept standing = false

-- how many met somebody, how many gave, and how many takers that waited were met, by a base and records
abbrev pub met_on : Based → List (Record Deed) → ℕ
met_on b records = length b.pairs + count_by (λ r. meets r.deed) records

abbrev pub gave_on : Based → List (Record Deed) → ℕ
gave_on b records = count_by (λ e. is_some e.item) b.line + length b.pairs + count_by (λ c. is_some c.item) b.cut
    + count_by (λ r. gives r.deed) records

abbrev pub takers_met_on : Based → List (Record Deed) → ℕ
takers_met_on b records = count_by (λ p. is_taker p.side) b.pairs + count_by (λ r. is_give_meets r.deed) records
