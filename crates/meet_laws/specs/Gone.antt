-- How the tickets that are gone are found: listed once, and then looked up.
use Rattle.std.specs.Prelude.{ℕ, ◌==◌, ◌&&◌, ◌||◌, nat_lt, not, Bool, is_some, List, map, filter}
use Rattle.std.specs.List.{list_any}
use Rattle.meet_tickets.specs.declared.records.Record.{Record}
use Rattle.meet_tickets.specs.declared.records.Deed.{Deed}
use Rattle.meet_tickets.specs.Fates.{withdrawn_by, interrupts}
use Rattle.meet_laws.specs.Rows.{is_refused}

-- whether a record takes its ticket back, or cuts it
abbrev pub ends_early : Record Deed → Bool
ends_early r = is_some (withdrawn_by r.deed) || (interrupts r.deed && nat_lt 0 r.ticket)

-- the tickets of these records
abbrev pub gone_tickets : List (Record Deed) → List ℕ
gone_tickets records = map (λ r. r.ticket) (filter ends_early records)

-- whether a ticket is one of these
abbrev pub is_among : List ℕ → (ticket : ℕ) → Bool
is_among tickets t = list_any (λ u. u == t) tickets

-- whether a record of such a deed may be left
abbrev pub stays : Deed → Bool
stays deed = not (interrupts deed) && not (is_refused deed)

-- the records that are left where these tickets are gone
abbrev pub staying_among : List ℕ → List (Record Deed) → List (Record Deed)
staying_among gone records = filter (λ r. stays r.deed && not (is_among gone r.ticket)) records
