-- What the records say of the tickets, and what the place holds, are one, ticket by ticket.
use Rattle.std.specs.Prelude.{◌≡◌, ◌≢◌, ◌⊎◌, ℕ, ◌&&◌, ◌||◌, Bool, true, Option, Some, List, Contains, AllPairs}
use Rattle.std.specs.Prelude.{if◌then◌else◌}
use Rattle.meet_tickets.specs.declared.lines.Entry.{Entry}
use Rattle.meet_tickets.specs.declared.lines.Hold.TheVariants.{Handed, Served, Cut as CutAt}
use Rattle.meet_tickets.specs.declared.records.Record.{Record}
use Rattle.meet_tickets.specs.declared.records.Deed.{Deed}
use Rattle.meet_tickets.specs.declared.fates.Fate.TheVariants.{Paired, Cut, Kept, Waiting}
use Rattle.meet_tickets.specs.BySeat.{Seats, open_ticket, is_settled}
use Rattle.meet_tickets.specs.Fates.{fate, is_waiting, is_kept, is_unlearned, has_waited}

-- the ticket has a place: it waits, its item is kept, or it waited and awaits its ending
abbrev pub has_place : List (Record Deed) → (ticket : ℕ) → Bool
has_place history t =
    is_waiting (fate history t) || is_kept (fate history t) || (has_waited history t && is_unlearned (fate history t))

-- what the records say of the tickets is what these seats hold
pub record TellsPlace (history : List (Record Deed)) (s : Seats ℕ) : Type 0 where
  -- the ticket of an entry waits, or its item is kept
  pub line : (e : Entry ℕ) → Contains s.line e → fate history e.ticket ≡ (if e.waits then Waiting else Kept)
  -- one that a seat holds since it was met is paired with its partner
  pub handed : (i t u m : ℕ) → s.holds i ≡ Handed t u m → fate history t ≡ Paired u
  pub served : (i t u m : ℕ) → s.holds i ≡ Served t u m → fate history t ≡ Paired u
  -- one that was cut is cut
  pub cut : (i t : ℕ) (item : Option ℕ) → s.holds i ≡ CutAt t item → fate history t ≡ Cut
  -- and no other ticket has a place
  pub found : (t : ℕ) → has_place history t ≡ true → ((e : Entry ℕ) × Contains s.line e × (e.ticket ≡ t))
      ⊎ ((i : ℕ) × (open_ticket (s.holds i) ≡ Some t) × (is_settled (s.holds i) ≡ true))
  -- none has two
  pub entries_apart : AllPairs (λ e f. e.ticket ≢ f.ticket) s.line
  pub seats_apart : (i j t : ℕ) → open_ticket (s.holds i) ≡ Some t → open_ticket (s.holds j) ≡ Some t → i ≡ j
