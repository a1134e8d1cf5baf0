-- What is left in a queue, told by the records: whose items lie there still, and how they stand (our choice).
use Rattle.std.specs.Prelude.{◌≡◌, ◌↔◌, ℕ, ◌<◌, ◌==◌, Option, Some, None, option_map, option_and_then, List, ◌++◌}
use Rattle.std.specs.Prelude.{map, Contains, AllPairs, if◌then◌else◌}
use Rattle.meet_tickets.specs.declared.fates.Fate.{Fate}
use Rattle.meet_tickets.specs.declared.fates.Fate.TheVariants.{Paired, Cut, Kept as KeptFate, Waiting}
use Rattle.meet_tickets.specs.declared.records.Record.{Record}
use Rattle.meet_tickets.specs.declared.records.Deed.{Deed}
use Rattle.meet_tickets.specs.declared.records.Deed.TheVariants.{GiveWaits, GiveMeets, GiveKept}
use Rattle.meet_tickets.specs.Bases.{Based}
use Rattle.meet_tickets.specs.Fates.{fate, request_of, has_waited, opening}
use Rattle.meet_core.specs.declared.left.Left.{Left}
use Rattle.meet_core.specs.declared.left.LeftStanding.{LeftStanding}
use Rattle.meet_core.specs.declared.left.LeftStanding.TheVariants.{Offered, Kept, Ready}

-- an item that is left, by its mark
pub record Leaving : Type 0 where
  pub ticket : ℕ  -- its giver's
  pub mark : ℕ
  pub standing : LeftStanding

-- an item as the records tell it
abbrev pub leaving_of : {T : Type 0} → (T → ℕ) → Left T → Leaving
leaving_of mark left = record { ticket = left.ticket; mark = mark left.item; standing = left.standing }

-- the item of a giver that waited, by its fate: it is offered while the giver waits, ready once the giver was cut
abbrev pub standing_waited : Fate → Option LeftStanding
standing_waited Waiting = Some Offered
standing_waited Cut = Some Ready
standing_waited fate = None

-- an item that was kept, by its giver's fate
abbrev pub standing_kept : Fate → Option LeftStanding
standing_kept KeptFate = Some Kept
standing_kept fate = None

-- the item of a giver that met this taker, by the taker's fate: it is ready while the taker, which waited, hasn't
-- collected it
abbrev pub standing_met : (giver : ℕ) → Fate → Option LeftStanding
standing_met t (Paired u) = if u == t then Some Ready else None
standing_met t fate = None

-- the mark of the item that a ticket's request brought, and how it stands, where it is left
abbrev pub left_asked : List (Record Deed) → (ticket : ℕ) → Deed → Option Leaving
left_asked history t (GiveWaits m) =
    option_map (λ s. record { ticket = t; mark = m; standing = s }) (standing_waited (fate history t))
left_asked history t (GiveKept m) =
    option_map (λ s. record { ticket = t; mark = m; standing = s }) (standing_kept (fate history t))
left_asked history t (GiveMeets m u) =
    if has_waited history u then
    option_map (λ s. record { ticket = t; mark = m; standing = s }) (standing_met t (fate history u))
    else None
left_asked history t deed = None

-- what is left of a ticket
abbrev pub left_told : List (Record Deed) → (ticket : ℕ) → Option Leaving
left_told history t = option_and_then (left_asked history t) (request_of history t)

-- these are all the items that are left, each once, by rising ticket
pub record AreLeft (history : List (Record Deed)) (left : List Leaving) : Type 0 where
  pub rising : AllPairs (λ a b. a.ticket < b.ticket) left
  pub all : (a : Leaving) → Contains left a ↔ (left_told history a.ticket ≡ Some a)

-- the same of a queue's items, after a base
abbrev pub AreLeftOn : {T : Type 0} → (T → ℕ) → Based → List (Record Deed) → List (Left T) → Type 0
AreLeftOn mark b records items = AreLeft (opening b ++ records) (map (leaving_of mark) items)
