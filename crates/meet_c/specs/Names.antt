-- What the numbers that C gives stand for.
use Rattle.std.specs.Prelude.{ℕ, nat_lt, nat_le, nat_eq, Option, Some, None, option_map, if◌then◌else◌}
use Rattle.meet_tickets.specs.declared.places.Order.TheVariants.{Fair, Unfair, Transfer}
use Rattle.meet_tickets.specs.declared.places.Kind.{Kind}
use Rattle.meet_tickets.specs.Limits.{most_seats, last_ticket}
use Rattle.meet_core.specs.declared.calls.queue_calls.QueueCall.{QueueCall}
use Rattle.meet_core.specs.declared.calls.queue_calls.QueueCall.TheVariants.{Put, Give, Offer, Take, Poll, FollowUp}
use Rattle.meet_core.specs.declared.calls.queue_calls.QueueCall.TheVariants.{Cancel, Expire, Interrupt}

-- a ticket's number
unfoldable pub ticket_in : ℕ → Option ℕ
ticket_in n = if nat_le n last_ticket then Some n else None

-- a seat's number
unfoldable pub seat_in : ℕ → Option ℕ
seat_in n = if nat_lt n most_seats then Some n else None

-- an ending, or an interrupt, by its number
unfoldable pub ending_of : (verb value : ℕ) → Option (QueueCall ℕ)
ending_of verb value =
    if nat_eq verb 6 then option_map FollowUp (ticket_in value) else (
    if nat_eq verb 7 then option_map Cancel (ticket_in value) else (
    if nat_eq verb 8 then option_map Expire (ticket_in value) else (
    if nat_eq verb 9 then option_map Interrupt (seat_in value) else None)))

-- a call by its number, with its item, ticket or target
unfoldable pub call_of : (verb value : ℕ) → Option (QueueCall ℕ)
call_of verb value =
    if nat_eq verb 1 then Some (Put value) else (
    if nat_eq verb 2 then Some (Give value) else (
    if nat_eq verb 3 then Some (Offer value) else (
    if nat_eq verb 4 then Some Take else (
    if nat_eq verb 5 then Some Poll else ending_of verb value))))

-- a bound, where 0 is none
abbrev pub bound_in : ℕ → Option ℕ
bound_in bound = if nat_eq bound 0 then None else Some bound

-- the kind of place of this number
unfoldable pub kind_of : (order bound : ℕ) → Option Kind
kind_of order bound =
    if nat_eq order 1 then Some (record { order = Fair; bound = bound_in bound }) else (
    if nat_eq order 2 then Some (record { order = Unfair; bound = bound_in bound }) else (
    if nat_eq order 3 then Some (record { order = Transfer; bound = bound_in bound }) else None))
