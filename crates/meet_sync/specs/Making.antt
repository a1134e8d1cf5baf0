-- Why a queue for threads isn't made (our choice).
use Rattle.std.specs.Prelude.{ℕ, nat_eq, nat_lt, ◌||◌, Option, Some, None, if◌then◌else◌}
use Rattle.meet_tickets.specs.declared.refusals.Refusal.{Refusal}
use Rattle.meet_tickets.specs.declared.refusals.Refusal.TheVariants.{BadSizes}
use Rattle.meet_tickets.specs.Limits.{most_seats, most_records}

-- a queue with so many gates, whose history may have so many records, isn't made where there is no gate or no record,
-- or more of either than the limits say; Memory aside
abbrev pub making_refusal : (gates cap : ℕ) → Option Refusal
making_refusal gates cap =
    if nat_eq gates 0 || nat_lt most_seats gates || nat_eq cap 0 || nat_lt most_records cap then Some BadSizes else None
