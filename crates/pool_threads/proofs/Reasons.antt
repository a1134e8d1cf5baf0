-- Why a pool may refuse a job.
use Rattle.std.proofs.Common.{◌≡◌, ℕ, ◌+◌, ◌<◌, ◌≤◌, Bool, true, false, refl, Some, None, arith}
use Rattle.std.specs.Prelude.{nat_le, nat_lt, if◌then◌else◌}
use Rattle.std.proofs.lemmas.Bool.{leb-true, leb-false}
use Rattle.meet_tickets.specs.Limits.{last_ticket}
use Rattle.meet_tickets.specs.Refusals.{IsWhy}
use Rattle.meet_tickets.specs.declared.refusals.Refusal.{Refusal}
use Rattle.meet_tickets.specs.declared.refusals.Refusal.TheVariants.{NoSuchSeat, TicketsSpent}
use Rattle.meet_book.specs.Booking.{call_refusal}
use Rattle.pool_core.specs.Calls.{execute_refusal}
use Rattle.pool_core.specs.Pools.{owed}
use Rattle.pool_core.specs.Shown.{Shown}
use Rattle.pool_threads.specs.Told.{IsExecuteWhy}

execute_why_by : (absent spent full : Bool) (callers seat : ℕ) (why : Refusal) → (absent ≡ true → callers ≤ seat) → (absent ≡ false → seat < callers)
    → IsWhy (call_refusal (if absent then Some NoSuchSeat else (if spent then Some TicketsSpent else None)) full) why → IsExecuteWhy callers seat why
execute_why_by true spent full callers seat why gone here is = rw is (gone refl)
execute_why_by false true full callers seat why gone here is = rw is (here refl)
execute_why_by false false true callers seat why gone here is = rw is tt
execute_why_by false false false callers seat why gone here is = rw is tt

-- by a seat of this number
pub execute_why : {X : Type 0} (p : Shown X) (seat : ℕ) (full : Bool) (why : Refusal) → IsWhy (call_refusal (execute_refusal p seat) full) why
    → IsExecuteWhy p.settings.sizes.callers seat why
execute_why p seat full why is =
    execute_why_by (nat_le p.settings.sizes.callers seat) (nat_lt (last_ticket + 1) (p.next + owed p.pool + 6)) full p.settings.sizes.callers seat why
    (leb-true p.settings.sizes.callers seat) (leb-false p.settings.sizes.callers seat) is
