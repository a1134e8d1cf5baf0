-- How a worker's step ends, by the core's answer.
use Rattle.std.proofs.Common.{◌≡◌, ◌+◌, ◌≤◌, ℕ, [], ◌∷◌, length, sym, ap, subst, ◌∙◌, arith, Option, Some}
use Rattle.std.specs.Prelude.{option_to_list}
use Rattle.meet_tickets.specs.declared.records.Record.{Record}
use Rattle.meet_place.specs.Seats.{SeatView, Adds}
use Rattle.pool_core.specs.Placed.{pool_record}
use Rattle.pool_core.specs.declared.calls.PoolCall.TheVariants as call
use Rattle.pool_core.specs.declared.calls.PoolAnswer.TheVariants as answer
use Rattle.pool_core.specs.declared.answers.Ready.{Ready}
use Rattle.pool_core.specs.declared.answers.Ready.TheVariants as ready
use Rattle.pool_core.specs.declared.answers.Followed.{Followed}
use Rattle.pool_core.specs.declared.answers.Followed.TheVariants as followed
use Rattle.pool_core.specs.declared.answers.IdleEnd.{IdleEnd}
use Rattle.pool_core.specs.declared.answers.IdleEnd.TheVariants as idle
use Rattle.pool_core.specs.declared.deeds.PoolDeed.{PoolDeed}
use Rattle.pool_threads.specs.declared.steps.Next.{Next}
use Rattle.pool_threads.specs.declared.steps.Next.TheVariants as next
use Rattle.pool_threads.specs.NextFits.{NextFits, ReadyNext, FollowNext, IdleNext}
use Rattle.pool_threads.specs.Working.{IsAfter}
use Rattle.pool_threads.specs.Worthy.{EndsRunning}
use Rattle.pool_threads.proofs.Worthy.{one_more, none_more, ends_running}

-- the seat after a step that wrote this, or nothing
pub is_after : (old new : SeatView (PoolDeed ℕ)) (made : Option (Record (PoolDeed ℕ))) → new.number ≡ old.number
    → length new.list + new.room ≡ length old.list + old.room → Adds old.list new.list (option_to_list made) → IsAfter old new
is_after old new made number room adds =
    record { number = number; room = (let n = one_more old.list new.list made adds in omega (arith, n, room)) }

module _ (old new : SeatView (PoolDeed ℕ)) (number : new.number ≡ old.number)
    (room : length new.list + new.room ≡ length old.list + old.room) where
  after : (r : Record (PoolDeed ℕ)) → Adds old.list new.list (r ∷ []) → (seat : SeatView (PoolDeed ℕ)) → seat ≡ new → IsAfter old seat
  after r adds seat is = subst (IsAfter old) (sym is) (is_after old new (Some r) number room adds)

  stays : Adds old.list new.list [] → (seat : SeatView (PoolDeed ℕ)) → seat ≡ new → (seat.number ≡ old.number) × (old.room ≤ seat.room)
  stays adds seat is =
      let n = none_more old.list new.list adds in
      let m : old.room ≤ new.room = omega (arith, n, room) in
      (ap (λ s. s.number) is ∙ number, subst (λ s. old.room ≤ s.room) (sym is) m)

module _ {C : Type 0} (old new : SeatView (PoolDeed ℕ)) (t : ℕ) (number : new.number ≡ old.number)
    (room : length new.list + new.room ≡ length old.list + old.room) where
  pub ready_fits : (a : Ready ℕ) (n : Next C (SeatView (PoolDeed ℕ)))
      → Adds old.list new.list (option_to_list (pool_record (λ x. x) old.number call.Ready (answer.BeReady t a)))
      → ReadyNext new a n → NextFits old n
  ready_fits (ready.Run u tag) (next.Run seat job) adds is = (
    after old new number room _ adds seat is.0,
    subst (λ s. EndsRunning s.list job.tag) (sym is.0) (subst (EndsRunning new.list) (sym is.1) (ends_running old.list new.list old.number t u tag adds)),
  )
  ready_fits (ready.Run u tag) (next.Waits seat) adds is = absurd is
  ready_fits (ready.Run u tag) (next.Ended seat) adds is = absurd is
  ready_fits (ready.Run u tag) (next.Stays seat) adds is = absurd is
  ready_fits (ready.Run u tag) next.Gone adds is = absurd is
  ready_fits (ready.Run u tag) (next.Refused seat) adds is = absurd is
  ready_fits ready.Waits (next.Run seat job) adds is = absurd is
  ready_fits ready.Waits (next.Waits seat) adds is = after old new number room _ adds seat is
  ready_fits ready.Waits (next.Ended seat) adds is = absurd is
  ready_fits ready.Waits (next.Stays seat) adds is = absurd is
  ready_fits ready.Waits next.Gone adds is = absurd is
  ready_fits ready.Waits (next.Refused seat) adds is = absurd is
  ready_fits ready.Exit (next.Run seat job) adds is = absurd is
  ready_fits ready.Exit (next.Waits seat) adds is = absurd is
  ready_fits ready.Exit (next.Ended seat) adds is = absurd is
  ready_fits ready.Exit (next.Stays seat) adds is = absurd is
  ready_fits ready.Exit next.Gone adds is = tt
  ready_fits ready.Exit (next.Refused seat) adds is = absurd is

  pub follow_fits : (a : Followed ℕ) (n : Next C (SeatView (PoolDeed ℕ)))
      → Adds old.list new.list (option_to_list (pool_record (λ x. x) old.number call.Follow (answer.Followed t a)))
      → FollowNext new a n → NextFits old n
  follow_fits (followed.Run u tag) (next.Run seat job) adds is = (
    after old new number room _ adds seat is.0,
    subst (λ s. EndsRunning s.list job.tag) (sym is.0) (subst (EndsRunning new.list) (sym is.1) (ends_running old.list new.list old.number t u tag adds)),
  )
  follow_fits (followed.Run u tag) (next.Waits seat) adds is = absurd is
  follow_fits (followed.Run u tag) (next.Ended seat) adds is = absurd is
  follow_fits (followed.Run u tag) (next.Stays seat) adds is = absurd is
  follow_fits (followed.Run u tag) next.Gone adds is = absurd is
  follow_fits (followed.Run u tag) (next.Refused seat) adds is = absurd is
  follow_fits followed.NotYet (next.Run seat job) adds is = absurd is
  follow_fits followed.NotYet (next.Waits seat) adds is = absurd is
  follow_fits followed.NotYet (next.Ended seat) adds is = absurd is
  follow_fits followed.NotYet (next.Stays seat) adds is = stays old new number room adds seat is
  follow_fits followed.NotYet next.Gone adds is = absurd is
  follow_fits followed.NotYet (next.Refused seat) adds is = absurd is
  follow_fits followed.Exit (next.Run seat job) adds is = absurd is
  follow_fits followed.Exit (next.Waits seat) adds is = absurd is
  follow_fits followed.Exit (next.Ended seat) adds is = absurd is
  follow_fits followed.Exit (next.Stays seat) adds is = absurd is
  follow_fits followed.Exit next.Gone adds is = tt
  follow_fits followed.Exit (next.Refused seat) adds is = absurd is

  pub idle_fits : (a : IdleEnd) (n : Next C (SeatView (PoolDeed ℕ)))
      → Adds old.list new.list (option_to_list (pool_record (λ x. x) old.number call.IdleEnd (answer.Idled t a)))
      → IdleNext new a n → NextFits old n
  idle_fits idle.Stay (next.Run seat job) adds is = absurd is
  idle_fits idle.Stay (next.Waits seat) adds is = absurd is
  idle_fits idle.Stay (next.Ended seat) adds is = absurd is
  idle_fits idle.Stay (next.Stays seat) adds is = stays old new number room adds seat is
  idle_fits idle.Stay next.Gone adds is = absurd is
  idle_fits idle.Stay (next.Refused seat) adds is = absurd is
  idle_fits idle.Late (next.Run seat job) adds is = absurd is
  idle_fits idle.Late (next.Waits seat) adds is = absurd is
  idle_fits idle.Late (next.Ended seat) adds is = absurd is
  idle_fits idle.Late (next.Stays seat) adds is = stays old new number room adds seat is
  idle_fits idle.Late next.Gone adds is = absurd is
  idle_fits idle.Late (next.Refused seat) adds is = absurd is
  idle_fits idle.Exit (next.Run seat job) adds is = absurd is
  idle_fits idle.Exit (next.Waits seat) adds is = absurd is
  idle_fits idle.Exit (next.Ended seat) adds is = absurd is
  idle_fits idle.Exit (next.Stays seat) adds is = absurd is
  idle_fits idle.Exit next.Gone adds is = tt
  idle_fits idle.Exit (next.Refused seat) adds is = absurd is

-- a step that is refused leaves the seat
pub refused_fits : (old new : SeatView (PoolDeed ℕ)) → new ≡ old → IsAfter old new
refused_fits old new is = record { number = ap (λ s. s.number) is; room = (let e = ap (λ s. s.room) is in omega (arith, e)) }
