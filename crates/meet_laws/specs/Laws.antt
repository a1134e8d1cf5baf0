-- What holds of the tickets' fates in every legal history. That each request is met at most once, and never after it
-- was taken back, is how fates move (Scherer, Lea and Scott 2006: a cancelled reservation is never matched); `Promise`
-- says it whole.
use Rattle.std.specs.Prelude.{◌≡◌, ◌≢◌, ◌⊎◌, ℕ, ◌<◌, Bool, true, false, Option, Some, None, List}
use Rattle.std.specs.Prelude.{[], ◌∷◌, ◌++◌, Contains}
use Rattle.std.specs.Option.{option_map_or}
use Rattle.meet_tickets.specs.declared.fates.Fate.{Fate}
use Rattle.meet_tickets.specs.declared.fates.Fate.TheVariants.{Never, Failed, EntryRefused, Paired, Collected}
use Rattle.meet_tickets.specs.declared.fates.Fate.TheVariants.{Withdrawn as WasWithdrawn, Cut, Kept, Waiting, Past}
use Rattle.meet_tickets.specs.declared.places.End.{End}
use Rattle.meet_tickets.specs.declared.places.End.TheVariants.{Front, Back}
use Rattle.meet_tickets.specs.declared.places.Kind.{Kind}
use Rattle.meet_tickets.specs.declared.records.Record.{Record}
use Rattle.meet_tickets.specs.declared.records.Cause.TheVariants.{Cancelled, Expired, Interrupted}
use Rattle.meet_tickets.specs.declared.records.Deed.{Deed}
use Rattle.meet_tickets.specs.declared.records.Deed.TheVariants.{GiveWaits, GiveMeets, GiveFails, GiveKept, TakeWaits}
use Rattle.meet_tickets.specs.declared.records.Deed.TheVariants.{TakeMeets, TakeFails, Got}
use Rattle.meet_tickets.specs.Asked.{request_on, brought_on}
use Rattle.meet_tickets.specs.Bases.{Based}
use Rattle.meet_tickets.specs.Fates.{named_by, waits_first, fate_on}
use Rattle.meet_tickets.specs.Meeting.{end_of}

-- from which fate a ticket may move to which; one that was met learns so where it waited
abbrev pub MayMove : (waited : Bool) → Fate → Fate → Type 0
MayMove waited Never Failed = Unit {0}
MayMove waited Never EntryRefused = Unit {0}
MayMove waited Never (Paired u) = Unit {0}
MayMove waited Never Kept = Unit {0}
MayMove waited Never Waiting = Unit {0}
MayMove waited Waiting (Paired u) = Unit {0}
MayMove waited Waiting Cut = Unit {0}
MayMove waited Waiting (WasWithdrawn Cancelled) = Unit {0}
MayMove waited Waiting (WasWithdrawn Expired) = Unit {0}
MayMove waited Kept (Paired u) = Unit {0}
MayMove waited Cut (WasWithdrawn Interrupted) = Unit {0}
MayMove true (Paired u) (Collected v) = u ≡ v
MayMove waited before after = ⊥

-- whether a ticket waited, at first, after a base
abbrev pub waited_on : Based → List (Record Deed) → (ticket : ℕ) → Bool
waited_on b records t = option_map_or waits_first (request_on b records t) false

-- a record leaves each ticket's fate as it was, or moves it on
abbrev pub FatesMove : Based → List (Record Deed) → Record Deed → Type 0
FatesMove b records r = (t : ℕ) → (fate_on b (records ++ r ∷ []) t ≡ fate_on b records t)
    ⊎ MayMove (waited_on b records t) (fate_on b records t) (fate_on b (records ++ r ∷ []) t)

-- a ticket of this fate is with that ticket: it met it
abbrev pub IsWith : ℕ → Fate → Type 0
IsWith u (Paired v) = u ≡ v
IsWith u (Collected v) = u ≡ v
IsWith u fate = ⊥

-- whether a request takes
abbrev pub takes : Deed → Bool
takes TakeWaits = true
takes (TakeMeets m u) = true
takes TakeFails = true
takes deed = false

-- the mark that a deed tells
abbrev pub told_mark : Deed → Option ℕ
told_mark (GiveWaits m) = Some m
told_mark (GiveMeets m u) = Some m
told_mark (GiveFails m) = Some m
told_mark (GiveKept m) = Some m
told_mark (TakeMeets m u) = Some m
told_mark (Got m u) = Some m
told_mark deed = None

-- two tickets met: one gave the item of this mark, the other took it. Each is with the other, but for one of the time
-- before the base that isn't one of its entries; and no record of either tells another mark
pub record HaveMet (b : Based) (records : List (Record Deed)) (giver taker mark : ℕ) : Type 0 where
  pub gave : brought_on b records giver ≡ Some mark
  pub took : option_map_or takes (request_on b records taker) false ≡ true
  pub of_giver : (fate_on b records giver ≡ Past) ⊎ IsWith taker (fate_on b records giver)
  pub of_taker : (fate_on b records taker ≡ Past) ⊎ IsWith giver (fate_on b records taker)
  pub marks : (r : Record Deed) → Contains records r → (r.ticket ≡ giver) ⊎ (r.ticket ≡ taker) → (m : ℕ)
      → told_mark r.deed ≡ Some m → m ≡ mark

-- a ticket that is with another has met it, as giver or as taker
abbrev pub AreMutual : Based → List (Record Deed) → Type 0
AreMutual b records = (t u : ℕ) → IsWith u (fate_on b records t)
    → (mark : ℕ) × (HaveMet b records t u mark ⊎ HaveMet b records u t mark)

-- of two tickets in the line this one is nearer to the end that is met
abbrev pub IsNearer : End → (ticket other : ℕ) → Type 0
IsNearer Front u v = u < v
IsNearer Back u v = v < u

-- a request meets the ticket that is nearest: every other one that waits or is kept comes behind it
abbrev pub IsInOrder : Kind → Based → List (Record Deed) → Record Deed → Type 0
IsInOrder k b records r = (u v : ℕ) → named_by r.deed ≡ Some u → v ≢ u
    → (fate_on b records v ≡ Waiting) ⊎ (fate_on b records v ≡ Kept) → IsNearer (end_of k.order) u v
