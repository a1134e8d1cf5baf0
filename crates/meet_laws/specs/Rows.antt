-- The fates as a table, by which records there are: the words that each fate is found by (our choice).
use Rattle.std.specs.Prelude.{◌≡◌, ◌⊎◌, ◌↔◌, ℕ, ◌<◌, Bool, true, false, Some, List, Contains, ◌++◌}
use Rattle.meet_tickets.specs.declared.fates.Fate.{Fate}
use Rattle.meet_tickets.specs.declared.fates.Fate.TheVariants.{Never, Failed, EntryRefused, Paired, Collected}
use Rattle.meet_tickets.specs.declared.fates.Fate.TheVariants.{Withdrawn as WasWithdrawn, Cut, Kept, Waiting, Past}
use Rattle.meet_tickets.specs.declared.records.Record.{Record}
use Rattle.meet_tickets.specs.declared.records.Cause.{Cause}
use Rattle.meet_tickets.specs.declared.records.Deed.{Deed}
use Rattle.meet_tickets.specs.declared.records.Deed.TheVariants.{GiveFails, GiveKept, TakeFails, EntryInterrupted}
use Rattle.meet_tickets.specs.declared.records.Deed.TheVariants.{Withdrawn}
use Rattle.meet_tickets.specs.BySeat.{is_request}
use Rattle.meet_tickets.specs.Bases.{Based}
use Rattle.meet_tickets.specs.Fates.{named_by, tells_of_meeting, interrupts, waits_first, opening, is_past, fate_on}

-- a request that finds nobody, and doesn't wait
abbrev pub fails : Deed → Bool
fails (GiveFails m) = true
fails TakeFails = true
fails deed = false

-- one that is refused at its entry
abbrev pub is_refused : Deed → Bool
is_refused (EntryInterrupted side) = true
is_refused deed = false

-- one whose item is kept
abbrev pub is_kept_deed : Deed → Bool
is_kept_deed (GiveKept m) = true
is_kept_deed deed = false

-- a record of the ticket has such a deed
abbrev pub Has : (Deed → Bool) → List (Record Deed) → (ticket : ℕ) → Type 0
Has such history t = (r : Record Deed) × Contains history r × (r.ticket ≡ t) × (such r.deed ≡ true)

-- its request names u, or the request of u names it
abbrev pub HasMet : List (Record Deed) → (ticket partner : ℕ) → Type 0
HasMet history t u = (r : Record Deed) × Contains history r
    × (((r.ticket ≡ t) × (named_by r.deed ≡ Some u)) ⊎ ((r.ticket ≡ u) × (named_by r.deed ≡ Some t)))

-- a record takes it back for this cause
abbrev pub HasWithdrawn : List (Record Deed) → (ticket : ℕ) → Cause → Type 0
HasWithdrawn history t cause = (r : Record Deed) × Contains history r × (r.ticket ≡ t) × (r.deed ≡ Withdrawn cause)

-- it neither met anybody, nor was taken back, nor cut; 0 names no ticket
pub record IsUntouched (history : List (Record Deed)) (ticket : ℕ) : Type 0 where
  pub unmet : (u : ℕ) → HasMet history ticket u → ⊥
  pub stays : (cause : Cause) → HasWithdrawn history ticket cause → ⊥
  pub uncut : 0 < ticket → Has interrupts history ticket → ⊥

-- where each fate holds
abbrev pub IsFate : List (Record Deed) → (ticket : ℕ) → Fate → Type 0
IsFate history t Never = Has is_request history t → ⊥
IsFate history t Failed = Has fails history t
IsFate history t EntryRefused = Has is_refused history t
IsFate history t (Paired u) = HasMet history t u × (Has tells_of_meeting history t → ⊥)
IsFate history t (Collected u) = HasMet history t u × Has tells_of_meeting history t
IsFate history t (WasWithdrawn cause) = HasWithdrawn history t cause
IsFate history t Cut = (0 < t) × Has interrupts history t × ((cause : Cause) → HasWithdrawn history t cause → ⊥)
IsFate history t Kept = Has is_kept_deed history t × IsUntouched history t
IsFate history t Waiting = Has waits_first history t × IsUntouched history t
IsFate history t Past = ⊥

-- the same after a base, whose entries count as requests; a ticket of the time before that isn't one of them is past
abbrev pub IsFateOn : Based → List (Record Deed) → (ticket : ℕ) → Fate → Type 0
IsFateOn b records t x = ((is_past b t ≡ true) × (x ≡ Past))
    ⊎ ((is_past b t ≡ false) × IsFate (opening b ++ records) t x)

-- each ticket has one fate: the one that its records tell, and no other
abbrev pub HasOneFate : Based → List (Record Deed) → Type 0
HasOneFate b records = (t : ℕ) (x : Fate) → IsFateOn b records t x ↔ (fate_on b records t ≡ x)
