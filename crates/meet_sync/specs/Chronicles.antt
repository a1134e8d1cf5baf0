-- What a queue for threads leaves once it is closed: one legal history, in which the calls of each seat stand once, in
-- the seat's order, and no others (our choice).
use Rattle.std.specs.Prelude.{◌≡◌, ℕ, nat_lt, Option, Some, None, List, if◌then◌else◌}
use Rattle.meet_tickets.specs.declared.places.Kind.{Kind}
use Rattle.meet_tickets.specs.declared.records.Record.{Record}
use Rattle.meet_tickets.specs.declared.records.Deed.{Deed}
use Rattle.meet_tickets.specs.declared.refusals.Refusal.{Refusal}
use Rattle.meet_tickets.specs.declared.refusals.Refusal.TheVariants.{HasBase}
use Rattle.meet_tickets.specs.Bases.{Based, no_base, IsWellFormed, IsLegalOn}
use Rattle.meet_core.specs.declared.left.Left.{Left}
use Rattle.meet_core.specs.LeftTold.{AreLeftOn}
use Rattle.meet_book.specs.Listed.{AreListed}
use Rattle.meet_book.specs.Received.{Received}

-- records that followed one another, and the base on which they stand, as a queue of this kind hands them out
pub record IsChapter (kind : Kind) (base : Based) (records : List (Record Deed)) : Type 0 where
  pub well_formed : IsWellFormed kind base
  pub first : base.gone ≡ 0 → base ≡ no_base  -- where no record was folded away, the base is that of no records
  pub legal : IsLegalOn kind base records  -- the records are a legal history of a queue of this kind, after this base

pub record IsChronicle {T : Type 0} (mark : T → ℕ) (kind : Kind) (base : Based) (records : List (Record Deed))
    (lists : List (List (Received Deed))) (items : List (Left T)) : Type 0 where
  pub chapter : IsChapter kind base records
  pub listed : AreListed base.gone records lists  -- each seat's records are those of its receipts since, in order
  pub left : AreLeftOn mark base records items  -- the items that the records leave, each once, and no other

-- why records are not erased: where so many were folded away before them, they aren't a whole history
abbrev pub erase_refusal : (gone : ℕ) → Option Refusal
erase_refusal gone = if nat_lt 0 gone then Some HasBase else None
