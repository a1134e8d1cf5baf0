-- The one spelling of a record, and of a trace's first line (our choice of format).
use Rattle.std.specs.Prelude.{◌≤◌, ◌≡◌, ◌↔◌, ℕ, ◌^◌, ◌<◌, Some, ⊤, List, ◌∷◌, ◌++◌, codes, decimal}
use Rattle.meet_tickets.specs.declared.places.Side.{Side}
use Rattle.meet_tickets.specs.declared.places.Side.TheVariants.{Giver, Taker}
use Rattle.meet_tickets.specs.declared.places.Kind.{Kind}
use Rattle.meet_tickets.specs.declared.records.Deed.{Deed}
use Rattle.meet_tickets.specs.declared.records.Deed.TheVariants.{GiveWaits, GiveMeets, GiveFails, GiveKept, TakeWaits}
use Rattle.meet_tickets.specs.declared.records.Deed.TheVariants.{TakeMeets, TakeFails, EntryInterrupted, Done, Got}
use Rattle.meet_tickets.specs.declared.records.Deed.TheVariants.{Withdrawn, Interrupt}
use Rattle.meet_tickets.specs.declared.records.Record.{Record}
use Rattle.meet_tickets.specs.Limits.{most_seats, last_ticket}
use Rattle.meet_tickets.specs.Meeting.{FitsBound}
use Rattle.meet_run.specs.Scripts.Wording.{cause_text}
use Rattle.meet_run.specs.Scripts.Spelling.{place_text, option_text}
use Rattle.meet_run.specs.Tracing.TraceGrammar.{record_of, head_of}

-- a side's word
abbrev pub side_text : Side → List ℕ
side_text Giver = codes "give"
side_text Taker = codes "take"

-- a deed's word with a mark and a partner's ticket behind it
abbrev pub paired_text : (word : List ℕ) → (mark partner : ℕ) → List ℕ
paired_text word m u = word ++ (decimal m ++ 32 ∷ decimal u)

-- a deed's word, and what it names
abbrev pub deed_text : Deed → List ℕ
deed_text (GiveWaits m) = codes "give-waits " ++ decimal m
deed_text (GiveMeets m u) = paired_text (codes "give-meets ") m u
deed_text (GiveFails m) = codes "give-fails " ++ decimal m
deed_text (GiveKept m) = codes "give-kept " ++ decimal m
deed_text TakeWaits = codes "take-waits"
deed_text (TakeMeets m u) = paired_text (codes "take-meets ") m u
deed_text TakeFails = codes "take-fails"
deed_text (EntryInterrupted side) = codes "entry-interrupted " ++ side_text side
deed_text Done = codes "done"
deed_text (Got m u) = paired_text (codes "got ") m u
deed_text (Withdrawn cause) = codes "withdrawn " ++ cause_text cause
deed_text (Interrupt target) = codes "interrupt " ++ decimal target

-- the one spelling of a record: its seat, its ticket and its deed
abbrev pub record_text : Record Deed → List ℕ
record_text r = decimal r.seat ++ 32 ∷ (decimal r.ticket ++ 32 ∷ deed_text r.deed)

-- a mark and a partner's ticket are in their limits
abbrev pub FitsPair : (mark partner : ℕ) → Type 0
FitsPair m u = (m < 2 ^ 64) × (u ≤ last_ticket)

-- a deed's numbers are in their limits
abbrev pub FitsDeed : Deed → Type 0
FitsDeed (GiveWaits m) = m < 2 ^ 64
FitsDeed (GiveMeets m u) = FitsPair m u
FitsDeed (GiveFails m) = m < 2 ^ 64
FitsDeed (GiveKept m) = m < 2 ^ 64
FitsDeed TakeWaits = ⊤
FitsDeed (TakeMeets m u) = FitsPair m u
FitsDeed TakeFails = ⊤
FitsDeed (EntryInterrupted side) = ⊤
FitsDeed Done = ⊤
FitsDeed (Got m u) = FitsPair m u
FitsDeed (Withdrawn cause) = ⊤
FitsDeed (Interrupt target) = target < most_seats

-- a record has its numbers in their limits
pub record FitsRecord (r : Record Deed) : Type 0 where
  pub seat : r.seat < most_seats
  pub ticket : r.ticket ≤ last_ticket
  pub deed : FitsDeed r.deed

-- a line reads as a record exactly where it is that record's one spelling
abbrev pub RecordsHaveOneSpelling : Type 0
RecordsHaveOneSpelling =
    (line : List ℕ) (r : Record Deed) → (record_of line ≡ Some r) ↔ ((line ≡ record_text r) × FitsRecord r)

-- the one spelling of a trace's first line: its format, the place's word, and a bound where there is one
abbrev pub head_text : Kind → List ℕ
head_text kind = codes "trace 1 " ++ (place_text kind.order ++ option_text (codes " bound ") kind.bound)

-- a kind of place has a bound that it may have
abbrev pub FitsHead : Kind → Type 0
FitsHead kind = FitsBound kind.order kind.bound

-- a first line reads as a kind of place exactly where it is its one spelling
abbrev pub HeadsHaveOneSpelling : Type 0
HeadsHaveOneSpelling =
    (line : List ℕ) (kind : Kind) → (head_of line ≡ Some kind) ↔ ((line ≡ head_text kind) × FitsHead kind)
