-- What a checker that takes records one by one shows of itself, and how that is tied to the records.
use Rattle.std.specs.Prelude.{◌≡◌, ℕ, ◌+◌, ◌<◌, ◌^◌, Bool, IsTrue, ◌↔◌, Option, Some, None, List, [], ◌∷◌, ◌++◌, length}
use Rattle.meet_tickets.specs.declared.records.Record.{Record}
use Rattle.meet_tickets.specs.declared.records.Deed.{Deed}
use Rattle.meet_tickets.specs.Bases.{Based, moment_of_base, IsWellFormed, IsLegalOn, IsBaseOf}
use Rattle.meet_tickets.specs.BySeat.{moment_of}
use Rattle.meet_history.specs.declared.checker.CheckFault.{CheckFault}
use Rattle.meet_history.specs.declared.checker.Standing.{Standing}
use Rattle.meet_history.specs.declared.checker.CheckFault.TheVariants.{Illegal, Memory}
use Rattle.meet_history.specs.Checking.{Checked, moment_at, HasRoom, IsIllegalAt}
use Rattle.meet_history.specs.Standings.{standing_on}

-- the place as the records leave it, how many they are, those of the base included, and the fault that was found
pub record Progress : Type 0 where
  pub place : Checked
  pub count : ℕ
  pub fault : Option CheckFault

-- these records are legal after this base, and led the checker to where it is
pub record HasTaken (base : Based) (p : Progress) (past : List (Record Deed)) : Type 0 where
  pub legal : IsLegalOn p.place.kind base past
  pub moment : moment_at p.place ≡ moment_of p.place.kind (moment_of_base base) past
  pub count : p.count ≡ base.gone + length past

-- what records were pushed, where this fault was found of them, or none
abbrev pub SeenWith : Based → Option CheckFault → Progress → (past : List (Record Deed)) → Type 0
SeenWith base None p past = HasTaken base p past
SeenWith base (Some (Illegal number why)) p past = IsIllegalAt p.place.kind base past number why
SeenWith base (Some Memory) p past = ⊥

-- the checker began with this base, which is well formed, and just these records were pushed, the first one first
abbrev pub HasSeen : Based → Progress → (past : List (Record Deed)) → Type 0
HasSeen base p past = IsWellFormed p.place.kind base × SeenWith base p.fault p past

-- whatever was pushed before, this record was pushed behind it
abbrev pub TakesIn : (old : Progress) → Record Deed → (new : Progress) → Type 0
TakesIn old r new =
    (base : Based) (past : List (Record Deed)) → HasSeen base old past → HasSeen base new (past ++ r ∷ [])

-- whatever was pushed, this is where its tickets and items are
abbrev pub IsStandingOf : Progress → Standing → Type 0
IsStandingOf p standing =
    (base : Based) (past : List (Record Deed)) → HasSeen base p past → standing ≡ standing_on base past

-- whatever was pushed, whether this base stands for it
abbrev pub TellsEnd : Progress → (next : Based) → Bool → Type 0
TellsEnd p next ends = (base : Based) (past : List (Record Deed)) → HasSeen base p past → IsTrue ends
    ↔ IsBaseOf (moment_of p.place.kind (moment_of_base base) past) (base.gone + length past) next

-- this record can be pushed without growth
abbrev pub HasRoomFor : Progress → Record Deed → Type 0
HasRoomFor p r = HasRoom p.place r × (p.count + 1 < 2 ^ 64)

-- nothing but room has changed
pub record IsUnchanged (old new : Progress) : Type 0 where
  pub kind : new.place.kind ≡ old.place.kind
  pub moment : moment_at new.place ≡ moment_at old.place
  pub count : new.count ≡ old.count
  pub fault : new.fault ≡ old.fault
