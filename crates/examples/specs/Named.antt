-- What a record says of a parcel.
use Rattle.std.specs.Prelude.{◌≡◌, ℕ}
use Rattle.meet_tickets.specs.declared.records.Record.{Record}
use Rattle.meet_tickets.specs.declared.records.Deed.{Deed}
use Rattle.meet_tickets.specs.declared.records.Deed.TheVariants.{TakeMeets}
use Rattle.examples.specs.declared.parcels.passing.Parcel.{Parcel}

-- the seat's record says that this parcel came to it, from some giver
abbrev pub Names : (seat : ℕ) → Parcel → Record Deed → Type 0
Names seat parcel r = (giver : ℕ) × (r.seat ≡ seat) × (r.deed ≡ TakeMeets parcel.mark giver)
