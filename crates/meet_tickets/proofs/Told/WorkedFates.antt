-- Fates and requests in a few histories, worked out record by record.
use Rattle.std.proofs.Common.{◌≡◌, ℕ, refl, arith, true, false, Some, None, List, [], ◌∷◌, take}
use Rattle.std.proofs.lemmas.Bool.{false≢true}
use Rattle.meet_tickets.specs.declared.lines.Hold.TheVariants.{Handed, Cut as CutOff}
use Rattle.meet_tickets.specs.declared.places.Order.TheVariants.{Fair, Transfer}
use Rattle.meet_tickets.specs.declared.places.Kind.{Kind}
use Rattle.meet_tickets.specs.declared.records.Record.{Record}
use Rattle.meet_tickets.specs.declared.records.Cause.TheVariants.{Interrupted}
use Rattle.meet_tickets.specs.declared.records.Deed.{Deed}
use Rattle.meet_tickets.specs.declared.records.Deed.TheVariants.{GiveWaits, GiveFails, GiveKept, TakeWaits, TakeMeets, Done, Withdrawn as WasWithdrawn, Interrupt}
use Rattle.meet_tickets.specs.declared.fates.Fate.TheVariants.{Never, Failed, Paired, Collected, Withdrawn, Cut, Kept, Waiting}
use Rattle.meet_tickets.specs.BySeat.{Fits, IsLegalBySeat, beginning, moment_of}
use Rattle.meet_tickets.specs.Bases.{Based, no_base, moment_of_base}
use Rattle.meet_tickets.specs.Fates.{fate, waiting_in, uncollected_in, kept_in}
use Rattle.meet_tickets.specs.Asked.{request_on}

-- a place that meets the one that waited longest
abbrev fair : Kind
fair = record { order = Fair; bound = None }

-- a place that keeps items
abbrev keeping : Kind
keeping = record { order = Transfer; bound = None }

-- a record
abbrev of : (seat ticket : ℕ) → Deed → Record Deed
of seat ticket deed = record { seat = seat; ticket = ticket; deed = deed }

-- the record may come after the first of these
abbrev Next : Kind → List (Record Deed) → ℕ → Record Deed → Type 0
Next k history count r = Fits k (moment_of k beginning (take count history)) r

-- a taker waits, is interrupted and learns so; a giver finds nobody
abbrev interrupted : List (Record Deed)
interrupted = of 0 1 TakeWaits ∷ of 1 1 (Interrupt 0) ∷ of 0 1 (WasWithdrawn Interrupted) ∷ of 2 2 (GiveFails 4) ∷ []

-- its records are legal
interrupted_is_legal : IsLegalBySeat fair interrupted
interrupted_is_legal = (waits, (cuts, (ends, (fails, tt))))
  where
    waits : Next fair interrupted 0 (of 0 1 TakeWaits)
    waits = record { above = λ e. omega arith; allowed = (refl, refl, refl) }

    cuts : Next fair interrupted 1 (of 1 1 (Interrupt 0))
    cuts = record { above = λ e. absurd (false≢true e); allowed = refl }

    ends : Next fair interrupted 2 (of 0 1 (WasWithdrawn Interrupted))
    ends = record { above = λ e. absurd (false≢true e); allowed = (None, refl) }

    fails : Next fair interrupted 3 (of 2 2 (GiveFails 4))
    fails = record { above = λ e. omega arith; allowed = (refl, refl) }

-- it waits
waits_at_first : fate (take 1 interrupted) 1 ≡ Waiting
waits_at_first = refl

-- it is cut, and hasn't learned so
cut_then : fate (take 2 interrupted) 1 ≡ Cut
cut_then = refl

-- one ticket isn't collected
one_uncollected : uncollected_in (take 2 interrupted) ≡ 1
one_uncollected = refl

-- it is taken back once it learned so
back_then : fate (take 3 interrupted) 1 ≡ Withdrawn Interrupted
back_then = refl

-- the giver's request failed
failed_then : fate interrupted 2 ≡ Failed
failed_then = refl

-- no request has the next ticket
never_asked : fate interrupted 3 ≡ Never
never_asked = refl

-- two givers wait, a taker meets the first, which then learns so
abbrev met : List (Record Deed)
met = of 0 1 (GiveWaits 1) ∷ of 1 2 (GiveWaits 2) ∷ of 2 3 (TakeMeets 1 1) ∷ of 0 1 Done ∷ []

-- its records are legal
met_is_legal : IsLegalBySeat fair met
met_is_legal = (first, (second, (meets, (ends, tt))))
  where
    first : Next fair met 0 (of 0 1 (GiveWaits 1))
    first = record { above = λ e. omega arith; allowed = (refl, refl, refl) }

    second : Next fair met 1 (of 1 2 (GiveWaits 2))
    second = record { above = λ e. omega arith; allowed = (refl, refl, refl) }

    meets : Next fair met 2 (of 2 3 (TakeMeets 1 1))
    meets = record { above = λ e. omega arith; allowed = (refl, (record { ticket = 1; seat = 0; item = Some 1; waits = true }, refl, refl, refl)) }

    ends : Next fair met 3 (of 0 1 Done)
    ends = record { above = λ e. absurd (false≢true e); allowed = (3, 1, refl) }

-- the first giver met the taker
giver_paired : fate (take 3 met) 1 ≡ Paired 3
giver_paired = refl

-- and the taker the giver
taker_paired : fate (take 3 met) 3 ≡ Paired 1
taker_paired = refl

-- the other giver waits
other_waits : fate (take 3 met) 2 ≡ Waiting
other_waits = refl

-- one ticket waits
one_waits : waiting_in (take 3 met) ≡ 1
one_waits = refl

-- one was met, and hasn't learned so; the taker has nothing to learn
one_met : uncollected_in (take 3 met) ≡ 1
one_met = refl

-- no item is kept
none_kept : kept_in (take 3 met) ≡ 0
none_kept = refl

-- its seat knows the mark that went
mark_went : (moment_of fair beginning (take 3 met)).seats.holds 0 ≡ Handed 1 3 1
mark_went = refl

-- the taker's request took it
taker_asked : request_on no_base (take 3 met) 3 ≡ Some (TakeMeets 1 1)
taker_asked = refl

-- the giver learned so
giver_collected : fate met 1 ≡ Collected 3
giver_collected = refl

-- nothing is left to learn
none_uncollected : uncollected_in met ≡ 0
none_uncollected = refl

-- an item is kept, and a taker meets it
abbrev stored : List (Record Deed)
stored = of 0 1 (GiveKept 7) ∷ of 1 2 (TakeMeets 7 1) ∷ []

-- its records are legal
stored_is_legal : IsLegalBySeat keeping stored
stored_is_legal = (keeps, (meets, tt))
  where
    keeps : Next keeping stored 0 (of 0 1 (GiveKept 7))
    keeps = record { above = λ e. omega arith; allowed = (refl, refl, (refl, tt)) }

    meets : Next keeping stored 1 (of 1 2 (TakeMeets 7 1))
    meets = record { above = λ e. omega arith; allowed = (refl, (record { ticket = 1; seat = 0; item = Some 7; waits = false }, refl, refl, refl)) }

-- the item is kept
item_kept : fate (take 1 stored) 1 ≡ Kept
item_kept = refl

-- it is the only one
one_kept : kept_in (take 1 stored) ≡ 1
one_kept = refl

-- its ticket is paired then
item_paired : fate stored 1 ≡ Paired 2
item_paired = refl

-- and has nothing to learn
nothing_uncollected : uncollected_in stored ≡ 0
nothing_uncollected = refl

-- no item is kept any more
nothing_kept : kept_in stored ≡ 0
nothing_kept = refl

-- a giver waits with an item, and is cut
abbrev struck : List (Record Deed)
struck = of 0 1 (GiveWaits 5) ∷ of 1 1 (Interrupt 0) ∷ []

-- its records are legal
struck_is_legal : IsLegalBySeat fair struck
struck_is_legal = (waits, (cuts, tt))
  where
    waits : Next fair struck 0 (of 0 1 (GiveWaits 5))
    waits = record { above = λ e. omega arith; allowed = (refl, refl, refl) }

    cuts : Next fair struck 1 (of 1 1 (Interrupt 0))
    cuts = record { above = λ e. absurd (false≢true e); allowed = refl }

-- its seat holds the item
item_held : (moment_of fair beginning struck).seats.holds 0 ≡ CutOff 1 (Some 5)
item_held = refl

-- which its request brought
item_asked : request_on no_base struck 1 ≡ Some (GiveWaits 5)
item_asked = refl

-- both records are folded away
abbrev folded : Based
folded = record no_base { gone = 2; last = 1; cut = record { ticket = 1; seat = 0; item = Some 5 } ∷ [] }

-- its seat holds the item still
still_held : (moment_of_base folded).seats.holds 0 ≡ CutOff 1 (Some 5)
still_held = refl

-- which its request brought, as the base shows
still_asked : request_on folded [] 1 ≡ Some (GiveWaits 5)
still_asked = refl
