-- What a place that keeps its promise doesn't do, worked out in a few records that break it.
use Rattle.std.proofs.Common.{◌≡◌, ℕ, refl, sym, ◌∙◌, inl, inr, ⊎_elim, Some, None, List, [], ◌∷◌, ◌++◌, arith}
use Rattle.std.proofs.lemmas.List.{append_assoc}
use Rattle.std.proofs.lemmas.List.Elements.{Contains-append_right}
use Rattle.meet_tickets.specs.declared.places.Order.TheVariants.{Fair, Unfair}
use Rattle.meet_tickets.specs.declared.places.Side.TheVariants.{Taker}
use Rattle.meet_tickets.specs.declared.places.Kind.{Kind}
use Rattle.meet_tickets.specs.declared.records.Record.{Record}
use Rattle.meet_tickets.specs.declared.records.Cause.TheVariants.{Cancelled}
use Rattle.meet_tickets.specs.declared.records.Deed.{Deed}
use Rattle.meet_tickets.specs.declared.records.Deed.TheVariants.{GiveMeets, TakeWaits, TakeMeets, Withdrawn, Interrupt}
use Rattle.meet_tickets.specs.Bases.{Based, no_base}
use Rattle.meet_tickets.specs.Fates.{named_by, opening}
use Rattle.meet_tickets.proofs.Lists.Members.{Contains-first, Contains-rest}
use Rattle.meet_laws.specs.Promise.{KeepsPromise}
use Rattle.meet_laws.specs.Rows.{HasMet}

-- in plain words: no two records name one ticket
named_once : (k : Kind) (b : Based) (records : List (Record Deed)) → KeepsPromise k b records
    → (before between after : List (Record Deed)) (r s : Record Deed) (u : ℕ)
    → records ≡ before ++ r ∷ (between ++ s ∷ after) → named_by r.deed ≡ Some u → named_by s.deed ≡ Some u → ⊥
named_once k b records p before between after r s u e first second =
    p.once (before ++ r ∷ []) (between ++ s ∷ after) u r.ticket s.ticket parts earlier later
  where
    parts : records ≡ (before ++ r ∷ []) ++ (between ++ s ∷ after)
    parts = e ∙ sym (append_assoc before (r ∷ []) (between ++ s ∷ after))

    earlier : HasMet (opening b ++ (before ++ r ∷ [])) u r.ticket
    earlier =
        let there = Contains-append_right before (r ∷ []) r (Contains-first r []) in
        (r, Contains-append_right (opening b) (before ++ r ∷ []) r there, inr (refl, first))

    later : HasMet (between ++ s ∷ after) u s.ticket
    later = (s, Contains-append_right between (s ∷ after) s (Contains-first s after), inr (refl, second))

-- places that meet the one that waited longest, or that came last
abbrev fair : Kind
fair = record { order = Fair; bound = None }

abbrev unfair : Kind
unfair = record { order = Unfair; bound = None }

-- a record
abbrev of : (seat ticket : ℕ) → Deed → Record Deed
of seat ticket deed = record { seat = seat; ticket = ticket; deed = deed }

-- two takers wait, and a giver meets one of them
abbrev two_wait : List (Record Deed)
two_wait = of 0 1 TakeWaits ∷ of 1 2 TakeWaits ∷ []

abbrev meets_first : Record Deed
meets_first = of 2 3 (GiveMeets 5 1)

abbrev meets_last : Record Deed
meets_last = of 2 3 (GiveMeets 5 2)

first_met : HasMet (meets_first ∷ []) 1 3
first_met = (meets_first, Contains-first meets_first [], inr (refl, refl))

-- a fair place doesn't meet the second of two
not_the_last : KeepsPromise fair no_base (two_wait ++ meets_last ∷ []) → ⊥
not_the_last p =
    let near = p.order two_wait [] meets_last refl 2 1 refl (λ e. omega (arith, e)) (inl refl) in
    omega (arith, near)

-- nor an unfair one the first
not_the_first : KeepsPromise unfair no_base (two_wait ++ meets_first ∷ []) → ⊥
not_the_first p =
    let near = p.order two_wait [] meets_first refl 1 2 refl (λ e. omega (arith, e)) (inl refl) in
    omega (arith, near)

-- a taker takes its ticket back: then no giver meets it, since it doesn't stand in the line, and since it is gone
abbrev taken_back : List (Record Deed)
taken_back = of 0 1 TakeWaits ∷ of 0 1 (Withdrawn Cancelled) ∷ []

not_after_withdrawal : KeepsPromise fair no_base (taken_back ++ meets_first ∷ []) → ⊥
not_after_withdrawal p = ⊎_elim (λ e. cc) (λ e. cc) (p.stands taken_back [] meets_first 1 refl refl)

not_once_gone : KeepsPromise fair no_base (taken_back ++ meets_first ∷ []) → ⊥
not_once_gone p = p.gone taken_back (meets_first ∷ []) 1 3 refl refl first_met

-- nor one that was cut
abbrev cut_off : List (Record Deed)
cut_off = of 0 1 TakeWaits ∷ of 1 1 (Interrupt 0) ∷ []

not_once_cut : KeepsPromise fair no_base (cut_off ++ meets_first ∷ []) → ⊥
not_once_cut p = p.gone cut_off (meets_first ∷ []) 1 3 refl refl first_met

-- nor one that never asked
not_unasked : KeepsPromise fair no_base (meets_first ∷ []) → ⊥
not_unasked p = ⊎_elim (λ e. cc) (λ e. cc) (p.stands [] [] meets_first 1 refl refl)

-- a taker waits, and a giver meets it: then nobody meets either of them
abbrev waits : Record Deed
waits = of 0 1 TakeWaits

abbrev gives : Record Deed
gives = of 1 2 (GiveMeets 7 1)

not_twice : KeepsPromise fair no_base (waits ∷ gives ∷ meets_first ∷ []) → ⊥
not_twice p =
    named_once fair no_base (waits ∷ gives ∷ meets_first ∷ []) p (waits ∷ []) [] [] gives meets_first 1 refl refl refl

abbrev takes_again : Record Deed
takes_again = of 2 3 (TakeMeets 7 2)

not_the_giver : KeepsPromise fair no_base (waits ∷ gives ∷ takes_again ∷ []) → ⊥
not_the_giver p = p.once (waits ∷ gives ∷ []) (takes_again ∷ []) 2 1 3 refl earlier
    (takes_again, Contains-first takes_again [], inr (refl, refl))
  where
    earlier : HasMet (waits ∷ gives ∷ []) 2 1
    earlier = (gives, Contains-rest waits (gives ∷ []) gives (Contains-first gives []), inl (refl, refl))

-- these two records are folded away: the base shows whom the taker met, and nobody meets it again
abbrev folded : Based
folded = record no_base {
  gone = 2;
  last = 2;
  pairs = record { ticket = 1; seat = 0; side = Taker; partner = 2; mark = 7 } ∷ [];
}

not_twice_on_base : KeepsPromise fair folded (meets_first ∷ []) → ⊥
not_twice_on_base p = p.once [] (meets_first ∷ []) 1 2 3 refl earlier first_met
  where
    shown : Record Deed
    shown = of 0 2 (GiveMeets 7 1)

    earlier : HasMet (opening folded ++ []) 1 2
    earlier = (shown, Contains-rest waits (shown ∷ []) shown (Contains-first shown []), inr (refl, refl))

-- so are those of the taker that was cut
abbrev cut_base : Based
cut_base = record no_base { gone = 2; last = 1; cut = record { ticket = 1; seat = 0; item = None } ∷ [] }

not_once_cut_on_base : KeepsPromise fair cut_base (meets_first ∷ []) → ⊥
not_once_cut_on_base p = p.gone [] (meets_first ∷ []) 1 3 refl refl first_met
