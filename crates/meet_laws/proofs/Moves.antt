-- How fates move along the prefixes of a legal history.
use Rattle.std.proofs.Common.{◌≡◌, ◌⊎◌, ℕ, refl, sym, ap, ◌∙◌, subst, inl, inr, Bool, true, false, if◌then◌else◌, Some, List, [], ◌∷◌, ◌++◌}
use Rattle.std.proofs.lemmas.List.{append_assoc}
use Rattle.meet_tickets.specs.declared.places.Kind.{Kind}
use Rattle.meet_tickets.specs.declared.records.Record.{Record}
use Rattle.meet_tickets.specs.declared.records.Cause.{Cause}
use Rattle.meet_tickets.specs.declared.records.Cause.TheVariants.{Cancelled, Expired, Interrupted}
use Rattle.meet_tickets.specs.declared.records.Deed.{Deed}
use Rattle.meet_tickets.specs.declared.records.Deed.TheVariants.{GiveWaits, GiveMeets, GiveFails, GiveKept, TakeWaits, TakeMeets, TakeFails, EntryInterrupted, Done, Got, Withdrawn, Interrupt}
use Rattle.meet_tickets.specs.declared.fates.Fate.{Fate}
use Rattle.meet_tickets.specs.declared.fates.Fate.TheVariants.{Past}
use Rattle.meet_tickets.specs.Bases.{Based, state_of_base, IsWellFormed, IsLegalOn}
use Rattle.meet_tickets.specs.BySeat.{is_request}
use Rattle.meet_tickets.specs.Fates.{opening, fate, fate_on, is_past}
use Rattle.meet_tickets.proofs.Told.Fated.{Joining, Gives, Keeps, Takes, deed_of, waits_of, blank, only_asked, only_met, only_cut}
use Rattle.meet_tickets.proofs.OnBases.Folded.{legal-parts}
use Rattle.meet_tickets.proofs.Told.Said.{Said, said, fate_of, waited_of, fate_is}
use Rattle.meet_laws.specs.Laws.{MayMove, FatesMove}
use Rattle.meet_laws.proofs.Speaking.{IsLeaving, Turned, stays, asked, met, learned, left, cut, returned, turns}
use Rattle.meet_laws.proofs.Steps.{step_goes_on}

-- the fate of what is said stays, or moves on
abbrev MovesTo : Bool → Fate → Fate → Type 0
MovesTo waited x y = (y ≡ x) ⊎ MayMove waited x y

abbrev pub Moves : Said → Said → Type 0
Moves x y = MovesTo (waited_of x) (fate_of x) (fate_of y)

moves_as : (x y x' y' : Said) → x ≡ x' → y ≡ y' → Moves x' y' → Moves x y
moves_as x y x' y' e f s = subst (λ z. Moves z y) (sym e) (subst (Moves x') (sym f) s)

asked_moves : (d : Deed) → is_request d ≡ true → Moves blank (only_asked d)
asked_moves (GiveWaits m) e = inr tt
asked_moves (GiveMeets m u) e = inr tt
asked_moves (GiveFails m) e = inr tt
asked_moves (GiveKept m) e = inr tt
asked_moves TakeWaits e = inr tt
asked_moves (TakeMeets m u) e = inr tt
asked_moves TakeFails e = inr tt
asked_moves (EntryInterrupted side) e = inr tt
asked_moves Done e = absurd (cc)
asked_moves (Got m u) e = absurd (cc)
asked_moves (Withdrawn cause) e = absurd (cc)
asked_moves (Interrupt i) e = absurd (cc)

met_moves : (j : Joining) (u : ℕ) → Moves (only_asked (deed_of j)) (only_met j u)
met_moves (Gives m) u = inr tt
met_moves (Keeps m) u = inr tt
met_moves Takes u = inr tt

learned_moves : (j : Joining) (u : ℕ) → waits_of j ≡ true → Moves (only_met j u) (record (only_met j u) { learned = true })
learned_moves (Gives m) u e = inr refl
learned_moves (Keeps m) u e = absurd (cc)
learned_moves Takes u e = inr refl

left_moves : (j : Joining) (cause : Cause) → IsLeaving cause → waits_of j ≡ true → Moves (only_asked (deed_of j)) (record (only_asked (deed_of j)) { back = Some cause })
left_moves (Gives m) Cancelled l e = inr tt
left_moves (Gives m) Expired l e = inr tt
left_moves (Gives m) Interrupted l e = absurd l
left_moves (Keeps m) cause l e = absurd (cc)
left_moves Takes Cancelled l e = inr tt
left_moves Takes Expired l e = inr tt
left_moves Takes Interrupted l e = absurd l

cut_moves : (j : Joining) → waits_of j ≡ true → Moves (only_asked (deed_of j)) (only_cut j)
cut_moves (Gives m) e = inr tt
cut_moves (Keeps m) e = absurd (cc)
cut_moves Takes e = inr tt

returned_moves : (j : Joining) → waits_of j ≡ true → Moves (only_cut j) (record (only_cut j) { back = Some Interrupted })
returned_moves (Gives m) e = inr tt
returned_moves (Keeps m) e = absurd (cc)
returned_moves Takes e = inr tt

-- what is said of a ticket moves its fate
pub moves : (x y : Said) → Turned x y → Moves x y
moves x y (stays e) = inl (ap fate_of e)
moves x y (asked d request e f) = moves_as x y blank (only_asked d) e f (asked_moves d request)
moves x y (met j u e f) = moves_as x y (only_asked (deed_of j)) (only_met j u) e f (met_moves j u)
moves x y (learned j u waits e f) = moves_as x y (only_met j u) (record (only_met j u) { learned = true }) e f (learned_moves j u waits)
moves x y (left j cause l waits e f) = moves_as x y (only_asked (deed_of j)) (record (only_asked (deed_of j)) { back = Some cause }) e f (left_moves j cause l waits)
moves x y (cut j waits e f) = moves_as x y (only_asked (deed_of j)) (only_cut j) e f (cut_moves j waits)
moves x y (returned j waits e f) = moves_as x y (only_cut j) (record (only_cut j) { back = Some Interrupted }) e f (returned_moves j waits)

pub fates_move_on : (k : Kind) (b : Based) (records : List (Record Deed)) (r : Record Deed) → IsWellFormed k b → IsLegalOn k b (records ++ r ∷ []) → FatesMove b records r
fates_move_on k b records r w legal t = by_past (is_past b t) refl
  where
    parts : IsLegalOn k b records × IsLegalOn k b (records ++ r ∷ [])
    parts = (((legal-parts k (state_of_base b) records (r ∷ [])).0 legal).0, legal)

    turned : Turned (said (opening b ++ records) t) (said (opening b ++ (records ++ r ∷ [])) t)
    turned = subst (λ h. Turned (said (opening b ++ records) t) (said h t)) (append_assoc (opening b) records (r ∷ []))
        (turns (opening b ++ records) r (step_goes_on k b w records r parts.0 ((legal-parts k (state_of_base b) records (r ∷ [])).0 legal).1.0) t)

    goes : Moves (said (opening b ++ records) t) (said (opening b ++ (records ++ r ∷ [])) t)
    goes = moves (said (opening b ++ records) t) (said (opening b ++ (records ++ r ∷ [])) t) turned

    by_past : (p : Bool) → is_past b t ≡ p → MovesTo (waited_of (said (opening b ++ records) t)) (fate_on b records t) (fate_on b (records ++ r ∷ []) t)
    by_past true e = inl (ap (λ p. if p then Past else fate (opening b ++ (records ++ r ∷ [])) t) e ∙ sym (ap (λ p. if p then Past else fate (opening b ++ records) t) e))
    by_past false e =
        subst (λ x. MovesTo (waited_of (said (opening b ++ records) t)) x (fate_on b (records ++ r ∷ []) t)) (sym (ap (λ p. if p then Past else fate (opening b ++ records) t) e ∙ fate_is (opening b ++ records) t))
        (subst (λ y. MovesTo (waited_of (said (opening b ++ records) t)) (fate_of (said (opening b ++ records) t)) y) (sym (ap (λ p. if p then Past else fate (opening b ++ (records ++ r ∷ [])) t) e ∙ fate_is (opening b ++ (records ++ r ∷ [])) t)) goes)
