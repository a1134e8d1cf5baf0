-- The records tell what the place holds, ticket by ticket.
use Rattle.std.proofs.Common.{◌≡◌, ◌≢◌, ℕ, ◌+◌, refl, sym, ap, ◌∙◌, subst, inl, inr, ⊎_elim, Bool, true, false, ◌&&◌, ◌||◌, if◌then◌else◌, Some, List, ◌++◌, Contains, AllPairs, arith}
use Rattle.std.proofs.lemmas.Bool.{true≢false, false≢true}
use Rattle.meet_tickets.specs.declared.lines.Entry.{Entry}
use Rattle.meet_tickets.specs.declared.lines.Hold.{Hold}
use Rattle.meet_tickets.specs.declared.lines.Hold.TheVariants.{Free, Waiting, Handed, Served, Cut}
use Rattle.meet_tickets.specs.declared.places.Kind.{Kind}
use Rattle.meet_tickets.specs.declared.records.Record.{Record}
use Rattle.meet_tickets.specs.declared.records.Deed.{Deed}
use Rattle.meet_tickets.specs.declared.fates.Fate.{Fate}
use Rattle.meet_tickets.specs.declared.fates.Fate.TheVariants.{Never, Failed, EntryRefused, Paired, Collected, Withdrawn, Kept, Cut as CutOff, Waiting as StillWaiting, Past}
use Rattle.meet_tickets.specs.Bases.{Based, held_in, moment_of_base, state_of_base, IsWellFormed, IsLegalOn}
use Rattle.meet_tickets.specs.ByLists.{run}
use Rattle.meet_tickets.specs.BySeat.{moment_of, open_ticket, is_settled}
use Rattle.meet_tickets.specs.Fates.{opening, is_waiting, is_kept, is_unlearned, has_waited}
use Rattle.meet_tickets.specs.Placed.{TellsPlace}
use Rattle.meet_tickets.proofs.OnBases.Based.{alike_base}
use Rattle.meet_tickets.proofs.Told.Fated.{Joining, Gives, Keeps, Takes, deed_of, waits_of, only_asked, only_met, only_cut, weight_of, IsHeld}
use Rattle.meet_tickets.proofs.Told.Found.{settled_ticket, line_keyed, located}
use Rattle.meet_tickets.proofs.Tellings.Histories.{Alike, alike_at_end}
use Rattle.meet_tickets.proofs.Tellings.Holding.{same_seat}
use Rattle.meet_tickets.proofs.Lists.Lookups.{keyed_pairs}
use Rattle.meet_tickets.proofs.Told.Recorded.{opened_of}
use Rattle.meet_tickets.proofs.Told.Said.{said, fate_of, fate_is}
use Rattle.meet_tickets.proofs.Told.Standings.{bound_of, below_more, bound_is, AreTold, fits_all}
use Rattle.meet_tickets.proofs.Told.StandingsOn.{bound_of_held, bound_held_is, fits_base}

-- what weighs in any way has a place
place_weighs : (b : Bool) (x : Fate) → (is_waiting x || is_kept x || (b && is_unlearned x)) ≡ weight_of true true (b && true) x
place_weighs true Never = refl
place_weighs false Never = refl
place_weighs true Failed = refl
place_weighs false Failed = refl
place_weighs true EntryRefused = refl
place_weighs false EntryRefused = refl
place_weighs true (Paired u) = refl
place_weighs false (Paired u) = refl
place_weighs true (Collected u) = refl
place_weighs false (Collected u) = refl
place_weighs true (Withdrawn cause) = refl
place_weighs false (Withdrawn cause) = refl
place_weighs true CutOff = refl
place_weighs false CutOff = refl
place_weighs true Kept = refl
place_weighs false Kept = refl
place_weighs true StillWaiting = refl
place_weighs false StillWaiting = refl
place_weighs true Past = refl
place_weighs false Past = refl

-- the fate of what is said of an entry of the line
pub lined_fate : (waits : Bool) (j : Joining) → waits_of j ≡ waits → fate_of (only_asked (deed_of j)) ≡ (if waits then StillWaiting else Kept)
lined_fate true (Gives m) e = refl
lined_fate false (Gives m) e = absurd (true≢false e)
lined_fate true (Keeps m) e = absurd (false≢true e)
lined_fate false (Keeps m) e = refl
lined_fate true Takes e = refl
lined_fate false Takes e = absurd (true≢false e)

-- of one that was met
pub met_fate : (j : Joining) (u : ℕ) → waits_of j ≡ true → fate_of (only_met j u) ≡ Paired u
met_fate (Gives m) u e = refl
met_fate (Keeps m) u e = absurd (false≢true e)
met_fate Takes u e = refl

-- of one that was cut
pub cut_fate : (j : Joining) → waits_of j ≡ true → fate_of (only_cut j) ≡ CutOff
cut_fate (Gives m) e = refl
cut_fate (Keeps m) e = absurd (false≢true e)
cut_fate Takes e = refl

-- the ticket that awaits its ending is the open one
settled_is : (x : Hold ℕ) (t : ℕ) → settled_ticket x ≡ Some t → (open_ticket x ≡ Some t) × (is_settled x ≡ true)
settled_is Free t is = absurd (cc)
settled_is (Waiting u) t is = absurd (cc)
settled_is (Handed u v mark) t is = (is, refl)
settled_is (Served u v mark) t is = (is, refl)
settled_is (Cut u item) t is = (is, refl)

-- after a well-formed base and legal records
pub tells_place : (k : Kind) (b : Based) (records : List (Record Deed)) → IsWellFormed k b → IsLegalOn k b records → TellsPlace (opening b ++ records) (moment_of k (moment_of_base b) records).seats
tells_place k b records w legal = record {
  line = λ e m. (let is = fits.lined e (subst (λ l. Contains l e) (sym agrees) m) in fate_is history e.ticket ∙ ap fate_of is.2 ∙ lined_fate e.waits is.0 is.1);
  handed = λ i t u m is. (let met = subst (IsHeld (said history)) is (fits.held i) in fate_is history t ∙ ap fate_of met.2 ∙ met_fate met.0 u met.1);
  served = λ i t u m is. (let met = subst (IsHeld (said history)) is (fits.held i) in fate_is history t ∙ ap fate_of met.2 ∙ met_fate met.0 u met.1);
  cut = λ i t item is. (let cut = subst (IsHeld (said history)) is (fits.held i) in fate_is history t ∙ ap fate_of cut.2 ∙ cut_fate cut.0 cut.1);
  found = λ t is.
      ⊎_elim (λ (e : (e : Entry ℕ) × Contains line e × (e.ticket ≡ t)). inl (e.0, subst (λ l. Contains l e.0) agrees e.1, e.2))
      (λ (s : (i : ℕ) × (settled_ticket (holds i) ≡ Some t)). (let is_open = settled_is (holds s.0) t s.1 in inr (s.0, is_open.0, is_open.1)))
      (located fits alike.reached.distinct apart t
      (sym (place_weighs (has_waited history t) (fate_of (said history t))) ∙ ap (λ x. is_waiting x || is_kept x || (has_waited history t && is_unlearned x)) (sym (fate_is history t)) ∙ is));
  entries_apart = subst (AllPairs (λ e f. e.ticket ≢ f.ticket)) agrees (keyed_pairs (λ (e : Entry ℕ). e.ticket) line (line_keyed line alike.reached.distinct));
  seats_apart = λ i j t here there. sym (apart i j t here there);
}
  where
    history : List (Record Deed)
    history = opening b ++ records

    bound : ℕ
    bound = bound_of records + bound_of_held (held_in b)

    fits : AreTold (opening b ++ records) (run (state_of_base b) records) (moment_of k (moment_of_base b) records) bound
    fits = fits_all k records (opening b) (state_of_base b) (moment_of_base b) bound (alike_base k b w) (below_more (bound_of records) bound records (omega arith) (bound_is records)) legal
        (fits_base k b w bound (λ h m. (let here = bound_held_is (held_in b) h m in omega (arith, here))))

    alike : Alike (run (state_of_base b) records) (moment_of k (moment_of_base b) records)
    alike = alike_at_end k records (state_of_base b) (moment_of_base b) (alike_base k b w) legal

    line : List (Entry ℕ)
    line = (run (state_of_base b) records).line

    holds : ℕ → Hold ℕ
    holds = (moment_of k (moment_of_base b) records).seats.holds

    agrees : line ≡ (moment_of k (moment_of_base b) records).seats.line
    agrees = alike.agrees.line

    apart : (i j t : ℕ) → open_ticket (holds i) ≡ Some t → open_ticket (holds j) ≡ Some t → j ≡ i
    apart i j t here there =
        same_seat (run (state_of_base b) records) alike.reached i j t
        (opened_of (run (state_of_base b) records) i t (holds i) (alike.agrees.holds i) here)
        (opened_of (run (state_of_base b) records) j t (holds j) (alike.agrees.holds j) there)
