-- Each record of a legal history goes on from what those before it say.
use Rattle.std.proofs.Common.{◌≡◌, ℕ, zero, suc, ◌+◌, ◌<◌, refl, sym, ap, ◌∙◌, subst, Bool, true, false, Some, None, List, [], ◌∷◌, ◌++◌, Contains, arith}
use Rattle.std.proofs.lemmas.List.{append_assoc}
use Rattle.std.proofs.lemmas.Bool.{true_from_ne_false}
use Rattle.meet_tickets.specs.declared.lines.Entry.{Entry}
use Rattle.meet_tickets.specs.declared.places.Kind.{Kind}
use Rattle.meet_tickets.specs.declared.places.Side.TheVariants.{Giver, Taker}
use Rattle.meet_tickets.specs.declared.records.Record.{Record}
use Rattle.meet_tickets.specs.declared.records.Cause.TheVariants.{Cancelled, Expired, Interrupted}
use Rattle.meet_tickets.specs.declared.records.Deed.{Deed}
use Rattle.meet_tickets.specs.declared.records.Deed.TheVariants.{GiveWaits, GiveMeets, GiveFails, GiveKept, TakeWaits, TakeMeets, TakeFails, EntryInterrupted, Done, Got, Withdrawn, Interrupt}
use Rattle.meet_tickets.specs.Asked.{Remembers}
use Rattle.meet_tickets.specs.Bases.{Based, state_of_base, moment_of_base, IsWellFormed, IsLegalOn, held_in}
use Rattle.meet_tickets.specs.ByLists.{State, IsOpen, IsInLine, IsStep, run}
use Rattle.meet_tickets.specs.BySeat.{Moment, moment_of}
use Rattle.meet_tickets.specs.Fates.{opening, asked_for, request_of}
use Rattle.meet_tickets.specs.Meeting.{end_of, Finds}
use Rattle.meet_tickets.proofs.OnBases.Based.{alike_base}
use Rattle.meet_tickets.proofs.Told.Fated.{Joining, Gives, Keeps, Takes, deed_of, waits_of, only_asked, only_met, IsHeld}
use Rattle.meet_tickets.proofs.OnBases.Folded.{legal-parts}
use Rattle.meet_tickets.proofs.Tellings.Histories.{Alike, follows_at, alike_at_end}
use Rattle.meet_tickets.proofs.Lists.Members.{Contains-partner}
use Rattle.meet_tickets.proofs.Told.Remembered.{remembered}
use Rattle.meet_tickets.proofs.Told.Said.{Said, said}
use Rattle.meet_tickets.proofs.Told.Standings.{AreTold, fits_all, bound_of, below_more, bound_is}
use Rattle.meet_tickets.proofs.Told.StandingsOn.{fits_base, bound_of_held, bound_held_is}
use Rattle.meet_laws.proofs.Speaking.{given, taken, fetched, Learns, ends, gets, GoesOn, asks, meets, learns, leaves, returns, cuts, flags, AllGoOn}

-- the request that joined the line was this one
same_asked : (x : Said) (j : Joining) (d : Deed) → x ≡ only_asked (deed_of j) → x.asked ≡ Some d → deed_of j ≡ d
same_asked x j d is asked = let e : Some (deed_of j) ≡ Some d = sym (ap (λ y. y.asked) is) ∙ asked in cc

same_met : (x : Said) (j : Joining) (u : ℕ) (d : Deed) → x ≡ only_met j u → x.asked ≡ Some d → deed_of j ≡ d
same_met x j u d is asked = let e : Some (deed_of j) ≡ Some d = sym (ap (λ y. y.asked) is) ∙ asked in cc

-- a giver waited, so it joined the line as one
is_giver : (j : Joining) (m : ℕ) → deed_of j ≡ GiveWaits m → j ≡ Gives m
is_giver (Gives n) m e = cc
is_giver (Keeps n) m e = absurd (cc)
is_giver Takes m e = absurd (cc)

is_keeper : (j : Joining) (m : ℕ) → deed_of j ≡ GiveKept m → j ≡ Keeps m
is_keeper (Gives n) m e = absurd (cc)
is_keeper (Keeps n) m e = cc
is_keeper Takes m e = absurd (cc)

is_taker : (j : Joining) → deed_of j ≡ TakeWaits → j ≡ Takes
is_taker (Gives n) e = absurd (cc)
is_taker (Keeps n) e = absurd (cc)
is_taker Takes e = refl

module _ (k : Kind) (s : State) (m : Moment) (a : Alike s m) (history : List (Record Deed)) (bound : ℕ) (fits : AreTold history s m bound) (asked : Remembers (request_of history) m.seats) where
  abbrev says : ℕ → Said
  says = said history

  -- the entry of a ticket in the line, and how it joined
  lined : (e : Entry ℕ) → Contains s.line e → (j : Joining) × (waits_of j ≡ e.waits) × (says e.ticket ≡ only_asked (deed_of j)) × (deed_of j ≡ asked_for e.item e.waits)
  lined e n =
      let is = fits.lined e n in
      (is.0, is.1, is.2, same_asked (says e.ticket) is.0 (asked_for e.item e.waits) is.2 (asked.line e (subst (λ l. Contains l e) a.agrees.line n)))

  -- an open ticket in the line waits
  waiting : (i t : ℕ) → IsOpen s i t → IsInLine s t → (j : Joining) × (waits_of j ≡ true) × (says t ≡ only_asked (deed_of j))
  waiting i t o n =
      let is = lined n.0 n.1 in
      let waits : n.0.waits ≡ true = true_from_ne_false n.0.waits (λ still. a.reached.opened.kept n.0 n.1 still i (subst (IsOpen s i) (sym n.2) o)) in
      (is.0, is.1 ∙ waits, subst (λ u. says u ≡ only_asked (deed_of is.0)) n.2 is.2)

  gives_on : (i t x u : ℕ) → s.last < t → Finds k s.line Giver u None → GoesOn says t (GiveMeets x u)
  gives_on i t x u above found =
      let e = found.0 in
      let is = lined e (Contains-partner (end_of k.order) s.line Giver e found.1) in
      let took : deed_of is.0 ≡ TakeWaits = is.3 ∙ ap (λ o. asked_for o e.waits) found.3 in
      meets u Takes given (fits.low t above) (subst (λ v. says v ≡ only_asked TakeWaits) found.2 (is.2 ∙ ap only_asked took))

  takes_on : (i t x u : ℕ) → s.last < t → Finds k s.line Taker u (Some x) → GoesOn says t (TakeMeets x u)
  takes_on i t x u above found = by_wait e.waits (is.3 ∙ ap (λ o. asked_for o e.waits) found.3)
    where
      e : Entry ℕ
      e = found.0

      is : (j : Joining) × (waits_of j ≡ e.waits) × (says e.ticket ≡ only_asked (deed_of j)) × (deed_of j ≡ asked_for e.item e.waits)
      is = lined e (Contains-partner (end_of k.order) s.line Taker e found.1)

      by_wait : (b : Bool) → deed_of is.0 ≡ asked_for (Some x) b → GoesOn says t (TakeMeets x u)
      by_wait true gave = meets u (Gives x) taken (fits.low t above) (subst (λ v. says v ≡ only_asked (GiveWaits x)) found.2 (is.2 ∙ ap only_asked gave))
      by_wait false gave = meets u (Keeps x) fetched (fits.low t above) (subst (λ v. says v ≡ only_asked (GiveKept x)) found.2 (is.2 ∙ ap only_asked gave))

  -- each step goes on
  pub steps : (i t : ℕ) (d : Deed) → IsStep k s i t d → GoesOn says t d
  steps i t (GiveWaits x) z = asks refl refl (fits.low t z.0.above)
  steps i t (GiveMeets x u) z = gives_on i t x u z.0.above z.1
  steps i t (GiveFails x) z = asks refl refl (fits.low t z.0.above)
  steps i t (GiveKept x) z = asks refl refl (fits.low t z.0.above)
  steps i t TakeWaits z = asks refl refl (fits.low t z.0.above)
  steps i t (TakeMeets x u) z = takes_on i t x u z.0.above z.1
  steps i t TakeFails z = asks refl refl (fits.low t z.0.above)
  steps i t (EntryInterrupted side) z = asks refl refl (fits.low t z.0.above)
  steps i t Done z =
      let handed = ((follows_at k s m a (record { seat = i; ticket = t; deed = Done })).next.0 z).allowed in
      let met = subst (IsHeld says) handed.2 (fits.held i) in
      let gave = is_giver met.0 handed.1 (same_met (says t) met.0 handed.0 (GiveWaits handed.1) met.2 (asked.handed i t handed.0 handed.1 handed.2)) in
      learns handed.0 (Gives handed.1) ends (met.2 ∙ ap (λ j. only_met j handed.0) gave)
  steps i t (Got x u) z =
      let served = ((follows_at k s m a (record { seat = i; ticket = t; deed = Got x u })).next.0 z).allowed in
      let met = subst (IsHeld says) served (fits.held i) in
      let took = is_taker met.0 (same_met (says t) met.0 u TakeWaits met.2 (asked.served_to i t u x served)) in
      learns u Takes (subst (Learns t (Got x u) u Takes) (sym (asked.served i t u x served)) gets) (met.2 ∙ ap (λ j. only_met j u) took)
  steps i t (Withdrawn Cancelled) z = let w = waiting i t z.0 z.1 in leaves w.0 Cancelled refl tt w.1 w.2
  steps i t (Withdrawn Expired) z = let w = waiting i t z.0 z.1 in leaves w.0 Expired refl tt w.1 w.2
  steps i t (Withdrawn Interrupted) z =
      let was_cut = ((follows_at k s m a (record { seat = i; ticket = t; deed = Withdrawn Interrupted })).next.0 z).allowed in
      let is = subst (IsHeld says) was_cut.1 (fits.held i) in
      returns is.0 refl is.1 is.2
  steps i zero (Interrupt j) z = flags j refl refl
  steps i (suc t) (Interrupt j) z = let w = waiting j (suc t) z.0 z.1 in cuts w.0 j refl (omega arith) w.1 w.2

module _ (k : Kind) (b : Based) (w : IsWellFormed k b) where
  -- one record more
  pub step_goes_on : (before : List (Record Deed)) (r : Record Deed) → IsLegalOn k b before → IsStep k (run (state_of_base b) before) r.seat r.ticket r.deed → GoesOn (said (opening b ++ before)) r.ticket r.deed
  step_goes_on before r legal z =
      steps k (run (state_of_base b) before) (moment_of k (moment_of_base b) before) (alike_at_end k before (state_of_base b) (moment_of_base b) (alike_base k b w) legal)
      (opening b ++ before) bound fits (remembered k b before w legal) r.seat r.ticket r.deed z
    where
      bound : ℕ
      bound = bound_of before + bound_of_held (held_in b)

      fits : AreTold (opening b ++ before) (run (state_of_base b) before) (moment_of k (moment_of_base b) before) bound
      fits = fits_all k before (opening b) (state_of_base b) (moment_of_base b) bound (alike_base k b w) (below_more (bound_of before) bound before (omega arith) (bound_is before)) legal
          (fits_base k b w bound (λ h m. (let here = bound_held_is (held_in b) h m in omega (arith, here))))

  -- all that follow
  pub legal_goes_on : (rest before : List (Record Deed)) → IsLegalOn k b (before ++ rest) → AllGoOn (opening b ++ before) rest
  legal_goes_on [] before legal = tt
  legal_goes_on (r ∷ rest) before legal =
      let parts = (legal-parts k (state_of_base b) before (r ∷ rest)).0 legal in (
        step_goes_on before r parts.0 parts.1.0,
        subst (λ h. AllGoOn h rest) (sym (append_assoc (opening b) before (r ∷ [])))
            (legal_goes_on rest (before ++ r ∷ []) (subst (IsLegalOn k b) (sym (append_assoc before (r ∷ []) rest)) legal)),
      )
