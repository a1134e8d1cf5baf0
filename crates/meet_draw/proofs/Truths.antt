-- Each row leaves columns that are true to what its record leaves.
use Rattle.std.proofs.Common.{◌≡◌, ◌≢◌, ⊎_elim, ℕ, zero, suc, ◌<◌, ◌==◌, not, Bool, true, false, List, [], ◌∷◌, ◌++◌, Contains, Some, None, refl, sym, ap, subst, ◌∙◌, arith}
use Rattle.std.specs.Prelude.{if◌then◌else◌}
use Rattle.std.proofs.lemmas.Bool.{eqb-true, eqb-false}
use Rattle.std.proofs.lemmas.List.Elements.{Contains-append_left, Contains-append_right, Contains-append_cases}
use Rattle.meet_tickets.specs.declared.lines.Entry.{Entry}
use Rattle.meet_tickets.specs.declared.places.Kind.{Kind}
use Rattle.meet_tickets.specs.declared.records.Cause.TheVariants.{Cancelled, Expired, Interrupted}
use Rattle.meet_tickets.specs.declared.records.Deed.{Deed}
use Rattle.meet_tickets.specs.declared.records.Deed.TheVariants.{GiveWaits, GiveMeets, GiveFails, GiveKept, TakeWaits, TakeMeets, TakeFails, EntryInterrupted, Done, Got, Withdrawn, Interrupt}
use Rattle.meet_tickets.specs.ByLists.{State, Open, IsOpen, IsStep, without, wait, closed, after}
use Rattle.meet_tickets.proofs.Lists.Members.{Contains-first, Contains-cases, Contains-nil, Contains-filter, Contains-unfiltered, filtered_passes, ne_not_eqb, not_eqb-true}
use Rattle.meet_tickets.proofs.Tellings.Whereabouts.{Reached, Never, InLine}
use Rattle.meet_draw.specs.declared.columns.Lane.{Lane}
use Rattle.meet_draw.specs.declared.columns.Lane.TheVariants.{Clear, Waits, Settled}
use Rattle.meet_draw.specs.declared.columns.Change.TheVariants.{Ends, Settles}
use Rattle.meet_draw.specs.Columns.{change_of, lane_after}
use Rattle.meet_draw.specs.Truth.{IsTrueLane}

-- ---- what a line keeps

still-lined : (line : List (Entry ℕ)) (e : Entry ℕ) (t : ℕ) → ((f : Entry ℕ) × Contains line f × (f.ticket ≡ t)) → (f : Entry ℕ) × Contains (line ++ e ∷ []) f × (f.ticket ≡ t)
still-lined line e t there = (there.0, Contains-append_left line (e ∷ []) there.0 there.1, there.2)

new-lined : (line : List (Entry ℕ)) (e : Entry ℕ) → (f : Entry ℕ) × Contains (line ++ e ∷ []) f × (f.ticket ≡ e.ticket)
new-lined line e = (e, Contains-append_right line (e ∷ []) e (Contains-first e []), refl)

not-lined : (line : List (Entry ℕ)) (e : Entry ℕ) (t : ℕ) → e.ticket ≢ t → (((f : Entry ℕ) × Contains line f × (f.ticket ≡ t)) → ⊥) → ((f : Entry ℕ) × Contains (line ++ e ∷ []) f × (f.ticket ≡ t)) → ⊥
not-lined line e t other none there =
    ⊎_elim (λ (m : Contains line there.0). none (there.0, m, there.2))
    (λ (m : Contains (e ∷ []) there.0). ⊎_elim (λ (same : e ≡ there.0). other (ap (λ f. f.ticket) same ∙ there.2)) (λ (m' : Contains [] there.0). Contains-nil there.0 m') (Contains-cases e [] there.0 m))
    (Contains-append_cases line (e ∷ []) there.0 there.1)

left-lined : (line : List (Entry ℕ)) (u t : ℕ) → t ≢ u → ((f : Entry ℕ) × Contains line f × (f.ticket ≡ t)) → (f : Entry ℕ) × Contains (without u line) f × (f.ticket ≡ t)
left-lined line u t other there =
    (there.0, Contains-filter (λ e. not (e.ticket == u)) line there.0 there.1 (ne_not_eqb there.0.ticket u (λ same. other (sym there.2 ∙ same))), there.2)

was-lined : (line : List (Entry ℕ)) (u t : ℕ) → ((f : Entry ℕ) × Contains (without u line) f × (f.ticket ≡ t)) → (f : Entry ℕ) × Contains line f × (f.ticket ≡ t)
was-lined line u t there = (there.0, Contains-unfiltered (λ e. not (e.ticket == u)) line there.0 there.1, there.2)

gone-lined : (line : List (Entry ℕ)) (u : ℕ) → ((f : Entry ℕ) × Contains (without u line) f × (f.ticket ≡ u)) → ⊥
gone-lined line u there = not_eqb-true there.0.ticket u (filtered_passes (λ e. not (e.ticket == u)) line there.0 there.1) there.2

-- ---- what a row makes of one column

module _ (s : State) (reached : Reached s) (j : ℕ) where
  -- a new ticket is above those that are open
  fresh : (t u : ℕ) → s.last < t → IsOpen s j u → t ≢ u
  fresh t u above held same = let low = reached.opened.named j u held in absurd (omega arith)

  -- an open ticket is one seat's
  of_one : (i t : ℕ) → IsOpen s i t → IsOpen s j t → j ≡ i
  of_one i t other held = sym (reached.opened.owned j t held) ∙ reached.opened.owned i t other

  -- an entry comes to the line's end
  joined : (opens : List Open) (e : Entry ℕ) → s.last < e.ticket → (l : Lane) → IsTrueLane s j l → IsTrueLane (record s { line = s.line ++ e ∷ []; unended = s.unended ++ opens }) j l
  joined opens e above Clear holds = tt
  joined opens e above (Waits t) holds = (Contains-append_left s.unended opens _ holds.0, still-lined s.line e t holds.1)
  joined opens e above Settled holds = (holds.0, Contains-append_left s.unended opens _ holds.1, not-lined s.line e holds.0 (fresh e.ticket holds.0 above holds.1) holds.2)

  -- one that is kept: nothing is opened
  kept : (e : Entry ℕ) → s.last < e.ticket → (l : Lane) → IsTrueLane s j l → IsTrueLane (record s { line = s.line ++ e ∷ [] }) j l
  kept e above Clear holds = tt
  kept e above (Waits t) holds = (holds.0, still-lined s.line e t holds.1)
  kept e above Settled holds = (holds.0, holds.1, not-lined s.line e holds.0 (fresh e.ticket holds.0 above holds.1) holds.2)

  -- one that waits
  queued : (e : Entry ℕ) → s.last < e.ticket → (l : Lane) → IsTrueLane s j l → IsTrueLane (wait s e) j (if j == e.seat then Waits e.ticket else l)
  queued e above l holds = by (j == e.seat) refl
    where
      opened : List Open
      opened = record { ticket = e.ticket; seat = e.seat } ∷ []

      by : (own : Bool) → (j == e.seat) ≡ own → IsTrueLane (wait s e) j (if own then Waits e.ticket else l)
      by true is = (subst (λ i. IsOpen (wait s e) i e.ticket) (sym (eqb-true j e.seat is)) (Contains-append_right s.unended opened _ (Contains-first _ [])), new-lined s.line e)
      by false is = joined opened e above l holds

  -- a ticket leaves the line, and is as open as before
  parted : (own : Bool) (u : ℕ) (l : Lane) → IsTrueLane s j l → IsTrueLane (record s { line = without u s.line }) j (lane_after (Settles u) own l)
  parted own u Clear holds = tt
  parted own u (Waits t) holds = by (t == u) refl
    where
      by : (same : Bool) → (t == u) ≡ same → IsTrueLane (record s { line = without u s.line }) j (if same then Settled else Waits t)
      by true is = (t, holds.0, λ there. gone-lined s.line u (there.0, there.1, there.2 ∙ eqb-true t u is))
      by false is = (holds.0, left-lined s.line u t (eqb-false t u is) holds.1)
  parted own u Settled holds = (holds.0, holds.1, λ there. holds.2 (was-lined s.line u holds.0 there))

  -- a ticket of another seat ends
  still_open : (i t v : ℕ) → IsOpen s i t → j ≢ i → IsOpen s j v → IsOpen (closed s t) j v
  still_open i t v other apart held =
      Contains-filter (λ o. not (o.ticket == t)) s.unended (record { ticket = v; seat = j }) held (ne_not_eqb v t (λ same. apart (of_one i t other (subst (IsOpen s j) same held))))

  ended : (i t : ℕ) → IsOpen s i t → (l : Lane) → IsTrueLane s j l → IsTrueLane (closed s t) j (lane_after Ends (j == i) l)
  ended i t other l holds = by (j == i) refl l holds
    where
      by : (own : Bool) → (j == i) ≡ own → (l : Lane) → IsTrueLane s j l → IsTrueLane (closed s t) j (lane_after Ends own l)
      by true is l holds = tt
      by false is Clear holds = tt
      by false is (Waits v) holds = (still_open i t v other (eqb-false j i is) holds.0, holds.1)
      by false is Settled holds = (holds.0, still_open i t holds.0 other (eqb-false j i is) holds.1, holds.2)

  -- and leaves the line
  withdrawn : (i t : ℕ) → IsOpen s i t → (l : Lane) → IsTrueLane s j l → IsTrueLane (record (closed s t) { line = without t s.line }) j (lane_after Ends (j == i) l)
  withdrawn i t other l holds = by (j == i) refl l holds
    where
      by : (own : Bool) → (j == i) ≡ own → (l : Lane) → IsTrueLane s j l → IsTrueLane (record (closed s t) { line = without t s.line }) j (lane_after Ends own l)
      by true is l holds = tt
      by false is Clear holds = tt
      by false is (Waits v) holds =
          let apart : v ≢ t = λ same. eqb-false j i is (of_one i t other (subst (IsOpen s j) same holds.0)) in
          (still_open i t v other (eqb-false j i is) holds.0, left-lined s.line t v apart holds.1)
      by false is Settled holds = (holds.0, still_open i t holds.0 other (eqb-false j i is) holds.1, λ there. holds.2 (was-lined s.line t holds.0 there))

  -- a seat is flagged: no ticket is 0
  unnamed : (own : Bool) (l : Lane) → IsTrueLane s j l → IsTrueLane s j (lane_after (Settles 0) own l)
  unnamed own Clear holds = tt
  unnamed own (Waits t) holds = by (t == 0) refl
    where
      by : (same : Bool) → (t == 0) ≡ same → IsTrueLane s j (if same then Settled else Waits t)
      by true is = let lined = reached.placed.lined holds.1.0 holds.1.1 in let clash : InLine ≡ Never = sym lined ∙ (ap reached.place (holds.1.2 ∙ eqb-true t 0 is) ∙ reached.placed.none) in absurd (cc)
      by false is = holds
  unnamed own Settled holds = holds

  -- what a record makes of a column that is true
  pub stepped : (k : Kind) (i t : ℕ) (d : Deed) → IsStep k s i t d → (l : Lane) → IsTrueLane s j l → IsTrueLane (after s i t d) j (lane_after (change_of t d) (j == i) l)
  stepped k i t (GiveWaits m) z l holds = queued (record { ticket = t; seat = i; item = Some m; waits = true }) z.0.above l holds
  stepped k i t (GiveMeets m u) z l holds = parted (j == i) u l holds
  stepped k i t (GiveFails m) z l holds = holds
  stepped k i t (GiveKept m) z l holds = kept (record { ticket = t; seat = i; item = Some m; waits = false }) z.0.above l holds
  stepped k i t TakeWaits z l holds = queued (record { ticket = t; seat = i; item = None; waits = true }) z.0.above l holds
  stepped k i t (TakeMeets m u) z l holds = parted (j == i) u l holds
  stepped k i t TakeFails z l holds = holds
  stepped k i t (EntryInterrupted side) z l holds = holds
  stepped k i t Done z l holds = ended i t z.0 l holds
  stepped k i t (Got m u) z l holds = ended i t z.0 l holds
  stepped k i t (Withdrawn Cancelled) z l holds = withdrawn i t z.0 l holds
  stepped k i t (Withdrawn Expired) z l holds = withdrawn i t z.0 l holds
  stepped k i t (Withdrawn Interrupted) z l holds = ended i t z.0 l holds
  stepped k i zero (Interrupt target) z l holds = unnamed (j == i) l holds
  stepped k i (suc t) (Interrupt target) z l holds = parted (j == i) (suc t) l holds
