-- Each deed's record says what the deed leaves.
use Rattle.std.proofs.Common.{◌≡◌, ◌≢◌, ◌⊎◌, ℕ, zero, suc, ◌<◌, ◌==◌, refl, sym, ap, ◌∙◌, subst, inl, inr, ⊎_elim, Bool, true, false, cond, ◌&&◌, if◌then◌else◌, Option, Some, None, is_some, List, [], ◌∷◌, ◌++◌, map, filter, Contains, arith}
use Rattle.std.specs.Prelude.{nat_lt}
use Rattle.std.specs.Option.{option_map_or}
use Rattle.std.proofs.Math.Path.{fun_ext}
use Rattle.std.proofs.lemmas.Bool.{cases_eq, cases_Bool, cond-true, cond-false, ne_eqb, lt-ltb, true_from_ne_false}
use Rattle.std.proofs.lemmas.List.{append-nil, map-append}
use Rattle.std.proofs.lemmas.List.Elements.{filter-append}
use Rattle.meet_tickets.specs.declared.lines.Entry.{Entry}
use Rattle.meet_tickets.specs.declared.lines.Hold.{Hold}
use Rattle.meet_tickets.specs.declared.lines.Hold.TheVariants.{Free, Waiting, Handed, Served, Cut}
use Rattle.meet_tickets.specs.declared.places.Kind.{Kind}
use Rattle.meet_tickets.specs.declared.places.Side.{Side}
use Rattle.meet_tickets.specs.declared.places.Side.TheVariants.{Giver, Taker}
use Rattle.meet_tickets.specs.declared.records.Record.{Record}
use Rattle.meet_tickets.specs.declared.records.Cause.{Cause}
use Rattle.meet_tickets.specs.declared.records.Cause.TheVariants.{Cancelled, Expired, Interrupted}
use Rattle.meet_tickets.specs.declared.records.Deed.{Deed}
use Rattle.meet_tickets.specs.declared.records.Deed.TheVariants.{GiveWaits, GiveMeets, GiveFails, GiveKept, TakeWaits, TakeMeets, TakeFails, EntryInterrupted, Done, Got, Withdrawn, Interrupt}
use Rattle.meet_tickets.specs.Meeting.{end_of, Finds}
use Rattle.meet_tickets.specs.ByLists.{State, IsOpen, IsInLine, IsStep, without, after}
use Rattle.meet_tickets.specs.BySeat.{put_at, open_ticket, is_request, paired, paired_hold, meets, interrupted, cut_off, flagged, moment_after}
use Rattle.meet_tickets.specs.Agreement.{Holds}
use Rattle.meet_tickets.specs.Fates.{named_by, meets_it, tickets_of}
use Rattle.meet_tickets.proofs.Lists.Members.{Contains-partner}
use Rattle.meet_tickets.proofs.Tellings.Whereabouts.{put_at_here, put_at_there}
use Rattle.meet_tickets.proofs.Tellings.Holding.{held_waiting, same_seat, place_in_line}
use Rattle.meet_tickets.proofs.Tellings.Deeds.{Told, seats_of, seen, HasEntry, HasNone, entry_cases, free_of, cut_found}
use Rattle.meet_tickets.proofs.Tellings.Steps.{follows}
use Rattle.meet_tickets.proofs.Told.Said.{Said, said, heard, said_after, heard_nothing, said_of_others, said_of_own, said_of_named}
use Rattle.meet_tickets.proofs.Told.Fated.{Fated, Joining, Gives, Keeps, Takes, deed_of, waits_of, blank, only_asked, only_met, only_cut, weight, hold_weight, IsLined, IsMet, IsCut, IsHeld, weight_met, weight_cut, weight_learned, weight_back, weight_cut_back, lined_unmet, lined_uncut, blank_unlined}
use Rattle.meet_tickets.proofs.Told.Turns.{asks, keeps, waits_there, leaves_seat, leaves_kept, ends}

-- a request adds its ticket
pub tickets_more : (history : List (Record Deed)) (r : Record Deed) → is_request r.deed ≡ true → tickets_of (history ++ r ∷ []) ≡ tickets_of history ++ r.ticket ∷ []
tickets_more history r request =
    ap (map (λ q. q.ticket)) (filter-append (λ q. is_request q.deed) history (r ∷ []) ∙ ap (λ b. filter (λ q. is_request q.deed) history ++ cond b (r ∷ []) []) request)
    ∙ map-append (λ q. q.ticket) (filter (λ q. is_request q.deed) history) (r ∷ [])

-- no other deed does
pub tickets_same : (history : List (Record Deed)) (r : Record Deed) → is_request r.deed ≡ false → tickets_of (history ++ r ∷ []) ≡ tickets_of history
tickets_same history r other =
    ap (map (λ q. q.ticket)) (filter-append (λ q. is_request q.deed) history (r ∷ []) ∙ ap (λ b. filter (λ q. is_request q.deed) history ++ cond b (r ∷ []) []) other ∙ append-nil (filter (λ q. is_request q.deed) history))

-- an interrupt that names no ticket says nothing
flag_says : (history : List (Record Deed)) (i j : ℕ) → said (history ++ record { seat = i; ticket = 0; deed = Interrupt j } ∷ []) ≡ said history
flag_says history i j = fun_ext each
  where
    r : Record Deed
    r = record { seat = i; ticket = 0; deed = Interrupt j }

    each : (x : ℕ) → said (history ++ r ∷ []) x ≡ said history x
    each zero = said_after history r 0 ∙ heard_nothing (Interrupt j) 0 false (said history 0)
    each (suc x) = said_of_others history r (suc x) (λ e. omega arith) refl

-- the open ticket of what a seat holds is open
pub opened_of : (s : State) (i t : ℕ) (x : Hold ℕ) → Holds s i x → open_ticket x ≡ Some t → IsOpen s i t
opened_of s i t Free h is = absurd (cc)
opened_of s i t (Waiting u) h is = let e : u ≡ t = cc in subst (IsOpen s i) e h.0.opened
opened_of s i t (Handed u v mark) h is = let e : u ≡ t = cc in subst (IsOpen s i) e h.0.opened
opened_of s i t (Served u v mark) h is = let e : u ≡ t = cc in subst (IsOpen s i) e h.0.opened
opened_of s i t (Cut u item) h is = let e : u ≡ t = cc in subst (IsOpen s i) e h.0.opened

-- the hold isn't free
some_open : (t : ℕ) (x : Hold ℕ) → open_ticket x ≡ Some t → x ≡ Free → ⊥
some_open t x is none = let apart : Some t ≡ None = sym is ∙ ap open_ticket none in cc

module _ {s : State} (told : Told s) (k : Kind) (history : List (Record Deed)) (bound : ℕ) (fated : Fated (said history) (tickets_of history) s.last s.line told.held bound) where
  -- what the records say of a deed too, and what it leaves
  abbrev Goes : (i t : ℕ) → Deed → Type 0
  Goes i t d =
      Fated (said (history ++ record { seat = i; ticket = t; deed = d } ∷ [])) (tickets_of (history ++ record { seat = i; ticket = t; deed = d } ∷ []))
      (after s i t d).last (after s i t d).line (moment_after k (seen told) (record { seat = i; ticket = t; deed = d })).seats.holds bound

  -- the record
  abbrev recorded : (i t : ℕ) → Deed → Record Deed
  recorded i t d = record { seat = i; ticket = t; deed = d }

  -- what the records say then
  abbrev says : (i t : ℕ) → Deed → ℕ → Said
  says i t d = said (history ++ recorded i t d ∷ [])

  -- of other tickets nothing
  says_others : (i t : ℕ) (d : Deed) → named_by d ≡ None → (x : ℕ) → x ≢ t → says i t d x ≡ said history x
  says_others i t d none x n = said_of_others history (recorded i t d) x (λ e. n (sym e)) (ap (λ o. option_map_or (λ u. u == x) o false) none)

  -- of its own ticket
  says_own : (i t : ℕ) (d : Deed) (x : Said) → said history t ≡ x → named_by d ≡ None → says i t d t ≡ heard d t true false (nat_lt 0 t) x
  says_own i t d x was none = said_of_own history (recorded i t d) x was (ap (λ o. option_map_or (λ u. u == t) o false) none)

  -- a request that fails
  fails_goes : (i t : ℕ) (d : Deed) → s.last < t → is_request d ≡ true → named_by d ≡ None → heard d t true false (nat_lt 0 t) blank ≡ only_asked d → ((w l m : Bool) → weight w l m (only_asked d) ≡ false) →
      Fated (says i t d) (tickets_of (history ++ recorded i t d ∷ [])) t s.line told.held bound
  fails_goes i t d above request none adds light =
      subst (λ ts. Fated (says i t d) ts t s.line told.held bound) (sym (tickets_more history (recorded i t d) request))
      (asks fated (says i t d) t (says_others i t d none) (only_asked d) refl t (omega arith) (omega arith) (fated.low t above) (says_own i t d blank (fated.low t above) none ∙ adds) light)

  -- a request that waits
  waits_goes : (i t : ℕ) (j : Joining) (item : Option ℕ) → s.last < t → i < bound → told.held i ≡ Free → waits_of j ≡ true → is_request (deed_of j) ≡ true → named_by (deed_of j) ≡ None →
      heard (deed_of j) t true false (nat_lt 0 t) blank ≡ only_asked (deed_of j) →
      Fated (says i t (deed_of j)) (tickets_of (history ++ recorded i t (deed_of j) ∷ [])) t (s.line ++ record { ticket = t; seat = i; item = item; waits = true } ∷ []) (put_at told.held i (Waiting t)) bound
  waits_goes i t j item above below free waits request none adds =
      let e : Entry ℕ = record { ticket = t; seat = i; item = item; waits = true } in
      subst (λ ts. Fated (says i t (deed_of j)) ts t (s.line ++ e ∷ []) (put_at told.held i (Waiting t)) bound) (sym (tickets_more history (recorded i t (deed_of j)) request))
      (waits_there fated (says i t (deed_of j)) t (says_others i t (deed_of j) none) (only_asked (deed_of j)) refl t (omega arith) (omega arith) (fated.low t above) (says_own i t (deed_of j) blank (fated.low t above) none ∙ adds) j e refl refl waits i below free)

  -- an item is kept
  kept_goes : (i t m : ℕ) → s.last < t → Goes i t (GiveKept m)
  kept_goes i t m above =
      let e : Entry ℕ = record { ticket = t; seat = i; item = Some m; waits = false } in
      subst (λ ts. Fated (says i t (GiveKept m)) ts t (s.line ++ e ∷ []) told.held bound) (sym (tickets_more history (recorded i t (GiveKept m)) refl))
      (keeps fated (says i t (GiveKept m)) t (says_others i t (GiveKept m) refl) (only_asked (GiveKept m)) refl t (omega arith) (omega arith) (fated.low t above) (says_own i t (GiveKept m) blank (fated.low t above) refl) (Keeps m) e refl refl refl)

  -- the seat of an open ticket in the line waits, and so does its entry
  line_waits : (i t : ℕ) → IsOpen s i t → (m : IsInLine s t) → (told.held i ≡ Waiting t) × (m.0.waits ≡ true)
  line_waits i t o m = (
    held_waiting s told.reached i t (told.held i) (told.holds i) o (place_in_line s told.reached t m),
    true_from_ne_false m.0.waits (λ still. told.reached.opened.kept m.0 m.1 still i (subst (IsOpen s i) (sym m.2) o)),
  )

  -- what is said while a request meets a ticket in the line: of the request nothing yet
  abbrev meeting : (u t : ℕ) → Joining → ℕ → Said
  meeting u t j = put_at (said history) u (only_met j t)

  -- a request meets an entry, whose seat, where it waits, holds the pair
  met_leaves : (u t : ℕ) (e : Entry ℕ) → Contains s.line e → e.ticket ≡ u → (is : IsLined e.waits (said history u)) → (x : Hold ℕ) →
      ((f : ℕ → Said) → IsMet t (f u) → IsHeld f x) → ((m : Bool) → hold_weight m x ≡ m) →
      Fated (meeting u t is.0) (tickets_of history) s.last (without u s.line) (if e.waits then put_at told.held e.seat x else told.held) bound
  met_leaves u t e m ticket is x shape weighs = ⊎_elim waiting still (cases_Bool e.waits)
    where
      here : meeting u t is.0 u ≡ only_met is.0 t
      here = put_at_here (said history) u (only_met is.0 t)

      others : (y : ℕ) → y ≢ u → meeting u t is.0 y ≡ said history y
      others y n = put_at_there (said history) u (only_met is.0 t) y n

      heavy : (w l n : Bool) → weight w l n (meeting u t is.0 u) ≡ (waits_of is.0 && n)
      heavy w l n = ap (weight w l n) here ∙ weight_met w l n is.0 t

      asked : is_some (meeting u t is.0 u).asked ≡ true
      asked = ap (λ y. is_some y.asked) here

      waiting : e.waits ≡ true → Fated (meeting u t is.0) (tickets_of history) s.last (without u s.line) (if e.waits then put_at told.held e.seat x else told.held) bound
      waiting w =
          let seat_waits = held_waiting s told.reached e.seat e.ticket (told.held e.seat) (told.holds e.seat) (told.reached.opened.waits e m w) (told.reached.placed.lined e m) in
          subst (λ h. Fated (meeting u t is.0) (tickets_of history) s.last (without u s.line) h bound) (sym (cond-true e.waits (put_at told.held e.seat x) told.held w))
          (leaves_seat fated (meeting u t is.0) u others e m ticket told.reached.distinct asked e.seat e.ticket seat_waits x
          (shape (meeting u t is.0) (is.0, is.1 ∙ w, here))
          (λ v l n. heavy v l n ∙ ap (λ b. b && n) (is.1 ∙ w) ∙ sym (weighs n)))

      still : e.waits ≡ false → Fated (meeting u t is.0) (tickets_of history) s.last (without u s.line) (if e.waits then put_at told.held e.seat x else told.held) bound
      still w =
          subst (λ h. Fated (meeting u t is.0) (tickets_of history) s.last (without u s.line) h bound) (sym (cond-false e.waits (put_at told.held e.seat x) told.held w))
          (leaves_kept fated (meeting u t is.0) u others e m ticket told.reached.distinct asked
          (λ v l n. heavy v l n ∙ ap (λ b. b && n) (is.1 ∙ w)))

  -- a request that meets an entry
  meets_goes : (i t u : ℕ) (d : Deed) (side : Side) (own other : Option ℕ) (x : Hold ℕ) → s.last < t → (found : Finds k s.line side u other) → is_request d ≡ true → named_by d ≡ Some u →
      heard d t true false (nat_lt 0 t) blank ≡ only_asked d →
      ((j : Joining) → heard d t false true (nat_lt 0 u) (only_asked (deed_of j)) ≡ only_met j t) →
      ((w l m : Bool) → weight w l m (only_asked d) ≡ false) →
      paired_hold (λ mark. mark) found.0.ticket found.0.item t own ≡ x →
      ((f : ℕ → Said) → IsMet t (f u) → IsHeld f x) → ((m : Bool) → hold_weight m x ≡ m) →
      Fated (says i t d) (tickets_of (history ++ recorded i t d ∷ [])) t (without u s.line) (meets k (seats_of told) t own side).holds bound
  meets_goes i t u d side own other x above found request named adds tells light holds shape weighs =
      subst (λ h. Fated (says i t d) (tickets_of (history ++ recorded i t d ∷ [])) t (without u s.line) h bound) (sym held_then)
      (subst (λ ts. Fated (says i t d) ts t (without u s.line) (if e.waits then put_at told.held e.seat x else told.held) bound) (sym (tickets_more history (recorded i t d) request))
      (asks (met_leaves u t e there found.2 is x shape weighs) (says i t d) t others (only_asked d) refl t (omega arith) (omega arith) (unmet_yet (fated.low t above)) own_says light))
    where
      e : Entry ℕ
      e = found.0

      there : Contains s.line e
      there = Contains-partner (end_of k.order) s.line side e found.1

      is : IsLined e.waits (said history u)
      is = subst (λ y. IsLined e.waits (said history y)) found.2 (fated.lined e there)

      apart : t ≢ u
      apart same = blank_unlined e.waits (said history u) (fated.low u (subst (λ y. s.last < y) same above)) is

      held_then : (meets k (seats_of told) t own side).holds ≡ (if e.waits then put_at told.held e.seat x else told.held)
      held_then =
          ap (λ o. (option_map_or (paired (λ mark. mark) (end_of k.order) (seats_of told) t own) o (seats_of told)).holds) found.1
          ∙ ap (λ y. if e.waits then put_at told.held e.seat y else told.held) holds

      unnamed : (y : ℕ) → y ≢ u → meets_it y (recorded i t d) ≡ false
      unnamed y n = ap (λ o. option_map_or (λ v. v == y) o false) named ∙ ne_eqb u y (λ same. n (sym same))

      -- what meets it says nothing of the request
      unmet_yet : said history t ≡ blank → meeting u t is.0 t ≡ blank
      unmet_yet low = put_at_there (said history) u (only_met is.0 t) t apart ∙ low

      own_says : says i t d t ≡ only_asked d
      own_says = said_of_own history (recorded i t d) blank (fated.low t above) (unnamed t apart) ∙ adds

      others : (y : ℕ) → y ≢ t → says i t d y ≡ meeting u t is.0 y
      others y n = ⊎_elim at away (cases_eq y u)
        where
          at : y ≡ u → says i t d y ≡ meeting u t is.0 y
          at same = subst (λ v. says i t d v ≡ meeting u t is.0 v) (sym same)
              (said_of_named history (recorded i t d) u (only_asked (deed_of is.0)) is.2 apart named ∙ tells is.0 ∙ sym (put_at_here (said history) u (only_met is.0 t)))

          away : y ≢ u → says i t d y ≡ meeting u t is.0 y
          away m = said_of_others history (recorded i t d) y (λ same. n (sym same)) (unnamed y m) ∙ sym (put_at_there (said history) u (only_met is.0 t) y m)

  -- no other seat has this ticket open
  open_here : (i t : ℕ) → open_ticket (told.held i) ≡ Some t → (j : ℕ) → j ≢ i → open_ticket (told.held j) ≡ Some t → ⊥
  open_here i t is j n there = n (same_seat s told.reached i j t (opened_of s i t (told.held i) (told.holds i) is) (opened_of s j t (told.held j) (told.holds j) there))

  -- a ticket that was met learns so
  learns_goes : (i t v : ℕ) (d : Deed) → named_by d ≡ None → is_request d ≡ false → ((j : Joining) (u : ℕ) → heard d t true false (nat_lt 0 t) (only_met j u) ≡ record (only_met j u) { learned = true }) →
      open_ticket (told.held i) ≡ Some t → ((m : Bool) → hold_weight m (told.held i) ≡ m) → IsMet v (said history t) →
      Fated (says i t d) (tickets_of (history ++ recorded i t d ∷ [])) s.last s.line (put_at told.held i Free) bound
  learns_goes i t v d none other adds opened heavy met =
      subst (λ ts. Fated (says i t d) ts s.last s.line (put_at told.held i Free) bound) (sym (tickets_same history (recorded i t d) other))
      (ends fated (says i t d) t (says_others i t d none) i (some_open t (told.held i) opened) (open_here i t opened) (λ b l. lined_unmet b (said history t) l v met)
      (ap (λ y. is_some y.asked) met.2) (ap (λ y. is_some y.asked) now)
      (λ w l m. ap (weight w l m) met.2 ∙ weight_met w l m met.0 v ∙ ap (λ b. b && m) met.1 ∙ sym (heavy m))
      (λ w l m. ap (weight w l m) now ∙ weight_learned w l m met.0 v))
    where
      now : says i t d t ≡ record (only_met met.0 v) { learned = true }
      now = says_own i t d (only_met met.0 v) met.2 none ∙ adds met.0 v

  -- a ticket that was cut is collected
  collected_goes : (i t : ℕ) (item : Option ℕ) → told.held i ≡ Cut t item → Goes i t (Withdrawn Interrupted)
  collected_goes i t item is =
      subst (λ ts. Fated (says i t d) ts s.last s.line (put_at told.held i Free) bound) (sym (tickets_same history (recorded i t d) refl))
      (ends fated (says i t d) t (says_others i t d refl) i (some_open t (told.held i) opened) (open_here i t opened) (λ b l. lined_uncut b (said history t) l cut)
      (ap (λ y. is_some y.asked) cut.2) (ap (λ y. is_some y.asked) now)
      (λ w l m. ap (weight w l m) cut.2 ∙ weight_cut w l m cut.0 ∙ ap (λ b. b && m) cut.1 ∙ ap (hold_weight m) (sym is))
      (λ w l m. ap (weight w l m) now ∙ weight_cut_back w l m cut.0 Interrupted))
    where
      d : Deed
      d = Withdrawn Interrupted

      opened : open_ticket (told.held i) ≡ Some t
      opened = ap open_ticket is

      cut : IsCut (said history t)
      cut = subst (IsHeld (said history)) is (fated.held i)

      now : says i t d t ≡ record (only_cut cut.0) { back = Some Interrupted }
      now = says_own i t d (only_cut cut.0) cut.2 refl

  -- a ticket in the line is taken back
  back_goes : (i t : ℕ) (cause : Cause) → IsOpen s i t → IsInLine s t →
      Fated (says i t (Withdrawn cause)) (tickets_of (history ++ recorded i t (Withdrawn cause) ∷ [])) s.last (without t s.line) (put_at told.held i Free) bound
  back_goes i t cause o m =
      subst (λ ts. Fated (says i t (Withdrawn cause)) ts s.last (without t s.line) (put_at told.held i Free) bound) (sym (tickets_same history (recorded i t (Withdrawn cause)) refl))
      (leaves_seat fated (says i t (Withdrawn cause)) t (says_others i t (Withdrawn cause) refl) m.0 m.1 m.2 told.reached.distinct (ap (λ y. is_some y.asked) now)
      i t (line_waits i t o m).0 Free tt (λ w l n. ap (weight w l n) now ∙ weight_back w l n is.0 cause))
    where
      is : IsLined m.0.waits (said history t)
      is = subst (λ y. IsLined m.0.waits (said history y)) m.2 (fated.lined m.0 m.1)

      now : says i t (Withdrawn cause) t ≡ record (only_asked (deed_of is.0)) { back = Some cause }
      now = says_own i t (Withdrawn cause) (only_asked (deed_of is.0)) is.2 refl

  -- a ticket in the line is cut
  cut_goes : (i t j : ℕ) → IsOpen s j (suc t) → IsInLine s (suc t) → (c : HasEntry s j (told.held j)) → c.entry.ticket ≡ suc t → Goes i (suc t) (Interrupt j)
  cut_goes i t j o m c ticket =
      subst (λ ts. Fated (says i (suc t) d) ts s.last (without (suc t) s.line) (interrupted (seats_of told) j).holds bound) (sym (tickets_same history (recorded i (suc t) d) refl))
      (subst (λ h. Fated (says i (suc t) d) (tickets_of history) s.last (without (suc t) s.line) h bound) (sym held_then)
      (leaves_seat fated (says i (suc t) d) (suc t) (says_others i (suc t) d refl) m.0 m.1 m.2 told.reached.distinct (ap (λ y. is_some y.asked) now)
      j (suc t) waits.0 x (subst (λ y. IsCut (says i (suc t) d y)) (sym ticket) (is.0, is.1 ∙ waits.1, now))
      (λ w l n. ap (weight w l n) now ∙ weight_cut w l n is.0 ∙ ap (λ b. b && n) (is.1 ∙ waits.1))))
    where
      d : Deed
      d = Interrupt j

      x : Hold ℕ
      x = Cut c.entry.ticket c.entry.item

      waits : (told.held j ≡ Waiting (suc t)) × (m.0.waits ≡ true)
      waits = line_waits j (suc t) o m

      is : IsLined m.0.waits (said history (suc t))
      is = subst (λ y. IsLined m.0.waits (said history y)) m.2 (fated.lined m.0 m.1)

      now : says i (suc t) d (suc t) ≡ only_cut is.0
      now =
          says_own i (suc t) d (only_asked (deed_of is.0)) is.2 refl
          ∙ ap (λ b. heard d (suc t) true false b (only_asked (deed_of is.0))) (lt-ltb 0 (suc t) (omega arith))

      held_then : (interrupted (seats_of told) j).holds ≡ put_at told.held j x
      held_then = ap (λ o. (option_map_or (cut_off (seats_of told) j) o (flagged (seats_of told) j true)).holds) c.found

  -- an interrupt says what it leaves, by its ticket and by what the target holds
  interrupt_goes : (i t j : ℕ) → IsStep k s i t (Interrupt j) → HasEntry s j (told.held j) ⊎ HasNone s j (told.held j) → Goes i t (Interrupt j)
  interrupt_goes i zero j z (inl c) = absurd (z c.entry.ticket c.opened c.lined)
  interrupt_goes i zero j z (inr c) =
      subst (λ ts. Fated (says i 0 (Interrupt j)) ts s.last s.line (interrupted (seats_of told) j).holds bound) (sym (tickets_same history (recorded i 0 (Interrupt j)) refl))
      (subst (λ f. Fated f (tickets_of history) s.last s.line (interrupted (seats_of told) j).holds bound) (sym (flag_says history i j))
      (subst (λ h. Fated (said history) (tickets_of history) s.last s.line h bound)
      (sym (ap (λ o. (option_map_or (cut_off (seats_of told) j) o (flagged (seats_of told) j true)).holds) c.missing)) fated))
  interrupt_goes i (suc t) j z (inl c) = cut_goes i t j z.0 z.1 c (sym (cut_found told j c) ∙ sym ((follows told k i (suc t) (Interrupt j)).next.0 z).allowed)
  interrupt_goes i (suc t) j z (inr c) = absurd (c.none (suc t) z.0 z.1)

  -- each deed says what it leaves
  pub goes : (i t : ℕ) (d : Deed) → i < bound → IsStep k s i t d → Goes i t d
  goes i t (GiveWaits m) below z = waits_goes i t (Gives m) (Some m) z.0.above below (free_of told i t z.0) refl refl refl refl
  goes i t (GiveMeets m u) below z =
      meets_goes i t u (GiveMeets m u) Giver (Some m) None (Served u t m) z.0.above z.1 refl refl refl (λ j. refl) (λ w l n. refl)
      (ap (λ item. paired_hold (λ mark. mark) z.1.0.ticket item t (Some m)) z.1.3 ∙ ap (λ y. Served y t m) z.1.2) (λ f met. met) (λ n. refl)
  goes i t (GiveFails m) below z = fails_goes i t (GiveFails m) z.0.above refl refl refl (λ w l n. refl)
  goes i t (GiveKept m) below z = kept_goes i t m z.0.above
  goes i t TakeWaits below z = waits_goes i t Takes None z.0.above below (free_of told i t z.0) refl refl refl refl
  goes i t (TakeMeets m u) below z =
      meets_goes i t u (TakeMeets m u) Taker None (Some m) (Handed u t m) z.0.above z.1 refl refl refl (λ j. refl) (λ w l n. refl)
      (ap (λ item. paired_hold (λ mark. mark) z.1.0.ticket item t None) z.1.3 ∙ ap (λ y. Handed y t m) z.1.2) (λ f met. met) (λ n. refl)
  goes i t TakeFails below z = fails_goes i t TakeFails z.0.above refl refl refl (λ w l n. refl)
  goes i t (EntryInterrupted side) below z = fails_goes i t (EntryInterrupted side) z.0.above refl refl refl (λ w l n. refl)
  goes i t Done below z =
      let handed = ((follows told k i t Done).next.0 z).allowed in
      learns_goes i t handed.0 Done refl refl (λ j u. refl) (ap open_ticket handed.2) (λ n. ap (hold_weight n) handed.2) (subst (IsHeld (said history)) handed.2 (fated.held i))
  goes i t (Got m u) below z =
      let served = ((follows told k i t (Got m u)).next.0 z).allowed in
      learns_goes i t u (Got m u) refl refl (λ j v. refl) (ap open_ticket served) (λ n. ap (hold_weight n) served) (subst (IsHeld (said history)) served (fated.held i))
  goes i t (Withdrawn Cancelled) below z = back_goes i t Cancelled z.0 z.1
  goes i t (Withdrawn Expired) below z = back_goes i t Expired z.0 z.1
  goes i t (Withdrawn Interrupted) below z =
      let was_cut = ((follows told k i t (Withdrawn Interrupted)).next.0 z).allowed in
      collected_goes i t was_cut.0 was_cut.1
  goes i t (Interrupt j) below z = interrupt_goes i t j z (entry_cases s told.reached j (told.held j) (told.holds j))
