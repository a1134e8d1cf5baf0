-- Entries that stand at their seats' places, linked in order of arrival.
use Rattle.std.proofs.Common.{◌≡◌, ◌≢◌, ◌⊎◌, ℕ, ◌+◌, ◌-◌, ◌<◌, ◌≤◌, ◌==◌, true, Option, Some, None, List, [], ◌∷◌, ◌++◌, length, map, replicate, find, option_map, refl, sym, ap, ◌∙◌, inl, inr, subst, arith, set}
use Rattle.std.specs.Prelude.{All, AllPairs}
use Rattle.std.specs.List.{cons_option}
use Rattle.std.specs.Option.{option_map_or}
use Rattle.std.proofs.lemmas.List.{map-append, length-map, length-append, length-set, get_or_at, get_or-set_same, get_or-set_other, length-replicate}
use Rattle.std.proofs.lemmas.List.Elements.{All-nil, All-cons}
use Rattle.std.proofs.lemmas.Bool.{cases_eq, cases_lt}
use Rattle.meet_tickets.specs.declared.lines.Entry.{Entry}
use Rattle.meet_line.specs.declared.spots.Spot.{Spot}
use Rattle.meet_line.specs.Runs.{occurs, first_or, IsRing, IsAbsent, IsDistinct}
use Rattle.meet_line.specs.Rolled.{StandsAt}
use Rattle.meet_line.specs.Stored.{slot_at, entries_of, keys_in, AreHeld, IsStored}
use Rattle.meet_line.specs.Seated.{slots_of, afters_of, befores_of, after_at, before_at, linked, seats_of, placed, seat_roll, line_of, IsSeated, IsBelow, IsUnlinked, IsLinked, IsPadded, first_seat, seat_found, Sits, IsLastSeat, Fits}
use Rattle.meet_line.proofs.Occurs.{absent-head, absent-tail, distinct-middle, distinct-push, length-below, occurs-append, occurs-other}
use Rattle.meet_line.proofs.Runs.{last_or, followed-run, ring-first, ring-last, ring-after}
use Rattle.meet_line.proofs.Places.{stands-from_occurs}
use Rattle.meet_line.proofs.Standing.{last_split}
use Rattle.meet_line.proofs.Relinks.{before-below, after-below, last-below, ring_rise, ring_sit, ring-padded, ring-same, padded}
use Rattle.meet_line.proofs.Stored.{held-front, length-entries, found-middle, taken-out, put-in, within-slots, widened}

module _ {T : Type 0} (slots : List (Option (Entry T))) where
  pub keys-placed : (seats : List ℕ) → keys_in (map (placed slots) seats) ≡ seats
  keys-placed [] = refl
  keys-placed (k ∷ seats) = ap (λ ks. k ∷ ks) (keys-placed seats)

  -- the places of seats, by slots that are alike but for one that isn't theirs
  placed-alike : (slots' : List (Option (Entry T))) (key : ℕ) (seats : List ℕ) → ((k : ℕ) → k ≢ key → slot_at slots' k ≡ slot_at slots k) → IsAbsent (Some key) seats → map (placed slots') seats ≡ map (placed slots) seats
  placed-alike slots' key [] alike absent = refl
  placed-alike slots' key (k ∷ seats) alike absent =
      let other : k ≢ key = λ same. absent-head (Some key) k seats absent (ap (λ i. Some i) same) in
      let here : placed slots' k ≡ placed slots k = ap (λ o. record { key = k; ticket = option_map_or (λ (e : Entry T). e.ticket) o 0 }) (alike k other) in
      ap (λ p. p ∷ map (placed slots') seats) here ∙ ap (λ ps. placed slots k ∷ ps) (placed-alike slots' key seats alike (absent-tail (Some key) k seats absent))

  placed-same : (slots' : List (Option (Entry T))) (seats : List ℕ) → ((k : ℕ) → slot_at slots' k ≡ slot_at slots k) → map (placed slots') seats ≡ map (placed slots) seats
  placed-same slots' [] alike = refl
  placed-same slots' (k ∷ seats) alike =
      let here : placed slots' k ≡ placed slots k = ap (λ o. record { key = k; ticket = option_map_or (λ (e : Entry T). e.ticket) o 0 }) (alike k) in
      ap (λ p. p ∷ map (placed slots') seats) here ∙ ap (λ ps. placed slots k ∷ ps) (placed-same slots' seats alike)

  placed-fresh : (key : ℕ) (seats : List ℕ) → IsAbsent (Some key) seats → All (λ p. p.key ≢ key) (map (placed slots) seats)
  placed-fresh key [] absent = All-nil (λ p. p.key ≢ key)
  placed-fresh key (k ∷ seats) absent =
      All-cons (λ p. p.key ≢ key) (placed slots k) (map (placed slots) seats) (λ same. absent-head (Some key) k seats absent (ap (λ i. Some i) same)) (placed-fresh key seats (absent-tail (Some key) k seats absent))

  -- the entries of a seat and of others
  line-cons : (k : ℕ) (seats : List ℕ) (e : Entry T) → slot_at slots k ≡ Some e → line_of slots (k ∷ seats) ≡ e ∷ line_of slots seats
  line-cons k seats e here = ap (λ o. cons_option o (line_of slots seats)) here

  -- seats that are split where their entries are
  pub record SplitSeats (seats : List ℕ) (front : List (Entry T)) (e : Entry T) (rest : List (Entry T)) : Type 0 where
    pub xs : List ℕ
    pub key : ℕ
    pub ys : List ℕ
    pub all : seats ≡ xs ++ key ∷ ys
    pub here : slot_at slots key ≡ Some e
    pub before : line_of slots xs ≡ front
    pub behind : line_of slots ys ≡ rest

  pub split_seats : (seats : List ℕ) (front : List (Entry T)) (e : Entry T) (rest : List (Entry T)) → AreHeld slots (map (placed slots) seats) → line_of slots seats ≡ front ++ e ∷ rest → SplitSeats seats front e rest
  split_seats [] [] e rest held same = absurd (cc)
  split_seats [] (f ∷ front) e rest held same = absurd (cc)
  split_seats (k ∷ seats) [] e rest held same =
      let x = held.0.0 in
      let both : x ∷ line_of slots seats ≡ e ∷ rest = sym (line-cons k seats x held.0.1) ∙ same in
      let head : x ≡ e = cc in
      record { xs = []; key = k; ys = seats; all = refl; here = held.0.1 ∙ ap (λ a. Some a) head; before = refl; behind = cc }
  split_seats (k ∷ seats) (f ∷ front) e rest held same =
      let x = held.0.0 in
      let both : x ∷ line_of slots seats ≡ f ∷ (front ++ e ∷ rest) = sym (line-cons k seats x held.0.1) ∙ same in
      let head : x ≡ f = cc in
      let tail : line_of slots seats ≡ front ++ e ∷ rest = cc in
      let later = split_seats seats front e rest held.1 tail in
      record {
        xs = k ∷ later.xs;
        key = later.key;
        ys = later.ys;
        all = ap (λ ks. k ∷ ks) later.all;
        here = later.here;
        before = line-cons k later.xs x held.0.1 ∙ ap (λ a. a ∷ line_of slots later.xs) head ∙ ap (λ es. f ∷ es) later.before;
        behind = later.behind;
      }

  -- the entries of seats that are split
  pub line-split : (xs : List ℕ) (k : ℕ) (ys : List ℕ) (e : Entry T) → AreHeld slots (map (placed slots) (xs ++ k ∷ ys)) → slot_at slots k ≡ Some e → line_of slots (xs ++ k ∷ ys) ≡ line_of slots xs ++ e ∷ line_of slots ys
  line-split [] k ys e held here = line-cons k ys e here
  line-split (x ∷ xs) k ys e held here =
      let f = held.0.0 in
      line-cons x (xs ++ k ∷ ys) f held.0.1 ∙ ap (λ es. f ∷ es) (line-split xs k ys e held.1 here) ∙ ap (λ es. es ++ e ∷ line_of slots ys) (sym (line-cons x xs f held.0.1))

  first_seat-is : (seats : List ℕ) → AreHeld slots (map (placed slots) seats) → ((k : ℕ) (e : Entry T) → slot_at slots k ≡ Some e → e.seat ≡ k) → first_seat (line_of slots seats) ≡ first_or seats None
  first_seat-is [] held own = refl
  first_seat-is (k ∷ seats) held own =
      ap first_seat (line-cons k seats held.0.0 held.0.1) ∙ ap (λ i. Some i) (own k held.0.0 held.0.1)

module _ {T : Type 0} (spots : List (Spot T)) (first last : Option ℕ) (len : ℕ) (seats : List ℕ) (s : IsSeated spots first last len seats) where
  -- the seats that links lead to are these
  pub seats-are : seats_of spots first len ≡ seats
  seats-are = followed-run len (linked (afters_of spots) first) None seats (omega (arith, s.counted)) s.ring.onward

  pub seated-closed : IsSeated spots first last len (seats_of spots first len)
  seated-closed = subst (IsSeated spots first last len) (sym seats-are) s

  pub distinct-seats : IsDistinct seats
  distinct-seats = subst IsDistinct (keys-placed (slots_of spots) seats) s.stored.holds.distinct

  pub length-line : length (line_of (slots_of spots) seats) ≡ len
  length-line = length-entries (slots_of spots) (map (placed (slots_of spots)) seats) s.stored.holds.held ∙ length-map seats (placed (slots_of spots)) ∙ sym s.counted

  stands : (xs : List ℕ) (k : ℕ) (ys : List ℕ) → seats ≡ xs ++ k ∷ ys → StandsAt (map (placed (slots_of spots)) seats) k
  stands xs k ys same =
      let at = placed (slots_of spots) in
      record { front = map at xs; place = at k; rest = map at ys; all = ap (map at) same ∙ map-append at xs (k ∷ ys); own = refl }

  seat-within : (xs : List ℕ) (k : ℕ) (ys : List ℕ) → seats ≡ xs ++ k ∷ ys → k < length spots
  seat-within xs k ys same =
      omega (arith, within-slots (seat_roll (slots_of spots) seats) (slots_of spots) (length spots - len) s.stored k (stands xs k ys same), length-map spots (λ p. p.entry))

  among-within : (j : ℕ) → 1 ≤ occurs j seats → j < length spots
  among-within j there =
      let at = stands-from_occurs j seats there in
      seat-within at.0 j at.1 at.2

  -- there is a place more than nodes, where one is free
  vacant : (key : ℕ) → key < length spots → IsAbsent (Some key) seats → len < length spots
  vacant key within absent =
      let below : (j : ℕ) → 1 ≤ occurs j (seats ++ key ∷ []) → j < length spots = λ j there.
      elim (cases_eq key j) [
        | inl same ↦ omega (arith, same, within)
        | inr other ↦ among-within j (omega (arith, there, occurs-append j seats (key ∷ []), occurs-other j key other))
      ] in
      omega (arith, s.counted, length-append seats (key ∷ []), length-below (seats ++ key ∷ []) (length spots) (distinct-push seats key distinct-seats absent) below)

  -- where an entry of a seat is
  pub seat_split : (front : List (Entry T)) (e : Entry T) (rest : List (Entry T)) (key : ℕ) → line_of (slots_of spots) seats ≡ front ++ e ∷ rest → e.seat ≡ key → (xs : List ℕ) × (ys : List ℕ) × (seats ≡ xs ++ key ∷ ys) × (slot_at (slots_of spots) key ≡ Some e) × (line_of (slots_of spots) xs ≡ front) × (line_of (slots_of spots) ys ≡ rest)
  seat_split front e rest key same own =
      let at = split_seats (slots_of spots) seats front e rest s.stored.holds.held same in
      let key_is : at.key ≡ key = sym (s.own at.key e at.here) ∙ own in (
        at.xs,
        at.ys,
        at.all ∙ ap (λ k. at.xs ++ k ∷ at.ys) key_is,
        ap (slot_at (slots_of spots)) (sym key_is) ∙ at.here,
        at.before,
        at.behind,
      )

  pub sits-within : (key : ℕ) → Sits (line_of (slots_of spots) seats) key → key < length spots
  sits-within key at =
      let there = seat_split at.front at.entry at.rest key at.all at.own in
      seat-within there.0 key there.1 there.2

  pub sits-before : (key : ℕ) → Sits (line_of (slots_of spots) seats) key → IsBelow (before_at spots key) (length spots)
  sits-before key at =
      let there = seat_split at.front at.entry at.rest key at.all at.own in
      before-below (afters_of spots) (befores_of spots) first last (length spots) there.0 key there.1 (subst (λ ks. (j : ℕ) → 1 ≤ occurs j ks → j < length spots) there.2 among-within) (subst (IsRing (linked (afters_of spots) first) (linked (befores_of spots) last)) there.2 s.ring)

  pub sits-after : (key : ℕ) → Sits (line_of (slots_of spots) seats) key → IsBelow (after_at spots key) (length spots)
  sits-after key at =
      let there = seat_split at.front at.entry at.rest key at.all at.own in
      after-below (afters_of spots) (befores_of spots) first last (length spots) there.0 key there.1 (subst (λ ks. (j : ℕ) → 1 ≤ occurs j ks → j < length spots) there.2 among-within) (subst (IsRing (linked (afters_of spots) first) (linked (befores_of spots) last)) there.2 s.ring)

  pub last-within : IsBelow last (length spots)
  last-within = last-below (afters_of spots) (befores_of spots) first last (length spots) seats among-within s.ring

  -- what a place that was emptied leaves of the others
  kept-slot : (spots' : List (Spot T)) (key k : ℕ) (e : Entry T) → key < length spots → slots_of spots' ≡ set (slots_of spots) key None → slot_at (slots_of spots') k ≡ Some e → slot_at (slots_of spots) k ≡ Some e
  kept-slot spots' key k e within slots here =
      elim (cases_eq k key) [
        | inl same ↦
            let none : slot_at (slots_of spots') k ≡ None = ap (λ xs. slot_at xs k) slots ∙ ap (slot_at (set (slots_of spots) key None)) same ∙ get_or-set_same (slots_of spots) key None None (omega (arith, within, length-map spots (λ p. p.entry))) in
            let clash : Some e ≡ None = sym here ∙ none in
            absurd (cc)
        | inr other ↦ sym (get_or-set_other (slots_of spots) key k None None other) ∙ ap (λ xs. slot_at xs k) (sym slots) ∙ here
      ]

  -- the node of a seat leaves
  pub risen : (xs : List ℕ) (key : ℕ) (ys : List ℕ) (spots' : List (Spot T)) (first' last' : Option ℕ) → seats ≡ xs ++ key ∷ ys → IsUnlinked spots spots' first first' last last' key → IsSeated spots' first' last' (len - 1) (xs ++ ys) × (line_of (slots_of spots') (xs ++ ys) ≡ line_of (slots_of spots) xs ++ line_of (slots_of spots) ys) × (length spots' ≡ length spots) × (1 ≤ len)
  unfolding stands
  risen xs key ys spots' first' last' same gone =
      let slots = slots_of spots in
      let slots' = slots_of spots' in
      let A = afters_of spots in
      let B = befores_of spots in
      let p = before_at spots key in
      let q = after_at spots key in
      let at = stands xs key ys same in
      let within = seat-within xs key ys same in
      let all : length slots ≡ length spots = length-map spots (λ p. p.entry) in
      let all_after : length A ≡ length spots = length-map spots (λ p. p.after) in
      let all_before : length B ≡ length spots = length-map spots (λ p. p.before) in
      let wide' : length slots' ≡ length slots = ap length gone.slots ∙ length-set slots key None in
      let size : length spots' ≡ length spots = sym (length-map spots' (λ p. p.entry)) ∙ wide' ∙ all in
      let distinct : IsDistinct (xs ++ key ∷ ys) = subst IsDistinct same distinct-seats in
      let ring = subst (IsRing (linked A first) (linked B last)) same s.ring in
      let among = subst (λ ks. (j : ℕ) → 1 ≤ occurs j ks → j < length spots) same among-within in
      let before : IsBelow p (length A) = subst (IsBelow p) (sym all_after) (before-below A B first last (length spots) xs key ys among ring) in
      let after : IsBelow q (length B) = subst (IsBelow q) (sym all_before) (after-below A B first last (length spots) xs key ys among ring) in
      let left = ring_rise A B first last xs key ys before after distinct ring in
      let alike : (k : ℕ) → k ≢ key → slot_at slots' k ≡ slot_at slots k = λ k other. ap (λ xs. slot_at xs k) gone.slots ∙ get_or-set_other slots key k None None other in
      let places : map (placed slots') (xs ++ ys) ≡ at.front ++ at.rest = placed-alike slots slots' key (xs ++ ys) alike (distinct-middle xs key ys distinct) ∙ map-append (placed slots) xs ys in
      let out = taken-out (seat_roll slots seats) slots (length spots - len) s.stored (seat_roll slots' (xs ++ ys)) slots' key (slot_at slots key) at places wide' wide' gone.slots refl in
      let fewer : len ≡ length (xs ++ ys) + 1 = omega (arith, s.counted, ap length same, length-append xs (key ∷ ys), length-append xs ys) in
      let room : (length spots - len) + 1 ≡ length spots' - (len - 1) = omega (arith, fewer, s.within, size) in (
        record {
          ring = ring-same _ _ _ _ _ _ _ _ (xs ++ ys) gone.afters gone.befores gone.first_is gone.last_is left;
          stored = subst (IsStored (seat_roll slots' (xs ++ ys)) slots') room out.stored;
          counted = omega (arith, fewer);
          within = omega (arith, s.within, size);
          own = λ k e here. s.own k e (kept-slot spots' key k e within gone.slots here);
          waits = λ k e here. s.waits k e (kept-slot spots' key k e within gone.slots here);
        },
        out.now,
        size,
        omega (arith, fewer),
      )

  -- where an entry fits, its seat's place is free
  free-seat : (entry : Entry T) → Fits (length spots) (line_of (slots_of spots) seats) entry → IsAbsent (Some entry.seat) seats
  free-seat entry fits =
      let slots = slots_of spots in
      elim (cases_lt 0 (occurs entry.seat seats)) [
        | inl there ↦
            let at = stands-from_occurs entry.seat seats (omega (arith, there)) in
            let held = subst (λ ks. AreHeld slots (map (placed slots) ks)) at.2 s.stored.holds.held in
            let parts = held-front slots (map (placed slots) at.0) (map (placed slots) (entry.seat ∷ at.1)) (subst (AreHeld slots) (map-append (placed slots) at.0 (entry.seat ∷ at.1)) held) in
            let e = parts.1.0.0 in
            let here : slot_at slots entry.seat ≡ Some e = parts.1.0.1 in
            let A = line_of slots at.0 in
            let B = line_of slots at.1 in
            let whole : line_of slots seats ≡ A ++ e ∷ B = ap (line_of slots) at.2 ∙ line-split slots at.0 entry.seat at.1 e held here in
            let P : Entry T → Type 0 = λ f. f.waits ≡ true → f.seat ≢ entry.seat in
            let free : All P (A ++ e ∷ B) = subst (All P) whole fits.free in
            let differ : P e = subst P (get_or_at A e B e (length A) refl) (free (length A) e (omega (arith, length-append A (e ∷ B)))) in
            absurd (differ (s.waits entry.seat e here) (s.own entry.seat e here))
        | inr none ↦ omega (arith, none)
      ]

  pub free-place : (entry : Entry T) → Fits (length spots) (line_of (slots_of spots) seats) entry → len < length spots
  free-place entry fits = vacant entry.seat fits.within (free-seat entry fits)

  pub free-slot : (entry : Entry T) → Fits (length spots) (line_of (slots_of spots) seats) entry → slot_at (slots_of spots) entry.seat ≡ None
  free-slot entry fits =
      s.stored.holds.free entry.seat (ap (occurs entry.seat) (keys-placed (slots_of spots) seats) ∙ free-seat entry fits)

  -- what stands at a place stands in the line
  slot-sits : (key : ℕ) (e : Entry T) → slot_at (slots_of spots) key ≡ Some e → (at : Sits (line_of (slots_of spots) seats) key) × (at.entry ≡ e)
  slot-sits key e here =
      let slots = slots_of spots in
      elim (cases_lt 0 (occurs key seats)) [
        | inl there ↦
            let at = stands-from_occurs key seats (omega (arith, there)) in
            let held = subst (λ ks. AreHeld slots (map (placed slots) ks)) at.2 s.stored.holds.held in (
              record {
                front = line_of slots at.0;
                entry = e;
                rest = line_of slots at.1;
                all = ap (line_of slots) at.2 ∙ line-split slots at.0 key at.1 e held here;
                own = s.own key e here;
              },
              refl,
            )
        | inr none ↦
            let gone : occurs key seats ≡ 0 = omega (arith, none) in
            let free : slot_at slots key ≡ None = s.stored.holds.free key (ap (occurs key) (keys-placed slots seats) ∙ gone) in
            let clash : Some e ≡ None = sym here ∙ free in
            absurd (cc)
      ]

  pub slot-own : (key : ℕ) (o : Option (Entry T)) → slot_at (slots_of spots) key ≡ o → (front : List (Entry T)) (e : Entry T) (rest : List (Entry T)) → line_of (slots_of spots) seats ≡ front ++ e ∷ rest → e.seat ≡ key → o ≡ Some e
  slot-own key o here front e rest all own = sym here ∙ (seat_split front e rest key all own).3

  -- the entry at a place is what is found for its ticket
  pub slot-found : (key t : ℕ) (e : Entry T) → slot_at (slots_of spots) key ≡ Some e → e.ticket ≡ t → seat_found (line_of (slots_of spots) seats) t ≡ Some key
  slot-found key t e here same =
      let line = line_of (slots_of spots) seats in
      let sits = slot-sits key e here in
      let at = sits.0 in
      let distinct : AllPairs (λ a b. a.ticket ≢ b.ticket) (at.front ++ at.entry ∷ at.rest) = subst (AllPairs (λ a b. a.ticket ≢ b.ticket)) at.all s.stored.tickets in
      let found : find (λ a. a.ticket == t) line ≡ Some at.entry = ap (find (λ a. a.ticket == t)) at.all ∙ (found-middle t at.front at.entry at.rest (ap (λ a. a.ticket) sits.1 ∙ same) distinct).0 in
      ap (option_map (λ a. a.seat)) found ∙ ap (λ i. Some i) at.own

  -- a node comes
  pub sat : (entry : Entry T) (spots' : List (Spot T)) (first' last' : Option ℕ) → Fits (length spots) (line_of (slots_of spots) seats) entry → All (λ e. e.ticket ≢ entry.ticket) (line_of (slots_of spots) seats) → IsLinked spots spots' first first' last last' entry.seat entry → IsSeated spots' first' last' (len + 1) (seats ++ entry.seat ∷ []) × (line_of (slots_of spots') (seats ++ entry.seat ∷ []) ≡ line_of (slots_of spots) seats ++ entry ∷ []) × (length spots' ≡ length spots)
  sat entry spots' first' last' fits fresh came =
      let slots = slots_of spots in
      let slots' = slots_of spots' in
      let A = afters_of spots in
      let B = befores_of spots in
      let key = entry.seat in
      let all : length slots ≡ length spots = length-map spots (λ p. p.entry) in
      let all_after : length A ≡ length spots = length-map spots (λ p. p.after) in
      let all_before : length B ≡ length spots = length-map spots (λ p. p.before) in
      let wide' : length slots' ≡ length slots = ap length came.slots ∙ length-set slots key (Some entry) in
      let size : length spots' ≡ length spots = sym (length-map spots' (λ p. p.entry)) ∙ wide' ∙ all in
      let absent = free-seat entry fits in
      let some : 0 < length spots - len = omega (arith, vacant key fits.within absent) in
      let there : key < length A = omega (arith, all_after, fits.within) in
      let there' : key < length B = omega (arith, all_before, fits.within) in
      let there'' : key < length slots = omega (arith, all, fits.within) in
      let left = ring_sit A B first last seats key there there' (subst (IsBelow last) (sym all_after) last-within) absent distinct-seats s.ring in
      let alike : (k : ℕ) → k ≢ key → slot_at slots' k ≡ slot_at slots k = λ k other. ap (λ xs. slot_at xs k) came.slots ∙ get_or-set_other slots key k (Some entry) None other in
      let here : slot_at slots' key ≡ Some entry = ap (λ xs. slot_at xs key) came.slots ∙ get_or-set_same slots key (Some entry) None there'' in
      let own_place : placed slots' key ≡ record { key = key; ticket = entry.ticket } = ap (λ o. record { key = key; ticket = option_map_or (λ (e : Entry T). e.ticket) o 0 }) here in
      let places : map (placed slots') (seats ++ key ∷ []) ≡ map (placed slots) seats ++ record { key = key; ticket = entry.ticket } ∷ [] = map-append (placed slots') seats (key ∷ []) ∙ ap (λ ps. ps ++ placed slots' key ∷ []) (placed-alike slots slots' key seats alike absent) ∙ ap (λ p. map (placed slots) seats ++ p ∷ []) own_place in
      let put = put-in (seat_roll slots seats) slots (length spots - len) s.stored (seat_roll slots' (seats ++ key ∷ [])) key entry places wide' wide' (placed-fresh slots key seats absent) there'' some fresh in
      let room : (length spots - len) - 1 ≡ length spots' - (len + 1) = omega (arith, size) in
      let held : (k : ℕ) (e : Entry T) → slot_at slots' k ≡ Some e → ((k ≡ key) × (e ≡ entry)) ⊎ (slot_at slots k ≡ Some e) = λ k e is.
      elim (cases_eq k key) [
        | inl same ↦ let both : Some e ≡ Some entry = sym is ∙ ap (slot_at slots') same ∙ here in let one : e ≡ entry = cc in inl (same, one)
        | inr other ↦ inr (sym (alike k other) ∙ is)
      ] in (
        record {
          ring = ring-same _ _ _ _ _ _ _ _ (seats ++ key ∷ []) came.afters came.befores came.first_is came.last_is left;
          stored = subst (IsStored (seat_roll slots' (seats ++ key ∷ [])) slots') room (subst (λ xs. IsStored (seat_roll slots' (seats ++ key ∷ [])) xs ((length spots - len) - 1)) (sym came.slots) put.0);
          counted = omega (arith, s.counted, length-append seats (key ∷ []));
          within = omega (arith, some, size);
          own = λ k e is. elim (held k e is) [ inl new ↦ ap (λ a. a.seat) new.1 ∙ sym new.0 | inr old ↦ s.own k e old ];
          waits = λ k e is. elim (held k e is) [ inl new ↦ ap (λ a. a.waits) new.1 ∙ fits.waits | inr old ↦ s.waits k e old ];
        },
        ap (λ xs. entries_of xs (map (placed slots') (seats ++ key ∷ []))) came.slots ∙ put.1,
        size,
      )

  -- more places
  pub more : (spots' : List (Spot T)) (count : ℕ) → IsPadded spots spots' count → IsSeated spots' first last len seats × (line_of (slots_of spots') seats ≡ line_of (slots_of spots) seats) × (length spots' ≡ length spots + count)
  more spots' count came =
      let slots = slots_of spots in
      let slots' = slots_of spots' in
      let nowhere : Option (Entry T) = None in
      let size' : length slots' ≡ length slots + count = ap length came.slots ∙ length-append slots (replicate count None) ∙ ap (λ n. length slots + n) (length-replicate count nowhere) in
      let size : length spots' ≡ length spots + count = omega (arith, sym (length-map spots' (λ p. p.entry)), size', length-map spots (λ p. p.entry)) in
      let alike : (k : ℕ) → slot_at slots' k ≡ slot_at slots k = λ k. ap (λ xs. slot_at xs k) came.slots ∙ padded slots count k in
      let places : map (placed slots') seats ≡ map (placed slots) seats = placed-same slots slots' seats alike in
      let keys : length (map (placed slots) seats) + (length spots' - len) ≤ length slots' = omega (arith, s.counted, s.within, length-map seats (placed slots), length-map spots' (λ p. p.entry), size) in
      let wide = widened (seat_roll slots seats) (seat_roll slots' seats) slots slots' (length spots - len) (length spots' - len) places (omega arith) keys keys alike s.stored in (
        record {
          ring = ring-same _ _ _ _ _ _ _ _ seats came.afters came.befores refl refl (ring-padded (afters_of spots) (befores_of spots) first last seats count s.ring);
          stored = wide.0;
          counted = s.counted;
          within = omega (arith, s.within, size);
          own = λ k e is. s.own k e (sym (alike k) ∙ is);
          waits = λ k e is. s.waits k e (sym (alike k) ∙ is);
        },
        wide.1,
        size,
      )

  -- the ends
  pub first-is : first ≡ first_seat (line_of (slots_of spots) seats)
  first-is = ring-first (linked (afters_of spots) first) (linked (befores_of spots) last) seats s.ring ∙ sym (first_seat-is (slots_of spots) seats s.stored.holds.held s.own)

  pub last-is : IsLastSeat (line_of (slots_of spots) seats) last
  last-is =
      let slots = slots_of spots in
      let is : last ≡ last_or None seats = ring-last (linked (afters_of spots) first) (linked (befores_of spots) last) seats s.ring in
      elim (last_split None seats) [
        | inl none ↦ subst (IsLastSeat (line_of slots seats)) (sym (is ∙ none.1)) (ap (line_of slots) none.0)
        | inr some ↦
            let held = subst (λ ks. AreHeld slots (map (placed slots) ks)) some.2 s.stored.holds.held in
            let parts = held-front slots (map (placed slots) some.0) (map (placed slots) (some.1 ∷ [])) (subst (AreHeld slots) (map-append (placed slots) some.0 (some.1 ∷ [])) held) in
            let e = parts.1.0.0 in
            let here : slot_at slots some.1 ≡ Some e = parts.1.0.1 in
            subst (IsLastSeat (line_of slots seats)) (sym (is ∙ some.3)) (
              record {
                front = line_of slots some.0;
                entry = e;
                rest = [];
                all = ap (line_of slots) some.2 ∙ line-split slots some.0 some.1 [] e held here;
                own = s.own some.1 e here;
              },
              refl,
            )
      ]

  pub after-is : (front : List (Entry T)) (e : Entry T) (rest : List (Entry T)) (key : ℕ) → line_of (slots_of spots) seats ≡ front ++ e ∷ rest → e.seat ≡ key → after_at spots key ≡ first_seat rest
  after-is front e rest key same own =
      let slots = slots_of spots in
      let there = seat_split front e rest key same own in
      let ring = subst (IsRing (linked (afters_of spots) first) (linked (befores_of spots) last)) there.2 s.ring in
      let held = subst (λ ks. AreHeld slots (map (placed slots) ks)) there.2 s.stored.holds.held in
      let parts = held-front slots (map (placed slots) there.0) (map (placed slots) (key ∷ there.1)) (subst (AreHeld slots) (map-append (placed slots) there.0 (key ∷ there.1)) held) in
      ring-after (linked (afters_of spots) first) (linked (befores_of spots) last) there.0 key there.1 ring
      ∙ sym (first_seat-is slots there.1 parts.1.1 s.own)
      ∙ ap first_seat there.5
