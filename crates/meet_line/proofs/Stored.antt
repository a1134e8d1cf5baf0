-- Entries that stand in slots by the keys of places.
use Rattle.std.proofs.Common.{◌≡◌, ◌≢◌, ℕ, suc, ◌+◌, ◌-◌, ◌%◌, ◌<◌, ◌≤◌, ◌==◌, true, false, cond, Option, Some, None, List, [], ◌∷◌, ◌++◌, length, refl, sym, ap, ◌∙◌, inl, inr, subst, arith, get_or, set, take, drop}
use Rattle.std.specs.Prelude.{All, AllPairs, find, slice_get}
use Rattle.std.specs.List.{cons_option}
use Rattle.std.proofs.lemmas.List.{map-append, length-append, append_assoc, append-nil, nil_from_length, get_or_at, get_or_past, get_or-set_same, get_or-set_other, length-set, take_at}
use Rattle.std.proofs.lemmas.List.Elements.{filter_map-append}
use Rattle.std.proofs.lemmas.List.Sums.{sum_by-cons, sum_by-append}
use Rattle.std.proofs.lemmas.List.Quantifiers.{all_pairs_remove, all_pairs_push}
use Rattle.std.specs.List.{remove}
use Rattle.std.proofs.lemmas.Bool.{cases_eq, cases_lt, eq-eqb, ne_eqb}
use Rattle.std.proofs.lemmas.Option.{slice_get_read}
use Rattle.meet_tickets.specs.declared.lines.Entry.{Entry}
use Rattle.meet_tickets.specs.BySeat.{without_first}
use Rattle.meet_line.specs.Runs.{occurs, IsDistinct}
use Rattle.meet_line.specs.Rolled.{Placed, Rolled, StandsAt, IsFound, bucket_count, first_key}
use Rattle.meet_line.specs.Stored.{slot_at, entries_of, keys_in, AreHeld, Holds, IsStored, fellows, IsLookedAt}
use Rattle.meet_line.proofs.Occurs.{occurs-append, occurs-same, occurs-other, absent-head, absent-tail, distinct-middle, distinct-less, distinct-push}
use Rattle.meet_line.proofs.Removed.{without_first-none}

-- what holds of all pairs holds of those behind the first
pub all_pairs_rest : {X : Type 0} (R : X → X → Type 0) (xs ys : List X) → ys ≡ drop 1 xs → AllPairs R xs → AllPairs R ys
all_pairs_rest R [] ys rest pairs = subst (AllPairs R) (sym rest) pairs
all_pairs_rest R (x ∷ xs) ys rest pairs = subst (AllPairs R) (sym rest) (λ i j d below within. pairs (suc i) (suc j) d (omega arith) (omega arith))

-- a list without its element between others
remove-middle : {X : Type 0} (front : List X) (x : X) (rest : List X) → remove (front ++ x ∷ rest) (length front) ≡ front ++ rest
remove-middle [] x rest = refl
remove-middle (y ∷ front) x rest = ap (λ ys. y ∷ ys) (remove-middle front x rest)

-- a key that no place has
pub absent-from_fresh : (places : List Placed) (key : ℕ) → All (λ p. p.key ≢ key) places → occurs key (keys_in places) ≡ 0
absent-from_fresh [] key fresh = refl
absent-from_fresh (p ∷ places) key fresh =
    let here : p.key ≢ key = fresh 0 p (omega arith) in
    omega (arith, occurs-other key p.key here, absent-from_fresh places key (λ k d within. fresh (suc k) d (omega arith)))

module _ {T : Type 0} where
  -- the slots are alike but for one, which is of none of these places
  pub entries-elsewhere : (slots slots' : List (Option (Entry T))) (key : ℕ) (places : List Placed) → ((k : ℕ) → k ≢ key → slot_at slots' k ≡ slot_at slots k) → occurs key (keys_in places) ≡ 0 → entries_of slots' places ≡ entries_of slots places
  entries-elsewhere slots slots' key [] alike absent = refl
  entries-elsewhere slots slots' key (p ∷ places) alike absent =
      let other : p.key ≢ key = λ same. absent-head (Some key) p.key (keys_in places) absent (ap (λ i. Some i) same) in
      ap (λ o. cons_option o (entries_of slots' places)) (alike p.key other) ∙ ap (cons_option (slot_at slots p.key)) (entries-elsewhere slots slots' key places alike (absent-tail (Some key) p.key (keys_in places) absent))

  pub held-elsewhere : (slots slots' : List (Option (Entry T))) (key : ℕ) (places : List Placed) → ((k : ℕ) → k ≢ key → slot_at slots' k ≡ slot_at slots k) → occurs key (keys_in places) ≡ 0 → AreHeld slots places → AreHeld slots' places
  held-elsewhere slots slots' key [] alike absent held = tt
  held-elsewhere slots slots' key (p ∷ places) alike absent held =
      let other : p.key ≢ key = λ same. absent-head (Some key) p.key (keys_in places) absent (ap (λ i. Some i) same) in
      ((held.0.0, alike p.key other ∙ held.0.1, held.0.2), held-elsewhere slots slots' key places alike (absent-tail (Some key) p.key (keys_in places) absent) held.1)

  pub held-front : (slots : List (Option (Entry T))) (front rest : List Placed) → AreHeld slots (front ++ rest) → AreHeld slots front × AreHeld slots rest
  held-front slots [] rest held = (tt, held)
  held-front slots (p ∷ front) rest held = let more = held-front slots front rest held.1 in ((held.0, more.0), more.1)

  pub held-append : (slots : List (Option (Entry T))) (front rest : List Placed) → AreHeld slots front → AreHeld slots rest → AreHeld slots (front ++ rest)
  held-append slots [] rest here there = there
  held-append slots (p ∷ front) rest here there = (here.0, held-append slots front rest here.1 there)

  pub length-entries : (slots : List (Option (Entry T))) (places : List Placed) → AreHeld slots places → length (entries_of slots places) ≡ length places
  length-entries slots [] held = refl
  length-entries slots (p ∷ places) held =
      ap (λ o. length (cons_option o (entries_of slots places))) held.0.1 ∙ omega (arith, length-entries slots places held.1)

  -- the entries where a place stands
  pub entries-middle : (slots : List (Option (Entry T))) (front : List Placed) (p : Placed) (rest : List Placed) (e : Entry T) → slot_at slots p.key ≡ Some e → entries_of slots (front ++ p ∷ rest) ≡ entries_of slots front ++ e ∷ entries_of slots rest
  entries-middle slots front p rest e here =
      filter_map-append (λ (q : Placed). slot_at slots q.key) front (p ∷ rest)
      ∙ ap (λ o. entries_of slots front ++ cons_option o (entries_of slots rest)) here

  pub entries-append : (slots : List (Option (Entry T))) (front rest : List Placed) → entries_of slots (front ++ rest) ≡ entries_of slots front ++ entries_of slots rest
  entries-append slots front rest = filter_map-append (λ (q : Placed). slot_at slots q.key) front rest

  -- the places' fellows in a bucket are the entries'
  pub fellows-are : (slots : List (Option (Entry T))) (buckets ticket : ℕ) (places : List Placed) → AreHeld slots places → fellows buckets ticket (entries_of slots places) ≡ bucket_count buckets ticket places
  fellows-are slots buckets ticket [] held = refl
  fellows-are slots buckets ticket (p ∷ places) held =
      let e = held.0.0 in
      let test : ℕ → ℕ = λ t. cond (t % buckets == ticket % buckets) 1 0 in
      ap (λ o. fellows buckets ticket (cons_option o (entries_of slots places))) held.0.1
      ∙ sum_by-cons (λ (e : Entry T). test e.ticket) e (entries_of slots places)
      ∙ ap (λ t. test t + fellows buckets ticket (entries_of slots places)) held.0.2
      ∙ ap (λ n. test p.ticket + n) (fellows-are slots buckets ticket places held.1)
      ∙ sym (sum_by-cons (λ (q : Placed). test q.ticket) p places)

  -- a place and its entry leave
  pub record Leaves (slots slots' : List (Option (Entry T))) (front rest : List Placed) (e : Entry T) : Type 0 where
    pub holds : Holds slots' (front ++ rest)
    pub entries : entries_of slots' (front ++ rest) ≡ entries_of slots front ++ entries_of slots rest

  pub leaves : (slots : List (Option (Entry T))) (front : List Placed) (p : Placed) (rest : List Placed) (e : Entry T) → p.key < length slots → slot_at slots p.key ≡ Some e → Holds slots (front ++ p ∷ rest) → Leaves slots (set slots p.key None) front rest e
  leaves slots front p rest e wide here holds =
      let slots' = set slots p.key None in
      let keys : keys_in (front ++ p ∷ rest) ≡ keys_in front ++ p.key ∷ keys_in rest = map-append (λ (q : Placed). q.key) front (p ∷ rest) in
      let fewer : keys_in (front ++ rest) ≡ keys_in front ++ keys_in rest = map-append (λ (q : Placed). q.key) front rest in
      let distinct : IsDistinct (keys_in front ++ p.key ∷ keys_in rest) = subst IsDistinct keys holds.distinct in
      let absent : occurs p.key (keys_in (front ++ rest)) ≡ 0 = ap (occurs p.key) fewer ∙ distinct-middle (keys_in front) p.key (keys_in rest) distinct in
      let alike : (k : ℕ) → k ≢ p.key → slot_at slots' k ≡ slot_at slots k = λ k other. get_or-set_other slots p.key k None None other in
      let parts = held-front slots front (p ∷ rest) holds.held in
      record {
        holds = record {
          held = held-elsewhere slots slots' p.key (front ++ rest) alike absent (held-append slots front rest parts.0 parts.1.1);
          distinct = subst IsDistinct (sym fewer) (distinct-less (keys_in front) p.key (keys_in rest) distinct);
          free = λ k none.
              elim (cases_eq k p.key) [
                | inl same ↦ ap (slot_at slots') same ∙ get_or-set_same slots p.key None None wide
                | inr other ↦
                    let one : ◌≡◌ {A = ℕ} (cond (p.key == k) 1 0) 0 = occurs-other k p.key (λ same. other (sym same)) in
                    let gone : occurs k (keys_in (front ++ p ∷ rest)) ≡ 0 = ap (occurs k) keys ∙ omega (arith, none, ap (occurs k) fewer, occurs-append k (keys_in front) (keys_in rest), occurs-append k (keys_in front) (p.key ∷ keys_in rest), one) in
                    alike k other ∙ holds.free k gone
              ];
        };
        entries = entries-elsewhere slots slots' p.key (front ++ rest) alike absent ∙ entries-append slots front rest;
      }

  -- a place and its entry come
  pub comes : (slots : List (Option (Entry T))) (places : List Placed) (p : Placed) (e : Entry T) → p.key < length slots → e.ticket ≡ p.ticket → occurs p.key (keys_in places) ≡ 0 → Holds slots places → Holds (set slots p.key (Some e)) (places ++ p ∷ []) × (entries_of (set slots p.key (Some e)) (places ++ p ∷ []) ≡ entries_of slots places ++ e ∷ [])
  comes slots places p e wide own absent holds =
      let slots' = set slots p.key (Some e) in
      let alike : (k : ℕ) → k ≢ p.key → slot_at slots' k ≡ slot_at slots k = λ k other. get_or-set_other slots p.key k (Some e) None other in
      let here : slot_at slots' p.key ≡ Some e = get_or-set_same slots p.key (Some e) None wide in
      let keys : keys_in (places ++ p ∷ []) ≡ keys_in places ++ p.key ∷ [] = map-append (λ (q : Placed). q.key) places (p ∷ []) in (
        record {
          held = held-append slots' places (p ∷ []) (held-elsewhere slots slots' p.key places alike absent holds.held) ((e, here, own), tt);
          distinct = subst IsDistinct (sym keys) (distinct-push (keys_in places) p.key holds.distinct absent);
          free = λ k none.
              elim (cases_eq k p.key) [
                | inl same ↦ absurd (omega (arith, none, ap (occurs k) keys, occurs-append k (keys_in places) (p.key ∷ []), occurs-same k p.key (sym same)))
                | inr other ↦ alike k other ∙ holds.free k (omega (arith, none, ap (occurs k) keys, occurs-append k (keys_in places) (p.key ∷ [])))
              ];
        },
        entries-middle slots' places p [] e here ∙ ap (λ es. es ++ e ∷ []) (entries-elsewhere slots slots' p.key places alike absent),
      )

  -- an entry of a line whose tickets are distinct is the one that is found, and leaves the others
  pub found-middle : (t : ℕ) (front : List (Entry T)) (e : Entry T) (rest : List (Entry T)) → e.ticket ≡ t → AllPairs (λ a b. a.ticket ≢ b.ticket) (front ++ e ∷ rest) → (find (λ a. a.ticket == t) (front ++ e ∷ rest) ≡ Some e) × (without_first (λ a. a.ticket == t) (front ++ e ∷ rest) ≡ front ++ rest)
  found-middle t [] e rest own distinct =
      let yes : e.ticket == t ≡ true = eq-eqb e.ticket t own in (
        ap (λ b. cond b (Some e) (find (λ a. a.ticket == t) rest)) yes,
        ap (λ b. cond b rest (e ∷ without_first (λ a. a.ticket == t) rest)) yes,
      )
  found-middle t (a ∷ front) e rest own distinct =
      let at : get_or (front ++ e ∷ rest) (length front) e ≡ e = get_or_at front e rest e (length front) refl in
      let differ : a.ticket ≢ (get_or (front ++ e ∷ rest) (length front) e).ticket = distinct 0 (suc (length front)) e (omega arith) (omega (arith, length-append front (e ∷ rest))) in
      let no : a.ticket == t ≡ false = ne_eqb a.ticket t (λ same. differ (same ∙ sym own ∙ sym (ap (λ b. b.ticket) at))) in
      let later = found-middle t front e rest own (all_pairs_rest (λ a b. a.ticket ≢ b.ticket) (a ∷ front ++ e ∷ rest) (front ++ e ∷ rest) refl distinct) in (
        ap (λ b. cond b (Some a) (find (λ a. a.ticket == t) (front ++ e ∷ rest))) no ∙ later.0,
        ap (λ b. cond b (front ++ e ∷ rest) (a ∷ without_first (λ a. a.ticket == t) (front ++ e ∷ rest))) no ∙ ap (λ es. a ∷ es) later.1,
      )

  pub distinct-entries : (front : List (Entry T)) (e : Entry T) (rest : List (Entry T)) → AllPairs (λ a b. a.ticket ≢ b.ticket) (front ++ e ∷ rest) → AllPairs (λ a b. a.ticket ≢ b.ticket) (front ++ rest)
  distinct-entries front e rest distinct =
      let R : Entry T → Entry T → Type 0 = λ a b. a.ticket ≢ b.ticket in
      let within : length front < length (front ++ e ∷ rest) = omega (arith, length-append front (e ∷ rest)) in
      subst (AllPairs R) (remove-middle front e rest) (all_pairs_remove R (front ++ e ∷ rest) (length front) within distinct)

  -- where no place has a ticket, no entry has
  pub found-none : (slots : List (Option (Entry T))) (t : ℕ) (places : List Placed) → AreHeld slots places → All (λ p. p.ticket ≢ t) places → find (λ a. a.ticket == t) (entries_of slots places) ≡ None
  found-none slots t [] held none = refl
  found-none slots t (p ∷ places) held none =
      let e = held.0.0 in
      let no : e.ticket == t ≡ false = ne_eqb e.ticket t (λ same. none 0 p (omega arith) (sym held.0.2 ∙ same)) in
      ap (λ o. find (λ a. a.ticket == t) (cons_option o (entries_of slots places))) held.0.1
      ∙ ap (λ b. cond b (Some e) (find (λ a. a.ticket == t) (entries_of slots places))) no
      ∙ found-none slots t places held.1 (λ k d within. none (suc k) d (omega arith))

-- what a removal of a place leaves of a line that is stored
pub record TakenOut {T : Type 0} (roll roll' : Rolled) (slots slots' : List (Option (Entry T))) (room ticket : ℕ) (front rest : List Placed) (result : Option (Entry T)) : Type 0 where
  pub entry : Entry T
  pub is : result ≡ Some entry
  pub own : entry.ticket ≡ ticket
  pub was : entries_of slots roll.places ≡ entries_of slots front ++ entry ∷ entries_of slots rest
  pub now : entries_of slots' roll'.places ≡ entries_of slots front ++ entries_of slots rest
  pub stored : IsStored roll' slots' (room + 1)

module _ {T : Type 0} (roll : Rolled) (slots : List (Option (Entry T))) (room : ℕ) (stored : IsStored roll slots room) where
  -- a slot with an entry is within the slots
  within-from_some : (key : ℕ) (e : Entry T) → slot_at slots key ≡ Some e → key < length slots
  within-from_some key e here =
      elim (cases_lt key (length slots)) [
        | inl within ↦ within
        | inr past ↦ let none : slot_at slots key ≡ None = get_or_past slots key None past in let clash : Some e ≡ None = sym here ∙ none in absurd (cc)
      ]

  pub held-at : (key : ℕ) (at : StandsAt roll.places key) → (e : Entry T) × (slot_at slots key ≡ Some e) × (e.ticket ≡ at.place.ticket)
  held-at key at =
      let here = (held-front slots at.front (at.place ∷ at.rest) (subst (AreHeld slots) at.all stored.holds.held)).1.0 in
      (here.0, ap (slot_at slots) (sym at.own) ∙ here.1, here.2)

  pub within-slots : (key : ℕ) → StandsAt roll.places key → key < length slots
  within-slots key at = let here = held-at key at in within-from_some key here.0 here.1

  pub taken-out : (roll' : Rolled) (slots' : List (Option (Entry T))) (key : ℕ) (result : Option (Entry T)) (at : StandsAt roll.places key) → roll'.places ≡ at.front ++ at.rest → roll'.width ≡ roll.width → roll'.buckets ≡ roll.buckets → slots' ≡ set slots key None → result ≡ slot_at slots key → TakenOut roll roll' slots slots' room at.place.ticket at.front at.rest result
  taken-out roll' slots' key result at places width buckets slots_is result_is =
      let here = held-at key at in
      let e = here.0 in
      let p = at.place in
      let at_place : slot_at slots p.key ≡ Some e = ap (slot_at slots) at.own ∙ here.1 in
      let within : p.key < length slots = within-from_some p.key e at_place in
      let holds : Holds slots (at.front ++ p ∷ at.rest) = subst (Holds slots) at.all stored.holds in
      let left = leaves slots at.front p at.rest e within at_place holds in
      let slots_are : set slots p.key None ≡ slots' = ap (λ k. set slots k None) at.own ∙ sym slots_is in
      let was : entries_of slots roll.places ≡ entries_of slots at.front ++ e ∷ entries_of slots at.rest = ap (entries_of slots) at.all ∙ entries-middle slots at.front p at.rest e at_place in
      let now : entries_of slots' roll'.places ≡ entries_of slots at.front ++ entries_of slots at.rest = ap (entries_of slots') places ∙ ap (λ xs. entries_of xs (at.front ++ at.rest)) (sym slots_are) ∙ left.entries in
      let R : Entry T → Entry T → Type 0 = λ a b. a.ticket ≢ b.ticket in
      let fewer : length roll'.places + 1 ≡ length roll.places = omega (arith, ap length places, ap length at.all, length-append at.front at.rest, length-append at.front (p ∷ at.rest)) in
      record {
        entry = e;
        is = result_is ∙ here.1;
        own = here.2;
        was = was;
        now = now;
        stored = record {
          holds = subst (Holds slots') (sym places) (subst (λ xs. Holds xs (at.front ++ at.rest)) slots_are left.holds);
          wide = omega (arith, stored.wide, width, ap length slots_are, length-set slots p.key None);
          keys = omega (arith, stored.keys, width, fewer);
          table = omega (arith, stored.table, buckets, fewer);
          tickets = subst (AllPairs R) (sym now) (distinct-entries (entries_of slots at.front) e (entries_of slots at.rest) (subst (AllPairs R) was stored.tickets));
        };
      }

  -- a new place and its entry, where the line has room
  pub put-in : (roll' : Rolled) (key : ℕ) (entry : Entry T) → roll'.places ≡ roll.places ++ record { key = key; ticket = entry.ticket } ∷ [] → roll'.width ≡ roll.width → roll'.buckets ≡ roll.buckets → All (λ p. p.key ≢ key) roll.places → key < roll.width → 0 < room → All (λ e. e.ticket ≢ entry.ticket) (entries_of slots roll.places) → IsStored roll' (set slots key (Some entry)) (room - 1) × (entries_of (set slots key (Some entry)) roll'.places ≡ entries_of slots roll.places ++ entry ∷ [])
  put-in roll' key entry places width buckets fresh within some new =
      let p : Placed = record { key = key; ticket = entry.ticket } in
      let slots' = set slots key (Some entry) in
      let inside : key < length slots = omega (arith, within, stored.wide) in
      let came = comes slots roll.places p entry inside refl (absent-from_fresh roll.places key fresh) stored.holds in
      let now : entries_of slots' roll'.places ≡ entries_of slots roll.places ++ entry ∷ [] = ap (entries_of slots') places ∙ came.1 in
      let R : Entry T → Entry T → Type 0 = λ a b. a.ticket ≢ b.ticket in
      let more : length roll'.places ≡ length roll.places + 1 = omega (arith, ap length places, length-append roll.places (p ∷ [])) in (
        record {
          holds = subst (Holds slots') (sym places) came.0;
          wide = omega (arith, stored.wide, width, length-set slots key (Some entry));
          keys = omega (arith, stored.keys, width, more, some);
          table = omega (arith, stored.table, buckets, more, some);
          tickets = subst (AllPairs R) (sym now) (all_pairs_push R (entries_of slots roll.places) entry stored.tickets new);
        },
        now,
      )

  -- a slot that no place has is empty
  pub vacant-slot : (key : ℕ) → All (λ p. p.key ≢ key) roll.places → slot_at slots key ≡ None
  vacant-slot key fresh = stored.holds.free key (absent-from_fresh roll.places key fresh)

entries-alike : {T : Type 0} (slots slots' : List (Option (Entry T))) (places : List Placed) → ((k : ℕ) → slot_at slots' k ≡ slot_at slots k) → entries_of slots' places ≡ entries_of slots places
entries-alike slots slots' [] alike = refl
entries-alike {T} slots slots' (p ∷ places) alike =
    ap (λ o. cons_option o (entries_of slots' places)) (alike p.key) ∙ ap (λ es. cons_option (slot_at slots p.key) es) (entries-alike slots slots' places alike)

held-alike : {T : Type 0} (slots slots' : List (Option (Entry T))) (places : List Placed) → ((k : ℕ) → slot_at slots' k ≡ slot_at slots k) → AreHeld slots places → AreHeld slots' places
held-alike slots slots' [] alike held = tt
held-alike slots slots' (p ∷ places) alike held = ((held.0.0, alike p.key ∙ held.0.1, held.0.2), held-alike slots slots' places alike held.1)

-- a roll and slots that were widened
pub widened : {T : Type 0} (roll roll' : Rolled) (slots slots' : List (Option (Entry T))) (room room' : ℕ) → roll'.places ≡ roll.places → roll'.width ≤ length slots' → length roll.places + room' ≤ roll'.width → length roll.places + room' ≤ roll'.buckets → ((k : ℕ) → slot_at slots' k ≡ slot_at slots k) → IsStored roll slots room → IsStored roll' slots' room' × (entries_of slots' roll'.places ≡ entries_of slots roll.places)
widened {T} roll roll' slots slots' room room' places wide keys table alike stored =
    let R : Entry T → Entry T → Type 0 = λ a b. a.ticket ≢ b.ticket in
    let now : entries_of slots' roll'.places ≡ entries_of slots roll.places = ap (entries_of slots') places ∙ entries-alike slots slots' roll.places alike in (
      record {
        holds = subst (Holds slots') (sym places) (record {
          held = held-alike slots slots' roll.places alike stored.holds.held;
          distinct = stored.holds.distinct;
          free = λ k none. alike k ∙ stored.holds.free k none;
        });
        wide = wide;
        keys = omega (arith, keys, ap length places);
        table = omega (arith, table, ap length places);
        tickets = subst (AllPairs R) (sym now) stored.tickets;
      },
      now,
    )

-- the last of a list
pub last-there : {X : Type 0} (front : List X) (x : X) → slice_get (front ++ x ∷ []) (length (front ++ x ∷ []) - 1) ≡ Some x
last-there front x =
    let at : length (front ++ x ∷ []) - 1 ≡ length front = omega (arith, length-append front (x ∷ [])) in
    ap (slice_get (front ++ x ∷ [])) at ∙ slice_get_read (front ++ x ∷ []) (length (front ++ x ∷ [])) (length front) x refl (omega (arith, length-append front (x ∷ []))) (sym (get_or_at front x [] x (length front) refl))

pub last-gone : {X : Type 0} (front : List X) (x : X) → take (length (front ++ x ∷ []) - 1) (front ++ x ∷ []) ≡ front
last-gone front x =
    let at : length (front ++ x ∷ []) - 1 ≡ length front = omega (arith, length-append front (x ∷ [])) in
    ap (λ n. take n (front ++ x ∷ [])) at ∙ take_at front (x ∷ []) (length front) refl

-- an empty roll and no slots
pub stored-none : {T : Type 0} (roll : Rolled) (slots : List (Option (Entry T))) → roll.places ≡ [] → roll.width ≡ 0 → slots ≡ [] → IsStored roll slots 0
stored-none {T} roll slots places width none =
    let R : Entry T → Entry T → Type 0 = λ a b. a.ticket ≢ b.ticket in
    record {
      holds = subst (Holds slots) (sym places) (record { held = tt; distinct = λ j. omega arith; free = λ k free. ap (λ xs. slot_at xs k) none });
      wide = omega (arith, width);
      keys = omega (arith, ap length places);
      table = omega (arith, ap length places);
      tickets = subst (λ ps. AllPairs R (entries_of slots ps)) (sym places) (λ i j d below within. absurd (omega (arith, within)));
    }

-- the place of the first key
pub stands-first : (places : List Placed) (key : ℕ) → first_key places ≡ Some key → (at : StandsAt places key) × (at.front ≡ [])
stands-first [] key is = absurd (cc)
stands-first (p ∷ places) key is = let own : p.key ≡ key = cc in (record { front = []; place = p; rest = places; all = refl; own = own }, refl)

pub none-first : (places : List Placed) → first_key places ≡ None → places ≡ []
none-first [] is = refl
none-first (p ∷ places) is = absurd (cc)

module _ {T : Type 0} (roll roll' : Rolled) (slots slots' : List (Option (Entry T))) (room ticket : ℕ) (front rest : List Placed) (result : Option (Entry T)) (out : TakenOut roll roll' slots slots' room ticket front rest result) where
  -- the place was the first
  pub first-met : front ≡ [] → (result ≡ slice_get (entries_of slots roll.places) 0) × (entries_of slots' roll'.places ≡ drop 1 (entries_of slots roll.places))
  first-met none =
      let gone : entries_of slots front ≡ [] = ap (entries_of slots) none in
      let was : entries_of slots roll.places ≡ out.entry ∷ entries_of slots rest = out.was ∙ ap (λ es. es ++ out.entry ∷ entries_of slots rest) gone in (
        out.is ∙ ap (λ es. slice_get es 0) (sym was),
        out.now ∙ ap (λ es. es ++ entries_of slots rest) gone ∙ ap (drop 1) (sym was),
      )

  -- the place was the last
  pub last-met : rest ≡ [] → (result ≡ slice_get (entries_of slots roll.places) (length (entries_of slots roll.places) - 1)) × (entries_of slots' roll'.places ≡ take (length (entries_of slots roll.places) - 1) (entries_of slots roll.places))
  last-met none =
      let A = entries_of slots front in
      let gone : entries_of slots rest ≡ [] = ap (entries_of slots) none in
      let was : entries_of slots roll.places ≡ A ++ out.entry ∷ [] = out.was ∙ ap (λ es. A ++ out.entry ∷ es) gone in (
        out.is ∙ sym (last-there A out.entry) ∙ ap (λ es. slice_get es (length es - 1)) (sym was),
        out.now ∙ ap (λ es. A ++ es) gone ∙ append-nil A ∙ sym (last-gone A out.entry) ∙ ap (λ es. take (length es - 1) es) (sym was),
      )

  -- the place was that of this ticket
  pub found-met : (t : ℕ) → ticket ≡ t → AllPairs (λ a b. a.ticket ≢ b.ticket) (entries_of slots roll.places) → (result ≡ find (λ a. a.ticket == t) (entries_of slots roll.places)) × (entries_of slots' roll'.places ≡ without_first (λ a. a.ticket == t) (entries_of slots roll.places))
  found-met t same distinct =
      let A = entries_of slots front in
      let B = entries_of slots rest in
      let found = found-middle t A out.entry B (out.own ∙ same) (subst (AllPairs (λ a b. a.ticket ≢ b.ticket)) out.was distinct) in (
        out.is ∙ sym found.0 ∙ ap (find (λ a. a.ticket == t)) (sym out.was),
        out.now ∙ sym found.1 ∙ ap (without_first (λ a. a.ticket == t)) (sym out.was),
      )

  -- how many nodes were looked at for it
  pub looked-met : (buckets t looked : ℕ) → looked ≡ bucket_count buckets t rest + 1 → AreHeld slots rest → IsLookedAt buckets t (entries_of slots roll.places) result looked
  looked-met buckets t looked is held =
      subst (λ o. IsLookedAt buckets t (entries_of slots roll.places) o looked) (sym out.is) (entries_of slots front, entries_of slots rest, out.was, is ∙ ap (λ n. n + 1) (sym (fellows-are slots buckets t rest held)))

module _ {T : Type 0} (roll : Rolled) (slots : List (Option (Entry T))) (room : ℕ) (stored : IsStored roll slots room) where
  -- the slot of a ticket's place is what is found
  pub found-slot : (t key : ℕ) (at : StandsAt roll.places key) → at.place.ticket ≡ t → slot_at slots key ≡ find (λ a. a.ticket == t) (entries_of slots roll.places)
  found-slot t key at same =
      let here = held-at roll slots room stored key at in
      let at_place = ap (slot_at slots) at.own ∙ here.1 in
      let was = ap (entries_of slots) at.all ∙ entries-middle slots at.front at.place at.rest here.0 at_place in
      let found = found-middle t (entries_of slots at.front) here.0 (entries_of slots at.rest) (here.2 ∙ same) (subst (AllPairs (λ a b. a.ticket ≢ b.ticket)) was stored.tickets) in
      here.1 ∙ sym found.0 ∙ ap (find (λ a. a.ticket == t)) (sym was)

  pub held-rest : (key : ℕ) (at : StandsAt roll.places key) → AreHeld slots at.rest
  held-rest key at = (held-front slots at.front (at.place ∷ at.rest) (subst (AreHeld slots) at.all stored.holds.held)).1.1

  -- a ticket that has no place
  pub found-nobody : (t looked : ℕ) → IsFound roll.places roll.buckets t None looked → (None ≡ find (λ a. a.ticket == t) (entries_of slots roll.places)) × (entries_of slots roll.places ≡ without_first (λ a. a.ticket == t) (entries_of slots roll.places)) × IsLookedAt roll.buckets t (entries_of slots roll.places) None looked
  found-nobody t looked nobody =
      let none = found-none slots t roll.places stored.holds.held nobody.0 in (
        sym none,
        sym (without_first-none (λ a. a.ticket == t) (entries_of slots roll.places) none),
        nobody.1 ∙ sym (fellows-are slots roll.buckets t roll.places stored.holds.held),
      )

-- the entries of so many places are listed, and the next has the key at `at`
pub record HasListed {T : Type 0} (slots : List (Option (Entry T))) (places : List Placed) (listed : List (Entry T)) (at : Option ℕ) (step : ℕ) : Type 0 where
  pub done : List Placed
  pub rest : List Placed
  pub all : places ≡ done ++ rest
  pub next : at ≡ first_key rest
  pub steps : length done ≡ step
  pub entries : listed ≡ entries_of slots done

pub listed-none : {T : Type 0} (slots : List (Option (Entry T))) (places : List Placed) (at : Option ℕ) → at ≡ first_key places → HasListed slots places [] at 0
listed-none slots places at first = record { done = []; rest = places; all = refl; next = first; steps = refl; entries = refl }

-- the place that is next
pub listed-stands : {T : Type 0} (slots : List (Option (Entry T))) (places : List Placed) (listed : List (Entry T)) (key step : ℕ) → HasListed slots places listed (Some key) step → StandsAt places key
listed-stands slots places listed key step has = by_rest has.rest has.all has.next
  where
    by_rest : (rest : List Placed) → places ≡ has.done ++ rest → Some key ≡ first_key rest → StandsAt places key
    by_rest [] all next = absurd (cc)
    by_rest (p ∷ rest) all next = let own : p.key ≡ key = cc in record { front = has.done; place = p; rest = rest; all = all; own = own }

pub listed-more : {T : Type 0} (slots : List (Option (Entry T))) (places : List Placed) (listed listed' : List (Entry T)) (key step : ℕ) (at' : Option ℕ) (e : Entry T) → slot_at slots key ≡ Some e → listed' ≡ listed ++ e ∷ [] → ((front : List Placed) (place : Placed) (rest : List Placed) → places ≡ front ++ place ∷ rest → place.key ≡ key → at' ≡ first_key rest) → HasListed slots places listed (Some key) step → HasListed slots places listed' at' (step + 1)
listed-more slots places listed listed' key step at' e here more after has = by_rest has.rest has.all has.next
  where
    by_rest : (rest : List Placed) → places ≡ has.done ++ rest → Some key ≡ first_key rest → HasListed slots places listed' at' (step + 1)
    by_rest [] all next = absurd (cc)
    by_rest (p ∷ rest) all next =
        let own : p.key ≡ key = cc in
        record {
          done = has.done ++ p ∷ [];
          rest = rest;
          all = all ∙ sym (append_assoc has.done (p ∷ []) rest);
          next = after has.done p rest all own;
          steps = omega (arith, has.steps, length-append has.done (p ∷ []));
          entries = more ∙ ap (λ es. es ++ e ∷ []) has.entries ∙ sym (entries-middle slots has.done p [] e (ap (slot_at slots) own ∙ here));
        }

pub listed-all : {T : Type 0} (slots : List (Option (Entry T))) (places : List Placed) (listed : List (Entry T)) (at : Option ℕ) (step : ℕ) → length places ≤ step → HasListed slots places listed at step → listed ≡ entries_of slots places
listed-all slots places listed at step most has =
    let none : length has.rest ≡ 0 = omega (arith, most, has.steps, ap length has.all, length-append has.done has.rest) in
    let all : places ≡ has.done = has.all ∙ ap (λ r. has.done ++ r) (nil_from_length has.rest none) ∙ append-nil has.done in
    has.entries ∙ ap (entries_of slots) (sym all)

pub listed-end : {T : Type 0} (slots : List (Option (Entry T))) (places : List Placed) (listed : List (Entry T)) (step : ℕ) → step < length places → HasListed slots places listed None step → ⊥
listed-end slots places listed step more has = by_rest has.rest has.all has.next
  where
    by_rest : (rest : List Placed) → places ≡ has.done ++ rest → None ≡ first_key rest → ⊥
    by_rest [] all next = omega (arith, more, has.steps, ap length all, length-append has.done [])
    by_rest (r ∷ rest) all next = absurd (cc)

-- where no entry is, no slot has one
pub all-vacant : {T : Type 0} (roll : Rolled) (slots : List (Option (Entry T))) (room : ℕ) → IsStored roll slots room → entries_of slots roll.places ≡ [] → (k : ℕ) → slot_at slots k ≡ None
all-vacant roll slots room stored none k =
    let empty : roll.places ≡ [] = nil_from_length roll.places (sym (length-entries slots roll.places stored.holds.held) ∙ ap length none) in
    stored.holds.free k (ap (λ ps. occurs k (keys_in ps)) empty)

-- no more nodes are looked at than there are entries in the bucket
pub looked-few : {T : Type 0} (buckets t : ℕ) (line : List (Entry T)) (o : Option (Entry T)) (looked : ℕ) → ((e : Entry T) → o ≡ Some e → e.ticket ≡ t) → IsLookedAt buckets t line o looked → looked ≤ fellows buckets t line
looked-few buckets t line None looked own is = omega (arith, is)
looked-few {T} buckets t line (Some e) looked own is =
    let test : Entry T → ℕ = λ a. cond (a.ticket % buckets == t % buckets) 1 0 in
    let here : test e ≡ 1 = ap {B = ℕ} (λ b. cond b 1 0) (eq-eqb (e.ticket % buckets) (t % buckets) (ap (λ n. n % buckets) (own e refl))) in
    let all : fellows buckets t line ≡ fellows buckets t is.0 + (test e + fellows buckets t is.1) = ap (fellows buckets t) is.2 ∙ sum_by-append test is.0 (e ∷ is.1) ∙ ap (λ n. fellows buckets t is.0 + n) (sum_by-cons test e is.1) in
    omega (arith, all, here, is.3)

pub some_same : {X : Type 0} (x y : X) → Some x ≡ Some y → x ≡ y
some_same x y same = cc
