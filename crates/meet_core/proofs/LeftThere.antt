-- A queue's items that are left, by rising ticket, are what the records tell.
use Rattle.std.proofs.Common.{◌≡◌, ◌≢◌, ℕ, ◌<◌, ◌==◌, refl, sym, ap, ◌∙◌, subst, ⊎_elim, Option, Some, None, option_map, List, [], ◌∷◌, map, length, get_or, Contains, AllPairs, IsPermutation, arith}
use Rattle.std.specs.List.{filter_map, cons_option}
use Rattle.std.specs.List.Sorted.{IsNonDecreasingBy}
use Rattle.std.proofs.Math.ListN.{get_or-eq_default}
use Rattle.std.proofs.lemmas.Bool.{cases_lt}
use Rattle.std.proofs.lemmas.Bool.Decides.{Decides-eqb}
use Rattle.std.proofs.lemmas.List.Kept.{AllPairs-cons}
use Rattle.std.proofs.lemmas.Option.{get_or_from_slice_get, slice_get-get_or}
use Rattle.std.proofs.lemmas.List.Elements.{All-contains, All-map, Contains-append_left, Contains-append_right, Contains-append_cases}
use Rattle.std.proofs.lemmas.List.Sorted.{Contains-permutation, IsPermutation-map, IsPermutation-sym, IsPermutation-reverse, IsPermutation-refl}
use Rattle.std.proofs.lemmas.Map.Keys.{IsDistinct-IsPermutation}
use Rattle.std.proofs.lemmas.Map.Made.{IsDistinct-from_AllPairs, AllPairs-from_IsDistinct}
use Rattle.meet_tickets.specs.declared.lines.Entry.{Entry}
use Rattle.meet_tickets.specs.declared.lines.Hold.{Hold}
use Rattle.meet_tickets.specs.declared.lines.Hold.TheVariants.{Free, Waiting, Handed, Served, Cut}
use Rattle.meet_tickets.specs.declared.places.End.{End}
use Rattle.meet_tickets.specs.declared.places.End.TheVariants.{Front, Back}
use Rattle.meet_tickets.specs.declared.records.Record.{Record}
use Rattle.meet_tickets.specs.declared.records.Deed.{Deed}
use Rattle.meet_tickets.specs.Asked.{Remembers}
use Rattle.meet_tickets.specs.Fates.{request_of}
use Rattle.meet_tickets.specs.Placed.{TellsPlace}
use Rattle.meet_tickets.proofs.Lists.Lookups.{AreKeyed, keyed_from, keyed_pairs, keyed_map, map_keyed, keyed_append, Contains-map, Contains-mapped}
use Rattle.meet_tickets.proofs.Lists.Members.{Contains-first, Contains-rest, Contains-cases, Contains-nil}
use Rattle.meet_tickets.proofs.Line.Sides.{AllPairs-head, AllPairs-tail}
use Rattle.meet_core.specs.declared.left.Left.{Left}
use Rattle.meet_core.specs.Left.{left_of_entry, left_of_hold, as_met, left_in}
use Rattle.meet_core.specs.LeftTold.{Leaving, leaving_of, left_told, AreLeft}
use Rattle.meet_core.specs.Queue.{Queue, seats_of}
use Rattle.meet_line.specs.Seen.{marked_entry}
use Rattle.meet_core.specs.Seen.{marked_hold, marked}
use Rattle.meet_core.specs.Table.{hold_at}
use Rattle.meet_core.proofs.BaseOfQueue.{flips}
use Rattle.meet_core.proofs.LeftTold.{told_entry, told_hold, entry_told, hold_told, told_there, seats_leave_apart, line_leaves_apart}

-- what a list gives some element gives
pub given_by : {X Y : Type 0} (f : X → Option Y) (xs : List X) (y : Y) → Contains (filter_map f xs) y → (x : X) × Contains xs x × (f x ≡ Some y)
given_by f [] y m = absurd (Contains-nil y m)
given_by {X} {Y} f (x ∷ xs) y m = by_first (f x) refl m (given_by f xs y)
  where
    by_first : (o : Option Y) → f x ≡ o → Contains (cons_option o (filter_map f xs)) y → (Contains (filter_map f xs) y → (z : X) × Contains xs z × (f z ≡ Some y)) → (z : X) × Contains (x ∷ xs) z × (f z ≡ Some y)
    by_first None is m later = let r = later m in (r.0, Contains-rest x xs r.0 r.1, r.2)
    by_first (Some z) is m later =
        ⊎_elim (λ e. (x, Contains-first x xs, is ∙ ap (λ v. Some v) e)) (λ n. (let r = later n in (r.0, Contains-rest x xs r.0 r.1, r.2))) (Contains-cases z (filter_map f xs) y m)

-- what an element gives the list gives
pub given_there : {X Y : Type 0} (f : X → Option Y) (xs : List X) (x : X) (y : Y) → Contains xs x → f x ≡ Some y → Contains (filter_map f xs) y
given_there f [] x y m is = absurd (Contains-nil x m)
given_there {X} {Y} f (z ∷ xs) x y m is =
    ⊎_elim (λ e. subst (λ o. Contains (cons_option o (filter_map f xs)) y) (sym (ap f e ∙ is)) (Contains-first y (filter_map f xs)))
    (λ n. behind (f z) (given_there f xs x y n is))
    (Contains-cases z xs x m)
  where
    behind : (o : Option Y) → Contains (filter_map f xs) y → Contains (cons_option o (filter_map f xs)) y
    behind None m = m
    behind (Some v) m = Contains-rest v (filter_map f xs) y m

-- what is given keeps the numbers apart that its elements have
given_keyed : {X Y : Type 0} (key : X → ℕ) (own : Y → ℕ) (f : X → Option Y) → ((x : X) (y : Y) → f x ≡ Some y → own y ≡ key x) → (xs : List X) → AreKeyed key xs → AreKeyed own (filter_map f xs)
given_keyed key own f same [] keyed = tt
given_keyed {X} {Y} key own f same (x ∷ xs) keyed = by_first (f x) refl (given_keyed key own f same xs keyed.1)
  where
    by_first : (o : Option Y) → f x ≡ o → AreKeyed own (filter_map f xs) → AreKeyed own (cons_option o (filter_map f xs))
    by_first None is rest = rest
    by_first (Some y) is rest = (λ z m e. (let r = given_by f xs z m in keyed.0 r.0 r.1 (sym (same r.0 z r.2) ∙ e ∙ same x y is)), rest)

-- the same where any two elements give what is apart
given_pairs : {X Y : Type 0} (own : Y → ℕ) (f : X → Option Y) (xs : List X) → AllPairs (λ x z. (y w : Y) → f x ≡ Some y → f z ≡ Some w → own w ≢ own y) xs → AreKeyed own (filter_map f xs)
given_pairs own f [] pairs = tt
given_pairs {X} {Y} own f (x ∷ xs) pairs = by_first (f x) refl (given_pairs own f xs (AllPairs-tail (λ a z. (y w : Y) → f a ≡ Some y → f z ≡ Some w → own w ≢ own y) x xs pairs))
  where
    by_first : (o : Option Y) → f x ≡ o → AreKeyed own (filter_map f xs) → AreKeyed own (cons_option o (filter_map f xs))
    by_first None is rest = rest
    by_first (Some y) is rest = (
      λ w m. (let r = given_by f xs w m in All-contains (λ z. (y w : Y) → f x ≡ Some y → f z ≡ Some w → own w ≢ own y) xs r.0 (AllPairs-head (λ a z. (y w : Y) → f a ≡ Some y → f z ≡ Some w → own w ≢ own y) x xs pairs) r.1 y w is r.2),
      rest,
    )

-- numbers that are apart stay so when they change places
pub keyed_moved : {X : Type 0} (key : X → ℕ) (xs ys : List X) → IsPermutation xs ys → AreKeyed key xs → AreKeyed key ys
keyed_moved key xs ys moved keyed =
    let keys = keyed_pairs (λ k. k) (map key xs) (map_keyed (λ k. k) key xs keyed) in
    let distinct = IsDistinct-IsPermutation (λ x y. x == y) flips (map key xs) (map key ys) (IsPermutation-map key xs ys moved) (IsDistinct-from_AllPairs Decides-eqb (map key xs) keys) in
    keyed_map key ys (keyed_from (λ k. k) (map key ys) (AllPairs-from_IsDistinct Decides-eqb (map key ys) distinct))

-- where numbers don't fall and are apart they rise
rises : {X : Type 0} (key : X → ℕ) (xs : List X) → IsNonDecreasingBy key xs → AreKeyed key xs → AllPairs (λ x y. key x < key y) xs
rises key xs sorted keyed = λ i j d less below.
    let apart = keyed_pairs key xs keyed i j d less below in
    let least = sorted i j d (omega (arith, less)) below in
    omega (arith, apart, least)

-- a list of numbers that are apart, read from what they are of
keyed_unmap : {X Y : Type 0} (key : Y → ℕ) (f : X → Y) (xs : List X) → AreKeyed key (map f xs) → AreKeyed (λ x. key (f x)) xs
keyed_unmap key f [] keyed = tt
keyed_unmap key f (x ∷ xs) keyed = (λ y m. keyed.0 (f y) (Contains-map f xs y m), keyed_unmap key f xs keyed.1)

-- an element is the same, whatever would stand for one that isn't there
get_or-within : {X : Type 0} (xs : List X) (i : ℕ) (d e : X) → i < length xs → get_or xs i d ≡ get_or xs i e
get_or-within xs i d e below = get_or_from_slice_get xs i (get_or xs i e) d (slice_get-get_or xs i e below)

-- pairs of what is made of elements
AllPairs-mapped : {X Y : Type 0} (f : X → Y) (R : Y → Y → Type 0) (xs : List X) → AllPairs (λ x z. R (f x) (f z)) xs → AllPairs R (map f xs)
AllPairs-mapped f R [] pairs = λ i j d less below. absurd (omega arith)
AllPairs-mapped f R (x ∷ xs) pairs =
    AllPairs-cons R (f x) (map f xs) (All-map (R (f x)) f xs (AllPairs-head (λ a z. R (f a) (f z)) x xs pairs)) (AllPairs-mapped f R xs (AllPairs-tail (λ a z. R (f a) (f z)) x xs pairs))

-- what comes of something
mapped_some : {X Y : Type 0} (f : X → Y) (o : Option X) (y : Y) → option_map f o ≡ Some y → (x : X) × (o ≡ Some x) × (f x ≡ y)
mapped_some f None y is = absurd (cc)
mapped_some f (Some x) y is = (x, refl, (let same : f x ≡ y = cc in same))

-- entries as they are met are those of the line
pub met_order : {E : Type 0} (end : End) (line : List E) → IsPermutation line (as_met end line)
met_order Front line = IsPermutation-refl line
met_order Back line = IsPermutation-reverse line

module _ {T : Type 0} (mark : T → ℕ) where
  -- what an entry leaves is told by its mark
  entry_marked : (e : Entry T) → option_map (leaving_of mark) (left_of_entry e) ≡ told_entry (marked_entry mark e)
  entry_marked e = by_item e.item refl
    where
      by_item : (item : Option T) → e.item ≡ item → option_map (leaving_of mark) (left_of_entry e) ≡ told_entry (marked_entry mark e)
      by_item None is = rw is refl
      by_item (Some x) is = rw is refl

  -- and what a seat leaves
  hold_marked : (x : Hold T) → option_map (leaving_of mark) (left_of_hold x) ≡ told_hold (marked_hold mark x)
  hold_marked Free = refl
  hold_marked (Waiting t) = refl
  hold_marked (Handed t u m) = refl
  hold_marked (Served t u item) = refl
  hold_marked (Cut t None) = refl
  hold_marked (Cut t (Some item)) = refl

  module _ (history : List (Record Deed)) (q : Queue T) (tells : TellsPlace history (marked mark (seats_of q))) (asked : Remembers (request_of history) (marked mark (seats_of q))) where
    -- a seat that is there
    seat_there : (i : ℕ) (a : Leaving) → told_hold (marked_hold mark (hold_at q.table.holds i)) ≡ Some a → i < length q.table.holds
    seat_there i a is = ⊎_elim (λ less. less)
        (λ past. absurd (let none : told_hold (marked_hold mark (hold_at q.table.holds i)) ≡ None = ap (λ x. told_hold (marked_hold mark x)) (get_or-eq_default q.table.holds Free past) in
        let no : Some a ≡ None = sym is ∙ none in cc))
        (cases_lt i (length q.table.holds))

    -- the tickets of a line are apart
    line_keyed : AreKeyed (λ (e : Entry T). e.ticket) q.line
    line_keyed = keyed_unmap (λ (e : Entry ℕ). e.ticket) (marked_entry mark) q.line (keyed_from (λ (e : Entry ℕ). e.ticket) (map (marked_entry mark) q.line) tells.entries_apart)

    -- what the line leaves, and what the seats leave, is apart
    left_keyed : (end : End) → AreKeyed (λ (x : Left T). x.ticket) (left_in end q)
    left_keyed end =
        keyed_append (λ (x : Left T). x.ticket) (filter_map left_of_entry (as_met end q.line)) (filter_map left_of_hold q.table.holds)
        (given_keyed (λ (e : Entry T). e.ticket) (λ (x : Left T). x.ticket) left_of_entry entry_ticket (as_met end q.line) (keyed_moved (λ (e : Entry T). e.ticket) q.line (as_met end q.line) (met_order end q.line) line_keyed))
        (given_pairs (λ (x : Left T). x.ticket) left_of_hold q.table.holds seats)
        cross
      where
        entry_ticket : (e : Entry T) (x : Left T) → left_of_entry e ≡ Some x → x.ticket ≡ e.ticket
        entry_ticket e x is = (let r = mapped_some _ e.item x is in sym (ap (λ (y : Left T). y.ticket) r.2))

        told_by : (i : ℕ) (d : Hold T) (x : Left T) → i < length q.table.holds → left_of_hold (get_or q.table.holds i d) ≡ Some x → told_hold (marked_hold mark (hold_at q.table.holds i)) ≡ Some (leaving_of mark x)
        told_by i d x below is = sym (hold_marked (hold_at q.table.holds i)) ∙ ap (option_map (leaving_of mark)) (ap left_of_hold (get_or-within q.table.holds i Free d below) ∙ is)

        seats : AllPairs (λ x z. (y w : Left T) → left_of_hold x ≡ Some y → left_of_hold z ≡ Some w → w.ticket ≢ y.ticket) q.table.holds
        seats = λ i j d less below y w p r same.
            let one = seats_leave_apart history (marked mark (seats_of q)) tells asked i j _ _ refl refl (leaving_of mark y) (leaving_of mark w) (told_by i d y (omega (arith, less, below)) p) (told_by j d w below r) (sym same) in
            absurd (omega (arith, one, less))

        cross : (x y : Left T) → Contains (filter_map left_of_entry (as_met end q.line)) x → Contains (filter_map left_of_hold q.table.holds) y → y.ticket ≢ x.ticket
        cross x y m n same =
            let e = given_by left_of_entry (as_met end q.line) x m in
            let there = Contains-map (marked_entry mark) q.line e.0 (Contains-permutation (as_met end q.line) q.line e.0 (IsPermutation-sym q.line (as_met end q.line) (met_order end q.line)) e.1) in
            let h = given_by left_of_hold q.table.holds y n in
            line_leaves_apart history (marked mark (seats_of q)) tells asked (marked_entry mark e.0) there h.1.0 _ refl (leaving_of mark y)
            (told_by h.1.0 h.0 y h.1.1 (ap left_of_hold h.1.2 ∙ h.2)) (same ∙ entry_ticket e.0 x e.2)

    -- what is left is told
    left_is_told : (end : End) (x : Left T) → Contains (left_in end q) x → left_told history x.ticket ≡ Some (leaving_of mark x)
    left_is_told end x m = ⊎_elim of_line of_seats (Contains-append_cases (filter_map left_of_entry (as_met end q.line)) (filter_map left_of_hold q.table.holds) x m)
      where
        of_line : Contains (filter_map left_of_entry (as_met end q.line)) x → left_told history x.ticket ≡ Some (leaving_of mark x)
        of_line n =
            let e = given_by left_of_entry (as_met end q.line) x n in
            let there = Contains-map (marked_entry mark) q.line e.0 (Contains-permutation (as_met end q.line) q.line e.0 (IsPermutation-sym q.line (as_met end q.line) (met_order end q.line)) e.1) in
            entry_told history (marked mark (seats_of q)) tells asked (marked_entry mark e.0) there (leaving_of mark x) (sym (entry_marked e.0) ∙ ap (option_map (leaving_of mark)) e.2)

        of_seats : Contains (filter_map left_of_hold q.table.holds) x → left_told history x.ticket ≡ Some (leaving_of mark x)
        of_seats n =
            let h = given_by left_of_hold q.table.holds x n in
            let is : hold_at q.table.holds h.1.0 ≡ h.0 = get_or-within q.table.holds h.1.0 Free h.0 h.1.1 ∙ h.1.2 in
            hold_told history (marked mark (seats_of q)) tells asked h.1.0 _ refl (leaving_of mark x) (ap (λ y. told_hold (marked_hold mark y)) is ∙ sym (hold_marked h.0) ∙ ap (option_map (leaving_of mark)) h.2)

    -- what is told is left
    told_is_left : (end : End) (t : ℕ) (a : Leaving) → left_told history t ≡ Some a → (x : Left T) × Contains (left_in end q) x × (leaving_of mark x ≡ a)
    told_is_left end t a told = ⊎_elim
        (λ e. (let f = Contains-mapped (marked_entry mark) q.line e.0 e.1 in
        let r = mapped_some (leaving_of mark) (left_of_entry f.0) a (entry_marked f.0 ∙ ap told_entry f.2 ∙ e.2) in (
          r.0,
          Contains-append_left (filter_map left_of_entry (as_met end q.line)) (filter_map left_of_hold q.table.holds) r.0
              (given_there left_of_entry (as_met end q.line) f.0 r.0 (Contains-permutation q.line (as_met end q.line) f.0 (met_order end q.line) f.1) r.1),
          r.2,
        )))
        (λ i. (let r = mapped_some (leaving_of mark) (left_of_hold (hold_at q.table.holds i.0)) a (hold_marked (hold_at q.table.holds i.0) ∙ i.1) in
        let below = seat_there i.0 a i.1 in (
          r.0,
          Contains-append_right (filter_map left_of_entry (as_met end q.line)) (filter_map left_of_hold q.table.holds) r.0
              (given_there left_of_hold q.table.holds (hold_at q.table.holds i.0) r.0 (i.0, below, get_or-within q.table.holds i.0 (hold_at q.table.holds i.0) Free below) r.1),
          r.2,
        )))
        (told_there history (marked mark (seats_of q)) tells asked t a told)

    -- these in the order of their tickets are all that the records tell
    pub are_left : (end : End) (items : List (Left T)) → IsPermutation (left_in end q) items → IsNonDecreasingBy (λ (x : Left T). x.ticket) items → AreLeft history (map (leaving_of mark) items)
    are_left end items moved sorted = record {
      rising = AllPairs-mapped (leaving_of mark) (λ (a b : Leaving). a.ticket < b.ticket) items (rises (λ (x : Left T). x.ticket) items sorted (keyed_moved (λ (x : Left T). x.ticket) (left_in end q) items moved (left_keyed end)));
      all = λ a. (
        λ m. (let r = Contains-mapped (leaving_of mark) items a m in
            let told = left_is_told end r.0 (Contains-permutation items (left_in end q) r.0 (IsPermutation-sym (left_in end q) items moved) r.1) in
            ap (λ (b : Leaving). left_told history b.ticket) (sym r.2) ∙ told ∙ ap (λ b. Some b) r.2),
        λ told. (let r = told_is_left end a.ticket a told in
            subst (Contains (map (leaving_of mark) items)) r.2 (Contains-map (leaving_of mark) items r.0 (Contains-permutation (left_in end q) items r.0 moved r.1))),
      );
    }
