-- Each ticket that stands by the records, waiting, kept, or awaiting its ending, is found in the place.
use Rattle.std.proofs.Common.{◌≡◌, ◌≢◌, ◌⊎◌, ℕ, zero, suc, ◌+◌, ◌≤◌, ◌&&◌, refl, sym, ap, ◌∙◌, subst, inl, inr, ⊎_elim, Bool, true, false, cond, Option, Some, None, is_some, List, [], ◌∷◌, ◌++◌, map, length, Contains, arith, length-append}
use Rattle.std.specs.Prelude.{count_by, option_to_list}
use Rattle.std.specs.List.{range_with_len}
use Rattle.std.proofs.lemmas.List.{length-map}
use Rattle.std.proofs.lemmas.List.Elements.{Contains-append_cases}
use Rattle.meet_tickets.specs.declared.lines.Entry.{Entry}
use Rattle.meet_tickets.specs.declared.lines.Hold.{Hold}
use Rattle.meet_tickets.specs.declared.lines.Hold.TheVariants.{Free, Waiting, Handed, Served, Cut}
use Rattle.meet_tickets.specs.BySeat.{open_ticket}
use Rattle.meet_tickets.proofs.Lists.Changed.{one, count-cons}
use Rattle.meet_tickets.proofs.Told.Fated.{Fated, waits_of, weight, weight_lined, weight_met, weight_cut, line_weighs, seats_weigh, hold_weight, entry_weight, IsHeld, IsMet, IsCut, IsLined, lined_unmet, lined_uncut}
use Rattle.meet_tickets.proofs.Lists.Lookups.{AreKeyed, keyed_append, map_keyed, Contains-mapped}
use Rattle.meet_tickets.proofs.Lists.Members.{Contains-nil, Contains-cases, IsDistinct}
use Rattle.meet_tickets.proofs.Lists.Pigeons.{all_found}
use Rattle.meet_tickets.proofs.Told.Said.{Said}

-- the ticket of a seat that awaits its ending
abbrev pub settled_ticket : Hold ℕ → Option ℕ
settled_ticket Free = None
settled_ticket (Waiting t) = None
settled_ticket (Handed t u mark) = Some t
settled_ticket (Served t u mark) = Some t
settled_ticket (Cut t item) = Some t

-- such tickets of so many seats from this one
abbrev settled_from : (ℕ → Hold ℕ) → (seat count : ℕ) → List ℕ
settled_from holds i zero = []
settled_from holds i (suc n) = option_to_list (settled_ticket (holds i)) ++ settled_from holds (i + 1) n

-- what stands by the records
abbrev pub stands : Said → Bool
stands x = weight true true true x

-- it is open
settled_open : (x : Hold ℕ) (t : ℕ) → settled_ticket x ≡ Some t → open_ticket x ≡ Some t
settled_open Free t is = absurd (cc)
settled_open (Waiting u) t is = absurd (cc)
settled_open (Handed u v mark) t is = is
settled_open (Served u v mark) t is = is
settled_open (Cut u item) t is = is

-- one seat's
settled_one : (x : Hold ℕ) → length (option_to_list (settled_ticket x)) ≡ one (hold_weight true x)
settled_one Free = refl
settled_one (Waiting t) = refl
settled_one (Handed t u mark) = refl
settled_one (Served t u mark) = refl
settled_one (Cut t item) = refl

-- each of them is of a seat
settled_at : (holds : ℕ → Hold ℕ) (i n t : ℕ) → Contains (settled_from holds i n) t → (j : ℕ) × (i ≤ j) × (settled_ticket (holds j) ≡ Some t)
settled_at holds i zero t m = absurd (Contains-nil t m)
settled_at holds i (suc n) t m =
    ⊎_elim (λ here. (i, omega arith, only (settled_ticket (holds i)) here))
    (λ later. (let r = settled_at holds (i + 1) n t later in let above = r.1 in (r.0, omega (arith, above), r.2)))
    (Contains-append_cases (option_to_list (settled_ticket (holds i))) (settled_from holds (i + 1) n) t m)
  where
    only : (o : Option ℕ) → Contains (option_to_list o) t → o ≡ Some t
    only None m = absurd (Contains-nil t m)
    only (Some u) m = ⊎_elim (λ e. ap (λ v. Some v) e) (λ none. absurd (Contains-nil t none)) (Contains-cases u [] t m)

-- they are as many as the seats weigh
settled_count : (holds : ℕ → Hold ℕ) (i n : ℕ) → length (settled_from holds i n) ≡ count_by (λ j. hold_weight true (holds j)) (range_with_len i n)
settled_count holds i zero = refl
settled_count holds i (suc n) =
    let rest = settled_count holds (i + 1) n in
    let here = settled_one (holds i) in
    let both = length-append (option_to_list (settled_ticket (holds i))) (settled_from holds (i + 1) n) in
    let cons : count_by (λ j. hold_weight true (holds j)) (range_with_len i (suc n)) ≡ one (hold_weight true (holds i)) + count_by (λ j. hold_weight true (holds j)) (range_with_len (i + 1) n) = count-cons (λ j. hold_weight true (holds j)) i (range_with_len (i + 1) n) in
    omega (arith, rest, here, both, cons)

-- an entry weighs one
line_count : (line : List (Entry ℕ)) → line_weighs true true line ≡ length line
line_count [] = refl
line_count (e ∷ line) =
    let rest = line_count line in
    let cons : line_weighs true true (e ∷ line) ≡ one (entry_weight true true e) + line_weighs true true line = count-cons (entry_weight true true) e line in
    let here : ◌≡◌ {A = ℕ} (one (entry_weight true true e)) 1 = ap one (either e.waits) in
    omega (arith, rest, cons, here)
  where
    either : (b : Bool) → cond b true true ≡ true
    either true = refl
    either false = refl

-- a ticket that stands was asked
stands_asked : (x : Said) → stands x ≡ true → is_some x.asked ≡ true
stands_asked x is = by_request x.asked refl
  where
    by_request : (o : Option _) → x.asked ≡ o → is_some x.asked ≡ true
    by_request (Some d) e = ap is_some e
    by_request None e = absurd (cc)

-- an entry's weight is one, whether it waits
both_weigh : (b : Bool) → cond b true true ≡ true
both_weigh true = refl
both_weigh false = refl

-- a line's entries are told apart by their tickets
pub line_keyed : (line : List (Entry ℕ)) → IsDistinct line → AreKeyed (λ (e : Entry ℕ). e.ticket) line
line_keyed [] distinct = tt
line_keyed (e ∷ line) distinct = (distinct.0, line_keyed line distinct.1)

-- a seat's ticket alone
lone_keyed : (o : Option ℕ) → AreKeyed (λ t. t) (option_to_list o)
lone_keyed None = tt
lone_keyed (Some t) = (λ u m e. Contains-nil u m, tt)

lone_is : (o : Option ℕ) (t : ℕ) → Contains (option_to_list o) t → o ≡ Some t
lone_is None t m = absurd (Contains-nil t m)
lone_is (Some u) t m = ⊎_elim (λ e. ap (λ v. Some v) e) (λ none. absurd (Contains-nil t none)) (Contains-cases u [] t m)

-- what a seat holds that awaits its ending was met or cut
settled_told : (f : ℕ → Said) (x : Hold ℕ) (t : ℕ) → settled_ticket x ≡ Some t → IsHeld f x → ((u : ℕ) × IsMet u (f t)) ⊎ IsCut (f t)
settled_told f Free t is held = absurd (cc)
settled_told f (Waiting u) t is held = absurd (cc)
settled_told f (Handed u v mark) t is held = let same : u ≡ t = cc in inl (v, subst (λ y. IsMet v (f y)) same held)
settled_told f (Served u v mark) t is held = let same : u ≡ t = cc in inl (v, subst (λ y. IsMet v (f y)) same held)
settled_told f (Cut u item) t is held = let same : u ≡ t = cc in inr (subst (λ y. IsCut (f y)) same held)

module _ {f : ℕ → Said} {tickets : List ℕ} {last : ℕ} {line : List (Entry ℕ)} {holds : ℕ → Hold ℕ} {bound : ℕ} (fated : Fated f tickets last line holds bound) (distinct : IsDistinct line) (apart : (i j t : ℕ) → open_ticket (holds i) ≡ Some t → open_ticket (holds j) ≡ Some t → j ≡ i) where
  -- the tickets of the line, and those of the seats that await their endings
  abbrev these : List ℕ
  these = map (λ (e : Entry ℕ). e.ticket) line ++ settled_from holds 0 bound

  -- no two seats have one
  seats_keyed : (i n : ℕ) → AreKeyed (λ t. t) (settled_from holds i n)
  seats_keyed i zero = tt
  seats_keyed i (suc n) =
      keyed_append (λ t. t) (option_to_list (settled_ticket (holds i))) (settled_from holds (i + 1) n) (lone_keyed (settled_ticket (holds i))) (seats_keyed (i + 1) n)
      (λ t u here later same.
      let j = settled_at holds (i + 1) n u later in
      let above = j.1 in
      let twice : j.0 ≡ i = apart i j.0 t (settled_open (holds i) t (lone_is (settled_ticket (holds i)) t here)) (settled_open (holds j.0) t (j.2 ∙ ap (λ v. Some v) same)) in
      absurd (omega (arith, above, twice)))

  -- nor has the line one of theirs
  line_apart : (t u : ℕ) → Contains (map (λ (e : Entry ℕ). e.ticket) line) t → Contains (settled_from holds 0 bound) u → u ≢ t
  line_apart t u here there same =
      let e = Contains-mapped (λ (e : Entry ℕ). e.ticket) line t here in
      let j = settled_at holds 0 bound u there in
      let is : IsLined e.0.waits (f u) = subst (λ y. IsLined e.0.waits (f y)) (e.2 ∙ sym same) (fated.lined e.0 e.1) in
      ⊎_elim (λ m. lined_unmet e.0.waits (f u) is m.0 m.1) (λ c. lined_uncut e.0.waits (f u) is c) (settled_told f (holds j.0) u j.2 (fated.held j.0))

  -- all of them stand
  all_stand : (t : ℕ) → Contains these t → stands (f t) ≡ true
  all_stand t m = ⊎_elim in_line at_seat (Contains-append_cases (map (λ (e : Entry ℕ). e.ticket) line) (settled_from holds 0 bound) t m)
    where
      in_line : Contains (map (λ (e : Entry ℕ). e.ticket) line) t → stands (f t) ≡ true
      in_line here =
          let e = Contains-mapped (λ (x : Entry ℕ). x.ticket) line t here in
          let is = subst (λ y. IsLined e.0.waits (f y)) e.2 (fated.lined e.0 e.1) in
          ap stands is.2 ∙ weight_lined true true true is.0 ∙ both_weigh (waits_of is.0)

      at_seat : Contains (settled_from holds 0 bound) t → stands (f t) ≡ true
      at_seat there =
          let j = settled_at holds 0 bound t there in
          ⊎_elim (λ m. ap stands m.1.2 ∙ weight_met true true true m.1.0 m.0 ∙ ap (λ b. b && true) m.1.1)
          (λ c. ap stands c.2 ∙ weight_cut true true true c.0 ∙ ap (λ b. b && true) c.1)
          (settled_told f (holds j.0) t j.2 (fated.held j.0))

  -- there are no more
  as_many : count_by (λ t. stands (f t)) tickets ≤ length these
  as_many =
      let weighs : count_by (λ t. stands (f t)) tickets ≡ line_weighs true true line + seats_weigh true holds bound = fated.weighs true true true in
      let lined = line_count line in
      let settled = settled_count holds 0 bound in
      let both = length-append (map (λ (e : Entry ℕ). e.ticket) line) (settled_from holds 0 bound) in
      let mapped : length (map (λ (e : Entry ℕ). e.ticket) line) ≡ length line = length-map line (λ (e : Entry ℕ). e.ticket) in
      omega (arith, weighs, lined, settled, both, mapped)

  -- a ticket that stands is in the line, or at a seat where it awaits its ending
  pub located : (t : ℕ) → stands (f t) ≡ true → ((e : Entry ℕ) × Contains line e × (e.ticket ≡ t)) ⊎ ((i : ℕ) × (settled_ticket (holds i) ≡ Some t))
  located t is =
      let there = all_found (λ x. stands (f x)) tickets these (λ x passes. fated.once x ∙ ap one (stands_asked (f x) passes))
      (keyed_append (λ x. x) (map (λ (e : Entry ℕ). e.ticket) line) (settled_from holds 0 bound) (map_keyed (λ x. x) (λ (e : Entry ℕ). e.ticket) line (line_keyed line distinct)) (seats_keyed 0 bound) line_apart)
      all_stand as_many t is in
      ⊎_elim (λ here. (let e = Contains-mapped (λ (x : Entry ℕ). x.ticket) line t here in inl (e.0, e.1, e.2)))
      (λ seat. (let j = settled_at holds 0 bound t seat in inr (j.0, j.2)))
      (Contains-append_cases (map (λ (e : Entry ℕ). e.ticket) line) (settled_from holds 0 bound) t there)
