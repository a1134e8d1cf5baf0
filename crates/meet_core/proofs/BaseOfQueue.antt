-- What the table and the line of a queue give is the base of the moment that it shows.
use Rattle.std.proofs.Common.{◌≡◌, ◌≢◌, ℕ, ◌<◌, ◌==◌, refl, sym, ap, ◌∙◌, subst, ⊎_elim, Bool, true, false, cond, Option, Some, None, List, length, map, Contains, AllPairs, IsPermutation, arith}
use Rattle.std.specs.List.{list_any}
use Rattle.std.specs.List.Sorted.{IsNonDecreasingBy}
use Rattle.std.proofs.lemmas.Bool.{cases_lt, eq-eqb, ne_eqb}
use Rattle.std.proofs.lemmas.Bool.Decides.{Decides-eqb, eqb_tells}
use Rattle.std.proofs.lemmas.List.{get_or_past}
use Rattle.std.proofs.lemmas.List.Sorted.{Contains-permutation, IsPermutation-map, IsPermutation-sym}
use Rattle.std.proofs.lemmas.Map.Keys.{IsDistinct-IsPermutation}
use Rattle.std.proofs.lemmas.Map.Made.{AllPairs-from_IsDistinct, IsDistinct-from_AllPairs}
use Rattle.meet_tickets.specs.declared.lines.Hold.{Hold}
use Rattle.meet_tickets.specs.declared.lines.Hold.TheVariants.{Free, Waiting, Handed, Served, Cut}
use Rattle.meet_tickets.specs.declared.places.Side.TheVariants.{Giver, Taker}
use Rattle.meet_tickets.specs.declared.bases.OpenPair.{OpenPair}
use Rattle.meet_tickets.specs.declared.bases.OpenCut.{OpenCut}
use Rattle.meet_tickets.specs.Bases.{Based, hold_met, IsBaseOf}
use Rattle.meet_tickets.proofs.Lists.Lookups.{keyed_from, keyed_map, keyed_pairs, map_keyed}
use Rattle.meet_tickets.proofs.OnBases.Based.{flags_told}
use Rattle.meet_core.specs.Table.{Table, hold_at, flag_at}
use Rattle.meet_core.specs.Queue.{Queue}
use Rattle.meet_line.specs.Seen.{marked_entry}
use Rattle.meet_core.specs.Seen.{marked_hold, moment_of_queue}
use Rattle.meet_core.specs.Opened.{pair_of, cut_of, pair_at, cut_at, flagged_at, gathered}
use Rattle.meet_core.proofs.Gathered.{there_gathered, had_by, rising_gathered}

pub flips : (x y : ℕ) → (x == y) ≡ (y == x)
flips x y = ⊎_elim (λ same. same.0 ∙ sym (eq-eqb y x (sym same.1))) (λ other. other.0 ∙ sym (ne_eqb y x (λ e. other.1 (sym e)))) (eqb_tells x y)

-- numbers that rise stay apart when they change places
apart_moved : {X : Type 0} (key : X → ℕ) (xs ys : List X) → IsPermutation xs ys → AllPairs (λ x y. key x < key y) xs → AllPairs (λ x y. key x ≢ key y) ys
apart_moved key xs ys moved rise =
    let apart : AllPairs (λ x y. key x ≢ key y) xs = λ i j d less below same. (let lower = rise i j d less below in absurd (omega (arith, lower, same))) in
    let keys = keyed_pairs (λ k. k) (map key xs) (map_keyed (λ k. k) key xs (keyed_from key xs apart)) in
    let distinct = IsDistinct-IsPermutation (λ x y. x == y) flips (map key xs) (map key ys) (IsPermutation-map key xs ys moved) (IsDistinct-from_AllPairs Decides-eqb (map key xs) keys) in
    keyed_pairs key ys (keyed_map key ys (keyed_from (λ k. k) (map key ys) (AllPairs-from_IsDistinct Decides-eqb (map key ys) distinct)))

-- what a seat's hold shows of a pair, and of a cut
abbrev pub pair_shown : ℕ → Hold ℕ → Option OpenPair
pair_shown i Free = None
pair_shown i (Waiting t) = None
pair_shown i (Handed t u m) = Some (record { ticket = t; seat = i; side = Giver; partner = u; mark = m })
pair_shown i (Served t u m) = Some (record { ticket = t; seat = i; side = Taker; partner = u; mark = m })
pair_shown i (Cut t item) = None

abbrev pub cut_shown : ℕ → Hold ℕ → Option OpenCut
cut_shown i Free = None
cut_shown i (Waiting t) = None
cut_shown i (Handed t u m) = None
cut_shown i (Served t u m) = None
cut_shown i (Cut t item) = Some (record { ticket = t; seat = i; item = item })

pair_same : {T : Type 0} (mark : T → ℕ) (i : ℕ) (hold : Hold T) → pair_of mark i hold ≡ pair_shown i (marked_hold mark hold)
pair_same mark i Free = refl
pair_same mark i (Waiting t) = refl
pair_same mark i (Handed t u m) = refl
pair_same mark i (Served t u item) = refl
pair_same mark i (Cut t item) = refl

cut_same : {T : Type 0} (mark : T → ℕ) (i : ℕ) (hold : Hold T) → cut_of mark i hold ≡ cut_shown i (marked_hold mark hold)
cut_same mark i Free = refl
cut_same mark i (Waiting t) = refl
cut_same mark i (Handed t u m) = refl
cut_same mark i (Served t u item) = refl
cut_same mark i (Cut t item) = refl

pair_told : (i : ℕ) (hold : Hold ℕ) (p : OpenPair) → pair_shown i hold ≡ Some p → (p.seat ≡ i) × (hold ≡ hold_met p.side p.ticket p.partner p.mark)
pair_told i Free p is = absurd (cc)
pair_told i (Waiting t) p is = absurd (cc)
pair_told i (Handed t u m) p is =
    let own : OpenPair = record { ticket = t; seat = i; side = Giver; partner = u; mark = m } in
    let same : own ≡ p = cc in
    subst (λ (q : OpenPair). (q.seat ≡ i) × (Handed t u m ≡ hold_met q.side q.ticket q.partner q.mark)) same (refl, refl)
pair_told i (Served t u m) p is =
    let own : OpenPair = record { ticket = t; seat = i; side = Taker; partner = u; mark = m } in
    let same : own ≡ p = cc in
    subst (λ (q : OpenPair). (q.seat ≡ i) × (Served t u m ≡ hold_met q.side q.ticket q.partner q.mark)) same (refl, refl)
pair_told i (Cut t item) p is = absurd (cc)

cut_told : (i : ℕ) (hold : Hold ℕ) (c : OpenCut) → cut_shown i hold ≡ Some c → (c.seat ≡ i) × (hold ≡ Cut c.ticket c.item)
cut_told i Free c is = absurd (cc)
cut_told i (Waiting t) c is = absurd (cc)
cut_told i (Handed t u m) c is = absurd (cc)
cut_told i (Served t u m) c is = absurd (cc)
cut_told i (Cut t item) c is =
    let own : OpenCut = record { ticket = t; seat = i; item = item } in
    let same : own ≡ c = cc in
    subst (λ (d : OpenCut). (d.seat ≡ i) × (Cut t item ≡ Cut d.ticket d.item)) same (refl, refl)

module _ {T : Type 0} (mark : T → ℕ) (table : Table T) where
  abbrev n : ℕ
  n = length table.holds

  abbrev held : ℕ → Hold ℕ
  held i = marked_hold mark (hold_at table.holds i)

  -- a seat that holds something is there
  there : (i : ℕ) → held i ≢ Free → i < n
  there i some = ⊎_elim (λ below. below) (λ past. absurd (some (ap (marked_hold mark) (get_or_past table.holds i Free past)))) (cases_lt i n)

  pair_is : (i : ℕ) → pair_at mark table i ≡ pair_shown i (held i)
  pair_is i = pair_same mark i (hold_at table.holds i)

  cut_is : (i : ℕ) → cut_at mark table i ≡ cut_shown i (held i)
  cut_is i = cut_same mark i (hold_at table.holds i)

  pub pairs_hold : (p : OpenPair) → Contains (gathered (pair_at mark table) n) p → held p.seat ≡ hold_met p.side p.ticket p.partner p.mark
  pairs_hold p m =
      let r = had_by (pair_at mark table) n p m in
      let told = pair_told r.0 (held r.0) p (sym (pair_is r.0) ∙ r.2) in
      ap held told.0 ∙ told.1

  pub held_pair : (i : ℕ) (p : OpenPair) → pair_shown i (held i) ≡ Some p → held i ≢ Free → Contains (gathered (pair_at mark table) n) p
  held_pair i p shown some = there_gathered (pair_at mark table) n i p (there i some) (pair_is i ∙ shown)

  pub pair_seats : AllPairs (λ p q. p.seat < q.seat) (gathered (pair_at mark table) n)
  pair_seats = rising_gathered (λ (p : OpenPair). p.seat) (pair_at mark table) (λ i p is. (pair_told i (held i) p (sym (pair_is i) ∙ is)).0) n

  pub cuts_hold : (c : OpenCut) → Contains (gathered (cut_at mark table) n) c → held c.seat ≡ Cut c.ticket c.item
  cuts_hold c m =
      let r = had_by (cut_at mark table) n c m in
      let told = cut_told r.0 (held r.0) c (sym (cut_is r.0) ∙ r.2) in
      ap held told.0 ∙ told.1

  pub held_cut : (i : ℕ) (c : OpenCut) → cut_shown i (held i) ≡ Some c → held i ≢ Free → Contains (gathered (cut_at mark table) n) c
  held_cut i c shown some = there_gathered (cut_at mark table) n i c (there i some) (cut_is i ∙ shown)

  pub cut_seats : AllPairs (λ c d. c.seat < d.seat) (gathered (cut_at mark table) n)
  cut_seats = rising_gathered (λ (c : OpenCut). c.seat) (cut_at mark table) (λ i c is. (cut_told i (held i) c (sym (cut_is i) ∙ is)).0) n

  -- a seat is named where it is flagged
  flag_told : (i j : ℕ) → flagged_at table i ≡ Some j → (j ≡ i) × (flag_at table.flags i ≡ true)
  flag_told i j is = by_flag (flag_at table.flags i) refl is
    where
      by_flag : (b : Bool) → flag_at table.flags i ≡ b → cond b (Some i) None ≡ Some j → (j ≡ i) × (flag_at table.flags i ≡ true)
      by_flag true e shown = (let same : j ≡ i = cc in same, e)
      by_flag false e shown = absurd (cc)

  pub flags_rise : AllPairs (λ i j. i < j) (gathered (flagged_at table) n)
  flags_rise = rising_gathered (λ i. i) (flagged_at table) (λ i j is. (flag_told i j is).0) n

  pub flags_are : length table.flags ≡ n → (i : ℕ) → list_any (λ j. j == i) (gathered (flagged_at table) n) ≡ flag_at table.flags i
  flags_are long i = by_flag (flag_at table.flags i) refl
    where
      by_flag : (b : Bool) → flag_at table.flags i ≡ b → list_any (λ j. j == i) (gathered (flagged_at table) n) ≡ flag_at table.flags i
      by_flag true e =
          let below : i < n = ⊎_elim (λ l. l) (λ past. absurd (let none : flag_at table.flags i ≡ false = get_or_past table.flags i false (omega (arith, long, past)) in cc)) (cases_lt i n) in
          (flags_told (gathered (flagged_at table) n) i).1 (there_gathered (flagged_at table) n i i below (ap (λ b. cond b (Some i) None) e)) ∙ sym e
      by_flag false e = by_any (list_any (λ j. j == i) (gathered (flagged_at table) n)) refl ∙ sym e
        where
          by_any : (b : Bool) → list_any (λ j. j == i) (gathered (flagged_at table) n) ≡ b → list_any (λ j. j == i) (gathered (flagged_at table) n) ≡ false
          by_any true is =
              let r = had_by (flagged_at table) n i ((flags_told (gathered (flagged_at table) n) i).0 is) in
              let told = flag_told r.0 i r.2 in
              let at : flag_at table.flags i ≡ true = ap (flag_at table.flags) told.0 ∙ told.1 in
              absurd (cc)
          by_any false is = is

-- what is given of a queue is its base
pub stands_so : {T : Type 0} (mark : T → ℕ) (q : Queue T) (gone : ℕ) (b : Based) → b.gone ≡ gone → b.last ≡ q.last → b.line ≡ map (marked_entry mark) q.line
    → IsPermutation (gathered (pair_at mark q.table) (length q.table.holds)) b.pairs → IsNonDecreasingBy (λ (p : OpenPair). p.ticket) b.pairs
    → IsPermutation (gathered (cut_at mark q.table) (length q.table.holds)) b.cut → IsNonDecreasingBy (λ (c : OpenCut). c.ticket) b.cut
    → b.flags ≡ gathered (flagged_at q.table) (length q.table.holds) → length q.table.flags ≡ length q.table.holds → IsBaseOf (moment_of_queue mark q) gone b
stands_so mark q gone b gone_is last line pairs pairs_rise cut cut_rises flags long =
    let n = length q.table.holds in
    record {
      gone = gone_is;
      last = last;
      line = line;
      pairs_sorted = λ i j d less below. pairs_rise i j d (omega (arith, less)) below;
      pair_seats = apart_moved (λ (p : OpenPair). p.seat) (gathered (pair_at mark q.table) n) b.pairs pairs (pair_seats mark q.table);
      pairs = λ p m. pairs_hold mark q.table p (Contains-permutation b.pairs (gathered (pair_at mark q.table) n) p (IsPermutation-sym (gathered (pair_at mark q.table) n) b.pairs pairs) m);
      handed = λ i t u m is. Contains-permutation (gathered (pair_at mark q.table) n) b.pairs _ pairs (held_pair mark q.table i _ (ap (pair_shown i) is) (λ free. (let no : Handed t u m ≡ Free = sym is ∙ free in cc)));
      served = λ i t u m is. Contains-permutation (gathered (pair_at mark q.table) n) b.pairs _ pairs (held_pair mark q.table i _ (ap (pair_shown i) is) (λ free. (let no : Served t u m ≡ Free = sym is ∙ free in cc)));
      cut_sorted = λ i j d less below. cut_rises i j d (omega (arith, less)) below;
      cut_seats = apart_moved (λ (c : OpenCut). c.seat) (gathered (cut_at mark q.table) n) b.cut cut (cut_seats mark q.table);
      cuts = λ c m. cuts_hold mark q.table c (Contains-permutation b.cut (gathered (cut_at mark q.table) n) c (IsPermutation-sym (gathered (cut_at mark q.table) n) b.cut cut) m);
      cut = λ i t item is. Contains-permutation (gathered (cut_at mark q.table) n) b.cut _ cut (held_cut mark q.table i _ (ap (cut_shown i) is) (λ free. (let no : Cut t item ≡ Free = sym is ∙ free in cc)));
      flags_rise = subst (AllPairs (λ i j. i < j)) (sym flags) (flags_rise mark q.table);
      flags = λ i. ap (list_any (λ j. j == i)) flags ∙ flags_are mark q.table long i;
    }
