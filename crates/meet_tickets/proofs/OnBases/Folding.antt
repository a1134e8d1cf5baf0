-- The base of a state that records have reached is well formed, and stands for it.
use Rattle.std.proofs.Common.{◌≡◌, ◌≢◌, ◌⊎◌, ℕ, ◌<◌, ◌≤◌, ◌==◌, refl, sym, ap, ◌∙◌, subst, inl, inr, ⊎_elim, Bool, true, Option, Some, None, is_some, List, [], ◌∷◌, ◌++◌, map, filter, find, get_or, Contains, All, AllPairs, arith}
use Rattle.std.specs.Prelude.{⊤, MatchOption}
use Rattle.std.specs.List.{flat_map}
use Rattle.std.specs.Option.{option_map_or}
use Rattle.std.proofs.Math.Path.{fun_ext}
use Rattle.std.proofs.lemmas.Bool.{cases_lt, cases_Bool, true≢false}
use Rattle.std.proofs.lemmas.List.Elements.{Contains-get_or, All-weaker, All-contains_itself, Contains-append_left, Contains-append_right, Contains-append_cases}
use Rattle.meet_tickets.specs.declared.lines.Entry.{Entry}
use Rattle.meet_tickets.specs.declared.lines.Hold.{Hold}
use Rattle.meet_tickets.specs.declared.lines.Hold.TheVariants.{Free, Waiting, Handed, Served, Cut}
use Rattle.meet_tickets.specs.declared.places.Side.{Side}
use Rattle.meet_tickets.specs.declared.places.Side.TheVariants.{Giver, Taker}
use Rattle.meet_tickets.specs.declared.places.Kind.{Kind}
use Rattle.meet_tickets.specs.declared.bases.OpenPair.{OpenPair}
use Rattle.meet_tickets.specs.declared.bases.OpenCut.{OpenCut}
use Rattle.meet_tickets.specs.ByLists.{State, Pair, IsOpen}
use Rattle.meet_tickets.specs.BySeat.{Moment, open_ticket}
use Rattle.meet_tickets.specs.Agreement.{Holds}
use Rattle.meet_tickets.specs.Bases.{Based, Held, held_in, named_in, hold_met, waiting_held, paired_held, cut_held, moment_of_base, MayStand, IsWellFormed, IsBaseOf}
use Rattle.meet_tickets.proofs.Lists.Members.{Contains-first, Contains-rest, Contains-cases, Contains-nil, Contains-filter, Contains-unfiltered, filtered_passes}
use Rattle.meet_tickets.proofs.Tellings.Whereabouts.{Where, Never, InLine, IsCut, Gave, Took}
use Rattle.meet_tickets.proofs.Tellings.Holding.{held_waiting, same_seat}
use Rattle.meet_tickets.proofs.Tellings.Histories.{Alike}
use Rattle.meet_tickets.proofs.Lists.Lookups.{AreKeyed, keyed_from, found_keyed, missing_keyed, Contains-mapped, Contains-map, map_keyed, keyed_pairs, keyed_filter, keyed_append}
use Rattle.meet_tickets.proofs.OnBases.Based.{flags_told}
use Rattle.meet_tickets.proofs.Tellings.Orderly.{Orderly}
use Rattle.meet_tickets.specs.Meeting.{kept_count}

-- a hold is of this ticket
open_of_met : (side : Side) (t u m : ℕ) → open_ticket (hold_met side t u m) ≡ Some t
open_of_met Giver t u m = refl
open_of_met Taker t u m = refl

-- where a ticket of this side is that was met, and where its partner is
abbrev where_met : Side → (partner mark : ℕ) → Where
where_met Giver u m = Gave u m
where_met Taker u m = Took u m

abbrev where_partner : Side → (ticket mark : ℕ) → Where
where_partner Giver t m = Took t m
where_partner Taker t m = Gave t m

-- the partner that a place names
abbrev partner_at : Where → Option ℕ
partner_at Never = None
partner_at InLine = None
partner_at IsCut = None
partner_at (Gave u m) = Some u
partner_at (Took u m) = Some u

partner_met : (side : Side) (u m : ℕ) → partner_at (where_met side u m) ≡ Some u
partner_met Giver u m = refl
partner_met Taker u m = refl

partner_partner : (side : Side) (t m : ℕ) → partner_at (where_partner side t m) ≡ Some t
partner_partner Giver t m = refl
partner_partner Taker t m = refl

-- the two of a pair are in two places
met_apart : (side : Side) (u t m : ℕ) → where_met side u m ≡ where_partner side t m → ⊥
met_apart Giver u t m e = cc
met_apart Taker u t m e = cc

some_same : (t u : ℕ) → Some t ≡ Some u → t ≡ u
some_same t u e = cc

module _ (k : Kind) (s : State) (m : Moment) (a : Alike s m) (o : Orderly k s) (count : ℕ) (b : Based) (is : IsBaseOf m count b) where
  line_is : b.line ≡ s.line
  line_is = is.line ∙ sym a.agrees.line

  in_line : (e : Entry ℕ) → Contains b.line e → Contains s.line e
  in_line e n = subst (λ l. Contains l e) line_is n

  abbrev place : ℕ → Where
  place = a.reached.place

  -- what a base says that a seat holds it holds
  waiting_is : (e : Entry ℕ) → Contains b.line e → e.waits ≡ true → m.seats.holds e.seat ≡ Waiting e.ticket
  waiting_is e n w = held_waiting s a.reached e.seat e.ticket (m.seats.holds e.seat) (a.agrees.holds e.seat) (a.reached.opened.waits e (in_line e n) w) (a.reached.placed.lined e (in_line e n))

  held_is : (h : Held) → Contains (held_in b) h → (m.seats.holds h.seat ≡ h.hold) × (open_ticket h.hold ≡ Some h.ticket)
  held_is h n = ⊎_elim lined elsewhere (Contains-append_cases (map waiting_held (filter (λ e. e.waits) b.line)) (map paired_held b.pairs ++ map cut_held b.cut) h n)
    where
      Is : Held → Type 0
      Is g = (m.seats.holds g.seat ≡ g.hold) × (open_ticket g.hold ≡ Some g.ticket)

      lined : Contains (map waiting_held (filter (λ e. e.waits) b.line)) h → Is h
      lined l = let f = Contains-mapped waiting_held (filter (λ e. e.waits) b.line) h l in
          subst Is f.2 (waiting_is f.0 (Contains-unfiltered (λ e. e.waits) b.line f.0 f.1) (filtered_passes (λ e. e.waits) b.line f.0 f.1), refl)

      paired : Contains (map paired_held b.pairs) h → Is h
      paired l = let f = Contains-mapped paired_held b.pairs h l in subst Is f.2 (is.pairs f.0 f.1, open_of_met f.0.side f.0.ticket f.0.partner f.0.mark)

      cut : Contains (map cut_held b.cut) h → Is h
      cut l = let f = Contains-mapped cut_held b.cut h l in subst Is f.2 (is.cuts f.0 f.1, refl)

      elsewhere : Contains (map paired_held b.pairs ++ map cut_held b.cut) h → Is h
      elsewhere l = ⊎_elim paired cut (Contains-append_cases (map paired_held b.pairs) (map cut_held b.cut) h l)

  -- what a seat holds the base says
  abbrev Names : ℕ → Hold ℕ → Type 0
  Names i x = (h : Held) × Contains (held_in b) h × (h.seat ≡ i)

  rest_named : (h : Held) → Contains (map paired_held b.pairs ++ map cut_held b.cut) h → Contains (held_in b) h
  rest_named h n = Contains-append_right (map waiting_held (filter (λ e. e.waits) b.line)) (map paired_held b.pairs ++ map cut_held b.cut) h n

  pair_named : (p : OpenPair) → Contains b.pairs p → Contains (held_in b) (paired_held p)
  pair_named p n = rest_named (paired_held p) (Contains-append_left (map paired_held b.pairs) (map cut_held b.cut) (paired_held p) (Contains-map paired_held b.pairs p n))

  names : (i : ℕ) (x : Hold ℕ) → m.seats.holds i ≡ x → Holds s i x → (x ≡ Free) ⊎ Names i x
  names i Free e h = inl refl
  names i (Waiting t) e h =
      let f = h.1.0 in
      let n : Contains b.line f = subst (λ l. Contains l f) (sym line_is) h.1.1 in
      ⊎_elim (λ w. inr (
        waiting_held f,
        Contains-append_left (map waiting_held (filter (λ x. x.waits) b.line)) (map paired_held b.pairs ++ map cut_held b.cut) (waiting_held f)
            (Contains-map waiting_held (filter (λ x. x.waits) b.line) f (Contains-filter (λ x. x.waits) b.line f n w)),
        sym (a.reached.opened.owned f.seat t (subst (IsOpen s f.seat) h.1.2 (a.reached.opened.waits f h.1.1 w))) ∙ a.reached.opened.owned i t h.0.opened,
      ))
      (λ still. absurd (a.reached.opened.kept f h.1.1 still i (subst (IsOpen s i) (sym h.1.2) h.0.opened))) (cases_Bool f.waits)
  names i (Handed t u x) e h = let p : OpenPair = record { ticket = t; seat = i; side = Giver; partner = u; mark = x } in inr (paired_held p, pair_named p (is.handed i t u x e), refl)
  names i (Served t u x) e h = let p : OpenPair = record { ticket = t; seat = i; side = Taker; partner = u; mark = x } in inr (paired_held p, pair_named p (is.served i t u x e), refl)
  names i (Cut t item) e h =
      let c : OpenCut = record { ticket = t; seat = i; item = item } in
      inr (cut_held c, rest_named (cut_held c) (Contains-append_right (map paired_held b.pairs) (map cut_held b.cut) (cut_held c) (Contains-map cut_held b.cut c (is.cut i t item e))), refl)

  holds_is : (i : ℕ) → (moment_of_base b).seats.holds i ≡ m.seats.holds i
  holds_is i = by_found (find (λ h. h.seat == i) (held_in b)) refl
    where
      by_found : (f : Option Held) → find (λ h. h.seat == i) (held_in b) ≡ f → option_map_or (λ (h : Held). h.hold) f Free ≡ m.seats.holds i
      by_found None found = ⊎_elim (λ e. sym e) (λ n. absurd (missing_keyed (λ (h : Held). h.seat) (held_in b) i found n.0 n.1 n.2)) (names i (m.seats.holds i) refl (a.agrees.holds i))
      by_found (Some h) found = let f = found_keyed (λ (g : Held). g.seat) (held_in b) i h found in sym (held_is h f.0).0 ∙ ap m.seats.holds f.1

  -- the base stands for the moment
  pub base_stands : moment_of_base b ≡ m
  base_stands = λ j. record {
    last = is.last j;
    seats = record { line = is.line j; holds = fun_ext holds_is j; flags = fun_ext is.flags j };
  }

  -- where the tickets of the base are
  pair_place : (p : OpenPair) → Contains b.pairs p → (place p.ticket ≡ where_met p.side p.partner p.mark) × (place p.partner ≡ where_partner p.side p.ticket p.mark)
  pair_place p n = by_side p.side (is.pairs p n)
    where
      by_side : (side : Side) → m.seats.holds p.seat ≡ hold_met side p.ticket p.partner p.mark → (place p.ticket ≡ where_met side p.partner p.mark) × (place p.partner ≡ where_partner side p.ticket p.mark)
      by_side Giver e = let h = subst (Holds s p.seat) e (a.agrees.holds p.seat) in let q : Pair = record { giver = p.ticket; taker = p.partner; mark = p.mark } in (a.reached.placed.gave q h.1, a.reached.placed.took q h.1)
      by_side Taker e = let h = subst (Holds s p.seat) e (a.agrees.holds p.seat) in let q : Pair = record { giver = p.partner; taker = p.ticket; mark = p.mark } in (a.reached.placed.took q h.1, a.reached.placed.gave q h.1)

  cut_place : (c : OpenCut) → Contains b.cut c → place c.ticket ≡ IsCut
  cut_place c n = let h = subst (Holds s c.seat) (is.cuts c n) (a.agrees.holds c.seat) in a.reached.placed.cuts c.ticket h.1

  -- of two pairs of one place no ticket of one is the partner of the other
  pair_open : (p : OpenPair) → Contains b.pairs p → IsOpen s p.seat p.ticket
  pair_open p n = by_side p.side (is.pairs p n)
    where
      by_side : (side : Side) → m.seats.holds p.seat ≡ hold_met side p.ticket p.partner p.mark → IsOpen s p.seat p.ticket
      by_side Giver e = (subst (Holds s p.seat) e (a.agrees.holds p.seat)).0.opened
      by_side Taker e = (subst (Holds s p.seat) e (a.agrees.holds p.seat)).0.opened

  partner_closed : (p : OpenPair) → Contains b.pairs p → (j : ℕ) → IsOpen s j p.partner → ⊥
  partner_closed p n j opened = by_side p.side (is.pairs p n)
    where
      by_side : (side : Side) → m.seats.holds p.seat ≡ hold_met side p.ticket p.partner p.mark → ⊥
      by_side Giver e = let h = subst (Holds s p.seat) e (a.agrees.holds p.seat) in o.lone (record { giver = p.ticket; taker = p.partner; mark = p.mark }) h.1 p.seat j h.0.opened opened
      by_side Taker e = let h = subst (Holds s p.seat) e (a.agrees.holds p.seat) in o.lone (record { giver = p.partner; taker = p.ticket; mark = p.mark }) h.1 j p.seat opened h.0.opened

  own_partner : (p q : OpenPair) → Contains b.pairs p → Contains b.pairs q → p.ticket ≢ q.partner
  own_partner p q n l e = partner_closed q l p.seat (subst (IsOpen s p.seat) e (pair_open p n))

  partners_apart : (p q : OpenPair) → Contains b.pairs p → Contains b.pairs q → p.partner ≡ q.partner → p.ticket ≡ q.ticket
  partners_apart p q n l e =
      some_same p.ticket q.ticket (sym (partner_partner p.side p.ticket p.mark) ∙ ap partner_at (sym (pair_place p n).1 ∙ ap place e ∙ (pair_place q l).1) ∙ partner_partner q.side q.ticket q.mark)

  -- the tickets of the pairs
  abbrev two : OpenPair → List ℕ
  two p = p.ticket ∷ p.partner ∷ []

  pair_of_named : (pairs : List OpenPair) (t : ℕ) → Contains (flat_map two pairs) t → (p : OpenPair) × Contains pairs p × ((p.ticket ≡ t) ⊎ (p.partner ≡ t))
  pair_of_named [] t n = absurd (Contains-nil t n)
  pair_of_named (p ∷ pairs) t n =
      ⊎_elim (λ e. (p, Contains-first p pairs, inl e)) (λ l. ⊎_elim (λ e. (p, Contains-first p pairs, inr e))
      (λ j. (let r = pair_of_named pairs t j in (r.0, Contains-rest p pairs r.0 r.1, r.2))) (Contains-cases p.partner (flat_map two pairs) t l)) (Contains-cases p.ticket (p.partner ∷ flat_map two pairs) t n)

  pairs_keyed : (pairs : List OpenPair) → ((p : OpenPair) → Contains pairs p → Contains b.pairs p) → AreKeyed (λ (p : OpenPair). p.ticket) pairs → AreKeyed (λ t. t) (flat_map two pairs)
  pairs_keyed [] all keyed = tt
  pairs_keyed (p ∷ pairs) all keyed = (
    λ t n e. ⊎_elim (λ here. own_partner p p (all p first) (all p first) (sym e ∙ sym here)) (λ l. later p.ticket own t l e) (Contains-cases p.partner (flat_map two pairs) t n),
    (λ t n e. later p.partner partner t n e, pairs_keyed pairs (λ q n. all q (Contains-rest p pairs q n)) keyed.1),
  )
    where
      first : Contains (p ∷ pairs) p
      first = Contains-first p pairs

      own : (q : OpenPair) → Contains pairs q → (q.ticket ≢ p.ticket) × (q.partner ≢ p.ticket)
      own q n = (keyed.0 q n, λ e. own_partner p q (all p first) (all q (Contains-rest p pairs q n)) (sym e))

      partner : (q : OpenPair) → Contains pairs q → (q.ticket ≢ p.partner) × (q.partner ≢ p.partner)
      partner q n = (
        λ e. own_partner q p (all q (Contains-rest p pairs q n)) (all p first) e,
        λ e. keyed.0 q n (partners_apart q p (all q (Contains-rest p pairs q n)) (all p first) e),
      )

      later : (x : ℕ) → ((q : OpenPair) → Contains pairs q → (q.ticket ≢ x) × (q.partner ≢ x)) → (t : ℕ) → Contains (flat_map two pairs) t → t ≢ x
      later x apart t n e = let r = pair_of_named pairs t n in ⊎_elim (λ f. (apart r.0 r.1).0 (f ∙ e)) (λ f. (apart r.0 r.1).1 (f ∙ e)) r.2

  -- two open tickets of two seats are two, so sorted lists rise
  cut_open : (c : OpenCut) → Contains b.cut c → IsOpen s c.seat c.ticket
  cut_open c n = (subst (Holds s c.seat) (is.cuts c n) (a.agrees.holds c.seat)).0.opened

  seats_same : (i j t u : ℕ) → IsOpen s i t → IsOpen s j u → t ≡ u → i ≡ j
  seats_same i j t u one other e = sym (same_seat s a.reached i j t one (subst (IsOpen s j) (sym e) other))

  less_of : (x y : ℕ) → x ≤ y → x ≢ y → x < y
  less_of x y below apart = by_lt (cases_lt x y)
    where
      by_lt : (x < y) ⊎ (y ≤ x) → x < y
      by_lt (inl lt) = lt
      by_lt (inr ge) = absurd (apart (omega arith))

  pairs_rise : AllPairs (λ (p q : OpenPair). p.ticket < q.ticket) b.pairs
  pairs_rise i j d less below = less_of (get_or b.pairs i d).ticket (get_or b.pairs j d).ticket (is.pairs_sorted i j d less below)
      (λ e. is.pair_seats i j d less below (seats_same (get_or b.pairs i d).seat (get_or b.pairs j d).seat (get_or b.pairs i d).ticket (get_or b.pairs j d).ticket
      (pair_open (get_or b.pairs i d) (Contains-get_or b.pairs i d (omega arith))) (pair_open (get_or b.pairs j d) (Contains-get_or b.pairs j d below)) e))

  cut_rises : AllPairs (λ (p q : OpenCut). p.ticket < q.ticket) b.cut
  cut_rises i j d less below = less_of (get_or b.cut i d).ticket (get_or b.cut j d).ticket (is.cut_sorted i j d less below)
      (λ e. is.cut_seats i j d less below (seats_same (get_or b.cut i d).seat (get_or b.cut j d).seat (get_or b.cut i d).ticket (get_or b.cut j d).ticket
      (cut_open (get_or b.cut i d) (Contains-get_or b.cut i d (omega arith))) (cut_open (get_or b.cut j d) (Contains-get_or b.cut j d below)) e))

  -- the lists that rise have distinct tickets
  pair_tickets : AreKeyed (λ (p : OpenPair). p.ticket) b.pairs
  pair_tickets = keyed_from (λ (p : OpenPair). p.ticket) b.pairs (λ i j d less below. (λ same. (let rises = pairs_rise i j d less below in omega arith)))

  cut_tickets : AreKeyed (λ (c : OpenCut). c.ticket) b.cut
  cut_tickets = keyed_from (λ (c : OpenCut). c.ticket) b.cut (λ i j d less below. (λ same. (let rises = cut_rises i j d less below in omega arith)))

  line_rises : AllPairs (λ (e f : Entry ℕ). e.ticket < f.ticket) b.line
  line_rises = subst (λ l. AllPairs (λ (e f : Entry ℕ). e.ticket < f.ticket) l) (sym line_is) o.line.rises

  line_tickets : AreKeyed (λ (e : Entry ℕ). e.ticket) b.line
  line_tickets = keyed_from (λ (e : Entry ℕ). e.ticket) b.line (λ i j d less below. (λ same. (let rises = line_rises i j d less below in omega arith)))

  -- which list names a ticket
  abbrev is_met : Where → Bool
  is_met x = is_some (partner_at x)

  line_place : (t : ℕ) → Contains (map (λ (e : Entry ℕ). e.ticket) b.line) t → place t ≡ InLine
  line_place t n = let f = Contains-mapped (λ (e : Entry ℕ). e.ticket) b.line t n in subst (λ u. place u ≡ InLine) f.2 (a.reached.placed.lined f.0 (in_line f.0 f.1))

  met_place : (t : ℕ) → Contains (flat_map two b.pairs) t → is_met (place t) ≡ true
  met_place t n =
      let f = pair_of_named b.pairs t n in
      ⊎_elim (λ e. subst (λ u. is_met (place u) ≡ true) e (ap is_met (pair_place f.0 f.1).0 ∙ ap is_some (partner_met f.0.side f.0.partner f.0.mark)))
      (λ e. subst (λ u. is_met (place u) ≡ true) e (ap is_met (pair_place f.0 f.1).1 ∙ ap is_some (partner_partner f.0.side f.0.ticket f.0.mark))) f.2

  cuts_place : (t : ℕ) → Contains (map (λ (c : OpenCut). c.ticket) b.cut) t → place t ≡ IsCut
  cuts_place t n = let f = Contains-mapped (λ (c : OpenCut). c.ticket) b.cut t n in subst (λ u. place u ≡ IsCut) f.2 (cut_place f.0 f.1)

  named_keyed : AreKeyed (λ t. t) (named_in b)
  named_keyed =
      keyed_append (λ t. t) (map (λ (e : Entry ℕ). e.ticket) b.line) (flat_map two b.pairs ++ map (λ (c : OpenCut). c.ticket) b.cut)
      (map_keyed (λ t. t) (λ (e : Entry ℕ). e.ticket) b.line line_tickets)
      (keyed_append (λ t. t) (flat_map two b.pairs) (map (λ (c : OpenCut). c.ticket) b.cut) (pairs_keyed b.pairs (λ p n. n) pair_tickets) (map_keyed (λ t. t) (λ (c : OpenCut). c.ticket) b.cut cut_tickets)
      (λ t u n l e. true≢false (sym (met_place t n) ∙ ap is_met (ap place (sym e) ∙ cuts_place u l))))
      (λ t u n l e. ⊎_elim (λ j. true≢false (sym (met_place u j) ∙ ap is_met (ap place e ∙ line_place t n))) (λ j. (let apart : InLine ≡ IsCut = sym (line_place t n) ∙ ap place (sym e) ∙ cuts_place u j in cc))
      (Contains-append_cases (flat_map two b.pairs) (map (λ (c : OpenCut). c.ticket) b.cut) u l))

  -- a ticket that is somewhere is one of those so far
  somewhere : (t : ℕ) → (place t ≡ Never → ⊥) → (1 ≤ t) × (t ≤ s.last)
  somewhere t some = (
    ⊎_elim (λ over. over_zero over) (λ zero_is. absurd (some (ap place (zero_is_zero zero_is) ∙ a.reached.placed.none))) (cases_lt 0 t),
    ⊎_elim (λ above. absurd (some (a.reached.placed.fresh t above))) (λ below. below) (cases_lt s.last t),
  )
    where
      over_zero : 0 < t → 1 ≤ t
      over_zero over = omega arith

      zero_is_zero : t ≤ 0 → t ≡ 0
      zero_is_zero e = omega arith

  named_there : (t : ℕ) → Contains (named_in b) t → (1 ≤ t) × (t ≤ s.last)
  named_there t n = somewhere t (λ never. ⊎_elim (λ l. (let apart : InLine ≡ Never = sym (line_place t l) ∙ never in cc))
      (λ l. ⊎_elim (λ j. true≢false (sym (met_place t j) ∙ ap is_met never)) (λ j. (let apart : IsCut ≡ Never = sym (cuts_place t j) ∙ never in cc))
      (Contains-append_cases (flat_map two b.pairs) (map (λ (c : OpenCut). c.ticket) b.cut) t l)) (Contains-append_cases (map (λ (e : Entry ℕ). e.ticket) b.line) (flat_map two b.pairs ++ map (λ (c : OpenCut). c.ticket) b.cut) t n))

  -- the tickets that seats hold
  held_place_line : (h : Held) → Contains (map waiting_held (filter (λ e. e.waits) b.line)) h → place h.ticket ≡ InLine
  held_place_line h n = let f = Contains-mapped waiting_held (filter (λ e. e.waits) b.line) h n in
      subst (λ (g : Held). place g.ticket ≡ InLine) f.2 (a.reached.placed.lined f.0 (in_line f.0 (Contains-unfiltered (λ e. e.waits) b.line f.0 f.1)))

  held_place_pair : (h : Held) → Contains (map paired_held b.pairs) h → is_met (place h.ticket) ≡ true
  held_place_pair h n = let f = Contains-mapped paired_held b.pairs h n in
      subst (λ (g : Held). is_met (place g.ticket) ≡ true) f.2 (ap is_met (pair_place f.0 f.1).0 ∙ ap is_some (partner_met f.0.side f.0.partner f.0.mark))

  held_place_cut : (h : Held) → Contains (map cut_held b.cut) h → place h.ticket ≡ IsCut
  held_place_cut h n = let f = Contains-mapped cut_held b.cut h n in subst (λ (g : Held). place g.ticket ≡ IsCut) f.2 (cut_place f.0 f.1)

  held_tickets : AreKeyed (λ (h : Held). h.ticket) (held_in b)
  held_tickets =
      keyed_append (λ (h : Held). h.ticket) (map waiting_held (filter (λ e. e.waits) b.line)) (map paired_held b.pairs ++ map cut_held b.cut)
      (map_keyed (λ (h : Held). h.ticket) waiting_held (filter (λ e. e.waits) b.line) (keyed_filter (λ (e : Entry ℕ). e.ticket) (λ e. e.waits) b.line line_tickets))
      (keyed_append (λ (h : Held). h.ticket) (map paired_held b.pairs) (map cut_held b.cut) (map_keyed (λ (h : Held). h.ticket) paired_held b.pairs pair_tickets) (map_keyed (λ (h : Held). h.ticket) cut_held b.cut cut_tickets)
      (λ g h n l e. true≢false (sym (held_place_pair g n) ∙ ap is_met (ap place (sym e) ∙ held_place_cut h l))))
      (λ g h n l e. ⊎_elim (λ j. true≢false (sym (held_place_pair h j) ∙ ap is_met (ap place e ∙ held_place_line g n)))
      (λ j. (let apart : InLine ≡ IsCut = sym (held_place_line g n) ∙ ap place (sym e) ∙ held_place_cut h j in cc)) (Contains-append_cases (map paired_held b.pairs) (map cut_held b.cut) h l))

  -- what one seat holds is one, so no two of these have one seat
  seats_apart : (hs : List Held) → ((h : Held) → Contains hs h → Contains (held_in b) h) → AreKeyed (λ (h : Held). h.ticket) hs → AreKeyed (λ (h : Held). h.seat) hs
  seats_apart [] all keyed = tt
  seats_apart (g ∷ hs) all keyed = (
    λ h n e. keyed.0 h n (
        let one = held_is g (all g (Contains-first g hs)) in
        let other = held_is h (all h (Contains-rest g hs h n)) in
        some_same h.ticket g.ticket (sym other.1 ∙ ap open_ticket (sym other.0 ∙ ap m.seats.holds e ∙ one.0) ∙ one.1)
        ),
    seats_apart hs (λ h n. all h (Contains-rest g hs h n)) keyed.1,
  )

  -- the base is well formed
  pub base_is_well_formed : IsWellFormed k b
  base_is_well_formed = record {
    one_side = subst (λ l. AllPairs (λ (e f : Entry ℕ). is_some e.item ≡ is_some f.item) l) (sym line_is) o.line.one_side;
    line_rises = line_rises;
    kept = subst (λ l. All (MayStand k) l) (sym line_is) o.line.kept;
    few = subst (λ l. MatchOption k.bound ⊤ (λ most. kept_count l ≤ most)) (sym line_is) o.line.few;
    pairs_rise = pairs_rise;
    cut_rises = cut_rises;
    flags_rise = is.flags_rise;
    apart = keyed_pairs (λ t. t) (named_in b) named_keyed;
    named = All-weaker (Contains (named_in b)) (λ t. (1 ≤ t) × (t ≤ b.last)) (λ t n. subst (λ last. (1 ≤ t) × (t ≤ last)) (a.agrees.last ∙ sym is.last) (named_there t n)) (named_in b) (All-contains_itself (named_in b));
    seats = keyed_pairs (λ (h : Held). h.seat) (held_in b) (seats_apart (held_in b) (λ h n. n) held_tickets);
    unflagged = All-weaker (Contains b.line) (λ e. e.waits ≡ true → Contains b.flags e.seat → ⊥) (λ e n w f. unflagged e n w f) b.line (All-contains_itself b.line);
  }
    where
      unflagged : (e : Entry ℕ) → Contains b.line e → e.waits ≡ true → Contains b.flags e.seat → ⊥
      unflagged e n w f = o.unflagged e (in_line e n) w ((a.agrees.flags e.seat).0 (sym (is.flags e.seat) ∙ (flags_told b.flags e.seat).1 f))
