-- A well-formed base is the base of where it stands, and the only one.
use Rattle.std.proofs.Common.{◌≡◌, ◌≢◌, ℕ, ◌<◌, ◌==◌, refl, sym, ap, ◌∙◌, subst, ⊎_elim, Option, Some, None, List, [], ◌∷◌, ◌++◌, map, filter, find, Contains, AllPairs, arith}
use Rattle.std.specs.Option.{option_map_or}
use Rattle.std.proofs.lemmas.List.Elements.{All-contains, Contains-append_left, Contains-append_right, Contains-append_cases}
use Rattle.meet_tickets.specs.declared.lines.Hold.{Hold}
use Rattle.meet_tickets.specs.declared.lines.Hold.TheVariants.{Free, Waiting, Cut}
use Rattle.meet_tickets.specs.declared.places.Side.{Side}
use Rattle.meet_tickets.specs.declared.places.Side.TheVariants.{Giver, Taker}
use Rattle.meet_tickets.specs.declared.places.Kind.{Kind}
use Rattle.meet_tickets.specs.declared.bases.OpenPair.{OpenPair}
use Rattle.meet_tickets.specs.declared.bases.OpenCut.{OpenCut}
use Rattle.meet_tickets.specs.BySeat.{Moment, beginning}
use Rattle.meet_tickets.specs.Bases.{Based, no_base, Held, held_in, hold_met, waiting_held, paired_held, cut_held, moment_of_base, IsWellFormed, IsBaseOf}
use Rattle.meet_tickets.proofs.Lists.Members.{Contains-first, Contains-rest, Contains-cases, Contains-nil}
use Rattle.meet_tickets.proofs.Line.Sides.{AllPairs-head, AllPairs-tail}
use Rattle.meet_tickets.proofs.Lists.Lookups.{AreKeyed, keyed_from, keyed_pairs, keyed_left, keyed_right, find_keyed, found_keyed, Contains-map, Contains-mapped}
use Rattle.meet_tickets.proofs.OnBases.Based.{flags_told, no_base_well_formed}

-- two rising lists with the same elements are one
module _ {X : Type 0} (key : X → ℕ) where
  abbrev Rises : List X → Type 0
  Rises xs = AllPairs (λ x y. key x < key y) xs

  above : (x : X) (xs : List X) → Rises (x ∷ xs) → (y : X) → Contains xs y → key x < key y
  above x xs rises y m = All-contains (λ z. key x < key z) xs y (AllPairs-head (λ a b. key a < key b) x xs rises) m

  first_same : (x y : X) (xs ys : List X) → Rises (x ∷ xs) → Rises (y ∷ ys) → Contains (y ∷ ys) x → Contains (x ∷ xs) y → x ≡ y
  first_same x y xs ys r s m n =
      ⊎_elim (λ e. sym e) (λ behind. ⊎_elim (λ e. e) (λ after. absurd (let one = above y ys s x behind in let other = above x xs r y after in omega (arith, one, other))) (Contains-cases x xs y n)) (Contains-cases y ys x m)

  -- what stands behind the one first stands behind the other
  behind_same : (x y : X) (xs ys : List X) → Rises (x ∷ xs) → x ≡ y → ((z : X) → Contains (x ∷ xs) z → Contains (y ∷ ys) z) → (z : X) → Contains xs z → Contains ys z
  behind_same x y xs ys r same to z m =
      ⊎_elim (λ e. absurd (let more = above x xs r z m in let at : key x ≡ key z = ap key (same ∙ e) in omega (arith, more, at))) (λ n. n) (Contains-cases y ys z (to z (Contains-rest x xs z m)))

  pub rising_same : (xs ys : List X) → Rises xs → Rises ys → ((z : X) → Contains xs z → Contains ys z) → ((z : X) → Contains ys z → Contains xs z) → xs ≡ ys
  rising_same [] [] r s to back = refl
  rising_same [] (y ∷ ys) r s to back = absurd (Contains-nil y (back y (Contains-first y ys)))
  rising_same (x ∷ xs) [] r s to back = absurd (Contains-nil x (to x (Contains-first x xs)))
  rising_same (x ∷ xs) (y ∷ ys) r s to back =
      let same = first_same x y xs ys r s (to x (Contains-first x xs)) (back y (Contains-first y ys)) in
      let rest = rising_same xs ys (AllPairs-tail (λ a b. key a < key b) x xs r) (AllPairs-tail (λ a b. key a < key b) y ys s) (behind_same x y xs ys r same to) (behind_same y x ys xs s (sym same) back) in
      λ i. same i ∷ rest i

-- two bases of one place name the same
module _ (m : Moment) (n : ℕ) (b c : Based) (from : IsBaseOf m n b) (to : IsBaseOf m n c) where
  placed : (side : Side) (i t u mark : ℕ) → m.seats.holds i ≡ hold_met side t u mark → Contains c.pairs (record { ticket = t; seat = i; side = side; partner = u; mark = mark })
  placed Giver i t u mark is = to.handed i t u mark is
  placed Taker i t u mark is = to.served i t u mark is

  pair_too : (p : OpenPair) → Contains b.pairs p → Contains c.pairs p
  pair_too p there = placed p.side p.seat p.ticket p.partner p.mark (from.pairs p there)

  cut_too : (x : OpenCut) → Contains b.cut x → Contains c.cut x
  cut_too x there = to.cut x.seat x.ticket x.item (from.cuts x there)

  flag_too : (i : ℕ) → Contains b.flags i → Contains c.flags i
  flag_too i there = (flags_told c.flags i).0 (to.flags i ∙ sym (from.flags i) ∙ (flags_told b.flags i).1 there)

pub same_base : (k : Kind) (m : Moment) (n : ℕ) (b c : Based) → IsBaseOf m n b → IsBaseOf m n c → IsWellFormed k b → IsWellFormed k c → b ≡ c
same_base k m n b c from to w v =
    let gone : b.gone ≡ c.gone = from.gone ∙ sym to.gone in
    let last : b.last ≡ c.last = from.last ∙ sym to.last in
    let line : b.line ≡ c.line = from.line ∙ sym to.line in
    let pairs : b.pairs ≡ c.pairs = rising_same (λ (p : OpenPair). p.ticket) b.pairs c.pairs w.pairs_rise v.pairs_rise (pair_too m n b c from to) (pair_too m n c b to from) in
    let cut : b.cut ≡ c.cut = rising_same (λ (x : OpenCut). x.ticket) b.cut c.cut w.cut_rises v.cut_rises (cut_too m n b c from to) (cut_too m n c b to from) in
    let flags : b.flags ≡ c.flags = rising_same (λ i. i) b.flags c.flags w.flags_rise v.flags_rise (flag_too m n b c from to) (flag_too m n c b to from) in
    λ i. record { gone = gone i; last = last i; line = line i; pairs = pairs i; cut = cut i; flags = flags i }

-- no two elements of a mapped list have one number, so no two of the list
unmapped : {X Y : Type 0} (key : Y → ℕ) (f : X → Y) (xs : List X) → AreKeyed key (map f xs) → AreKeyed (λ x. key (f x)) xs
unmapped key f [] keyed = tt
unmapped key f (x ∷ xs) keyed = (λ y m e. keyed.0 (f y) (Contains-map f xs y m) e, unmapped key f xs keyed.1)

-- a well-formed base is that of where it stands
module _ (k : Kind) (b : Based) (w : IsWellFormed k b) where
  abbrev lines : List Held
  lines = map waiting_held (filter (λ e. e.waits) b.line)

  abbrev paired : List Held
  paired = map paired_held b.pairs

  abbrev cuts : List Held
  cuts = map cut_held b.cut

  keyed : AreKeyed (λ (h : Held). h.seat) (held_in b)
  keyed = keyed_from (λ (h : Held). h.seat) (held_in b) w.seats

  keyed_rest : AreKeyed (λ (h : Held). h.seat) (paired ++ cuts)
  keyed_rest = keyed_right (λ (h : Held). h.seat) lines (paired ++ cuts) keyed

  -- what is held stands at its seat
  pub held_there : (h : Held) → Contains (held_in b) h → (moment_of_base b).seats.holds h.seat ≡ h.hold
  held_there h m = ap (λ o. option_map_or (λ (x : Held). x.hold) o Free) (find_keyed (λ (x : Held). x.seat) (held_in b) h keyed m)

  pub pair_there : (p : OpenPair) → Contains b.pairs p → Contains (held_in b) (paired_held p)
  pair_there p m = Contains-append_right lines (paired ++ cuts) (paired_held p) (Contains-append_left paired cuts (paired_held p) (Contains-map paired_held b.pairs p m))

  cut_there : (c : OpenCut) → Contains b.cut c → Contains (held_in b) (cut_held c)
  cut_there c m = Contains-append_right lines (paired ++ cuts) (cut_held c) (Contains-append_right paired cuts (cut_held c) (Contains-map cut_held b.cut c m))

  -- and what stands at a seat is held
  found_there : (i : ℕ) (hold : Hold ℕ) → hold ≢ Free → (moment_of_base b).seats.holds i ≡ hold → (h : Held) × Contains (held_in b) h × (h.seat ≡ i) × (h.hold ≡ hold)
  found_there i hold some is = by_found (find (λ h. h.seat == i) (held_in b)) refl is
    where
      by_found : (o : Option Held) → find (λ (h : Held). h.seat == i) (held_in b) ≡ o → option_map_or (λ (h : Held). h.hold) o Free ≡ hold → (h : Held) × Contains (held_in b) h × (h.seat ≡ i) × (h.hold ≡ hold)
      by_found None e same = absurd (some (sym same))
      by_found (Some h) e same = let there = found_keyed (λ (x : Held). x.seat) (held_in b) i h e in (h, there.0, there.1, same)

  -- a seat that was met is one of the pairs
  pair_found : (side : Side) (i t u mark : ℕ) → (moment_of_base b).seats.holds i ≡ hold_met side t u mark → Contains b.pairs (record { ticket = t; seat = i; side = side; partner = u; mark = mark })
  pair_found side i t u mark is =
      let h = found_there i (hold_met side t u mark) (met_some side) is in
      ⊎_elim
      (λ m. (let e = Contains-mapped waiting_held (filter (λ x. x.waits) b.line) h.0 m in absurd (not_waiting side e.0.ticket (ap (λ (x : Held). x.hold) e.2 ∙ h.3))))
      (λ m. ⊎_elim
      (λ l. (let p = Contains-mapped paired_held b.pairs h.0 l in own p.0 side p.0.side (ap (λ (x : Held). x.hold) p.2 ∙ h.3) (ap (λ (x : Held). x.seat) p.2 ∙ h.2) refl p.1))
      (λ r. (let c = Contains-mapped cut_held b.cut h.0 r in absurd (not_cut side c.0.ticket c.0.item (ap (λ (x : Held). x.hold) c.2 ∙ h.3))))
      (Contains-append_cases paired cuts h.0 m))
      (Contains-append_cases lines (paired ++ cuts) h.0 h.1)
    where
      met_some : (s : Side) → hold_met s t u mark ≢ Free
      met_some Giver e = absurd (cc)
      met_some Taker e = absurd (cc)

      not_waiting : (s : Side) (v : ℕ) → Waiting v ≡ hold_met s t u mark → ⊥
      not_waiting Giver v e = absurd (cc)
      not_waiting Taker v e = absurd (cc)

      not_cut : (s : Side) (v : ℕ) (item : Option ℕ) → Cut v item ≡ hold_met s t u mark → ⊥
      not_cut Giver v item e = absurd (cc)
      not_cut Taker v item e = absurd (cc)

      own : (p : OpenPair) (s r : Side) → hold_met r p.ticket p.partner p.mark ≡ hold_met s t u mark → p.seat ≡ i → p.side ≡ r → Contains b.pairs p → Contains b.pairs (record { ticket = t; seat = i; side = s; partner = u; mark = mark })
      own p Giver Giver e seat at m =
          let ticket : p.ticket ≡ t = cc in
          let partner : p.partner ≡ u = cc in
          let marked : p.mark ≡ mark = cc in
          let same : p ≡ record { ticket = t; seat = i; side = Giver; partner = u; mark = mark } = λ j. record { ticket = ticket j; seat = seat j; side = at j; partner = partner j; mark = marked j } in
          subst (Contains b.pairs) same m
      own p Giver Taker e seat at m = absurd (cc)
      own p Taker Giver e seat at m = absurd (cc)
      own p Taker Taker e seat at m =
          let ticket : p.ticket ≡ t = cc in
          let partner : p.partner ≡ u = cc in
          let marked : p.mark ≡ mark = cc in
          let same : p ≡ record { ticket = t; seat = i; side = Taker; partner = u; mark = mark } = λ j. record { ticket = ticket j; seat = seat j; side = at j; partner = partner j; mark = marked j } in
          subst (Contains b.pairs) same m

  -- a seat that was cut is one of the cut
  cut_found : (i t : ℕ) (item : Option ℕ) → (moment_of_base b).seats.holds i ≡ Cut t item → Contains b.cut (record { ticket = t; seat = i; item = item })
  cut_found i t item is =
      let h = found_there i (Cut t item) (λ e. absurd (cc)) is in
      ⊎_elim
      (λ m. (let e = Contains-mapped waiting_held (filter (λ x. x.waits) b.line) h.0 m in absurd (not_waiting e.0.ticket (ap (λ (x : Held). x.hold) e.2 ∙ h.3))))
      (λ m. ⊎_elim
      (λ l. (let p = Contains-mapped paired_held b.pairs h.0 l in absurd (not_met p.0.side p.0.ticket p.0.partner p.0.mark (ap (λ (x : Held). x.hold) p.2 ∙ h.3))))
      (λ r. (let c = Contains-mapped cut_held b.cut h.0 r in own c.0 (ap (λ (x : Held). x.hold) c.2 ∙ h.3) (ap (λ (x : Held). x.seat) c.2 ∙ h.2) c.1))
      (Contains-append_cases paired cuts h.0 m))
      (Contains-append_cases lines (paired ++ cuts) h.0 h.1)
    where
      not_waiting : (v : ℕ) → Waiting v ≡ Cut t item → ⊥
      not_waiting v e = absurd (cc)

      not_met : (s : Side) (v u mark : ℕ) → hold_met s v u mark ≡ Cut t item → ⊥
      not_met Giver v u mark e = absurd (cc)
      not_met Taker v u mark e = absurd (cc)

      own : (c : OpenCut) → Cut c.ticket c.item ≡ Cut t item → c.seat ≡ i → Contains b.cut c → Contains b.cut (record { ticket = t; seat = i; item = item })
      own c e seat m =
          let ticket : c.ticket ≡ t = cc in
          let back : c.item ≡ item = cc in
          let same : c ≡ record { ticket = t; seat = i; item = item } = λ j. record { ticket = ticket j; seat = seat j; item = back j } in
          subst (Contains b.cut) same m

  pub own_base : IsBaseOf (moment_of_base b) b.gone b
  own_base = record {
    gone = refl;
    last = refl;
    line = refl;
    pairs_sorted = λ i j d less below. (let rise = w.pairs_rise i j d less below in omega (arith, rise));
    pair_seats = keyed_pairs (λ (p : OpenPair). p.seat) b.pairs (unmapped (λ (h : Held). h.seat) paired_held b.pairs (keyed_left (λ (h : Held). h.seat) paired cuts keyed_rest));
    pairs = λ p m. held_there (paired_held p) (pair_there p m);
    handed = λ i t u mark is. pair_found Giver i t u mark is;
    served = λ i t u mark is. pair_found Taker i t u mark is;
    cut_sorted = λ i j d less below. (let rise = w.cut_rises i j d less below in omega (arith, rise));
    cut_seats = keyed_pairs (λ (c : OpenCut). c.seat) b.cut (unmapped (λ (h : Held). h.seat) cut_held b.cut (keyed_right (λ (h : Held). h.seat) paired cuts keyed_rest));
    cuts = λ c m. held_there (cut_held c) (cut_there c m);
    cut = λ i t item is. cut_found i t item is;
    flags_rise = w.flags_rise;
    flags = λ i. refl;
  }

-- two well-formed bases that stand for one moment, with as many records folded away, are one
pub one_base : (k : Kind) (b c : Based) → IsWellFormed k b → IsWellFormed k c → b.gone ≡ c.gone → moment_of_base b ≡ moment_of_base c → b ≡ c
one_base k b c w v gone stands =
    same_base k (moment_of_base c) c.gone b c (subst (λ m. IsBaseOf m c.gone b) stands (subst (λ n. IsBaseOf (moment_of_base b) n b) gone (own_base k b w))) (own_base k c v) w v

-- and one of no records, where nothing happened, is empty
pub one_empty : (k : Kind) (b : Based) → IsWellFormed k b → b.gone ≡ 0 → moment_of_base b ≡ beginning → b ≡ no_base
one_empty k b w gone stands = one_base k b no_base w (no_base_well_formed k) gone stands
