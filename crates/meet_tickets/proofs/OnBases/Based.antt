-- A well-formed base stands for a state that could have been reached, and for the moment that agrees with it.
use Rattle.std.proofs.Common.{◌≡◌, ◌≢◌, ◌↔◌, ℕ, ◌≤◌, ◌==◌, refl, sym, ap, ◌∙◌, subst, ⊎_elim, Bool, true, false, IsTrue, ◌||◌, Option, Some, None, List, [], ◌∷◌, ◌++◌, map, filter, find, Contains, AllPairs, arith}
use Rattle.std.specs.List.{list_any, flat_map}
use Rattle.std.specs.Option.{option_map_or}
use Rattle.std.proofs.lemmas.Bool.{eqb-true, eqb-false, true≢false, false≢true}
use Rattle.std.proofs.lemmas.List.{map-append}
use Rattle.std.proofs.lemmas.List.Elements.{All-contains, All-nil, Contains-append_left, Contains-append_right, Contains-append_cases}
use Rattle.meet_tickets.specs.declared.lines.Entry.{Entry}
use Rattle.meet_tickets.specs.declared.lines.Hold.TheVariants.{Free}
use Rattle.meet_tickets.specs.declared.places.Side.{Side}
use Rattle.meet_tickets.specs.declared.places.Side.TheVariants.{Giver, Taker}
use Rattle.meet_tickets.specs.declared.places.Kind.{Kind}
use Rattle.meet_tickets.specs.declared.bases.OpenPair.{OpenPair}
use Rattle.meet_tickets.specs.declared.bases.OpenCut.{OpenCut}
use Rattle.meet_tickets.specs.declared.records.Record.{Record}
use Rattle.meet_tickets.specs.declared.records.Deed.{Deed}
use Rattle.meet_tickets.specs.ByLists.{State, empty, Pair, Open, IsOpen, IsLegalFrom, run}
use Rattle.meet_tickets.specs.BySeat.{Moment, beginning, moment_of}
use Rattle.meet_tickets.specs.Agreement.{IsOnly, Holds, Agrees, TellingsAgreeOn}
use Rattle.meet_tickets.specs.Bases.{Based, Held, held_in, named_in, hold_met, pair_met, waiting_held, paired_held, cut_held, state_of_base, moment_of_base, IsWellFormed, IsLegalOn, no_base, MayStand}
use Rattle.meet_tickets.specs.Meeting.{kept_count}
use Rattle.std.specs.Prelude.{⊤, MatchOption}
use Rattle.meet_tickets.proofs.Lists.Members.{Contains-first, Contains-rest, Contains-cases, Contains-nil, Contains-filter, Contains-unfiltered, filtered_passes, IsDistinct}
use Rattle.meet_tickets.proofs.Tellings.Whereabouts.{Where, Never, InLine, IsCut, Gave, Took, Reached, Has}
use Rattle.meet_tickets.proofs.Tellings.Histories.{Alike, legal_from, alike_at_end, follows_at}
use Rattle.meet_tickets.proofs.Tellings.Orderly.{Orderly}
use Rattle.meet_tickets.proofs.Lists.Lookups.{AreKeyed, keyed_from, find_keyed, found_keyed, missing_keyed, keyed_same, Contains-mapped, Contains-map, keyed_map, map_map}

-- where a named ticket is, whose it is, and whether it is open
record Placed : Type 0 where
  ticket : ℕ
  place : Where
  seat : ℕ
  opens : Bool

-- where a ticket of this side is that was met
abbrev place_met : Side → (partner mark : ℕ) → Where
place_met Giver u m = Gave u m
place_met Taker u m = Took u m

-- where its partner is
abbrev place_partner : Side → (ticket mark : ℕ) → Where
place_partner Giver t m = Took t m
place_partner Taker t m = Gave t m

abbrev line_placed : Entry ℕ → Placed
line_placed e = record { ticket = e.ticket; place = InLine; seat = e.seat; opens = e.waits }

abbrev own_placed : OpenPair → Placed
own_placed p = record { ticket = p.ticket; place = place_met p.side p.partner p.mark; seat = p.seat; opens = true }

abbrev partner_placed : OpenPair → Placed
partner_placed p = record { ticket = p.partner; place = place_partner p.side p.ticket p.mark; seat = 0; opens = false }

abbrev cut_placed : OpenCut → Placed
cut_placed c = record { ticket = c.ticket; place = IsCut; seat = c.seat; opens = true }

abbrev placed_in : Based → List Placed
placed_in b = map line_placed b.line ++ (flat_map (λ p. own_placed p ∷ partner_placed p ∷ []) b.pairs ++ map cut_placed b.cut)

-- the tickets of the pairs
pairs_named : (pairs : List OpenPair) → map (λ (x : Placed). x.ticket) (flat_map (λ p. own_placed p ∷ partner_placed p ∷ []) pairs) ≡ flat_map (λ p. p.ticket ∷ p.partner ∷ []) pairs
pairs_named [] = refl
pairs_named (p ∷ pairs) = ap (λ xs. p.ticket ∷ p.partner ∷ xs) (pairs_named pairs)

-- their tickets are those that are named
tickets_named : (b : Based) → map (λ (x : Placed). x.ticket) (placed_in b) ≡ named_in b
tickets_named b =
    map-append (λ (x : Placed). x.ticket) (map line_placed b.line) (flat_map (λ p. own_placed p ∷ partner_placed p ∷ []) b.pairs ++ map cut_placed b.cut)
    ∙ ap (λ xs. xs ++ map (λ (x : Placed). x.ticket) (flat_map (λ p. own_placed p ∷ partner_placed p ∷ []) b.pairs ++ map cut_placed b.cut)) (map_map (λ (x : Placed). x.ticket) line_placed b.line)
    ∙ ap (λ xs. map (λ (e : Entry ℕ). e.ticket) b.line ++ xs) (
    map-append (λ (x : Placed). x.ticket) (flat_map (λ p. own_placed p ∷ partner_placed p ∷ []) b.pairs) (map cut_placed b.cut)
    ∙ ap (λ xs. xs ++ map (λ (x : Placed). x.ticket) (map cut_placed b.cut)) (pairs_named b.pairs)
    ∙ ap (λ xs. flat_map (λ p. p.ticket ∷ p.partner ∷ []) b.pairs ++ xs) (map_map (λ (x : Placed). x.ticket) cut_placed b.cut))

-- both parts of a pair are placed
pair_is_placed : (pairs : List OpenPair) (p : OpenPair) → Contains pairs p →
    Contains (flat_map (λ q. own_placed q ∷ partner_placed q ∷ []) pairs) (own_placed p) × Contains (flat_map (λ q. own_placed q ∷ partner_placed q ∷ []) pairs) (partner_placed p)
pair_is_placed [] p m = absurd (Contains-nil p m)
pair_is_placed (q ∷ pairs) p m = ⊎_elim here (λ n. there (pair_is_placed pairs p n)) (Contains-cases q pairs p m)
  where
    rest : List Placed
    rest = flat_map (λ r. own_placed r ∷ partner_placed r ∷ []) pairs

    both : List Placed
    both = own_placed q ∷ partner_placed q ∷ rest

    here : q ≡ p → Contains both (own_placed p) × Contains both (partner_placed p)
    here e = subst (λ r. Contains both (own_placed r) × Contains both (partner_placed r)) e (Contains-first (own_placed q) (partner_placed q ∷ rest), Contains-rest (own_placed q) (partner_placed q ∷ rest) (partner_placed q) (Contains-first (partner_placed q) rest))

    later : (x : Placed) → Contains rest x → Contains both x
    later x n = Contains-rest (own_placed q) (partner_placed q ∷ rest) x (Contains-rest (partner_placed q) rest x n)

    there : Contains rest (own_placed p) × Contains rest (partner_placed p) → Contains both (own_placed p) × Contains both (partner_placed p)
    there n = (later (own_placed p) n.0, later (partner_placed p) n.1)

-- the flags of a base are those of its list
pub flags_told : (flags : List ℕ) (i : ℕ) → IsTrue (list_any (λ j. j == i) flags) ↔ Contains flags i
flags_told [] i = (λ y. absurd (false≢true y), λ m. absurd (Contains-nil i m))
flags_told (j ∷ flags) i = by_test (j == i) refl (flags_told flags i)
  where
    by_test : (t : Bool) → (j == i) ≡ t → IsTrue (list_any (λ x. x == i) flags) ↔ Contains flags i → IsTrue (t || list_any (λ x. x == i) flags) ↔ Contains (j ∷ flags) i
    by_test true e rest = (λ y. subst (Contains (j ∷ flags)) (eqb-true j i e) (Contains-first j flags), λ m. refl)
    by_test false e rest = (λ y. Contains-rest j flags i (rest.0 y), λ m. ⊎_elim (λ s. absurd (eqb-false j i e s)) (λ n. rest.1 n) (Contains-cases j flags i m))

module _ (k : Kind) (b : Based) (w : IsWellFormed k b) where
  -- the open tickets
  abbrev opens_in : List Open
  opens_in = map (λ h. record { ticket = h.ticket; seat = h.seat }) (held_in b)

  placed_keyed : AreKeyed (λ (x : Placed). x.ticket) (placed_in b)
  placed_keyed = keyed_map (λ (x : Placed). x.ticket) (placed_in b) (subst (AreKeyed (λ t. t)) (sym (tickets_named b)) (keyed_from (λ t. t) (named_in b) w.apart))

  -- what is placed has a ticket of the base
  placed_named : (x : Placed) → Contains (placed_in b) x → (1 ≤ x.ticket) × (x.ticket ≤ b.last)
  placed_named x m = All-contains (λ t. (1 ≤ t) × (t ≤ b.last)) (named_in b) x.ticket w.named (subst (λ ts. Contains ts x.ticket) (tickets_named b) (Contains-map (λ (y : Placed). y.ticket) (placed_in b) x m))

  line_there : (e : Entry ℕ) → Contains b.line e → Contains (placed_in b) (line_placed e)
  line_there e m = Contains-append_left (map line_placed b.line) (flat_map (λ p. own_placed p ∷ partner_placed p ∷ []) b.pairs ++ map cut_placed b.cut) (line_placed e) (Contains-map line_placed b.line e m)

  rest_there : (x : Placed) → Contains (flat_map (λ p. own_placed p ∷ partner_placed p ∷ []) b.pairs ++ map cut_placed b.cut) x → Contains (placed_in b) x
  rest_there x m = Contains-append_right (map line_placed b.line) (flat_map (λ p. own_placed p ∷ partner_placed p ∷ []) b.pairs ++ map cut_placed b.cut) x m

  pair_there : (p : OpenPair) → Contains b.pairs p → Contains (placed_in b) (own_placed p) × Contains (placed_in b) (partner_placed p)
  pair_there p m =
      let both = pair_is_placed b.pairs p m in (
        rest_there (own_placed p) (Contains-append_left (flat_map (λ q. own_placed q ∷ partner_placed q ∷ []) b.pairs) (map cut_placed b.cut) (own_placed p) both.0),
        rest_there (partner_placed p) (Contains-append_left (flat_map (λ q. own_placed q ∷ partner_placed q ∷ []) b.pairs) (map cut_placed b.cut) (partner_placed p) both.1),
      )

  cut_there : (c : OpenCut) → Contains b.cut c → Contains (placed_in b) (cut_placed c)
  cut_there c m = rest_there (cut_placed c) (Contains-append_right (flat_map (λ q. own_placed q ∷ partner_placed q ∷ []) b.pairs) (map cut_placed b.cut) (cut_placed c) (Contains-map cut_placed b.cut c m))

  -- where each ticket is
  abbrev place_in : ℕ → Where
  place_in t = option_map_or (λ (x : Placed). x.place) (find (λ x. x.ticket == t) (placed_in b)) Never

  abbrev owner_in : ℕ → ℕ
  owner_in t = option_map_or (λ (x : Placed). x.seat) (find (λ x. x.ticket == t) (placed_in b)) 0

  place_is : (x : Placed) → Contains (placed_in b) x → place_in x.ticket ≡ x.place
  place_is x m = ap (λ o. option_map_or (λ (y : Placed). y.place) o Never) (find_keyed (λ (y : Placed). y.ticket) (placed_in b) x placed_keyed m)

  owner_is : (x : Placed) → Contains (placed_in b) x → owner_in x.ticket ≡ x.seat
  owner_is x m = ap (λ o. option_map_or (λ (y : Placed). y.seat) o 0) (find_keyed (λ (y : Placed). y.ticket) (placed_in b) x placed_keyed m)

  -- a ticket that isn't named is nowhere
  unplaced : (t : ℕ) → ((1 ≤ t) × (t ≤ b.last) → ⊥) → place_in t ≡ Never
  unplaced t out = by_found (find (λ x. x.ticket == t) (placed_in b)) refl
    where
      by_found : (o : Option Placed) → find (λ x. x.ticket == t) (placed_in b) ≡ o → option_map_or (λ (x : Placed). x.place) o Never ≡ Never
      by_found None is = refl
      by_found (Some x) is = let f = found_keyed (λ (y : Placed). y.ticket) (placed_in b) t x is in absurd (out (subst (λ u. (1 ≤ u) × (u ≤ b.last)) f.1 (placed_named x f.0)))

  -- what a seat holds is placed, and its ticket is open
  held_placed : (h : Held) → Contains (held_in b) h → (x : Placed) × Contains (placed_in b) x × (x.ticket ≡ h.ticket) × (x.seat ≡ h.seat) × (x.opens ≡ true)
  held_placed h m = ⊎_elim in_line elsewhere (Contains-append_cases (map waiting_held (filter (λ e. e.waits) b.line)) (map paired_held b.pairs ++ map cut_held b.cut) h m)
    where
      Is : Type 0
      Is = (x : Placed) × Contains (placed_in b) x × (x.ticket ≡ h.ticket) × (x.seat ≡ h.seat) × (x.opens ≡ true)

      in_line : Contains (map waiting_held (filter (λ e. e.waits) b.line)) h → Is
      in_line n =
          let f = Contains-mapped waiting_held (filter (λ e. e.waits) b.line) h n in
          (line_placed f.0, line_there f.0 (Contains-unfiltered (λ e. e.waits) b.line f.0 f.1), ap (λ (y : Held). y.ticket) f.2, ap (λ (y : Held). y.seat) f.2, filtered_passes (λ e. e.waits) b.line f.0 f.1)

      in_pairs : Contains (map paired_held b.pairs) h → Is
      in_pairs n = let f = Contains-mapped paired_held b.pairs h n in (own_placed f.0, (pair_there f.0 f.1).0, ap (λ (y : Held). y.ticket) f.2, ap (λ (y : Held). y.seat) f.2, refl)

      in_cut : Contains (map cut_held b.cut) h → Is
      in_cut n = let f = Contains-mapped cut_held b.cut h n in (cut_placed f.0, cut_there f.0 f.1, ap (λ (y : Held). y.ticket) f.2, ap (λ (y : Held). y.seat) f.2, refl)

      elsewhere : Contains (map paired_held b.pairs ++ map cut_held b.cut) h → Is
      elsewhere n = ⊎_elim in_pairs in_cut (Contains-append_cases (map paired_held b.pairs) (map cut_held b.cut) h n)

  -- an open ticket is what a seat holds
  open_held : (i t : ℕ) → Has opens_in i t → (h : Held) × Contains (held_in b) h × (h.ticket ≡ t) × (h.seat ≡ i)
  open_held i t m =
      let f = Contains-mapped (λ (h : Held). record { ticket = h.ticket; seat = h.seat }) (held_in b) (record { ticket = t; seat = i }) m in
      (f.0, f.1, ap (λ (o : Open). o.ticket) f.2, ap (λ (o : Open). o.seat) f.2)

  pub reached_base : Reached (state_of_base b)
  reached_base = record {
    place = place_in;
    owner = owner_in;
    placed = record {
      fresh = λ t above. unplaced t (λ n. (let below = n.1 in omega arith));
      none = unplaced 0 (λ n. (let above = n.0 in omega arith));
      lined = λ e m. place_is (line_placed e) (line_there e m);
      gave = λ p m. gave_by p (Contains-mapped (λ (q : OpenPair). pair_met q.side q.ticket q.partner q.mark) b.pairs p m);
      took = λ p m. took_by p (Contains-mapped (λ (q : OpenPair). pair_met q.side q.ticket q.partner q.mark) b.pairs p m);
      cuts = λ t m. (let f = Contains-mapped (λ (c : OpenCut). c.ticket) b.cut t m in subst (λ u. place_in u ≡ IsCut) f.2 (place_is (cut_placed f.0) (cut_there f.0 f.1)));
    };
    opened = record {
      named = λ i t m. (let f = open_held i t m in let x = held_placed f.0 f.1 in let below = (placed_named x.0 x.1).1 in let same : x.0.ticket ≡ t = x.2 ∙ f.2 in omega arith);
      owned = λ i t m. (let f = open_held i t m in let x = held_placed f.0 f.1 in ap owner_in (sym (x.2 ∙ f.2)) ∙ owner_is x.0 x.1 ∙ x.3 ∙ f.3);
      waits = λ e m waits. Contains-map (λ (h : Held). record { ticket = h.ticket; seat = h.seat }) (held_in b) (waiting_held e) (line_held e m waits);
      kept = λ e m still i n. (
          let f = open_held i e.ticket n in
          let x = held_placed f.0 f.1 in
          let same : line_placed e ≡ x.0 = keyed_same (λ (y : Placed). y.ticket) (placed_in b) (line_placed e) x.0 placed_keyed (line_there e m) x.1 (sym (x.2 ∙ f.2)) in
          true≢false (sym x.4 ∙ ap (λ (y : Placed). y.opens) (sym same) ∙ still)
          );
    };
    distinct = distinct_line b.line (λ e m. m) (keyed_from (λ (e : Entry ℕ). e.ticket) b.line apart_line);
  }
    where
      gave_met : (side : Side) (t u m : ℕ) → place_in t ≡ place_met side u m → place_in u ≡ place_partner side t m → place_in (pair_met side t u m).giver ≡ Gave (pair_met side t u m).taker (pair_met side t u m).mark
      gave_met Giver t u m own other = own
      gave_met Taker t u m own other = other

      took_met : (side : Side) (t u m : ℕ) → place_in t ≡ place_met side u m → place_in u ≡ place_partner side t m → place_in (pair_met side t u m).taker ≡ Took (pair_met side t u m).giver (pair_met side t u m).mark
      took_met Giver t u m own other = other
      took_met Taker t u m own other = own

      gave_by : (p : Pair) → (q : OpenPair) × Contains b.pairs q × (pair_met q.side q.ticket q.partner q.mark ≡ p) → place_in p.giver ≡ Gave p.taker p.mark
      gave_by p f = subst (λ (x : Pair). place_in x.giver ≡ Gave x.taker x.mark) f.2
          (gave_met f.0.side f.0.ticket f.0.partner f.0.mark (place_is (own_placed f.0) (pair_there f.0 f.1).0) (place_is (partner_placed f.0) (pair_there f.0 f.1).1))

      took_by : (p : Pair) → (q : OpenPair) × Contains b.pairs q × (pair_met q.side q.ticket q.partner q.mark ≡ p) → place_in p.taker ≡ Took p.giver p.mark
      took_by p f = subst (λ (x : Pair). place_in x.taker ≡ Took x.giver x.mark) f.2
          (took_met f.0.side f.0.ticket f.0.partner f.0.mark (place_is (own_placed f.0) (pair_there f.0 f.1).0) (place_is (partner_placed f.0) (pair_there f.0 f.1).1))

      line_held : (e : Entry ℕ) → Contains b.line e → e.waits ≡ true → Contains (held_in b) (waiting_held e)
      line_held e m waits = Contains-append_left (map waiting_held (filter (λ x. x.waits) b.line)) (map paired_held b.pairs ++ map cut_held b.cut) (waiting_held e)
          (Contains-map waiting_held (filter (λ x. x.waits) b.line) e (Contains-filter (λ x. x.waits) b.line e m waits))

      apart_line : AllPairs (λ (e f : Entry ℕ). e.ticket ≢ f.ticket) b.line
      apart_line i j d less below = λ same. (let rises = w.line_rises i j d less below in omega arith)

      distinct_line : (line : List (Entry ℕ)) → ((e : Entry ℕ) → Contains line e → Contains line e) → AreKeyed (λ (e : Entry ℕ). e.ticket) line → IsDistinct line
      distinct_line [] all keyed = tt
      distinct_line (e ∷ line) all keyed = (keyed.0, distinct_line line (λ x m. m) keyed.1)

  seats_keyed : AreKeyed (λ (h : Held). h.seat) (held_in b)
  seats_keyed = keyed_from (λ (h : Held). h.seat) (held_in b) w.seats

  -- the ticket of what a seat holds is its only open one
  only_held : (h : Held) → Contains (held_in b) h → IsOnly (state_of_base b) h.seat h.ticket
  only_held h m = record {
    opened = Contains-map (λ (g : Held). record { ticket = g.ticket; seat = g.seat }) (held_in b) h m;
    only = λ t n. (let f = open_held h.seat t n in sym f.2 ∙ ap (λ (g : Held). g.ticket) (keyed_same (λ (g : Held). g.seat) (held_in b) f.0 h seats_keyed f.1 m f.3));
  }

  -- what is held is told by the lists
  pub held_told : (h : Held) → Contains (held_in b) h → Holds (state_of_base b) h.seat h.hold
  held_told h m = ⊎_elim in_line elsewhere (Contains-append_cases (map waiting_held (filter (λ e. e.waits) b.line)) (map paired_held b.pairs ++ map cut_held b.cut) h m)
    where
      Is : Held → Type 0
      Is g = Holds (state_of_base b) g.seat g.hold

      in_line : Contains (map waiting_held (filter (λ e. e.waits) b.line)) h → Is h
      in_line n =
          let f = Contains-mapped waiting_held (filter (λ e. e.waits) b.line) h n in
          subst Is f.2 (only_held (waiting_held f.0) (subst (Contains (held_in b)) (sym f.2) m), (f.0, Contains-unfiltered (λ e. e.waits) b.line f.0 f.1, refl))

      pair_told : (side : Side) (i t u x : ℕ) → IsOnly (state_of_base b) i t → Contains (state_of_base b).pairs (pair_met side t u x) → Holds (state_of_base b) i (hold_met side t u x)
      pair_told Giver i t u x only n = (only, n)
      pair_told Taker i t u x only n = (only, n)

      in_pairs : Contains (map paired_held b.pairs) h → Is h
      in_pairs n =
          let f = Contains-mapped paired_held b.pairs h n in
          subst Is f.2 (pair_told f.0.side f.0.seat f.0.ticket f.0.partner f.0.mark (only_held (paired_held f.0) (subst (Contains (held_in b)) (sym f.2) m))
          (Contains-map (λ (q : OpenPair). pair_met q.side q.ticket q.partner q.mark) b.pairs f.0 f.1))

      in_cut : Contains (map cut_held b.cut) h → Is h
      in_cut n =
          let f = Contains-mapped cut_held b.cut h n in
          subst Is f.2 (only_held (cut_held f.0) (subst (Contains (held_in b)) (sym f.2) m), Contains-map (λ (c : OpenCut). c.ticket) b.cut f.0 f.1)

      elsewhere : Contains (map paired_held b.pairs ++ map cut_held b.cut) h → Is h
      elsewhere n = ⊎_elim in_pairs in_cut (Contains-append_cases (map paired_held b.pairs) (map cut_held b.cut) h n)

  -- what each seat holds is told by the lists
  holds_base : (i : ℕ) → Holds (state_of_base b) i ((moment_of_base b).seats.holds i)
  holds_base i = by_found (find (λ h. h.seat == i) (held_in b)) refl
    where
      by_found : (o : Option Held) → find (λ h. h.seat == i) (held_in b) ≡ o → Holds (state_of_base b) i (option_map_or (λ (h : Held). h.hold) o Free)
      by_found None is = λ t n. (let f = open_held i t n in missing_keyed (λ (h : Held). h.seat) (held_in b) i is f.0 f.1 f.3)
      by_found (Some h) is = let f = found_keyed (λ (g : Held). g.seat) (held_in b) i h is in subst (λ j. Holds (state_of_base b) j h.hold) f.1 (held_told h f.0)

  -- the two tellings begin alike at a base
  pub alike_base : Alike (state_of_base b) (moment_of_base b)
  alike_base = record {
    reached = reached_base;
    agrees = record {
      last = refl;
      line = refl;
      holds = holds_base;
      flags = λ i. flags_told b.flags i;
    };
  }

  -- the partner of an open ticket isn't open
  partner_closed : (q : OpenPair) → Contains b.pairs q → (j : ℕ) → IsOpen (state_of_base b) j q.partner → ⊥
  partner_closed q m j n =
      let f = open_held j q.partner n in
      let x = held_placed f.0 f.1 in
      let same : partner_placed q ≡ x.0 = keyed_same (λ (y : Placed). y.ticket) (placed_in b) (partner_placed q) x.0 placed_keyed (pair_there q m).1 x.1 (sym (x.2 ∙ f.2)) in
      true≢false (sym x.4 ∙ ap (λ (y : Placed). y.opens) (sym same))

  -- what else holds of a reached state holds of a base
  pub orderly_base : Orderly k (state_of_base b)
  orderly_base = record {
    line = record { one_side = w.one_side; rises = w.line_rises; kept = w.kept; few = w.few };
    unflagged = λ e m. All-contains (λ x. x.waits ≡ true → Contains b.flags x.seat → ⊥) b.line e w.unflagged m;
    lone = λ p m. (let f = Contains-mapped (λ (q : OpenPair). pair_met q.side q.ticket q.partner q.mark) b.pairs p m in
        subst (λ (x : Pair). (i j : ℕ) → IsOpen (state_of_base b) i x.giver → IsOpen (state_of_base b) j x.taker → ⊥) f.2 (λ i j. by_side f.0.side f.0.ticket f.0.partner f.0.mark (λ n. partner_closed f.0 f.1 n) i j));
  }
    where
      by_side : (side : Side) (t u x : ℕ) → ((j : ℕ) → IsOpen (state_of_base b) j u → ⊥) → (i j : ℕ) → IsOpen (state_of_base b) i (pair_met side t u x).giver → IsOpen (state_of_base b) j (pair_met side t u x).taker → ⊥
      by_side Giver t u x closed i j g h = closed j h
      by_side Taker t u x closed i j g h = closed i g

-- what holds after a base
pub tellings_agree_on : (k : Kind) (b : Based) (records : List (Record Deed)) → IsWellFormed k b → TellingsAgreeOn k b records
tellings_agree_on k b records w = record {
  legal = legal_from k records (state_of_base b) (moment_of_base b) (alike_base k b w);
  leaves = λ z. (end z).agrees;
  next = λ z r. (follows_at k (run (state_of_base b) records) (moment_of k (moment_of_base b) records) (end z) r).next;
}
  where
    end : IsLegalOn k b records → Alike (run (state_of_base b) records) (moment_of k (moment_of_base b) records)
    end z = alike_at_end k records (state_of_base b) (moment_of_base b) (alike_base k b w) z

-- from a reached state, and from a base of its moment, the same records are legal: what a base leaves out is never read again
pub base_is_sound : (k : Kind) (s : State) (m : Moment) (b : Based) → Alike s m → IsWellFormed k b → moment_of_base b ≡ m → (records : List (Record Deed)) →
    (IsLegalFrom k s records ↔ IsLegalOn k b records) × (IsLegalFrom k s records → Agrees (run s records) (moment_of k (moment_of_base b) records))
base_is_sound k s m b a w is records =
    let alike : Alike s (moment_of_base b) = subst (Alike s) (sym is) a in
    let here = legal_from k records s (moment_of_base b) alike in
    let there = legal_from k records (state_of_base b) (moment_of_base b) (alike_base k b w) in
    ((λ z. there.1 (here.0 z), λ z. here.1 (there.0 z)), λ z. (alike_at_end k records s (moment_of_base b) alike z).agrees)

-- the empty base is the empty place
pub no_base_is : (state_of_base no_base ≡ empty) × (moment_of_base no_base ≡ beginning)
no_base_is = (refl, refl)

-- and it is well formed
pub no_base_well_formed : (k : Kind) → IsWellFormed k no_base
no_base_well_formed k = record {
  one_side = λ i j d less below. absurd (omega arith);
  line_rises = λ i j d less below. absurd (omega arith);
  kept = All-nil (MayStand k);
  few = by_bound k.bound;
  pairs_rise = λ i j d less below. absurd (omega arith);
  cut_rises = λ i j d less below. absurd (omega arith);
  flags_rise = λ i j d less below. absurd (omega arith);
  apart = λ i j d less below. absurd (omega arith);
  named = All-nil (λ t. (1 ≤ t) × (t ≤ 0));
  seats = λ i j d less below. absurd (omega arith);
  unflagged = All-nil (λ e. e.waits ≡ true → Contains [] e.seat → ⊥);
}
  where
    by_bound : (o : Option ℕ) → MatchOption o ⊤ (λ most. kept_count {X = ℕ} [] ≤ most)
    by_bound None = tt
    by_bound (Some most) = omega arith
