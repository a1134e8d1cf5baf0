-- After a base too the numbers of waiting, uncollected and kept tickets are read from what the base and the records say.
use Rattle.std.proofs.Common.{◌≡◌, ℕ, suc, ◌+◌, ◌<◌, ◌≤◌, refl, sym, ap, ◌∙◌, subst, ⊎_elim, Bool, true, false, if◌then◌else◌, List, [], ◌∷◌, ◌++◌, map, filter, Contains, arith}
use Rattle.std.specs.List.{flat_map}
use Rattle.std.proofs.Math.Path.{fun_ext}
use Rattle.std.proofs.lemmas.List.{append_assoc}
use Rattle.std.proofs.lemmas.List.Elements.{All-contains, Contains-append_left, Contains-append_right}
use Rattle.meet_tickets.specs.declared.lines.Entry.{Entry}
use Rattle.meet_tickets.specs.declared.lines.Hold.{Hold}
use Rattle.meet_tickets.specs.declared.lines.Hold.TheVariants.{Free, Cut}
use Rattle.meet_tickets.specs.declared.places.Kind.{Kind}
use Rattle.meet_tickets.specs.declared.records.Record.{Record}
use Rattle.meet_tickets.specs.declared.records.Deed.{Deed}
use Rattle.meet_tickets.specs.declared.bases.OpenPair.{OpenPair}
use Rattle.meet_tickets.specs.declared.bases.OpenCut.{OpenCut}
use Rattle.meet_tickets.specs.Meeting.{waiting_count, kept_count}
use Rattle.meet_tickets.specs.ByLists.{run}
use Rattle.meet_tickets.specs.BySeat.{moment_of}
use Rattle.meet_tickets.specs.Fates.{fate, line_record, pair_records, cut_records, opening, StandsOn}
use Rattle.meet_tickets.specs.Bases.{Based, Held, held_in, named_in, waiting_held, paired_held, cut_held, state_of_base, moment_of_base, MayStand, IsWellFormed, IsLegalOn}
use Rattle.meet_tickets.proofs.Lists.Members.{Contains-filter, Contains-first, Contains-rest, Contains-cases, Contains-nil}
use Rattle.meet_tickets.proofs.Told.Said.{said, fate_of, fate_is}
use Rattle.std.specs.Option.{option_map_or}
use Rattle.meet_tickets.specs.declared.fates.Fate.TheVariants.{Kept, Cut as CutOff, Waiting as StillWaiting}
use Rattle.std.proofs.lemmas.Bool.{true≢false, false≢true}
use Rattle.meet_tickets.proofs.Told.Fated.{Joining, Gives, Keeps, Takes, deed_of, waits_of, only_asked, only_cut, IsHeld}
use Rattle.meet_tickets.proofs.Tellings.Histories.{alike_at_end}
use Rattle.meet_tickets.proofs.OnBases.Based.{alike_base}
use Rattle.meet_tickets.proofs.Lists.Lookups.{AreKeyed, find_keyed, keyed_from, keyed_map, keyed_left, keyed_right, keyed_cross, Contains-map}
use Rattle.meet_tickets.proofs.OnBases.Laying.{Fits, said_quiet, quiet_line, quiet_pairs, hold_all, hold_all-append, hold_all_apart, hold_all_found, lay_lines, lay_pairs, lay_cuts}
use Rattle.meet_tickets.proofs.Told.Standings.{bound_of, below_more, bound_is, AreTold, fits_all, none_weighs, waiting_weighs, kept_weighs, uncollected_weighs, line_waiting, line_kept, line_none, seats_none, seats_settled, settled_first}

-- a bound of the seats that hold something
abbrev pub bound_of_held : List Held → ℕ
bound_of_held [] = 0
bound_of_held (h ∷ hs) = suc h.seat + bound_of_held hs

pub bound_held_is : (hs : List Held) (h : Held) → Contains hs h → h.seat < bound_of_held hs
bound_held_is [] h m = absurd (Contains-nil h m)
bound_held_is (g ∷ hs) h m =
    ⊎_elim (λ e. (let same : g.seat ≡ h.seat = ap (λ (x : Held). x.seat) e in omega arith)) (λ n. (let rest = bound_held_is hs h n in omega arith)) (Contains-cases g hs h m)

module _ (k : Kind) (b : Based) (w : IsWellFormed k b) (bound : ℕ) (below : (h : Held) → Contains (held_in b) h → h.seat < bound) where
  abbrev line_names : List ℕ
  line_names = map (λ (e : Entry ℕ). e.ticket) b.line

  abbrev pair_names : List ℕ
  pair_names = flat_map (λ (p : OpenPair). p.ticket ∷ p.partner ∷ []) b.pairs

  abbrev cut_names : List ℕ
  cut_names = map (λ (c : OpenCut). c.ticket) b.cut

  abbrev line_helds : List Held
  line_helds = map waiting_held (filter (λ e. e.waits) b.line)

  abbrev pair_helds : List Held
  pair_helds = map paired_held b.pairs

  abbrev cut_helds : List Held
  cut_helds = map cut_held b.cut

  names_keyed : AreKeyed (λ t. t) (line_names ++ (pair_names ++ cut_names))
  names_keyed = keyed_from (λ t. t) (named_in b) w.apart

  rest_keyed : AreKeyed (λ t. t) (pair_names ++ cut_names)
  rest_keyed = keyed_right (λ t. t) line_names (pair_names ++ cut_names) names_keyed

  helds_keyed : AreKeyed (λ (h : Held). h.seat) (line_helds ++ (pair_helds ++ cut_helds))
  helds_keyed = keyed_from (λ (h : Held). h.seat) (held_in b) w.seats

  helds_rest_keyed : AreKeyed (λ (h : Held). h.seat) (pair_helds ++ cut_helds)
  helds_rest_keyed = keyed_right (λ (h : Held). h.seat) line_helds (pair_helds ++ cut_helds) helds_keyed

  named_within : (t : ℕ) → Contains (named_in b) t → (1 ≤ t) × (t ≤ b.last)
  named_within t m = All-contains (λ u. (1 ≤ u) × (u ≤ b.last)) (named_in b) t w.named m

  line_named : (t : ℕ) → Contains line_names t → Contains (named_in b) t
  line_named t m = Contains-append_left line_names (pair_names ++ cut_names) t m

  pair_named : (t : ℕ) → Contains pair_names t → Contains (named_in b) t
  pair_named t m = Contains-append_right line_names (pair_names ++ cut_names) t (Contains-append_left pair_names cut_names t m)

  cut_named : (t : ℕ) → Contains cut_names t → Contains (named_in b) t
  cut_named t m = Contains-append_right line_names (pair_names ++ cut_names) t (Contains-append_right pair_names cut_names t m)

  -- nothing is said yet
  fits_first : Fits b.last bound [] [] (λ i. Free)
  fits_first = record {
    low = λ t over. refl;
    once = λ t. refl;
    lined = λ e m. absurd (Contains-nil e m);
    held = λ i. tt;
    free = λ i over. refl;
    weighs = λ x y z. none_weighs x y z bound;
  }

  abbrev line_said : List (Record Deed)
  line_said = map line_record b.line

  fits_line : Fits b.last bound line_said b.line (hold_all (λ i. Free) line_helds)
  fits_line = lay_lines b.last bound b.line [] [] (λ i. Free) fits_first
      (λ e m. (λ still. (All-contains (MayStand k) b.line e w.kept m still).0, (named_within e.ticket (line_named e.ticket (Contains-map (λ (x : Entry ℕ). x.ticket) b.line e m))).1, refl))
      (keyed_map (λ (e : Entry ℕ). e.ticket) b.line (keyed_left (λ t. t) line_names (pair_names ++ cut_names) names_keyed))
      (λ e m waits. (refl, below (waiting_held e) (Contains-append_left line_helds (pair_helds ++ cut_helds) (waiting_held e) (Contains-map waiting_held (filter (λ x. x.waits) b.line) e (Contains-filter (λ x. x.waits) b.line e m waits)))))
      (keyed_left (λ (h : Held). h.seat) line_helds (pair_helds ++ cut_helds) helds_keyed)

  -- of the tickets elsewhere the line says nothing
  line_quiet : (t : ℕ) → Contains (pair_names ++ cut_names) t → said line_said t ≡ said [] t
  line_quiet t m = said_quiet line_said [] t (quiet_line t b.line (λ e n s. keyed_cross (λ u. u) line_names (pair_names ++ cut_names) names_keyed e.ticket t (Contains-map (λ (x : Entry ℕ). x.ticket) b.line e n) m (sym s)))

  abbrev pairs_said : List (Record Deed)
  pairs_said = flat_map pair_records b.pairs

  fits_pairs : Fits b.last bound (line_said ++ pairs_said) b.line (hold_all (hold_all (λ i. Free) line_helds) pair_helds)
  fits_pairs = lay_pairs b.last bound b.pairs line_said b.line (hold_all (λ i. Free) line_helds) fits_line
      (λ t m. ((named_within t (pair_named t m)).1, line_quiet t (Contains-append_left pair_names cut_names t m)))
      (keyed_left (λ t. t) pair_names cut_names rest_keyed)
      (λ h m. (let there = Contains-append_left pair_helds cut_helds h m in
      (hold_all_apart (λ i. Free) line_helds h.seat (λ g n e. keyed_cross (λ (x : Held). x.seat) line_helds (pair_helds ++ cut_helds) helds_keyed g h n there (sym e)), below h (Contains-append_right line_helds (pair_helds ++ cut_helds) h there))))
      (keyed_left (λ (h : Held). h.seat) pair_helds cut_helds helds_rest_keyed)

  -- the parts of a pair are named
  parts_named : (pairs : List OpenPair) (p : OpenPair) → Contains pairs p → Contains (flat_map (λ (q : OpenPair). q.ticket ∷ q.partner ∷ []) pairs) p.ticket × Contains (flat_map (λ (q : OpenPair). q.ticket ∷ q.partner ∷ []) pairs) p.partner
  parts_named [] p m = absurd (Contains-nil p m)
  parts_named (q ∷ pairs) p m =
      let rest = flat_map (λ (x : OpenPair). x.ticket ∷ x.partner ∷ []) pairs in
      ⊎_elim (λ e. subst (λ x. Contains (q.ticket ∷ q.partner ∷ rest) x.ticket × Contains (q.ticket ∷ q.partner ∷ rest) x.partner) e
      (Contains-first q.ticket (q.partner ∷ rest), Contains-rest q.ticket (q.partner ∷ rest) q.partner (Contains-first q.partner rest)))
      (λ n. (let r = parts_named pairs p n in (Contains-rest q.ticket (q.partner ∷ rest) p.ticket (Contains-rest q.partner rest p.ticket r.0), Contains-rest q.ticket (q.partner ∷ rest) p.partner (Contains-rest q.partner rest p.partner r.1))))
      (Contains-cases q pairs p m)

  pairs_quiet : (t : ℕ) → Contains cut_names t → said (line_said ++ pairs_said) t ≡ said line_said t
  pairs_quiet t m = said_quiet pairs_said line_said t (quiet_pairs t b.pairs (λ p n. (let parts = parts_named b.pairs p n in
      (λ s. keyed_cross (λ u. u) pair_names cut_names rest_keyed p.ticket t parts.0 m (sym s), λ s. keyed_cross (λ u. u) pair_names cut_names rest_keyed p.partner t parts.1 m (sym s)))))

  fits_cuts : Fits b.last bound ((line_said ++ pairs_said) ++ flat_map cut_records b.cut) b.line (hold_all (hold_all (hold_all (λ i. Free) line_helds) pair_helds) cut_helds)
  fits_cuts = lay_cuts b.last bound b.cut (line_said ++ pairs_said) b.line (hold_all (hold_all (λ i. Free) line_helds) pair_helds) fits_pairs
      (λ c m. (let name = Contains-map (λ (x : OpenCut). x.ticket) b.cut c m in
      let within = named_within c.ticket (cut_named c.ticket name) in
      (within.0, within.1, pairs_quiet c.ticket name ∙ line_quiet c.ticket (Contains-append_right pair_names cut_names c.ticket name))))
      (keyed_map (λ (c : OpenCut). c.ticket) b.cut (keyed_right (λ t. t) pair_names cut_names rest_keyed))
      (λ h m. (let there = Contains-append_right pair_helds cut_helds h m in (
        hold_all_apart (hold_all (λ i. Free) line_helds) pair_helds h.seat (λ g n e. keyed_cross (λ (x : Held). x.seat) pair_helds cut_helds helds_rest_keyed g h n m (sym e))
            ∙ hold_all_apart (λ i. Free) line_helds h.seat (λ g n e. keyed_cross (λ (x : Held). x.seat) line_helds (pair_helds ++ cut_helds) helds_keyed g h n there (sym e)),
        below h (Contains-append_right line_helds (pair_helds ++ cut_helds) h there),
      )))
      (keyed_right (λ (h : Held). h.seat) pair_helds cut_helds helds_rest_keyed)

  -- what the seats hold then is what the base says
  holds_then : hold_all (hold_all (hold_all (λ i. Free) line_helds) pair_helds) cut_helds ≡ (moment_of_base b).seats.holds
  holds_then =
      sym (ap (λ f. hold_all f cut_helds) (hold_all-append (λ i. Free) line_helds pair_helds))
      ∙ sym (hold_all-append (λ i. Free) (line_helds ++ pair_helds) cut_helds)
      ∙ ap (hold_all (λ i. Free)) (append_assoc line_helds pair_helds cut_helds)
      ∙ fun_ext (λ i. hold_all_found (held_in b) (λ j. Free) i helds_keyed)

  -- what a base's entries say fits what it stands for
  pub fits_base : AreTold (opening b) (state_of_base b) (moment_of_base b) bound
  fits_base = subst (λ h. AreTold h (state_of_base b) (moment_of_base b) bound) (append_assoc line_said pairs_said (flat_map cut_records b.cut))
      (subst (Fits b.last bound ((line_said ++ pairs_said) ++ flat_map cut_records b.cut) b.line) holds_then fits_cuts)

-- the numbers of waiting, uncollected and kept tickets after a base
pub stands_on : (k : Kind) (b : Based) (records : List (Record Deed)) (seats : ℕ) → IsWellFormed k b → IsLegalOn k b records → ((i : ℕ) → seats ≤ i → (moment_of k (moment_of_base b) records).seats.holds i ≡ Free) → StandsOn k b records seats
stands_on k b records seats w legal free = record {
  waiting = waiting_weighs (opening b ++ records) ∙ fits.weighs true false false ∙ total (line_waiting line ∙ ap waiting_count agrees) (seats_none holds bound) ∙ omega arith;
  uncollected = uncollected_weighs (opening b ++ records) ∙ fits.weighs false false true ∙ total (line_none line) (seats_settled holds bound ∙ settled_first holds bound seats (omega arith) free) ∙ omega arith;
  kept = kept_weighs (opening b ++ records) ∙ fits.weighs false true false ∙ total (line_kept line ∙ ap kept_count agrees) (seats_none holds bound) ∙ omega arith;
}
  where
    bound : ℕ
    bound = seats + bound_of records + bound_of_held (held_in b)

    fits : AreTold (opening b ++ records) (run (state_of_base b) records) (moment_of k (moment_of_base b) records) bound
    fits = fits_all k records (opening b) (state_of_base b) (moment_of_base b) bound (alike_base k b w) (below_more (bound_of records) bound records (omega arith) (bound_is records)) legal
        (fits_base k b w bound (λ h m. (let here = bound_held_is (held_in b) h m in omega arith)))

    line : List (Entry ℕ)
    line = (run (state_of_base b) records).line

    holds : ℕ → Hold ℕ
    holds = (moment_of k (moment_of_base b) records).seats.holds

    agrees : line ≡ (moment_of k (moment_of_base b) records).seats.line
    agrees = (alike_at_end k records (state_of_base b) (moment_of_base b) (alike_base k b w) legal).agrees.line

    total : {a b c d : ℕ} → a ≡ b → c ≡ d → a + c ≡ b + d
    total {a} {b} {c} {d} left right = omega (arith, left, right)

-- the fate of what is said of an entry of the line
lined_fate : (waits : Bool) (j : Joining) → waits_of j ≡ waits → fate_of (only_asked (deed_of j)) ≡ (if waits then StillWaiting else Kept)
lined_fate true (Gives m) e = refl
lined_fate false (Gives m) e = absurd (true≢false e)
lined_fate true (Keeps m) e = absurd (false≢true e)
lined_fate false (Keeps m) e = refl
lined_fate true Takes e = refl
lined_fate false Takes e = absurd (true≢false e)

cut_fate : (j : Joining) → waits_of j ≡ true → fate_of (only_cut j) ≡ CutOff
cut_fate (Gives m) e = refl
cut_fate (Keeps m) e = absurd (false≢true e)
cut_fate Takes e = refl

-- the entries of a base have the fates that they show
pub line_fate : (k : Kind) (b : Based) → IsWellFormed k b → (e : Entry ℕ) → Contains b.line e → fate (opening b) e.ticket ≡ (if e.waits then StillWaiting else Kept)
line_fate k b w e m =
    let is = (fits_base k b w (bound_of_held (held_in b)) (bound_held_is (held_in b))).lined e m in
    fate_is (opening b) e.ticket ∙ ap fate_of is.2 ∙ lined_fate e.waits is.0 is.1

pub cut_has_fate : (k : Kind) (b : Based) → IsWellFormed k b → (c : OpenCut) → Contains b.cut c → fate (opening b) c.ticket ≡ CutOff
cut_has_fate k b w c m =
    let there = Contains-append_right (map waiting_held (filter (λ e. e.waits) b.line)) (map paired_held b.pairs ++ map cut_held b.cut) (cut_held c) (Contains-append_right (map paired_held b.pairs) (map cut_held b.cut) (cut_held c) (Contains-map cut_held b.cut c m)) in
    let holds : (moment_of_base b).seats.holds c.seat ≡ Cut c.ticket c.item = ap (λ o. option_map_or (λ (h : Held). h.hold) o Free) (find_keyed (λ (h : Held). h.seat) (held_in b) (cut_held c) (keyed_from (λ (h : Held). h.seat) (held_in b) w.seats) there) in
    let is = subst (IsHeld (said (opening b))) holds ((fits_base k b w (bound_of_held (held_in b)) (bound_held_is (held_in b))).held c.seat) in
    fate_is (opening b) c.ticket ∙ ap fate_of is.2 ∙ cut_fate is.0 is.1
