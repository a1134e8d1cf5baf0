-- The requests of a base's entries go on one from another, and so do the records of a legal history after them.
use Rattle.std.proofs.Common.{◌≡◌, ◌≢◌, ℕ, ◌≤◌, ◌==◌, refl, sym, ap, ◌∙◌, subst, ⊎_elim, Bool, true, false, Option, Some, None, List, [], ◌∷◌, ◌++◌, map, Contains, arith}
use Rattle.std.specs.Prelude.{nat_lt}
use Rattle.std.specs.List.{flat_map}
use Rattle.std.specs.Option.{option_map_or}
use Rattle.std.proofs.lemmas.Bool.{ne_eqb}
use Rattle.std.proofs.lemmas.List.{append-nil}
use Rattle.std.proofs.lemmas.List.Elements.{All-contains, Contains-append_left, Contains-append_right}
use Rattle.meet_tickets.specs.declared.lines.Entry.{Entry}
use Rattle.meet_tickets.specs.declared.bases.OpenPair.{OpenPair}
use Rattle.meet_tickets.specs.declared.bases.OpenCut.{OpenCut}
use Rattle.meet_tickets.specs.declared.places.Kind.{Kind}
use Rattle.meet_tickets.specs.declared.places.Side.{Side}
use Rattle.meet_tickets.specs.declared.places.Side.TheVariants.{Giver, Taker}
use Rattle.meet_tickets.specs.declared.records.Record.{Record}
use Rattle.meet_tickets.specs.declared.records.Deed.{Deed}
use Rattle.meet_tickets.specs.declared.records.Deed.TheVariants.{Interrupt}
use Rattle.meet_tickets.specs.Bases.{Based, named_in, IsWellFormed, IsLegalOn}
use Rattle.meet_tickets.specs.BySeat.{is_request}
use Rattle.meet_tickets.specs.Fates.{named_by, asked_for, asked_on, met_on, line_record, pair_records, cut_records, opening}
use Rattle.meet_tickets.proofs.Told.Fated.{Joining, Gives, Takes, deed_of, waits_of, blank, only_asked}
use Rattle.meet_tickets.proofs.OnBases.Laying.{said_quiet, quiet_line, quiet_pairs}
use Rattle.meet_tickets.proofs.Lists.Lookups.{AreKeyed, keyed_from, keyed_map, keyed_left, keyed_right, keyed_cross, Contains-map}
use Rattle.meet_tickets.proofs.Lists.Members.{Contains-first, Contains-rest, Contains-cases, Contains-nil}
use Rattle.meet_tickets.proofs.Told.Said.{said, heard, said_of_others, said_of_own}
use Rattle.meet_laws.proofs.Speaking.{Meets, given, taken, asks, meets, cuts, AllGoOn, Speaks, go_on-append}
use Rattle.meet_laws.proofs.Steps.{legal_goes_on}

-- what an entry asked names nobody
asked_names : (item : Option ℕ) (waits : Bool) → named_by (asked_for item waits) ≡ None
asked_names None waits = refl
asked_names (Some m) true = refl
asked_names (Some m) false = refl

asked_asks : (item : Option ℕ) (waits : Bool) → is_request (asked_for item waits) ≡ true
asked_asks None waits = refl
asked_asks (Some m) true = refl
asked_asks (Some m) false = refl

-- of another ticket a request without a partner says nothing
quiet_request : (history : List (Record Deed)) (r : Record Deed) → named_by r.deed ≡ None → (t : ℕ) → r.ticket ≢ t → said (history ++ r ∷ []) t ≡ said history t
quiet_request history r none t other = said_of_others history r t other (ap (λ o. option_map_or (λ u. u == t) o false) none)

-- the requests of the line
lines_go_on : (line : List (Entry ℕ)) (history : List (Record Deed)) → AreKeyed (λ (e : Entry ℕ). e.ticket) line → ((e : Entry ℕ) → Contains line e → said history e.ticket ≡ blank) → AllGoOn history (map line_record line)
lines_go_on [] history keyed new = tt
lines_go_on (e ∷ line) history keyed new = (
  asks (asked_asks e.item e.waits) (asked_names e.item e.waits) (new e (Contains-first e line)),
  lines_go_on line (history ++ line_record e ∷ []) keyed.1
      (λ f n. quiet_request history (line_record e) (asked_names e.item e.waits) f.ticket (λ same. keyed.0 f n (sym same)) ∙ new f (Contains-rest e line f n)),
)

-- how the ticket of a pair joined the line
abbrev joined_on : Side → ℕ → Joining
joined_on Giver m = Gives m
joined_on Taker m = Takes

joined_is : (side : Side) (m : ℕ) → asked_on side m ≡ deed_of (joined_on side m)
joined_is Giver m = refl
joined_is Taker m = refl

met_meets : (side : Side) (m t : ℕ) → Meets (met_on side m t) t (joined_on side m)
met_meets Giver m t = taken
met_meets Taker m t = given

on_asks : (side : Side) (m : ℕ) → is_request (asked_on side m) ≡ true
on_asks Giver m = refl
on_asks Taker m = refl

on_names : (side : Side) (m : ℕ) → named_by (asked_on side m) ≡ None
on_names Giver m = refl
on_names Taker m = refl

on_adds : (side : Side) (m t : ℕ) (numbered : Bool) → heard (asked_on side m) t true false numbered blank ≡ only_asked (asked_on side m)
on_adds Giver m t numbered = refl
on_adds Taker m t numbered = refl

abbrev own_record : OpenPair → Record Deed
own_record p = record { seat = p.seat; ticket = p.ticket; deed = asked_on p.side p.mark }

abbrev partner_record : OpenPair → Record Deed
partner_record p = record { seat = p.seat; ticket = p.partner; deed = met_on p.side p.mark p.ticket }

abbrev pair_names : List OpenPair → List ℕ
pair_names pairs = flat_map (λ p. p.ticket ∷ p.partner ∷ []) pairs

-- the requests of the pairs
pairs_go_on : (pairs : List OpenPair) (history : List (Record Deed)) → AreKeyed (λ t. t) (pair_names pairs) → ((t : ℕ) → Contains (pair_names pairs) t → said history t ≡ blank) → AllGoOn history (flat_map pair_records pairs)
pairs_go_on [] history keyed new = tt
pairs_go_on (p ∷ pairs) history keyed new = (
  asks (on_asks p.side p.mark) (on_names p.side p.mark) own_new,
  (
    meets p.ticket (joined_on p.side p.mark) (met_meets p.side p.mark p.ticket) partner_new own_asked,
    pairs_go_on pairs ((history ++ own_record p ∷ []) ++ partner_record p ∷ []) keyed.1.1 later,
  ),
)
  where
    rest : List ℕ
    rest = flat_map (λ (q : OpenPair). q.ticket ∷ q.partner ∷ []) pairs

    own_new : said history p.ticket ≡ blank
    own_new = new p.ticket (Contains-first p.ticket (p.partner ∷ rest))

    apart : p.partner ≢ p.ticket
    apart = keyed.0 p.partner (Contains-first p.partner rest)

    partner_new : said (history ++ own_record p ∷ []) p.partner ≡ blank
    partner_new = quiet_request history (own_record p) (on_names p.side p.mark) p.partner (λ e. apart (sym e)) ∙ new p.partner (Contains-rest p.ticket (p.partner ∷ rest) p.partner (Contains-first p.partner rest))

    own_asked : said (history ++ own_record p ∷ []) p.ticket ≡ only_asked (deed_of (joined_on p.side p.mark))
    own_asked =
        said_of_own history (own_record p) blank own_new (ap (λ o. option_map_or (λ u. u == p.ticket) o false) (on_names p.side p.mark))
        ∙ on_adds p.side p.mark p.ticket (nat_lt 0 p.ticket) ∙ ap only_asked (joined_is p.side p.mark)

    named : named_by (met_on p.side p.mark p.ticket) ≡ Some p.ticket
    named = by_side p.side
      where
        by_side : (side : Side) → named_by (met_on side p.mark p.ticket) ≡ Some p.ticket
        by_side Giver = refl
        by_side Taker = refl

    later : (t : ℕ) → Contains rest t → said ((history ++ own_record p ∷ []) ++ partner_record p ∷ []) t ≡ blank
    later t n =
        let other : p.ticket ≢ t = λ e. keyed.0 t (Contains-rest p.partner rest t n) (sym e) in
        let other_two : p.partner ≢ t = λ e. keyed.1.0 t n (sym e) in
        said_of_others (history ++ own_record p ∷ []) (partner_record p) t other_two (ap (λ o. option_map_or (λ u. u == t) o false) named ∙ ne_eqb p.ticket t other)
        ∙ quiet_request history (own_record p) (on_names p.side p.mark) t other
        ∙ new t (Contains-rest p.ticket (p.partner ∷ rest) t (Contains-rest p.partner rest t n))

abbrev cut_request : OpenCut → Record Deed
cut_request c = record { seat = c.seat; ticket = c.ticket; deed = asked_for c.item true }

abbrev cut_interrupt : OpenCut → Record Deed
cut_interrupt c = record { seat = c.seat; ticket = c.ticket; deed = Interrupt c.seat }

abbrev joined_by : Option ℕ → Joining
joined_by None = Takes
joined_by (Some m) = Gives m

joined_by_is : (item : Option ℕ) → (asked_for item true ≡ deed_of (joined_by item)) × (waits_of (joined_by item) ≡ true)
joined_by_is None = (refl, refl)
joined_by_is (Some m) = (refl, refl)

by_adds : (item : Option ℕ) (t : ℕ) (numbered : Bool) → heard (asked_for item true) t true false numbered blank ≡ only_asked (asked_for item true)
by_adds None t numbered = refl
by_adds (Some m) t numbered = refl

-- those of the tickets that were cut
cuts_go_on : (cut : List OpenCut) (history : List (Record Deed)) → AreKeyed (λ (c : OpenCut). c.ticket) cut → ((c : OpenCut) → Contains cut c → (1 ≤ c.ticket) × (said history c.ticket ≡ blank)) → AllGoOn history (flat_map cut_records cut)
cuts_go_on [] history keyed new = tt
cuts_go_on (c ∷ cut) history keyed new = (
  asks (asked_asks c.item true) (asked_names c.item true) here.1,
  (
    cuts (joined_by c.item) c.seat refl (let above = here.0 in omega arith) (joined_by_is c.item).1 own_asked,
    cuts_go_on cut ((history ++ cut_request c ∷ []) ++ cut_interrupt c ∷ []) keyed.1 later,
  ),
)
  where
    here : (1 ≤ c.ticket) × (said history c.ticket ≡ blank)
    here = new c (Contains-first c cut)

    own_asked : said (history ++ cut_request c ∷ []) c.ticket ≡ only_asked (deed_of (joined_by c.item))
    own_asked =
        said_of_own history (cut_request c) blank here.1 (ap (λ o. option_map_or (λ u. u == c.ticket) o false) (asked_names c.item true))
        ∙ by_adds c.item c.ticket (nat_lt 0 c.ticket) ∙ ap only_asked (joined_by_is c.item).0

    later : (d : OpenCut) → Contains cut d → (1 ≤ d.ticket) × (said ((history ++ cut_request c ∷ []) ++ cut_interrupt c ∷ []) d.ticket ≡ blank)
    later d n =
        let was = new d (Contains-rest c cut d n) in
        let other : c.ticket ≢ d.ticket = λ e. keyed.0 d n (sym e) in (
          was.0,
          quiet_request (history ++ cut_request c ∷ []) (cut_interrupt c) refl d.ticket other
              ∙ quiet_request history (cut_request c) (asked_names c.item true) d.ticket other ∙ was.1,
        )

module _ (k : Kind) (b : Based) (w : IsWellFormed k b) where
  abbrev line_tickets : List ℕ
  line_tickets = map (λ (e : Entry ℕ). e.ticket) b.line

  abbrev cut_tickets : List ℕ
  cut_tickets = map (λ (c : OpenCut). c.ticket) b.cut

  keyed : AreKeyed (λ t. t) (line_tickets ++ (pair_names b.pairs ++ cut_tickets))
  keyed = keyed_from (λ t. t) (named_in b) w.apart

  rest_keyed : AreKeyed (λ t. t) (pair_names b.pairs ++ cut_tickets)
  rest_keyed = keyed_right (λ t. t) line_tickets (pair_names b.pairs ++ cut_tickets) keyed

  line_quiet : (t : ℕ) → Contains (pair_names b.pairs ++ cut_tickets) t → said (map line_record b.line) t ≡ blank
  line_quiet t n = said_quiet (map line_record b.line) [] t (quiet_line t b.line (λ e m same. keyed_cross (λ u. u) line_tickets (pair_names b.pairs ++ cut_tickets) keyed e.ticket t (Contains-map (λ (x : Entry ℕ). x.ticket) b.line e m) n (sym same)))

  -- the parts of a pair are named
  parts_named : (pairs : List OpenPair) (p : OpenPair) → Contains pairs p → Contains (flat_map (λ (q : OpenPair). q.ticket ∷ q.partner ∷ []) pairs) p.ticket × Contains (flat_map (λ (q : OpenPair). q.ticket ∷ q.partner ∷ []) pairs) p.partner
  parts_named [] p m = absurd (Contains-nil p m)
  parts_named (q ∷ pairs) p m =
      let rest = flat_map (λ (x : OpenPair). x.ticket ∷ x.partner ∷ []) pairs in
      ⊎_elim (λ e. subst (λ x. Contains (q.ticket ∷ q.partner ∷ rest) x.ticket × Contains (q.ticket ∷ q.partner ∷ rest) x.partner) e
      (Contains-first q.ticket (q.partner ∷ rest), Contains-rest q.ticket (q.partner ∷ rest) q.partner (Contains-first q.partner rest)))
      (λ n. (let r = parts_named pairs p n in (Contains-rest q.ticket (q.partner ∷ rest) p.ticket (Contains-rest q.partner rest p.ticket r.0), Contains-rest q.ticket (q.partner ∷ rest) p.partner (Contains-rest q.partner rest p.partner r.1))))
      (Contains-cases q pairs p m)

  pairs_quiet : (t : ℕ) → Contains cut_tickets t → said (map line_record b.line ++ flat_map pair_records b.pairs) t ≡ blank
  pairs_quiet t n =
      said_quiet (flat_map pair_records b.pairs) (map line_record b.line) t (quiet_pairs t b.pairs (λ p m. (let parts = parts_named b.pairs p m in
      (λ same. keyed_cross (λ u. u) (pair_names b.pairs) cut_tickets rest_keyed p.ticket t parts.0 n (sym same), λ same. keyed_cross (λ u. u) (pair_names b.pairs) cut_tickets rest_keyed p.partner t parts.1 n (sym same)))))
      ∙ line_quiet t (Contains-append_right (pair_names b.pairs) cut_tickets t n)

  -- a base's entries speak
  base_speaks : Speaks (opening b)
  base_speaks = go_on-append (map line_record b.line) (flat_map pair_records b.pairs ++ flat_map cut_records b.cut) []
      (lines_go_on b.line [] (keyed_map (λ (e : Entry ℕ). e.ticket) b.line (keyed_left (λ t. t) line_tickets (pair_names b.pairs ++ cut_tickets) keyed)) (λ e n. refl))
      (go_on-append (flat_map pair_records b.pairs) (flat_map cut_records b.cut) (map line_record b.line)
      (pairs_go_on b.pairs (map line_record b.line) (keyed_left (λ t. t) (pair_names b.pairs) cut_tickets rest_keyed) (λ t n. line_quiet t (Contains-append_left (pair_names b.pairs) cut_tickets t n)))
      (cuts_go_on b.cut (map line_record b.line ++ flat_map pair_records b.pairs) (keyed_map (λ (c : OpenCut). c.ticket) b.cut (keyed_right (λ t. t) (pair_names b.pairs) cut_tickets rest_keyed))
      (λ c n. (
        (let name = Contains-map (λ (x : OpenCut). x.ticket) b.cut c n in
            (All-contains (λ u. (1 ≤ u) × (u ≤ b.last)) (named_in b) c.ticket w.named
            (Contains-append_right line_tickets (pair_names b.pairs ++ cut_tickets) c.ticket (Contains-append_right (pair_names b.pairs) cut_tickets c.ticket name))).0),
        pairs_quiet c.ticket (Contains-map (λ (x : OpenCut). x.ticket) b.cut c n),
      ))))

  -- and so do legal records after them
  pub legal_speaks : (records : List (Record Deed)) → IsLegalOn k b records → Speaks (opening b ++ records)
  legal_speaks records legal = go_on-append (opening b) records [] base_speaks (subst (λ h. AllGoOn h records) (append-nil (opening b)) (legal_goes_on k b w records [] legal))
