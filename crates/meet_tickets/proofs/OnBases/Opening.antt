-- The requests of a base's entries: they have the tickets that it names, and each is that of its ticket.
use Rattle.std.proofs.Common.{◌≡◌, ℕ, ◌==◌, refl, sym, ap, ◌∙◌, subst, Bool, true, false, cond, ◌&&◌, ⊎_elim, Option, Some, None, option_map, List, [], ◌∷◌, ◌++◌, map, filter, find, Contains}
use Rattle.std.specs.List.{flat_map}
use Rattle.std.proofs.lemmas.List.{map-append}
use Rattle.std.proofs.lemmas.List.Elements.{filter-append, Contains-append_left, Contains-append_right}
use Rattle.meet_tickets.specs.declared.lines.Entry.{Entry}
use Rattle.meet_tickets.specs.declared.places.Side.{Side}
use Rattle.meet_tickets.specs.declared.places.Side.TheVariants.{Giver, Taker}
use Rattle.meet_tickets.specs.declared.places.Kind.{Kind}
use Rattle.meet_tickets.specs.declared.records.Record.{Record}
use Rattle.meet_tickets.specs.declared.records.Deed.{Deed}
use Rattle.meet_tickets.specs.declared.records.Deed.TheVariants.{Interrupt}
use Rattle.meet_tickets.specs.declared.bases.OpenPair.{OpenPair}
use Rattle.meet_tickets.specs.declared.bases.OpenCut.{OpenCut}
use Rattle.meet_tickets.specs.BySeat.{is_request}
use Rattle.meet_tickets.specs.Bases.{Based, named_in, IsWellFormed}
use Rattle.meet_tickets.specs.Fates.{request_of, tickets_of, asked_for, asked_on, met_on, line_record, pair_records, cut_records, opening}
use Rattle.meet_tickets.proofs.Lists.Members.{Contains-first, Contains-rest, Contains-cases, Contains-nil, Contains-filter}
use Rattle.meet_tickets.proofs.Lists.Lookups.{AreKeyed, keyed_from, keyed_map, find_keyed, Contains-map}

-- what is found by two tests is found by the second among those that pass the first
find_both : {X : Type 0} (p q : X → Bool) (xs : List X) → find (λ x. p x && q x) xs ≡ find q (filter p xs)
find_both p q [] = refl
find_both {X} p q (x ∷ xs) = by_test (p x) (find_both p q xs)
  where
    by_test : (b : Bool) → find (λ y. p y && q y) xs ≡ find q (filter p xs) →
        cond (b && q x) (Some x) (find (λ y. p y && q y) xs) ≡ find q (cond b (x ∷ filter p xs) (filter p xs))
    by_test true rest = ap (cond (q x) (Some x)) rest
    by_test false rest = rest

-- where no two requests have one ticket, each is that of its ticket
request_is : (history : List (Record Deed)) (r : Record Deed) → AreKeyed (λ t. t) (tickets_of history) →
    Contains history r → is_request r.deed ≡ true → request_of history r.ticket ≡ Some r.deed
request_is history r keyed there request =
    let asks = λ (q : Record Deed). is_request q.deed in
    let own = keyed_map (λ (q : Record Deed). q.ticket) (filter asks history) keyed in
    let among = Contains-filter asks history r there request in
    ap (option_map (λ (q : Record Deed). q.deed)) (
    find_both asks (λ q. q.ticket == r.ticket) history
    ∙ find_keyed (λ (q : Record Deed). q.ticket) (filter asks history) r own among)

-- a request in front has its ticket first
asks_first : (r : Record Deed) (rs : List (Record Deed)) → is_request r.deed ≡ true →
    tickets_of (r ∷ rs) ≡ r.ticket ∷ tickets_of rs
asks_first r rs request =
    let rest = filter (λ (q : Record Deed). is_request q.deed) rs in
    ap (λ b. map (λ (q : Record Deed). q.ticket) (cond b (r ∷ rest) rest)) request

tickets-append : (xs ys : List (Record Deed)) → tickets_of (xs ++ ys) ≡ tickets_of xs ++ tickets_of ys
tickets-append xs ys =
    ap (map (λ q. q.ticket)) (filter-append (λ q. is_request q.deed) xs ys)
    ∙ map-append (λ q. q.ticket) (filter (λ q. is_request q.deed) xs) (filter (λ q. is_request q.deed) ys)

-- these are requests
asked_for_asks : (item : Option ℕ) (waits : Bool) → is_request (asked_for item waits) ≡ true
asked_for_asks None waits = refl
asked_for_asks (Some m) true = refl
asked_for_asks (Some m) false = refl

asked_on_asks : (side : Side) (m : ℕ) → is_request (asked_on side m) ≡ true
asked_on_asks Giver m = refl
asked_on_asks Taker m = refl

met_on_asks : (side : Side) (m t : ℕ) → is_request (met_on side m t) ≡ true
met_on_asks Giver m t = refl
met_on_asks Taker m t = refl

-- the records of a base's entries, one by one
abbrev own_record : OpenPair → Record Deed
own_record p = record { seat = p.seat; ticket = p.ticket; deed = asked_on p.side p.mark }

abbrev partner_record : OpenPair → Record Deed
partner_record p = record { seat = p.seat; ticket = p.partner; deed = met_on p.side p.mark p.ticket }

abbrev cut_request : OpenCut → Record Deed
cut_request c = record { seat = c.seat; ticket = c.ticket; deed = asked_for c.item true }

abbrev cut_interrupt : OpenCut → Record Deed
cut_interrupt c = record { seat = c.seat; ticket = c.ticket; deed = Interrupt c.seat }

-- their requests have the tickets that the base names
line_tickets : (line : List (Entry ℕ)) → tickets_of (map line_record line) ≡ map (λ e. e.ticket) line
line_tickets [] = refl
line_tickets (e ∷ line) =
    asks_first (line_record e) (map line_record line) (asked_for_asks e.item e.waits)
    ∙ ap (λ ts. e.ticket ∷ ts) (line_tickets line)

pair_tickets : (pairs : List OpenPair) →
    tickets_of (flat_map pair_records pairs) ≡ flat_map (λ p. p.ticket ∷ p.partner ∷ []) pairs
pair_tickets [] = refl
pair_tickets (p ∷ pairs) =
    let rest = flat_map pair_records pairs in
    asks_first (own_record p) (partner_record p ∷ rest) (asked_on_asks p.side p.mark)
    ∙ ap (λ ts. p.ticket ∷ ts) (asks_first (partner_record p) rest (met_on_asks p.side p.mark p.ticket))
    ∙ ap (λ ts. p.ticket ∷ p.partner ∷ ts) (pair_tickets pairs)

cut_tickets : (cuts : List OpenCut) → tickets_of (flat_map cut_records cuts) ≡ map (λ c. c.ticket) cuts
cut_tickets [] = refl
cut_tickets (c ∷ cuts) =
    asks_first (cut_request c) (cut_interrupt c ∷ flat_map cut_records cuts) (asked_for_asks c.item true)
    ∙ ap (λ ts. c.ticket ∷ ts) (cut_tickets cuts)

-- what an element gives is in the joined lists
flat_there : {X Y : Type 0} (f : X → List Y) (xs : List X) (x : X) (y : Y) → Contains xs x → Contains (f x) y →
    Contains (flat_map f xs) y
flat_there f [] x y m n = absurd (Contains-nil x m)
flat_there {X} f (z ∷ xs) x y m n =
    ⊎_elim (λ e. Contains-append_left (f z) (flat_map f xs) y (subst (λ (w : X). Contains (f w) y) (sym e) n))
    (λ l. Contains-append_right (f z) (flat_map f xs) y (flat_there f xs x y l n)) (Contains-cases z xs x m)

module _ (k : Kind) (b : Based) (w : IsWellFormed k b) where
  abbrev lines : List (Record Deed)
  lines = map line_record b.line

  abbrev pairs : List (Record Deed)
  pairs = flat_map pair_records b.pairs

  abbrev cuts : List (Record Deed)
  cuts = flat_map cut_records b.cut

  opening_tickets : tickets_of (lines ++ (pairs ++ cuts)) ≡ named_in b
  opening_tickets =
      tickets-append lines (pairs ++ cuts)
      ∙ ap (λ ts. ts ++ tickets_of (pairs ++ cuts)) (line_tickets b.line)
      ∙ ap (λ ts. map (λ (e : Entry ℕ). e.ticket) b.line ++ ts) (
      tickets-append pairs cuts
      ∙ ap (λ ts. ts ++ tickets_of cuts) (pair_tickets b.pairs)
      ∙ ap (λ ts. flat_map (λ (p : OpenPair). p.ticket ∷ p.partner ∷ []) b.pairs ++ ts) (cut_tickets b.cut))

  -- each is that of its ticket
  opening_is : (r : Record Deed) → Contains (lines ++ (pairs ++ cuts)) r → is_request r.deed ≡ true →
      request_of (opening b) r.ticket ≡ Some r.deed
  opening_is r there request =
      request_is (opening b) r
      (subst (AreKeyed (λ t. t)) (sym opening_tickets) (keyed_from (λ t. t) (named_in b) w.apart)) there request

  pair_is : (p : OpenPair) (r : Record Deed) → Contains b.pairs p → Contains (pair_records p) r →
      is_request r.deed ≡ true → request_of (opening b) r.ticket ≡ Some r.deed
  pair_is p r m part = opening_is r
      (Contains-append_right lines (pairs ++ cuts) r
      (Contains-append_left pairs cuts r (flat_there pair_records b.pairs p r m part)))

  -- what an entry asked
  pub line_asked : (e : Entry ℕ) → Contains b.line e → request_of (opening b) e.ticket ≡ Some (asked_for e.item e.waits)
  line_asked e m = opening_is (line_record e)
      (Contains-append_left lines (pairs ++ cuts) (line_record e) (Contains-map line_record b.line e m))
      (asked_for_asks e.item e.waits)

  -- what a ticket asked that was met, and what its partner did
  pub own_asked : (p : OpenPair) → Contains b.pairs p →
      request_of (opening b) p.ticket ≡ Some (asked_on p.side p.mark)
  own_asked p m =
      pair_is p (own_record p) m (Contains-first (own_record p) (partner_record p ∷ [])) (asked_on_asks p.side p.mark)

  pub partner_asked : (p : OpenPair) → Contains b.pairs p →
      request_of (opening b) p.partner ≡ Some (met_on p.side p.mark p.ticket)
  partner_asked p m =
      let second = Contains-first (partner_record p) [] in
      pair_is p (partner_record p) m (Contains-rest (own_record p) (partner_record p ∷ []) (partner_record p) second)
      (met_on_asks p.side p.mark p.ticket)

  -- what a ticket asked that was cut
  pub cut_asked : (c : OpenCut) → Contains b.cut c → request_of (opening b) c.ticket ≡ Some (asked_for c.item true)
  cut_asked c m =
      let first = Contains-first (cut_request c) (cut_interrupt c ∷ []) in
      opening_is (cut_request c)
      (Contains-append_right lines (pairs ++ cuts) (cut_request c)
      (Contains-append_right pairs cuts (cut_request c) (flat_there cut_records b.cut c (cut_request c) m first)))
      (asked_for_asks c.item true)
