-- What the entries of a base say, as requests before the first record, fits what it stands for.
use Rattle.std.proofs.Common.{◌≡◌, ◌≢◌, ℕ, ◌<◌, ◌≤◌, ◌==◌, refl, sym, ap, ◌∙◌, subst, ⊎_elim, Bool, true, false, cond, if◌then◌else◌, ◌&&◌, Option, Some, None, is_some, List, [], ◌∷◌, ◌++◌, map, filter, find, Contains, arith}
use Rattle.std.specs.Prelude.{nat_lt}
use Rattle.std.specs.List.{flat_map}
use Rattle.std.specs.Option.{option_map_or}
use Rattle.std.proofs.lemmas.Bool.{cases_eq, cases_Bool, eq-eqb, ne_eqb, lt-ltb, false≢true}
use Rattle.std.proofs.lemmas.List.{append-nil, append_assoc}
use Rattle.meet_tickets.specs.declared.lines.Entry.{Entry}
use Rattle.meet_tickets.specs.declared.lines.Hold.{Hold}
use Rattle.meet_tickets.specs.declared.lines.Hold.TheVariants.{Free, Waiting, Handed, Served, Cut}
use Rattle.meet_tickets.specs.declared.places.Side.{Side}
use Rattle.meet_tickets.specs.declared.places.Side.TheVariants.{Giver, Taker}
use Rattle.meet_tickets.specs.declared.records.Record.{Record}
use Rattle.meet_tickets.specs.declared.records.Deed.{Deed}
use Rattle.meet_tickets.specs.declared.records.Deed.TheVariants.{GiveMeets, TakeMeets, Interrupt}
use Rattle.meet_tickets.specs.declared.bases.OpenPair.{OpenPair}
use Rattle.meet_tickets.specs.declared.bases.OpenCut.{OpenCut}
use Rattle.meet_tickets.specs.BySeat.{put_at, is_request}
use Rattle.meet_tickets.specs.Fates.{named_by, meets_it, tickets_of, asked_for, asked_on, met_on, line_record, pair_records, cut_records}
use Rattle.meet_tickets.specs.Bases.{Held, hold_met, waiting_held, paired_held, cut_held}
use Rattle.meet_tickets.proofs.Lists.Members.{Contains-first, Contains-rest, Contains-filter}
use Rattle.meet_tickets.proofs.Tellings.Whereabouts.{put_at_here, put_at_there}
use Rattle.meet_tickets.proofs.Told.Said.{Said, said, heard, said_of_others, said_of_own, said_of_named}
use Rattle.meet_tickets.proofs.Told.Fated.{Fated, Joining, Gives, Keeps, Takes, deed_of, waits_of, blank, only_asked, only_met, only_cut, weight, hold_weight, IsMet, IsHeld, weight_met, weight_cut}
use Rattle.meet_tickets.proofs.Told.Turns.{asks, keeps, waits_there, sits}
use Rattle.meet_tickets.proofs.Told.Recorded.{tickets_more, tickets_same}
use Rattle.meet_tickets.proofs.Lists.Lookups.{AreKeyed, Contains-map}

-- a record is neither of a ticket nor names it
abbrev pub IsQuiet : ℕ → Record Deed → Type 0
IsQuiet t r = (r.ticket ≢ t) × (meets_it t r ≡ false)

abbrev pub AreQuiet : ℕ → List (Record Deed) → Type 0
AreQuiet t [] = Unit {0}
AreQuiet t (r ∷ rs) = IsQuiet t r × AreQuiet t rs

-- of such a ticket the same is said
pub said_quiet : (rs history : List (Record Deed)) (t : ℕ) → AreQuiet t rs → said (history ++ rs) t ≡ said history t
said_quiet [] history t quiet = ap (λ h. said h t) (append-nil history)
said_quiet (r ∷ rs) history t quiet =
    ap (λ h. said h t) (sym (append_assoc history (r ∷ []) rs)) ∙ said_quiet rs (history ++ r ∷ []) t quiet.1 ∙ said_of_others history r t quiet.0.0 quiet.0.1

pub quiet_append : (t : ℕ) (xs ys : List (Record Deed)) → AreQuiet t xs → AreQuiet t ys → AreQuiet t (xs ++ ys)
quiet_append t [] ys first second = second
quiet_append t (r ∷ xs) ys first second = (first.0, quiet_append t xs ys first.1 second)

-- a request without a partner names nobody
asked_names : (item : Option ℕ) (waits : Bool) → named_by (asked_for item waits) ≡ None
asked_names None waits = refl
asked_names (Some m) true = refl
asked_names (Some m) false = refl

asked_on_names : (side : Side) (m : ℕ) → named_by (asked_on side m) ≡ None
asked_on_names Giver m = refl
asked_on_names Taker m = refl

met_on_names : (side : Side) (m t : ℕ) → named_by (met_on side m t) ≡ Some t
met_on_names Giver m t = refl
met_on_names Taker m t = refl

-- a record that names nobody is quiet of other tickets
quiet_none : (t : ℕ) (r : Record Deed) → named_by r.deed ≡ None → r.ticket ≢ t → IsQuiet t r
quiet_none t r none other = (other, ap (λ o. option_map_or (λ u. u == t) o false) none)

pub quiet_line : (t : ℕ) (line : List (Entry ℕ)) → ((e : Entry ℕ) → Contains line e → e.ticket ≢ t) → AreQuiet t (map line_record line)
quiet_line t [] apart = tt
quiet_line t (e ∷ line) apart = (quiet_none t (line_record e) (asked_names e.item e.waits) (apart e (Contains-first e line)), quiet_line t line (λ x m. apart x (Contains-rest e line x m)))

quiet_pair : (t : ℕ) (p : OpenPair) → p.ticket ≢ t → p.partner ≢ t → AreQuiet t (pair_records p)
quiet_pair t p own other = (
  quiet_none t (record { seat = p.seat; ticket = p.ticket; deed = asked_on p.side p.mark }) (asked_on_names p.side p.mark) own,
  ((other, ap (λ o. option_map_or (λ u. u == t) o false) (met_on_names p.side p.mark p.ticket) ∙ ne_eqb p.ticket t own), tt),
)

pub quiet_pairs : (t : ℕ) (pairs : List OpenPair) → ((p : OpenPair) → Contains pairs p → (p.ticket ≢ t) × (p.partner ≢ t)) → AreQuiet t (flat_map pair_records pairs)
quiet_pairs t [] apart = tt
quiet_pairs t (p ∷ pairs) apart =
    quiet_append t (pair_records p) (flat_map pair_records pairs) (quiet_pair t p (apart p (Contains-first p pairs)).0 (apart p (Contains-first p pairs)).1) (quiet_pairs t pairs (λ q m. apart q (Contains-rest p pairs q m)))

-- what seats hold once these are put there
abbrev pub hold_all : (ℕ → Hold ℕ) → List Held → ℕ → Hold ℕ
hold_all holds [] = holds
hold_all holds (h ∷ hs) = hold_all (put_at holds h.seat h.hold) hs

pub hold_all-append : (holds : ℕ → Hold ℕ) (xs ys : List Held) → hold_all holds (xs ++ ys) ≡ hold_all (hold_all holds xs) ys
hold_all-append holds [] ys = refl
hold_all-append holds (h ∷ xs) ys = hold_all-append (put_at holds h.seat h.hold) xs ys

-- a seat that isn't among them holds what it held
pub hold_all_apart : (holds : ℕ → Hold ℕ) (hs : List Held) (i : ℕ) → ((h : Held) → Contains hs h → h.seat ≢ i) → hold_all holds hs i ≡ holds i
hold_all_apart holds [] i apart = refl
hold_all_apart holds (h ∷ hs) i apart =
    hold_all_apart (put_at holds h.seat h.hold) hs i (λ g m. apart g (Contains-rest h hs g m)) ∙ put_at_there holds h.seat h.hold i (λ e. apart h (Contains-first h hs) (sym e))

-- they are found by their seats
pub hold_all_found : (hs : List Held) (holds : ℕ → Hold ℕ) (i : ℕ) → AreKeyed (λ (h : Held). h.seat) hs → hold_all holds hs i ≡ option_map_or (λ (h : Held). h.hold) (find (λ h. h.seat == i) hs) (holds i)
hold_all_found [] holds i keyed = refl
hold_all_found (h ∷ hs) holds i keyed = ⊎_elim here (λ n. there n (hold_all_found hs (put_at holds h.seat h.hold) i keyed.1)) (cases_eq h.seat i)
  where
    found : Option Held
    found = find (λ g. g.seat == i) hs

    here : h.seat ≡ i → hold_all (put_at holds h.seat h.hold) hs i ≡ option_map_or (λ (g : Held). g.hold) (cond (h.seat == i) (Some h) (find (λ g. g.seat == i) hs)) (holds i)
    here e =
        hold_all_apart (put_at holds h.seat h.hold) hs i (λ g m s. keyed.0 g m (s ∙ sym e))
        ∙ ap (put_at holds h.seat h.hold) (sym e) ∙ put_at_here holds h.seat h.hold
        ∙ ap (λ b. option_map_or (λ (g : Held). g.hold) (cond b (Some h) (find (λ g. g.seat == i) hs)) (holds i)) (sym (eq-eqb h.seat i e))

    there : h.seat ≢ i → hold_all (put_at holds h.seat h.hold) hs i ≡ option_map_or (λ (g : Held). g.hold) (find (λ g. g.seat == i) hs) (put_at holds h.seat h.hold i) →
        hold_all (put_at holds h.seat h.hold) hs i ≡ option_map_or (λ (g : Held). g.hold) (cond (h.seat == i) (Some h) (find (λ g. g.seat == i) hs)) (holds i)
    there n rest =
        rest ∙ ap (λ x. option_map_or (λ (g : Held). g.hold) (find (λ g. g.seat == i) hs) x) (put_at_there holds h.seat h.hold i (λ e. n (sym e)))
        ∙ ap (λ b. option_map_or (λ (g : Held). g.hold) (cond b (Some h) (find (λ g. g.seat == i) hs)) (holds i)) (sym (ne_eqb h.seat i n))

-- how an entry joined the line
abbrev joining : Option ℕ → Bool → Joining
joining None waits = Takes
joining (Some m) true = Gives m
joining (Some m) false = Keeps m

joining_is : (item : Option ℕ) (waits : Bool) → (waits ≡ false → is_some item ≡ true) → (asked_for item waits ≡ deed_of (joining item waits)) × (waits_of (joining item waits) ≡ waits)
joining_is None true may = (refl, refl)
joining_is None false may = absurd (false≢true (may refl))
joining_is (Some m) true may = (refl, refl)
joining_is (Some m) false may = (refl, refl)

joining_asks : (j : Joining) → is_request (deed_of j) ≡ true
joining_asks (Gives m) = refl
joining_asks (Keeps m) = refl
joining_asks Takes = refl

joining_names : (j : Joining) → named_by (deed_of j) ≡ None
joining_names (Gives m) = refl
joining_names (Keeps m) = refl
joining_names Takes = refl

joining_adds : (j : Joining) (t : ℕ) (numbered : Bool) → heard (deed_of j) t true false numbered blank ≡ only_asked (deed_of j)
joining_adds (Gives m) t numbered = refl
joining_adds (Keeps m) t numbered = refl
joining_adds Takes t numbered = refl

module _ (n bound : ℕ) where
  -- what is said so far fits
  abbrev pub Fits : List (Record Deed) → List (Entry ℕ) → (ℕ → Hold ℕ) → Type 0
  Fits history line holds = Fated (said history) (tickets_of history) n line holds bound

  -- an entry's request
  lay_entry : (history : List (Record Deed)) (line : List (Entry ℕ)) (holds : ℕ → Hold ℕ) (e : Entry ℕ) (j : Joining) → Fits history line holds → waits_of j ≡ e.waits → e.ticket ≤ n → said history e.ticket ≡ blank →
      (e.waits ≡ true → (holds e.seat ≡ Free) × (e.seat < bound)) →
      Fits (history ++ record { seat = e.seat; ticket = e.ticket; deed = deed_of j } ∷ []) (line ++ e ∷ []) (if e.waits then put_at holds e.seat (Waiting e.ticket) else holds)
  lay_entry history line holds e j fits waits under unsaid free = ⊎_elim there still (cases_Bool e.waits)
    where
      r : Record Deed
      r = record { seat = e.seat; ticket = e.ticket; deed = deed_of j }

      Left : (ℕ → Hold ℕ) → Type 0
      Left h = Fated (said (history ++ record { seat = e.seat; ticket = e.ticket; deed = deed_of j } ∷ [])) (tickets_of (history ++ record { seat = e.seat; ticket = e.ticket; deed = deed_of j } ∷ [])) n (line ++ e ∷ []) h bound

      others : (x : ℕ) → x ≢ e.ticket → said (history ++ record { seat = e.seat; ticket = e.ticket; deed = deed_of j } ∷ []) x ≡ said history x
      others x apart = said_of_others history (record { seat = e.seat; ticket = e.ticket; deed = deed_of j }) x (λ s. apart (sym s)) (ap (λ o. option_map_or (λ u. u == x) o false) (joining_names j))

      says : said (history ++ record { seat = e.seat; ticket = e.ticket; deed = deed_of j } ∷ []) e.ticket ≡ only_asked (deed_of j)
      says = said_of_own history (record { seat = e.seat; ticket = e.ticket; deed = deed_of j }) blank unsaid (ap (λ o. option_map_or (λ u. u == e.ticket) o false) (joining_names j)) ∙ joining_adds j e.ticket (nat_lt 0 e.ticket)

      asking : is_some (only_asked (deed_of j)).asked ≡ true
      asking = refl

      more : tickets_of (history ++ record { seat = e.seat; ticket = e.ticket; deed = deed_of j } ∷ []) ≡ tickets_of history ++ e.ticket ∷ []
      more = tickets_more history (record { seat = e.seat; ticket = e.ticket; deed = deed_of j }) (joining_asks j)

      there : e.waits ≡ true → Left (if e.waits then put_at holds e.seat (Waiting e.ticket) else holds)
      there w = subst Left (ap (λ b. if b then put_at holds e.seat (Waiting e.ticket) else holds) (sym w))
          (subst (λ ts. Fated (said (history ++ record { seat = e.seat; ticket = e.ticket; deed = deed_of j } ∷ [])) ts n (line ++ e ∷ []) (put_at holds e.seat (Waiting e.ticket)) bound) (sym more)
          (waits_there fits (said (history ++ record { seat = e.seat; ticket = e.ticket; deed = deed_of j } ∷ [])) e.ticket others (only_asked (deed_of j)) refl n (omega arith) under unsaid says j e refl refl waits e.seat (free w).1 (free w).0))

      still : e.waits ≡ false → Left (if e.waits then put_at holds e.seat (Waiting e.ticket) else holds)
      still w = subst Left (ap (λ b. if b then put_at holds e.seat (Waiting e.ticket) else holds) (sym w))
          (subst (λ ts. Fated (said (history ++ record { seat = e.seat; ticket = e.ticket; deed = deed_of j } ∷ [])) ts n (line ++ e ∷ []) holds bound) (sym more)
          (keeps fits (said (history ++ record { seat = e.seat; ticket = e.ticket; deed = deed_of j } ∷ [])) e.ticket others (only_asked (deed_of j)) refl n (omega arith) under unsaid says j e refl refl waits))

  -- a record of the line
  lay_line : (history : List (Record Deed)) (line : List (Entry ℕ)) (holds : ℕ → Hold ℕ) (e : Entry ℕ) → Fits history line holds → (e.waits ≡ false → is_some e.item ≡ true) → e.ticket ≤ n → said history e.ticket ≡ blank →
      (e.waits ≡ true → (holds e.seat ≡ Free) × (e.seat < bound)) →
      Fits (history ++ line_record e ∷ []) (line ++ e ∷ []) (if e.waits then put_at holds e.seat (Waiting e.ticket) else holds)
  lay_line history line holds e fits may under unsaid free =
      let is = joining_is e.item e.waits may in
      subst (λ d. Fits (history ++ record { seat = e.seat; ticket = e.ticket; deed = d } ∷ []) (line ++ e ∷ []) (if e.waits then put_at holds e.seat (Waiting e.ticket) else holds)) (sym is.0)
      (lay_entry history line holds e (joining e.item e.waits) fits is.1 under unsaid free)

  -- the line
  pub lay_lines : (rest : List (Entry ℕ)) (history : List (Record Deed)) (line : List (Entry ℕ)) (holds : ℕ → Hold ℕ) → Fits history line holds →
      ((e : Entry ℕ) → Contains rest e → (e.waits ≡ false → is_some e.item ≡ true) × (e.ticket ≤ n) × (said history e.ticket ≡ blank)) → AreKeyed (λ (e : Entry ℕ). e.ticket) rest →
      ((e : Entry ℕ) → Contains rest e → e.waits ≡ true → (holds e.seat ≡ Free) × (e.seat < bound)) → AreKeyed (λ (h : Held). h.seat) (map waiting_held (filter (λ e. e.waits) rest)) →
      Fits (history ++ map line_record rest) (line ++ rest) (hold_all holds (map waiting_held (filter (λ e. e.waits) rest)))
  lay_lines [] history line holds fits each tickets free seats = subst (λ h. Fits h (line ++ []) holds) (sym (append-nil history)) (subst (λ l. Fits history l holds) (sym (append-nil line)) fits)
  lay_lines (e ∷ rest) history line holds fits each tickets free seats =
      subst (λ h. Fits h (line ++ e ∷ rest) (hold_all holds (map waiting_held (filter (λ x. x.waits) (e ∷ rest))))) (append_assoc history (line_record e ∷ []) (map line_record rest))
      (subst (λ l. Fits ((history ++ line_record e ∷ []) ++ map line_record rest) l (hold_all holds (map waiting_held (filter (λ x. x.waits) (e ∷ rest))))) (append_assoc line (e ∷ []) rest)
      (subst (Fits ((history ++ line_record e ∷ []) ++ map line_record rest) ((line ++ e ∷ []) ++ rest)) (by_test e.waits refl)
      (lay_lines rest (history ++ line_record e ∷ []) (line ++ e ∷ []) (if e.waits then put_at holds e.seat (Waiting e.ticket) else holds) next
      (λ x m. (let was = each x (Contains-rest e rest x m) in (was.0, was.1, said_quiet (line_record e ∷ []) history x.ticket (quiet_none x.ticket (line_record e) (asked_names e.item e.waits) (λ s. tickets.0 x m (sym s)), tt) ∙ was.2)))
      tickets.1 frees later)))
    where
      here : (e.waits ≡ false → is_some e.item ≡ true) × (e.ticket ≤ n) × (said history e.ticket ≡ blank)
      here = each e (Contains-first e rest)

      next : Fits (history ++ line_record e ∷ []) (line ++ e ∷ []) (if e.waits then put_at holds e.seat (Waiting e.ticket) else holds)
      next = lay_line history line holds e fits here.0 here.1 here.2 (free e (Contains-first e rest))

      by_test : (b : Bool) → e.waits ≡ b → hold_all (if e.waits then put_at holds e.seat (Waiting e.ticket) else holds) (map waiting_held (filter (λ x. x.waits) rest)) ≡ hold_all holds (map waiting_held (cond e.waits (e ∷ filter (λ x. x.waits) rest) (filter (λ x. x.waits) rest)))
      by_test true w =
          ap (λ b. hold_all (if b then put_at holds e.seat (Waiting e.ticket) else holds) (map waiting_held (filter (λ x. x.waits) rest))) w
          ∙ ap (λ b. hold_all holds (map waiting_held (cond b (e ∷ filter (λ x. x.waits) rest) (filter (λ x. x.waits) rest)))) (sym w)
      by_test false w =
          ap (λ b. hold_all (if b then put_at holds e.seat (Waiting e.ticket) else holds) (map waiting_held (filter (λ x. x.waits) rest))) w
          ∙ ap (λ b. hold_all holds (map waiting_held (cond b (e ∷ filter (λ x. x.waits) rest) (filter (λ x. x.waits) rest)))) (sym w)

      Keyed : Bool → Type 0
      Keyed b = AreKeyed (λ (h : Held). h.seat) (map waiting_held (cond b (e ∷ filter (λ x. x.waits) rest) (filter (λ x. x.waits) rest)))

      later : AreKeyed (λ (h : Held). h.seat) (map waiting_held (filter (λ x. x.waits) rest))
      later = ⊎_elim (λ w. (let all : AreKeyed (λ (h : Held). h.seat) (map waiting_held (e ∷ filter (λ x. x.waits) rest)) = subst (λ b. AreKeyed (λ (h : Held). h.seat) (map waiting_held (cond b (e ∷ filter (λ x. x.waits) rest) (filter (λ x. x.waits) rest)))) w seats in all.1))
          (λ w. subst (λ b. AreKeyed (λ (h : Held). h.seat) (map waiting_held (cond b (e ∷ filter (λ x. x.waits) rest) (filter (λ x. x.waits) rest)))) w seats) (cases_Bool e.waits)

      frees : (x : Entry ℕ) → Contains rest x → x.waits ≡ true → ((if e.waits then put_at holds e.seat (Waiting e.ticket) else holds) x.seat ≡ Free) × (x.seat < bound)
      frees x m w =
          let was = free x (Contains-rest e rest x m) w in (
            ⊎_elim (λ v. ap (λ b. (if b then put_at holds e.seat (Waiting e.ticket) else holds) x.seat) v
                ∙ put_at_there holds e.seat (Waiting e.ticket) x.seat
                (λ s. (let all : AreKeyed (λ (h : Held). h.seat) (map waiting_held (e ∷ filter (λ y. y.waits) rest)) = subst (λ b. AreKeyed (λ (h : Held). h.seat) (map waiting_held (cond b (e ∷ filter (λ y. y.waits) rest) (filter (λ y. y.waits) rest)))) v seats in
                all.0 (waiting_held x) (Contains-map waiting_held (filter (λ y. y.waits) rest) x (Contains-filter (λ y. y.waits) rest x m w)) s))
                ∙ was.0)
                (λ v. ap (λ b. (if b then put_at holds e.seat (Waiting e.ticket) else holds) x.seat) v ∙ was.0) (cases_Bool e.waits),
            was.1,
          )

  -- how a ticket that was met joined the line
  abbrev joining_on : Side → ℕ → Joining
  joining_on Giver m = Gives m
  joining_on Taker m = Takes

  -- a ticket that waited, and the request that met it
  lay_met : (history : List (Record Deed)) (line : List (Entry ℕ)) (holds : ℕ → Hold ℕ) (i t u : ℕ) (j : Joining) (d : Deed) (x : Hold ℕ) → Fits history line holds → t ≤ n → u ≤ n → t ≢ u → said history t ≡ blank → said history u ≡ blank →
      holds i ≡ Free → i < bound → waits_of j ≡ true → is_request d ≡ true → named_by d ≡ Some t → heard d u true false (nat_lt 0 u) blank ≡ only_asked d → heard d u false true (nat_lt 0 t) (only_asked (deed_of j)) ≡ only_met j u →
      ((w k s : Bool) → weight w k s (only_asked d) ≡ false) → ((f : ℕ → Said) → IsMet u (f t) → IsHeld f x) → ((s : Bool) → hold_weight s x ≡ s) →
      Fits (history ++ record { seat = i; ticket = t; deed = deed_of j } ∷ record { seat = i; ticket = u; deed = d } ∷ []) line (put_at holds i x)
  lay_met history line holds i t u j d x fits under_t under_u apart unsaid_t unsaid_u free below waits request named adds tells light shape weighs =
      subst (λ h. Fits h line (put_at holds i x)) (append_assoc history (record { seat = i; ticket = t; deed = deed_of j } ∷ []) (record { seat = i; ticket = u; deed = d } ∷ []))
      (subst (λ ts. Fated says ts n line (put_at holds i x) bound) (sym more)
      (asks (sits fits middle t middle_others (only_met j u) refl n (omega arith) under_t unsaid_t (put_at_here (said history) t (only_met j u)) i x below free
      (shape middle (j, waits, put_at_here (said history) t (only_met j u))) (λ w k s. weight_met w k s j u ∙ ap (λ b. b && s) waits ∙ sym (weighs s)))
      says u others (only_asked d) refl n (omega arith) under_u (put_at_there (said history) t (only_met j u) u (λ e. apart (sym e)) ∙ unsaid_u) own light))
    where
      first : Record Deed
      first = record { seat = i; ticket = t; deed = deed_of j }

      middle : ℕ → Said
      middle = put_at (said history) t (only_met j u)

      middle_others : (y : ℕ) → y ≢ t → put_at (said history) t (only_met j u) y ≡ said history y
      middle_others y m = put_at_there (said history) t (only_met j u) y m

      says : ℕ → Said
      says = said ((history ++ record { seat = i; ticket = t; deed = deed_of j } ∷ []) ++ record { seat = i; ticket = u; deed = d } ∷ [])

      more : tickets_of ((history ++ record { seat = i; ticket = t; deed = deed_of j } ∷ []) ++ record { seat = i; ticket = u; deed = d } ∷ []) ≡ (tickets_of history ++ t ∷ []) ++ u ∷ []
      more =
          tickets_more (history ++ record { seat = i; ticket = t; deed = deed_of j } ∷ []) (record { seat = i; ticket = u; deed = d }) request
          ∙ ap (λ ts. ts ++ u ∷ []) (tickets_more history (record { seat = i; ticket = t; deed = deed_of j }) (joining_asks j))

      unnamed : (y : ℕ) → meets_it y (record { seat = i; ticket = t; deed = deed_of j }) ≡ false
      unnamed y = ap (λ o. option_map_or (λ v. v == y) o false) (joining_names j)

      unmet : (y : ℕ) → y ≢ t → meets_it y (record { seat = i; ticket = u; deed = d }) ≡ false
      unmet y m = ap (λ o. option_map_or (λ v. v == y) o false) named ∙ ne_eqb t y (λ e. m (sym e))

      first_own : said (history ++ record { seat = i; ticket = t; deed = deed_of j } ∷ []) t ≡ only_asked (deed_of j)
      first_own = said_of_own history (record { seat = i; ticket = t; deed = deed_of j }) blank unsaid_t (unnamed t) ∙ joining_adds j t (nat_lt 0 t)

      first_others : (y : ℕ) → y ≢ t → said (history ++ record { seat = i; ticket = t; deed = deed_of j } ∷ []) y ≡ said history y
      first_others y m = said_of_others history (record { seat = i; ticket = t; deed = deed_of j }) y (λ e. m (sym e)) (unnamed y)

      own : said ((history ++ record { seat = i; ticket = t; deed = deed_of j } ∷ []) ++ record { seat = i; ticket = u; deed = d } ∷ []) u ≡ only_asked d
      own = said_of_own (history ++ record { seat = i; ticket = t; deed = deed_of j } ∷ []) (record { seat = i; ticket = u; deed = d }) blank (first_others u (λ e. apart (sym e)) ∙ unsaid_u) (unmet u (λ e. apart (sym e))) ∙ adds

      others : (y : ℕ) → y ≢ u → said ((history ++ record { seat = i; ticket = t; deed = deed_of j } ∷ []) ++ record { seat = i; ticket = u; deed = d } ∷ []) y ≡ put_at (said history) t (only_met j u) y
      others y m = ⊎_elim at away (cases_eq y t)
        where
          at : y ≡ t → said ((history ++ record { seat = i; ticket = t; deed = deed_of j } ∷ []) ++ record { seat = i; ticket = u; deed = d } ∷ []) y ≡ put_at (said history) t (only_met j u) y
          at e = subst (λ v. said ((history ++ record { seat = i; ticket = t; deed = deed_of j } ∷ []) ++ record { seat = i; ticket = u; deed = d } ∷ []) v ≡ put_at (said history) t (only_met j u) v) (sym e)
              (said_of_named (history ++ record { seat = i; ticket = t; deed = deed_of j } ∷ []) (record { seat = i; ticket = u; deed = d }) t (only_asked (deed_of j)) first_own (λ s. apart (sym s)) named ∙ tells ∙ sym (put_at_here (said history) t (only_met j u)))

          away : y ≢ t → said ((history ++ record { seat = i; ticket = t; deed = deed_of j } ∷ []) ++ record { seat = i; ticket = u; deed = d } ∷ []) y ≡ put_at (said history) t (only_met j u) y
          away l = said_of_others (history ++ record { seat = i; ticket = t; deed = deed_of j } ∷ []) (record { seat = i; ticket = u; deed = d }) y (λ e. m (sym e)) (unmet y l) ∙ first_others y l ∙ sym (put_at_there (said history) t (only_met j u) y l)

  -- a pair
  lay_pair : (history : List (Record Deed)) (line : List (Entry ℕ)) (holds : ℕ → Hold ℕ) (i t u m : ℕ) (side : Side) → Fits history line holds → t ≤ n → u ≤ n → t ≢ u → said history t ≡ blank → said history u ≡ blank →
      holds i ≡ Free → i < bound →
      Fits (history ++ record { seat = i; ticket = t; deed = asked_on side m } ∷ record { seat = i; ticket = u; deed = met_on side m t } ∷ []) line (put_at holds i (hold_met side t u m))
  lay_pair history line holds i t u m Giver fits under_t under_u apart unsaid_t unsaid_u free below =
      lay_met history line holds i t u (Gives m) (TakeMeets m t) (Handed t u m) fits under_t under_u apart unsaid_t unsaid_u free below refl refl refl refl refl (λ w k s. refl) (λ f met. met) (λ s. refl)
  lay_pair history line holds i t u m Taker fits under_t under_u apart unsaid_t unsaid_u free below =
      lay_met history line holds i t u Takes (GiveMeets m t) (Served t u m) fits under_t under_u apart unsaid_t unsaid_u free below refl refl refl refl refl (λ w k s. refl) (λ f met. met) (λ s. refl)

  -- the pairs
  pub lay_pairs : (pairs : List OpenPair) (history : List (Record Deed)) (line : List (Entry ℕ)) (holds : ℕ → Hold ℕ) → Fits history line holds →
      ((t : ℕ) → Contains (flat_map (λ (p : OpenPair). p.ticket ∷ p.partner ∷ []) pairs) t → (t ≤ n) × (said history t ≡ blank)) → AreKeyed (λ t. t) (flat_map (λ (p : OpenPair). p.ticket ∷ p.partner ∷ []) pairs) →
      ((h : Held) → Contains (map paired_held pairs) h → (holds h.seat ≡ Free) × (h.seat < bound)) → AreKeyed (λ (h : Held). h.seat) (map paired_held pairs) →
      Fits (history ++ flat_map pair_records pairs) line (hold_all holds (map paired_held pairs))
  lay_pairs [] history line holds fits each tickets free seats = subst (λ h. Fits h line holds) (sym (append-nil history)) fits
  lay_pairs (p ∷ pairs) history line holds fits each tickets free seats =
      subst (λ h. Fits h line (hold_all (put_at holds p.seat (hold_met p.side p.ticket p.partner p.mark)) (map paired_held pairs))) (append_assoc history (pair_records p) (flat_map pair_records pairs))
      (lay_pairs pairs (history ++ pair_records p) line (put_at holds p.seat (hold_met p.side p.ticket p.partner p.mark))
      (lay_pair history line holds p.seat p.ticket p.partner p.mark p.side fits own.0 other.0 (λ e. tickets.0 p.partner (Contains-first p.partner rest) (sym e)) own.1 other.1 here.0 here.1)
      (λ t m. (let was = each t (Contains-rest p.ticket (p.partner ∷ rest) t (Contains-rest p.partner rest t m)) in
      (was.0, said_quiet (pair_records p) history t (quiet_pair t p (λ e. tickets.0 t (Contains-rest p.partner rest t m) (sym e)) (λ e. tickets.1.0 t m (sym e))) ∙ was.1)))
      tickets.1.1
      (λ h m. (let was = free h (Contains-rest (paired_held p) (map paired_held pairs) h m) in (put_at_there holds p.seat (hold_met p.side p.ticket p.partner p.mark) h.seat (λ e. seats.0 h m e) ∙ was.0, was.1)))
      seats.1)
    where
      rest : List ℕ
      rest = flat_map (λ (q : OpenPair). q.ticket ∷ q.partner ∷ []) pairs

      own : (p.ticket ≤ n) × (said history p.ticket ≡ blank)
      own = each p.ticket (Contains-first p.ticket (p.partner ∷ flat_map (λ (q : OpenPair). q.ticket ∷ q.partner ∷ []) pairs))

      other : (p.partner ≤ n) × (said history p.partner ≡ blank)
      other = each p.partner (Contains-rest p.ticket (p.partner ∷ flat_map (λ (q : OpenPair). q.ticket ∷ q.partner ∷ []) pairs) p.partner (Contains-first p.partner (flat_map (λ (q : OpenPair). q.ticket ∷ q.partner ∷ []) pairs)))

      here : (holds p.seat ≡ Free) × (p.seat < bound)
      here = free (paired_held p) (Contains-first (paired_held p) (map paired_held pairs))

  -- a ticket that was cut
  lay_cut : (history : List (Record Deed)) (line : List (Entry ℕ)) (holds : ℕ → Hold ℕ) (i t : ℕ) (item : Option ℕ) (j : Joining) → Fits history line holds → 1 ≤ t → t ≤ n → said history t ≡ blank →
      holds i ≡ Free → i < bound → asked_for item true ≡ deed_of j → waits_of j ≡ true →
      Fits (history ++ record { seat = i; ticket = t; deed = asked_for item true } ∷ record { seat = i; ticket = t; deed = Interrupt i } ∷ []) line (put_at holds i (Cut t item))
  lay_cut history line holds i t item j fits above under unsaid free below asked waits =
      subst (λ d. Fits (history ++ record { seat = i; ticket = t; deed = d } ∷ record { seat = i; ticket = t; deed = Interrupt i } ∷ []) line (put_at holds i (Cut t item))) (sym asked)
      (subst (λ h. Fits h line (put_at holds i (Cut t item))) (append_assoc history (record { seat = i; ticket = t; deed = deed_of j } ∷ []) (record { seat = i; ticket = t; deed = Interrupt i } ∷ []))
      (subst (λ ts. Fated says ts n line (put_at holds i (Cut t item)) bound) (sym more)
      (sits fits says t others (only_cut j) refl n (omega arith) under unsaid own i (Cut t item) below free (j, waits, own) (λ w k s. weight_cut w k s j ∙ ap (λ b. b && s) waits))))
    where
      says : ℕ → Said
      says = said ((history ++ record { seat = i; ticket = t; deed = deed_of j } ∷ []) ++ record { seat = i; ticket = t; deed = Interrupt i } ∷ [])

      more : tickets_of ((history ++ record { seat = i; ticket = t; deed = deed_of j } ∷ []) ++ record { seat = i; ticket = t; deed = Interrupt i } ∷ []) ≡ tickets_of history ++ t ∷ []
      more =
          tickets_same (history ++ record { seat = i; ticket = t; deed = deed_of j } ∷ []) (record { seat = i; ticket = t; deed = Interrupt i }) refl
          ∙ tickets_more history (record { seat = i; ticket = t; deed = deed_of j }) (joining_asks j)

      unnamed : (y : ℕ) → meets_it y (record { seat = i; ticket = t; deed = deed_of j }) ≡ false
      unnamed y = ap (λ o. option_map_or (λ v. v == y) o false) (joining_names j)

      others : (y : ℕ) → y ≢ t → said ((history ++ record { seat = i; ticket = t; deed = deed_of j } ∷ []) ++ record { seat = i; ticket = t; deed = Interrupt i } ∷ []) y ≡ said history y
      others y m =
          said_of_others (history ++ record { seat = i; ticket = t; deed = deed_of j } ∷ []) (record { seat = i; ticket = t; deed = Interrupt i }) y (λ e. m (sym e)) refl
          ∙ said_of_others history (record { seat = i; ticket = t; deed = deed_of j }) y (λ e. m (sym e)) (unnamed y)

      own : said ((history ++ record { seat = i; ticket = t; deed = deed_of j } ∷ []) ++ record { seat = i; ticket = t; deed = Interrupt i } ∷ []) t ≡ only_cut j
      own =
          said_of_own (history ++ record { seat = i; ticket = t; deed = deed_of j } ∷ []) (record { seat = i; ticket = t; deed = Interrupt i }) (only_asked (deed_of j))
          (said_of_own history (record { seat = i; ticket = t; deed = deed_of j }) blank unsaid (unnamed t) ∙ joining_adds j t (nat_lt 0 t)) refl
          ∙ ap (λ b. heard (Interrupt i) t true false b (only_asked (deed_of j))) (lt-ltb 0 t (omega arith))

  -- the cut
  pub lay_cuts : (cuts : List OpenCut) (history : List (Record Deed)) (line : List (Entry ℕ)) (holds : ℕ → Hold ℕ) → Fits history line holds →
      ((c : OpenCut) → Contains cuts c → (1 ≤ c.ticket) × (c.ticket ≤ n) × (said history c.ticket ≡ blank)) → AreKeyed (λ (c : OpenCut). c.ticket) cuts →
      ((h : Held) → Contains (map cut_held cuts) h → (holds h.seat ≡ Free) × (h.seat < bound)) → AreKeyed (λ (h : Held). h.seat) (map cut_held cuts) →
      Fits (history ++ flat_map cut_records cuts) line (hold_all holds (map cut_held cuts))
  lay_cuts [] history line holds fits each tickets free seats = subst (λ h. Fits h line holds) (sym (append-nil history)) fits
  lay_cuts (c ∷ cuts) history line holds fits each tickets free seats =
      subst (λ h. Fits h line (hold_all (put_at holds c.seat (Cut c.ticket c.item)) (map cut_held cuts))) (append_assoc history (cut_records c) (flat_map cut_records cuts))
      (lay_cuts cuts (history ++ cut_records c) line (put_at holds c.seat (Cut c.ticket c.item)) (by_item c.item refl)
      (λ x m. (let was = each x (Contains-rest c cuts x m) in (was.0, was.1, said_quiet (cut_records c) history x.ticket (quiet_cut x.ticket (λ e. tickets.0 x m (sym e))) ∙ was.2)))
      tickets.1
      (λ h m. (let was = free h (Contains-rest (cut_held c) (map cut_held cuts) h m) in (put_at_there holds c.seat (Cut c.ticket c.item) h.seat (λ e. seats.0 h m e) ∙ was.0, was.1)))
      seats.1)
    where
      own : (1 ≤ c.ticket) × (c.ticket ≤ n) × (said history c.ticket ≡ blank)
      own = each c (Contains-first c cuts)

      here : (holds c.seat ≡ Free) × (c.seat < bound)
      here = free (cut_held c) (Contains-first (cut_held c) (map cut_held cuts))

      quiet_cut : (t : ℕ) → c.ticket ≢ t → AreQuiet t (cut_records c)
      quiet_cut t apart = (quiet_none t (record { seat = c.seat; ticket = c.ticket; deed = asked_for c.item true }) (asked_names c.item true) apart, ((apart, refl), tt))

      by_item : (item : Option ℕ) → c.item ≡ item → Fits (history ++ cut_records c) line (put_at holds c.seat (Cut c.ticket c.item))
      by_item None e = lay_cut history line holds c.seat c.ticket c.item Takes fits own.0 own.1 own.2 here.0 here.1 (ap (λ o. asked_for o true) e) refl
      by_item (Some m) e = lay_cut history line holds c.seat c.ticket c.item (Gives m) fits own.0 own.1 own.2 here.0 here.1 (ap (λ o. asked_for o true) e) refl
