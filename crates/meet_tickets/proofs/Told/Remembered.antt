-- What a place holds is what was asked: so it is at a base, and each record leaves it so.
use Rattle.std.proofs.Common.{◌≡◌, ℕ, ◌<◌, ◌==◌, refl, sym, ap, ◌∙◌, subst, Bool, true, false, ◌&&◌, if◌then◌else◌, ⊎_elim, Option, Some, None, List, [], ◌∷◌, ◌++◌, map, filter, find, Contains, All, arith}
use Rattle.std.specs.Option.{option_or, option_map_or}
use Rattle.std.proofs.lemmas.Bool.{cond_both, eq-eqb, ne_eqb}
use Rattle.std.proofs.lemmas.List.{append-nil, append_assoc}
use Rattle.std.proofs.lemmas.List.Elements.{All-contains, All-contains_itself, All-weaker, All-push, Contains-append_cases}
use Rattle.meet_tickets.specs.declared.lines.Entry.{Entry}
use Rattle.meet_tickets.specs.declared.lines.Hold.{Hold}
use Rattle.meet_tickets.specs.declared.lines.Hold.TheVariants.{Free, Waiting, Handed, Served, Cut}
use Rattle.meet_tickets.specs.declared.places.Side.{Side}
use Rattle.meet_tickets.specs.declared.places.Side.TheVariants.{Giver, Taker}
use Rattle.meet_tickets.specs.declared.places.Kind.{Kind}
use Rattle.meet_tickets.specs.declared.records.Record.{Record}
use Rattle.meet_tickets.specs.declared.records.Cause.TheVariants.{Cancelled, Expired, Interrupted}
use Rattle.meet_tickets.specs.declared.records.Deed.{Deed}
use Rattle.meet_tickets.specs.declared.records.Deed.TheVariants.{GiveWaits, GiveMeets, GiveFails, GiveKept, TakeWaits, TakeMeets, TakeFails, EntryInterrupted, Done, Got, Withdrawn, Interrupt}
use Rattle.meet_tickets.specs.Meeting.{end_of, Finds}
use Rattle.meet_tickets.specs.BySeat.{Seats, put_at, entry_of, queued, paired, paired_hold, released, withdrawn, cut_off, flagged, interrupted, meets, Allows, seats_after, is_request, Moment, Fits, moment_after, IsLegalBySeatFrom, moment_of}
use Rattle.meet_tickets.specs.Bases.{Based, Held, held_in, hold_met, waiting_held, paired_held, cut_held, state_of_base, moment_of_base, IsWellFormed, IsLegalOn}
use Rattle.meet_tickets.specs.Fates.{request_of, asked_for, asked_on, met_on, opening}
use Rattle.meet_tickets.specs.Asked.{request_on, Remembers}
use Rattle.meet_tickets.proofs.Lists.Members.{Contains-unfiltered, filtered_passes}
use Rattle.meet_tickets.proofs.Line.Sides.{partner-there, All-unmet, All-without_first, found-ticket, found-there}
use Rattle.meet_tickets.proofs.Lists.Lookups.{found_keyed, Contains-mapped}
use Rattle.meet_tickets.proofs.Told.Said.{Said, said_after}
use Rattle.meet_tickets.proofs.OnBases.Based.{tellings_agree_on}
use Rattle.meet_tickets.proofs.Told.Standings.{AreTold}
use Rattle.meet_tickets.proofs.Told.StandingsOn.{bound_of_held, bound_held_is, fits_base}
use Rattle.meet_tickets.proofs.OnBases.Opening.{line_asked, own_asked, partner_asked, cut_asked}

-- an entry is what its request asked
abbrev IsAsked : (ℕ → Option Deed) → Entry ℕ → Type 0
IsAsked asked e = asked e.ticket ≡ Some (asked_for e.item e.waits)

-- what a seat holds is what was asked
abbrev Recalls : (ℕ → Option Deed) → Hold ℕ → Type 0
Recalls asked Free = Unit {0}
Recalls asked (Waiting t) = (item : Option ℕ) × (asked t ≡ Some (asked_for item true))
Recalls asked (Handed t u m) = (asked t ≡ Some (GiveWaits m)) × (asked u ≡ Some (TakeMeets m t))
Recalls asked (Served t u m) = (asked t ≡ Some TakeWaits) × (asked u ≡ Some (GiveMeets m t))
Recalls asked (Cut t item) = asked t ≡ Some (asked_for item true)

-- so it is in the line and at each seat
record Recalled (asked : ℕ → Option Deed) (s : Seats ℕ) : Type 0 where
  line : All (IsAsked asked) s.line
  holds : (i : ℕ) → Recalls asked (s.holds i)

-- and no ticket above the last was asked for, so that a new one isn't
record Known (asked : ℕ → Option Deed) (m : Moment) : Type 0 where
  low : (t : ℕ) → m.last < t → asked t ≡ None
  seats : Recalled asked m.seats

-- in the words of the law
remembers : (asked : ℕ → Option Deed) (s : Seats ℕ) → Recalled asked s → Remembers asked s
remembers asked s r = record {
  line = λ e m. All-contains (IsAsked asked) s.line e r.line m;
  waiting = λ i t is. subst (Recalls asked) is (r.holds i);
  handed = λ i t u m is. (subst (Recalls asked) is (r.holds i)).0;
  handed_to = λ i t u m is. (subst (Recalls asked) is (r.holds i)).1;
  served = λ i t u m is. (subst (Recalls asked) is (r.holds i)).1;
  served_to = λ i t u m is. (subst (Recalls asked) is (r.holds i)).0;
  cut = λ i t item is. subst (Recalls asked) is (r.holds i);
}

-- what was asked stays asked
module _ (asked more : ℕ → Option Deed) (stays : (t : ℕ) (d : Deed) → asked t ≡ Some d → more t ≡ Some d) where
  hold_stays : (hold : Hold ℕ) → Recalls asked hold → Recalls more hold
  hold_stays Free r = tt
  hold_stays (Waiting t) r = (r.0, stays t (asked_for r.0 true) r.1)
  hold_stays (Handed t u m) r = (stays t (GiveWaits m) r.0, stays u (TakeMeets m t) r.1)
  hold_stays (Served t u m) r = (stays t TakeWaits r.0, stays u (GiveMeets m t) r.1)
  hold_stays (Cut t item) r = stays t (asked_for item true) r

  seats_stay : (s : Seats ℕ) → Recalled asked s → Recalled more s
  seats_stay s r = record {
    line = All-weaker (IsAsked asked) (IsAsked more) (λ e. stays e.ticket (asked_for e.item e.waits)) s.line r.line;
    holds = λ i. hold_stays (s.holds i) (r.holds i);
  }

-- the request of a waiting seat's ticket waits, so its entry waits too
waits_too : (own item : Option ℕ) (waits : Bool) → Some (asked_for own waits) ≡ Some (asked_for item true) →
    asked_for own waits ≡ asked_for own true
waits_too None item waits same = refl
waits_too (Some m) item true same = refl
waits_too (Some m) None false same = absurd (cc)
waits_too (Some m) (Some n) false same = absurd (cc)

-- what a deed leaves is what was asked, its own request among it
module _ (k : Kind) (asked : ℕ → Option Deed) (s : Seats ℕ) (r : Recalled asked s) where
  put_recalled : (i : ℕ) (hold : Hold ℕ) → Recalls asked hold → (j : ℕ) → Recalls asked (put_at s.holds i hold j)
  put_recalled i hold here j = cond_both (j == i) hold (s.holds j) (Recalls asked) (λ at. here) (λ away. r.holds j)

  -- an entry at the line's end
  queued_recalled : (i t : ℕ) (item : Option ℕ) (waits : Bool) → asked t ≡ Some (asked_for item waits) →
      Recalled asked (queued s i t item waits)
  queued_recalled i t item waits new = record {
    line = All-push (IsAsked asked) s.line (record { ticket = t; seat = i; item = item; waits = waits }) r.line new;
    holds = cond_both waits (put_at s.holds i (Waiting t)) s.holds (λ holds. (j : ℕ) → Recalls asked (holds j))
        (λ w. put_recalled i (Waiting t) (item, new ∙ ap (λ b. Some (asked_for item b)) w))
        (λ w. r.holds);
  }

  -- a meeting, where the partner's seat holds what was asked if it waits
  meets_recalled : (t u : ℕ) (item other : Option ℕ) (side : Side) → (found : Finds k s.line side u other) →
      (found.0.waits ≡ true → Recalls asked (paired_hold (λ mark. mark) found.0.ticket found.0.item t item)) →
      Recalled asked (meets k s t item side)
  meets_recalled t u item other side found pair =
      let e = found.0 in
      let end = end_of k.order in
      let hold = paired_hold (λ mark. mark) e.ticket e.item t item in
      subst (λ o. Recalled asked (option_map_or (paired (λ mark. mark) end s t item) o s)) (sym found.1) (record {
        line = All-unmet (IsAsked asked) end s.line r.line;
        holds = cond_both e.waits (put_at s.holds e.seat hold) s.holds (λ holds. (j : ℕ) → Recalls asked (holds j))
            (λ w. put_recalled e.seat hold (pair w))
            (λ w. r.holds);
      })

  -- what the partner asked
  entry_met : (side : Side) (u : ℕ) (other : Option ℕ) → (found : Finds k s.line side u other) →
      asked found.0.ticket ≡ Some (asked_for other found.0.waits)
  entry_met side u other found =
      partner-there (IsAsked asked) (end_of k.order) s.line side found.0 r.line found.1
      ∙ ap (λ item. Some (asked_for item found.0.waits)) found.3

  -- a giver meets a taker
  gives_recalled : (t m u : ℕ) → asked t ≡ Some (GiveMeets m u) → Finds k s.line Giver u None →
      Recalled asked (meets k s t (Some m) Giver)
  gives_recalled t m u new found = meets_recalled t u (Some m) None Giver found (λ w.
      subst (λ item. Recalls asked (paired_hold (λ mark. mark) found.0.ticket item t (Some m))) (sym found.3)
      (entry_met Giver u None found, new ∙ ap (λ v. Some (GiveMeets m v)) (sym found.2)))

  -- a taker meets a giver
  takes_recalled : (t m u : ℕ) → asked t ≡ Some (TakeMeets m u) → Finds k s.line Taker u (Some m) →
      Recalled asked (meets k s t None Taker)
  takes_recalled t m u new found = meets_recalled t u None (Some m) Taker found (λ w.
      subst (λ item. Recalls asked (paired_hold (λ mark. mark) found.0.ticket item t None)) (sym found.3) (
        entry_met Taker u (Some m) found ∙ ap (λ b. Some (asked_for (Some m) b)) w,
        new ∙ ap (λ v. Some (TakeMeets m v)) (sym found.2),
      ))

  -- an ending
  released_recalled : (i : ℕ) → Recalled asked (released s i)
  released_recalled i = record { line = r.line; holds = put_recalled i Free tt }

  withdrawn_recalled : (i t : ℕ) → Recalled asked (withdrawn s i t)
  withdrawn_recalled i t = record {
    line = All-without_first (IsAsked asked) t s.line r.line;
    holds = put_recalled i Free tt;
  }

  -- the entry of what a seat holds waits
  entry_asked : (hold : Hold ℕ) (e : Entry ℕ) → Recalls asked hold → entry_of s.line hold ≡ Some e →
      asked e.ticket ≡ Some (asked_for e.item true)
  entry_asked Free e here found = absurd (cc)
  entry_asked (Waiting t) e here found =
      let own = found-there (IsAsked asked) t s.line e r.line found in
      let seat : asked e.ticket ≡ Some (asked_for here.0 true) = ap asked (found-ticket t s.line e found) ∙ here.1 in
      own ∙ ap (λ d. Some d) (waits_too e.item here.0 e.waits (sym own ∙ seat))
  entry_asked (Handed t u m) e here found = absurd (cc)
  entry_asked (Served t u m) e here found = absurd (cc)
  entry_asked (Cut t item) e here found = absurd (cc)

  -- an interrupt
  interrupted_recalled : (j : ℕ) → Recalled asked (interrupted s j)
  interrupted_recalled j = by_found (entry_of s.line (s.holds j)) refl
    where
      by_found : (o : Option (Entry ℕ)) → entry_of s.line (s.holds j) ≡ o →
          Recalled asked (option_map_or (cut_off s j) o (flagged s j true))
      by_found None found = record { line = r.line; holds = r.holds }
      by_found (Some e) found = record {
        line = All-without_first (IsAsked asked) e.ticket s.line r.line;
        holds = put_recalled j (Cut e.ticket e.item) (entry_asked (s.holds j) e (r.holds j) found);
      }

  -- each deed
  deed_recalled : (i t : ℕ) (d : Deed) → (is_request d ≡ true → asked t ≡ Some d) → Allows k s i t d →
      Recalled asked (seats_after k s i t d)
  deed_recalled i t (GiveWaits m) new z = queued_recalled i t (Some m) true (new refl)
  deed_recalled i t (GiveMeets m u) new z = gives_recalled t m u (new refl) z.1
  deed_recalled i t (GiveFails m) new z = r
  deed_recalled i t (GiveKept m) new z = queued_recalled i t (Some m) false (new refl)
  deed_recalled i t TakeWaits new z = queued_recalled i t None true (new refl)
  deed_recalled i t (TakeMeets m u) new z = takes_recalled t m u (new refl) z.1
  deed_recalled i t TakeFails new z = r
  deed_recalled i t (EntryInterrupted side) new z = record { line = r.line; holds = r.holds }
  deed_recalled i t Done new z = released_recalled i
  deed_recalled i t (Got m u) new z = released_recalled i
  deed_recalled i t (Withdrawn Cancelled) new z = withdrawn_recalled i t
  deed_recalled i t (Withdrawn Expired) new z = withdrawn_recalled i t
  deed_recalled i t (Withdrawn Interrupted) new z = released_recalled i
  deed_recalled i t (Interrupt j) new z = interrupted_recalled j

-- what was asked before one more record, and after it
module _ (history : List (Record Deed)) (r : Record Deed) where
  -- what the record asks for a ticket
  abbrev asks : ℕ → Option Deed
  asks x = if is_request r.deed && (r.ticket == x) then Some r.deed else None

  asked_then : (x : ℕ) → request_of (history ++ r ∷ []) x ≡ option_or (request_of history x) (asks x)
  asked_then x = ap (λ (y : Said). y.asked) (said_after history r x)

  asked_still : (x : ℕ) (d : Deed) → request_of history x ≡ Some d → request_of (history ++ r ∷ []) x ≡ Some d
  asked_still x d was = asked_then x ∙ ap (λ o. option_or o (asks x)) was

  -- a new ticket has the request of its record
  asked_new : is_request r.deed ≡ true → request_of history r.ticket ≡ None →
      request_of (history ++ r ∷ []) r.ticket ≡ Some r.deed
  asked_new request was =
      asked_then r.ticket
      ∙ ap (λ o. option_or o (asks r.ticket)) was
      ∙ ap (λ b. if b && (r.ticket == r.ticket) then Some r.deed else None) request
      ∙ ap (λ b. if b then Some r.deed else None) (eq-eqb r.ticket r.ticket refl)

  -- above the last nothing is asked for, then too
  low_then : (last : ℕ) → ((t : ℕ) → last < t → request_of history t ≡ None) →
      (is_request r.deed ≡ true → last < r.ticket) →
      (t : ℕ) → (if is_request r.deed then r.ticket else last) < t → request_of (history ++ r ∷ []) t ≡ None
  low_then last low above t = by_test (is_request r.deed) refl
    where
      by_test : (b : Bool) → is_request r.deed ≡ b → (if b then r.ticket else last) < t →
          request_of (history ++ r ∷ []) t ≡ None
      by_test true request over =
          let less = above request in
          asked_then t
          ∙ ap (λ o. option_or o (asks t)) (low t (omega arith))
          ∙ ap (λ b. if b && (r.ticket == t) then Some r.deed else None) request
          ∙ ap (λ b. if b then Some r.deed else None) (ne_eqb r.ticket t (λ e. omega arith))
      by_test false other over =
          asked_then t
          ∙ ap (λ o. option_or o (asks t)) (low t over)
          ∙ ap (λ b. if b && (r.ticket == t) then Some r.deed else None) other

-- one record leaves it so
known_after : (k : Kind) (history : List (Record Deed)) (m : Moment) (r : Record Deed) →
    Known (request_of history) m → Fits k m r → Known (request_of (history ++ r ∷ [])) (moment_after k m r)
known_after k history m r known fits =
    let more = request_of (history ++ r ∷ []) in
    let still = seats_stay (request_of history) more (asked_still history r) m.seats known.seats in
    let new = λ (request : is_request r.deed ≡ true).
    asked_new history r request (known.low r.ticket (fits.above request)) in
    record {
      low = low_then history r m.last known.low fits.above;
      seats = deed_recalled k more m.seats still r.seat r.ticket r.deed new fits.allowed;
    }

-- and so do all that follow
known_all : (k : Kind) (rest history : List (Record Deed)) (m : Moment) → Known (request_of history) m →
    IsLegalBySeatFrom k m rest → Known (request_of (history ++ rest)) (moment_of k m rest)
known_all k [] history m known legal = subst (λ h. Known (request_of h) m) (sym (append-nil history)) known
known_all k (r ∷ rest) history m known legal =
    subst (λ h. Known (request_of h) (moment_of k m (r ∷ rest))) (append_assoc history (r ∷ []) rest)
    (known_all k rest (history ++ r ∷ []) (moment_after k m r) (known_after k history m r known legal.0) legal.1)

-- what a seat holds that was met is what the two asked
met_recalled : (asked : ℕ → Option Deed) (side : Side) (t u m : ℕ) → asked t ≡ Some (asked_on side m) →
    asked u ≡ Some (met_on side m t) → Recalls asked (hold_met side t u m)
met_recalled asked Giver t u m own other = (own, other)
met_recalled asked Taker t u m own other = (own, other)

module _ (k : Kind) (b : Based) (w : IsWellFormed k b) where
  abbrev asked_first : ℕ → Option Deed
  asked_first = request_of (opening b)

  abbrev waiting : List Held
  waiting = map waiting_held (filter (λ e. e.waits) b.line)

  abbrev pairs : List Held
  pairs = map paired_held b.pairs

  abbrev cuts : List Held
  cuts = map cut_held b.cut

  -- what a seat holds by its base
  held_recalled : (h : Held) → Contains (waiting ++ (pairs ++ cuts)) h → Recalls asked_first h.hold
  held_recalled h there =
      ⊎_elim in_line (λ n. ⊎_elim in_pairs in_cut (Contains-append_cases pairs cuts h n))
      (Contains-append_cases waiting (pairs ++ cuts) h there)
    where
      in_line : Contains waiting h → Recalls asked_first h.hold
      in_line n =
          let f = Contains-mapped waiting_held (filter (λ e. e.waits) b.line) h n in
          let own = line_asked k b w f.0 (Contains-unfiltered (λ e. e.waits) b.line f.0 f.1) in
          let waits = filtered_passes (λ e. e.waits) b.line f.0 f.1 in
          subst (λ (x : Held). Recalls asked_first x.hold) f.2
          (f.0.item, own ∙ ap (λ y. Some (asked_for f.0.item y)) waits)

      in_pairs : Contains pairs h → Recalls asked_first h.hold
      in_pairs n =
          let f = Contains-mapped paired_held b.pairs h n in
          let p = f.0 in
          let own = own_asked k b w p f.1 in
          let other = partner_asked k b w p f.1 in
          subst (λ (x : Held). Recalls asked_first x.hold) f.2
          (met_recalled asked_first p.side p.ticket p.partner p.mark own other)

      in_cut : Contains cuts h → Recalls asked_first h.hold
      in_cut n =
          let f = Contains-mapped cut_held b.cut h n in
          subst (λ (x : Held). Recalls asked_first x.hold) f.2 (cut_asked k b w f.0 f.1)

  known_base : Known (request_of (opening b)) (moment_of_base b)
  known_base = record {
    low = λ t over. ap (λ (x : Said). x.asked) (told.low t over);
    seats = record {
      line = All-weaker (Contains b.line) (IsAsked asked_first) (line_asked k b w) b.line (All-contains_itself b.line);
      holds = λ i. by_found i (find (λ h. h.seat == i) (held_in b)) refl;
    };
  }
    where
      told : AreTold (opening b) (state_of_base b) (moment_of_base b) (bound_of_held (held_in b))
      told = fits_base k b w (bound_of_held (held_in b)) (bound_held_is (held_in b))

      by_found : (i : ℕ) (o : Option Held) → find (λ h. h.seat == i) (held_in b) ≡ o →
          Recalls asked_first (option_map_or (λ (h : Held). h.hold) o Free)
      by_found i None e = tt
      by_found i (Some h) e = held_recalled h (found_keyed (λ (x : Held). x.seat) (held_in b) i h e).0

-- what a place holds after a base and legal records is what was asked
pub remembered : (k : Kind) (b : Based) (records : List (Record Deed)) → IsWellFormed k b → IsLegalOn k b records →
    Remembers (request_on b records) (moment_of k (moment_of_base b) records).seats
remembered k b records w legal =
    let by_seat = (tellings_agree_on k b records w).legal.0 legal in
    let end = known_all k records (opening b) (moment_of_base b) (known_base k b w) by_seat in
    remembers (request_on b records) (moment_of k (moment_of_base b) records).seats end.seats
