-- What the deeds leave is the same in the two tellings.
use Rattle.std.proofs.Common.{◌≡◌, ◌≢◌, ◌⊎◌, ◌↔◌, ℕ, ◌<◌, ◌==◌, Bool, true, false, IsSome, is_some, not, [], ◌∷◌, ◌++◌, find, Contains, Option, Some, None, refl, sym, ap, ◌∙◌, subst, inl, inr}
use Rattle.std.specs.Option.{option_map_or}
use Rattle.std.proofs.lemmas.Bool.{false≢true, false_from_ne_true}
use Rattle.std.proofs.lemmas.List.Elements.{Contains-push}
use Rattle.meet_tickets.specs.declared.lines.Entry.{Entry}
use Rattle.meet_tickets.specs.declared.lines.Hold.{Hold}
use Rattle.meet_tickets.specs.declared.lines.Hold.TheVariants.{Free, Waiting, Handed, Served, Cut}
use Rattle.meet_tickets.specs.declared.places.Side.{Side}
use Rattle.meet_tickets.specs.declared.places.Side.TheVariants.{Giver, Taker}
use Rattle.meet_tickets.specs.declared.places.Kind.{Kind}
use Rattle.meet_tickets.specs.Meeting.{end_of, partner, Finds}
use Rattle.meet_tickets.specs.ByLists.{State, Pair, IsOpen, IsInLine, IsNew, without, minus, join, wait, meet, closed}
use Rattle.meet_tickets.specs.BySeat.{Seats, Moment, queued, meets, paired, paired_hold, released, withdrawn, cut_off, interrupted, flagged, cut_ticket, entry_of}
use Rattle.meet_tickets.specs.Agreement.{IsOnly, Holds, Agrees}
use Rattle.meet_tickets.proofs.Lists.Members.{Contains-unfiltered, Contains-filter, ne_not_eqb, IsDistinct-filter, without_first_is, partner_leaves, Contains-partner, find_in_line}
use Rattle.meet_tickets.proofs.Tellings.Whereabouts.{InLine, Reached, IsLess, IsLess-without, reached_closed}
use Rattle.meet_tickets.proofs.Tellings.Holding.{EachHolds, EachFlag, free_hold, place_in_line, held_waiting, held_place, place_of, each_later, each_join, each_wait, each_meet, each_closed, each_cut, each_set, each_clear}

-- a reached state, with what the seats hold and which flags are set
pub record Told (s : State) : Type 0 where
  pub reached : Reached s
  pub held : ℕ → Hold ℕ
  pub raised : ℕ → Bool
  pub holds : EachHolds s held
  pub flags : EachFlag raised s.flags

-- its seats
abbrev pub seats_of : {s : State} → Told s → Seats ℕ
seats_of {s} told = record { line = s.line; holds = told.held; flags = told.raised }

-- its moment
abbrev pub seen : {s : State} → Told s → Moment
seen {s} told = record { last = s.last; seats = seats_of told }

-- a moment with this last ticket
abbrev pub moment_at : ℕ → Seats ℕ → Moment
moment_at last seats = record { last = last; seats = seats }

-- an entry of what a seat holds: its ticket is the seat's open one, and is in the line
pub record HasEntry (s : State) (j : ℕ) (x : Hold ℕ) : Type 0 where
  pub entry : Entry ℕ
  pub found : entry_of s.line x ≡ Some entry
  pub opened : IsOpen s j entry.ticket
  pub lined : IsInLine s entry.ticket

-- what a seat holds has no entry, and nothing of the seat's is in the line
pub record HasNone (s : State) (j : ℕ) (x : Hold ℕ) : Type 0 where
  pub missing : entry_of s.line x ≡ None
  pub none : (t : ℕ) → IsOpen s j t → IsInLine s t → ⊥

-- a seat whose open ticket is elsewhere has nothing in the line
elsewhere : (s : State) (r : Reached s) (j : ℕ) (x : Hold ℕ) → Holds s j x → place_of x ≢ InLine → (t : ℕ) → IsOpen s j t → IsInLine s t → ⊥
elsewhere s r j x h n t o m = n (sym (held_place s r j x h t o).0 ∙ place_in_line s r t m)

-- either what a seat holds has an entry, or it has none
pub entry_cases : (s : State) (r : Reached s) (j : ℕ) (x : Hold ℕ) → Holds s j x → HasEntry s j x ⊎ HasNone s j x
entry_cases s r j Free h = inr (record { missing = refl; none = λ t o m. h t o })
entry_cases s r j (Waiting u) h =
    let f = find_in_line u s.line h.1.0 h.1.1 h.1.2 in
    inl (record { entry = f.0; found = f.1.0; opened = subst (IsOpen s j) (sym f.1.2) h.0.opened; lined = (f.0, f.1.1, refl) })
entry_cases s r j (Handed u v mark) h = inr (record { missing = refl; none = elsewhere s r j (Handed u v mark) h (λ e. cc) })
entry_cases s r j (Served u v mark) h = inr (record { missing = refl; none = elsewhere s r j (Served u v mark) h (λ e. cc) })
entry_cases s r j (Cut u item) h = inr (record { missing = refl; none = elsewhere s r j (Cut u item) h (λ e. cc) })

module _ {s : State} (told : Told s) where
  -- a request is of a seat that holds nothing
  pub free_of : (i t : ℕ) → IsNew s i t → told.held i ≡ Free
  free_of i t n = free_hold s i (told.held i) (told.holds i) n.free

  -- a new ticket of a seat that holds nothing is a request's
  pub new_of : (i t : ℕ) → s.last < t → told.held i ≡ Free → IsNew s i t
  new_of i t above e = record { above = above; free = subst (Holds s i) e (told.holds i) }

  -- a seat that isn't flagged has no flag set
  pub flag_low : (i : ℕ) → (Contains s.flags i → ⊥) → told.raised i ≡ false
  flag_low i n = false_from_ne_true (told.raised i) (λ y. n ((told.flags i).0 y))

  -- a seat with no flag set isn't flagged
  pub flag_absent : (i : ℕ) → told.raised i ≡ false → Contains s.flags i → ⊥
  flag_absent i e m = false≢true (sym e ∙ (told.flags i).1 m)

  -- a request leaves only its ticket
  pub passes_agree : (t : ℕ) → Agrees (record s { last = t }) (moment_at t (seats_of told))
  passes_agree t = record { last = refl; line = refl; holds = each_later s t s.flags told.held told.holds; flags = told.flags }

  -- a request waits
  pub waits_agree : (i t : ℕ) (item : Option ℕ) → IsNew s i t →
      Agrees (wait s (record { ticket = t; seat = i; item = item; waits = true })) (moment_at t (queued (seats_of told) i t item true))
  waits_agree i t item new =
      let e : Entry ℕ = record { ticket = t; seat = i; item = item; waits = true } in
      record { last = refl; line = refl; holds = each_wait s e told.held told.holds new.free; flags = told.flags }

  -- an item is kept
  pub kept_agrees : (i t : ℕ) (item : Option ℕ) →
      Agrees (join s (record { ticket = t; seat = i; item = item; waits = false })) (moment_at t (queued (seats_of told) i t item false))
  kept_agrees i t item =
      let e : Entry ℕ = record { ticket = t; seat = i; item = item; waits = false } in
      record { last = refl; line = refl; holds = each_join s e told.held told.holds; flags = told.flags }

  -- a request meets an entry, if the pair is what the entry's seat holds then
  meets_agree : (k : Kind) (side : Side) (t : ℕ) (item : Option ℕ) (e : Entry ℕ) (pair : Pair) → partner (end_of k.order) s.line side ≡ Some e →
      (IsOnly (meet s t e.ticket pair) e.seat e.ticket → Holds (meet s t e.ticket pair) e.seat (paired_hold (λ mark. mark) e.ticket e.item t item)) →
      Agrees (meet s t e.ticket pair) (moment_at t (meets k (seats_of told) t item side))
  meets_agree k side t item e pair met here = subst (λ seats. Agrees (meet s t e.ticket pair) (moment_at t seats)) (sym one) same
    where
      pairs : Entry ℕ → Seats ℕ
      pairs x = paired (λ mark. mark) (end_of k.order) (seats_of told) t item x

      one : meets k (seats_of told) t item side ≡ pairs e
      one = ap (λ o. option_map_or pairs o (seats_of told)) met

      same : Agrees (meet s t e.ticket pair) (moment_at t (pairs e))
      same = record {
        last = refl;
        line = sym (partner_leaves (end_of k.order) s.line side e told.reached.distinct met);
        holds = each_meet s told.reached t e pair told.held (paired_hold (λ mark. mark) e.ticket e.item t item)
            (Contains-partner (end_of k.order) s.line side e met) told.holds here;
        flags = told.flags;
      }

  -- a giver meets a taker
  pub gives_agree : (k : Kind) (t mark u : ℕ) → Finds k s.line Giver u None →
      Agrees (meet s t u (record { giver = t; taker = u; mark = mark })) (moment_at t (meets k (seats_of told) t (Some mark) Giver))
  gives_agree k t mark u f = subst (λ v. Agrees (left_by v) (moment_at t (meets k (seats_of told) t (Some mark) Giver))) f.2
      (meets_agree k Giver t (Some mark) e (pair e.ticket) f.1 here)
    where
      e : Entry ℕ
      e = f.0

      pair : ℕ → Pair
      pair v = record { giver = t; taker = v; mark = mark }

      left_by : ℕ → State
      left_by v = meet s t v (pair v)

      here : IsOnly (left_by e.ticket) e.seat e.ticket →
          Holds (left_by e.ticket) e.seat (paired_hold (λ m. m) e.ticket e.item t (Some mark))
      here only = subst (λ item. Holds (left_by e.ticket) e.seat (paired_hold (λ m. m) e.ticket item t (Some mark))) (sym f.3)
          (only, Contains-push s.pairs (pair e.ticket))

  -- a taker meets a giver
  pub takes_agree : (k : Kind) (t mark u : ℕ) → Finds k s.line Taker u (Some mark) →
      Agrees (meet s t u (record { giver = u; taker = t; mark = mark })) (moment_at t (meets k (seats_of told) t None Taker))
  takes_agree k t mark u f = subst (λ v. Agrees (left_by v) (moment_at t (meets k (seats_of told) t None Taker))) f.2
      (meets_agree k Taker t None e (pair e.ticket) f.1 here)
    where
      e : Entry ℕ
      e = f.0

      pair : ℕ → Pair
      pair v = record { giver = v; taker = t; mark = mark }

      left_by : ℕ → State
      left_by v = meet s t v (pair v)

      here : IsOnly (left_by e.ticket) e.seat e.ticket → Holds (left_by e.ticket) e.seat (paired_hold (λ m. m) e.ticket e.item t None)
      here only = subst (λ item. Holds (left_by e.ticket) e.seat (paired_hold (λ m. m) e.ticket item t None)) (sym f.3)
          (only, Contains-push s.pairs (pair e.ticket))

  -- the partner's ticket is in the line
  pub partner_in_line : (k : Kind) (side : Side) (u : ℕ) (item : Option ℕ) → Finds k s.line side u item → told.reached.place u ≡ InLine
  partner_in_line k side u item f = place_in_line s told.reached u (f.0, Contains-partner (end_of k.order) s.line side f.0 f.1, f.2)

  -- a ticket that is elsewhere is in no part of the line
  less_elsewhere : (t : ℕ) → told.reached.place t ≢ InLine → IsLess t s.line s.line
  less_elsewhere t n e m = (m, λ q. n (ap told.reached.place (sym q) ∙ told.reached.placed.lined e m))

  -- an open ticket that met ends
  pub ends_agree : (i t : ℕ) → IsOpen s i t → Agrees (closed s t) (moment_at s.last (released (seats_of told) i))
  ends_agree i t o = record {
    last = refl;
    line = refl;
    holds = each_closed s told.reached i t s.line s.cut told.held o told.holds (λ e m n. m) (λ x m n. m);
    flags = told.flags;
  }

  -- the state is reached then
  pub ends_reached : (t : ℕ) → told.reached.place t ≢ InLine → Reached (closed s t)
  ends_reached t n = reached_closed s t s.line s.cut told.reached (less_elsewhere t n) told.reached.distinct (λ x m. m)

  -- an open ticket leaves the line
  pub leaves_agree : (i t : ℕ) → IsOpen s i t →
      Agrees (record (closed s t) { line = without t s.line }) (moment_at s.last (withdrawn (seats_of told) i t))
  leaves_agree i t o = record {
    last = refl;
    line = sym (without_first_is t s.line told.reached.distinct);
    holds = each_closed s told.reached i t (without t s.line) s.cut told.held o told.holds stays (λ x m n. m);
    flags = told.flags;
  }
    where
      stays : (e : Entry ℕ) → Contains s.line e → e.ticket ≢ t → Contains (without t s.line) e
      stays e m n = Contains-filter (λ x. not (x.ticket == t)) s.line e m (ne_not_eqb e.ticket t n)

  -- the state is reached then
  pub leaves_reached : (t : ℕ) → Reached (record (closed s t) { line = without t s.line })
  leaves_reached t =
      let distinct = IsDistinct-filter (λ e. not (e.ticket == t)) s.line told.reached.distinct in
      reached_closed s t (without t s.line) s.cut told.reached (IsLess-without t s.line) distinct (λ x m. m)

  -- an open ticket that was cut is collected
  pub collects_agree : (i t : ℕ) → IsOpen s i t →
      Agrees (record (closed s t) { cut = minus t s.cut }) (moment_at s.last (released (seats_of told) i))
  collects_agree i t o = record {
    last = refl;
    line = refl;
    holds = each_closed s told.reached i t s.line (minus t s.cut) told.held o told.holds (λ e m n. m) stays;
    flags = told.flags;
  }
    where
      stays : (x : ℕ) → Contains s.cut x → x ≢ t → Contains (minus t s.cut) x
      stays x m n = Contains-filter (λ y. not (y == t)) s.cut x m (ne_not_eqb x t n)

  -- the state is reached then
  pub collects_reached : (t : ℕ) → told.reached.place t ≢ InLine → Reached (record (closed s t) { cut = minus t s.cut })
  collects_reached t n =
      reached_closed s t s.line (minus t s.cut) told.reached (less_elsewhere t n) told.reached.distinct
      (λ x m. Contains-unfiltered (λ y. not (y == t)) s.cut x m)

  -- a seat's open ticket is in the line just where what the seat holds has an entry
  pub withdrawn_next : (i t : ℕ) → (IsOpen s i t × IsInLine s t) ↔ ((told.held i ≡ Waiting t) × IsSome (entry_of s.line (told.held i)))
  withdrawn_next i t = (λ z. forward z.0 z.1, λ q. back (subst (Holds s i) q.0 (told.holds i)))
    where
      found : IsInLine s t → IsSome (find (λ x. x.ticket == t) s.line)
      found m = let f = find_in_line t s.line m.0 m.1 m.2 in ap is_some f.1.0

      forward : IsOpen s i t → IsInLine s t → (told.held i ≡ Waiting t) × IsSome (entry_of s.line (told.held i))
      forward o m =
          let e = held_waiting s told.reached i t (told.held i) (told.holds i) o (place_in_line s told.reached t m) in
          (e, subst (λ x. IsSome (entry_of s.line x)) (sym e) (found m))

      back : Holds s i (Waiting t) → IsOpen s i t × IsInLine s t
      back h = (h.0.opened, h.1)

  -- an entry is cut
  cut_agrees : (j : ℕ) (e : Entry ℕ) → IsOpen s j e.ticket →
      Agrees (record s { line = without e.ticket s.line; cut = s.cut ++ e.ticket ∷ [] }) (moment_at s.last (cut_off (seats_of told) j e))
  cut_agrees j e o = record {
    last = refl;
    line = sym (without_first_is e.ticket s.line told.reached.distinct);
    holds = each_cut s told.reached j e.ticket e.item told.held o told.holds;
    flags = told.flags;
  }

  -- a seat's flag is set
  set_agrees : (j : ℕ) → Agrees (record s { flags = j ∷ s.flags }) (moment_at s.last (flagged (seats_of told) j true))
  set_agrees j = record {
    last = refl;
    line = refl;
    holds = each_later s s.last (j ∷ s.flags) told.held told.holds;
    flags = each_set told.raised s.flags j told.flags;
  }

  -- a new ticket clears its seat's flag
  pub clear_agrees : (i t : ℕ) → Agrees (record s { last = t; flags = minus i s.flags }) (moment_at t (flagged (seats_of told) i false))
  clear_agrees i t = record {
    last = refl;
    line = refl;
    holds = each_later s t (minus i s.flags) told.held told.holds;
    flags = each_clear told.raised s.flags i told.flags;
  }

  -- the ticket that an interrupt cuts, where there is one
  pub cut_found : (j : ℕ) (c : HasEntry s j (told.held j)) → cut_ticket (seats_of told) j ≡ c.entry.ticket
  cut_found j c = ap (λ o. option_map_or (λ e. e.ticket) o 0) c.found

  -- an interrupt that cuts nothing has no ticket
  pub cut_missing : (j : ℕ) (c : HasNone s j (told.held j)) → cut_ticket (seats_of told) j ≡ 0
  cut_missing j c = ap (λ o. option_map_or (λ e. e.ticket) o 0) c.missing

  -- what an interrupt leaves, by the entry of what the target holds
  interrupt_of : (j : ℕ) → Option (Entry ℕ) → Seats ℕ
  interrupt_of j o = option_map_or (cut_off (seats_of told) j) o (flagged (seats_of told) j true)

  -- an interrupt cuts the target's entry
  pub cuts_agree : (j t : ℕ) (c : HasEntry s j (told.held j)) → c.entry.ticket ≡ t →
      Agrees (record s { line = without t s.line; cut = s.cut ++ t ∷ [] }) (moment_at s.last (interrupted (seats_of told) j))
  unfolding interrupt_of
  cuts_agree j t c e =
      subst (λ v. Agrees (record s { line = without v s.line; cut = s.cut ++ v ∷ [] }) (moment_at s.last (interrupted (seats_of told) j))) e
      (subst (λ seats. Agrees (record s { line = without c.entry.ticket s.line; cut = s.cut ++ c.entry.ticket ∷ [] }) (moment_at s.last seats))
      (sym (ap (interrupt_of j) c.found)) (cut_agrees j c.entry c.opened))

  -- an interrupt flags a target that has no entry
  pub flags_agree : (j : ℕ) → HasNone s j (told.held j) →
      Agrees (record s { flags = j ∷ s.flags }) (moment_at s.last (interrupted (seats_of told) j))
  unfolding interrupt_of
  flags_agree j c = subst (λ seats. Agrees (record s { flags = j ∷ s.flags }) (moment_at s.last seats)) (sym (ap (interrupt_of j) c.missing)) (set_agrees j)
