-- Where a column is left over, each open ticket is drawn.
use Rattle.std.proofs.Common.{◌≡◌, ◌≢◌, ◌⊎◌, ⊎_elim, inl, inr, ℕ, zero, suc, ◌+◌, ◌<◌, ◌≤◌, ◌==◌, not, Bool, true, false, List, [], ◌∷◌, ◌++◌, map, filter, length, Contains, Option, Some, None, ◌||◌, refl, sym, ap, subst, ◌∙◌, arith, length-append}
use Rattle.std.specs.Prelude.{if◌then◌else◌, slice_set, nat_lt}
use Rattle.std.specs.List.{list_any, position}
use Rattle.std.specs.Option.{option_map_or}
use Rattle.std.proofs.lemmas.Bool.{eqb-true, eq-eqb, ne_eqb, true≢false, ltb-false}
use Rattle.std.proofs.lemmas.List.{length-map, length-set}
use Rattle.std.proofs.lemmas.List.Elements.{Contains-append_left, Contains-append_right, Contains-append_cases}
use Rattle.meet_tickets.specs.declared.lines.Entry.{Entry}
use Rattle.meet_tickets.specs.declared.lines.Hold.{Hold}
use Rattle.meet_tickets.specs.declared.lines.Hold.TheVariants.{Free, Waiting, Handed, Served, Cut as CutHold}
use Rattle.meet_tickets.specs.declared.places.Kind.{Kind}
use Rattle.meet_tickets.specs.declared.records.Cause.TheVariants.{Cancelled, Expired, Interrupted}
use Rattle.meet_tickets.specs.declared.records.Deed.{Deed}
use Rattle.meet_tickets.specs.declared.records.Deed.TheVariants.{GiveWaits, GiveMeets, GiveFails, GiveKept, TakeWaits, TakeMeets, TakeFails, EntryInterrupted, Done, Got, Withdrawn, Interrupt}
use Rattle.meet_tickets.specs.declared.records.Record.{Record}
use Rattle.meet_tickets.specs.Agreement.{Holds}
use Rattle.meet_tickets.specs.Bases.{Based, Held, held_in, waiting_held, paired_held, cut_held, state_of_base, moment_of_base}
use Rattle.meet_tickets.specs.ByLists.{State, Open, IsOpen, IsStep, IsLegalFrom, closed, after, run}
use Rattle.meet_tickets.specs.BySeat.{Moment, moment_after}
use Rattle.meet_tickets.proofs.OnBases.Based.{alike_base}
use Rattle.meet_tickets.proofs.Tellings.Histories.{Alike, alike_after}
use Rattle.meet_tickets.proofs.Lists.Lookups.{Contains-map, Contains-mapped}
use Rattle.meet_tickets.proofs.Lists.Members.{Contains-first, Contains-rest, Contains-cases, Contains-nil, Contains-unfiltered, filtered_passes, not_eqb-true}
use Rattle.meet_history.specs.declared.pieces.Piece.{Piece}
use Rattle.meet_history.specs.declared.pieces.Piece.TheVariants.{Stands, Met, Cut, Flagged}
use Rattle.meet_run.specs.Tracing.BaseWording.{pieces_of}
use Rattle.meet_draw.specs.declared.columns.Lane.{Lane}
use Rattle.meet_draw.specs.declared.columns.Lane.TheVariants.{Settled}
use Rattle.meet_draw.specs.declared.columns.Column.{Column}
use Rattle.meet_draw.specs.declared.columns.Change.{Change}
use Rattle.meet_draw.specs.declared.columns.Change.TheVariants.{Nothing, Opens, Ends, Owed, Settles}
use Rattle.meet_draw.specs.declared.rows.Shown.{Shown}
use Rattle.meet_draw.specs.declared.rows.Shown.TheVariants.{Stood}
use Rattle.meet_draw.specs.Columns.{is_clear, waits_as, clear_column, with_column, lane_after, column_after, changed, change_of}
use Rattle.meet_draw.specs.Pictures.{came_from}
use Rattle.meet_draw.specs.Rows.{seat_in, change_in, piece_seat, piece_change, columns_after, columns_behind}
use Rattle.meet_draw.specs.Truth.{IsDrawnFor, OpenTicketsAreDrawn}
use Rattle.meet_draw.proofs.TrueColumns.{came-next, came-end}

-- ---- a seat's column, where one is left over

next-one : (i : ℕ) (c : Column) (columns : List Column) → (list_any (λ d. d.seat == i) columns ≡ true → (d : Column) × Contains columns d × (d.seat ≡ i)) → list_any (λ d. d.seat == i) (c ∷ columns) ≡ true → (d : Column) × Contains (c ∷ columns) d × (d.seat ≡ i)
next-one i c columns rest is = by (c.seat == i) refl is
  where
    by : (own : Bool) → (c.seat == i) ≡ own → (own || list_any (λ d. d.seat == i) columns) ≡ true → (d : Column) × Contains (c ∷ columns) d × (d.seat ≡ i)
    by true own is = (c, Contains-first c columns, eqb-true c.seat i own)
    by false own is = let found = rest is in (found.0, Contains-rest c columns found.0 found.1, found.2)

found-one : (i : ℕ) (columns : List Column) → list_any (λ c. c.seat == i) columns ≡ true → (c : Column) × Contains columns c × (c.seat ≡ i)
found-one i [] is = absurd (true≢false (sym is))
found-one i (c ∷ columns) is = next-one i c columns (found-one i columns) is

module _ (most i : ℕ) (columns : List Column) where
  -- all columns stay, and the seat has one
  pub record Seated (all : List Column) : Type 0 where
    pub stay : (c : Column) → Contains columns c → Contains all c
    pub own : (c : Column) × Contains all c × (c.seat ≡ i)

  retaken-length : (o : Option ℕ) → length (option_map_or (λ j. slice_set columns j (clear_column i)) o columns) ≡ length columns
  retaken-length None = refl
  retaken-length (Some j) = length-set columns j (clear_column i)

  chosen : (any : Bool) → list_any (λ c. c.seat == i) columns ≡ any → (less : Bool) → nat_lt (length columns) most ≡ less → (o : Option ℕ) → length (if any then columns else (if less then columns ++ clear_column i ∷ [] else option_map_or (λ j. slice_set columns j (clear_column i)) o columns)) < most → Seated (if any then columns else (if less then columns ++ clear_column i ∷ [] else option_map_or (λ j. slice_set columns j (clear_column i)) o columns))
  chosen true is less lt o room = record { stay = λ c there. there; own = found-one i columns is }
  chosen false is true lt o room = record {
    stay = λ c there. Contains-append_left columns (clear_column i ∷ []) c there;
    own = (clear_column i, Contains-append_right columns (clear_column i ∷ []) (clear_column i) (Contains-first (clear_column i) []), refl);
  }
  chosen false is false lt o room =
      let most_is : most ≤ length columns = ltb-false (length columns) most lt in
      absurd (omega (arith, retaken-length o))

  seated : length (with_column most i columns) < most → Seated (with_column most i columns)
  seated room = chosen (list_any (λ c. c.seat == i) columns) refl (nat_lt (length columns) most) refl (position (λ c. is_clear c.lane) columns) room

  grown : length columns ≤ length (with_column most i columns)
  grown = by (list_any (λ c. c.seat == i) columns) (nat_lt (length columns) most) (position (λ c. is_clear c.lane) columns)
    where
      by : (any less : Bool) (o : Option ℕ) → length columns ≤ length (if any then columns else (if less then columns ++ clear_column i ∷ [] else option_map_or (λ j. slice_set columns j (clear_column i)) o columns))
      by true less o = omega arith
      by false true o = omega (arith, length-append columns (clear_column i ∷ []))
      by false false o = omega (arith, retaken-length o)

-- ---- rows leave no fewer columns

behind-next : (most : ℕ) (x : Shown) (xs : List Shown) (columns : List Column) → columns_behind most columns (x ∷ xs) ≡ columns_behind most (changed (seat_in x) (change_in x) (with_column most (seat_in x) columns)) xs
unfolding columns_behind columns_after
behind-next most x xs columns = refl

behind-end : (most : ℕ) (columns : List Column) → columns_behind most columns [] ≡ columns
unfolding columns_behind
behind-end most columns = refl

row-grown : (most : ℕ) (x : Shown) (columns : List Column) → length columns ≤ length (changed (seat_in x) (change_in x) (with_column most (seat_in x) columns))
row-grown most x columns =
    let more = grown most (seat_in x) columns in
    let same = length-map {A = Column} {B = Column} (with_column most (seat_in x) columns) (column_after (seat_in x) (change_in x)) in
    omega (arith, more, same)

rows-grown : (most : ℕ) (xs : List Shown) (columns : List Column) → length columns ≤ length (columns_behind most columns xs)
rows-grown most [] columns = let same = ap length (behind-end most columns) in omega (arith, same)
rows-grown most (x ∷ xs) columns =
    let here = row-grown most x columns in
    let rest = rows-grown most xs (changed (seat_in x) (change_in x) (with_column most (seat_in x) columns)) in
    let same = ap length (behind-next most x xs columns) in
    omega (arith, here, rest, same)

-- ---- what stays drawn

stays : (change : Change) (own : Bool) (l : Lane) → is_clear l ≡ false → (change ≡ Ends → own ≡ false) → is_clear (lane_after change own l) ≡ false
stays Nothing own l drawn other = drawn
stays (Opens t) true l drawn other = refl
stays (Opens t) false l drawn other = drawn
stays Ends true l drawn other = absurd (true≢false (other refl))
stays Ends false l drawn other = drawn
stays Owed true l drawn other = refl
stays Owed false l drawn other = drawn
stays (Settles u) own l drawn other = by (waits_as u l)
  where
    by : (met : Bool) → is_clear (if met then Settled else l) ≡ false
    by true = refl
    by false = drawn

module _ (most i : ℕ) (change : Change) (columns : List Column) (room : length (with_column most i columns) < most) where
  -- a drawn seat stays so, but where its own ticket ends
  still : (j : ℕ) → IsDrawnFor columns j → (change ≡ Ends → j ≢ i) → IsDrawnFor (changed i change (with_column most i columns)) j
  still j d other =
      let all = seated most i columns room in
      let c = d.0 in (
        column_after i change c,
        Contains-map (column_after i change) (with_column most i columns) c (all.stay c d.1),
        d.2,
        stays change (c.seat == i) c.lane d.3 (λ ends. ne_eqb c.seat i (λ same. other ends (sym d.2 ∙ same))),
      )

  -- the row's own seat is drawn where its change draws it
  drawn-own : ((l : Lane) → is_clear (lane_after change true l) ≡ false) → IsDrawnFor (changed i change (with_column most i columns)) i
  drawn-own draws =
      let all = seated most i columns room in
      let c = all.own.0 in (
        column_after i change c,
        Contains-map (column_after i change) (with_column most i columns) c all.own.1,
        all.own.2,
        subst (λ own. is_clear (lane_after change own c.lane) ≡ false) (sym (eq-eqb c.seat i all.own.2)) (draws c.lane),
      )

-- ---- a record

-- a seat has one ticket open at most
only_one : (s : State) (i : ℕ) (h : Hold ℕ) → Holds s i h → (t u : ℕ) → IsOpen s i t → IsOpen s i u → t ≡ u
only_one s i Free holds t u one other = absurd (holds t one)
only_one s i (Waiting v) holds t u one other = holds.0.only t one ∙ sym (holds.0.only u other)
only_one s i (Handed v w m) holds t u one other = holds.0.only t one ∙ sym (holds.0.only u other)
only_one s i (Served v w m) holds t u one other = holds.0.only t one ∙ sym (holds.0.only u other)
only_one s i (CutHold v item) holds t u one other = holds.0.only t one ∙ sym (holds.0.only u other)

-- each open ticket's seat is drawn
abbrev AreDrawn : State → List Column → Type 0
AreDrawn s columns = (i t : ℕ) → IsOpen s i t → IsDrawnFor columns i

module _ (s : State) (m : Moment) (alike : Alike s m) (most : ℕ) (columns : List Column) (drawn : AreDrawn s columns) (i t : ℕ) where
  -- a deed that opens no ticket, and ends none
  same : (change : Change) → (change ≡ Ends → ⊥) → length (with_column most i columns) < most → AreDrawn s (changed i change (with_column most i columns))
  same change other room j v held = still most i change columns room j (drawn j v held) (λ ends. absurd (other ends))

  -- one that opens this ticket
  opened : (u : ℕ) (more : List Open) → more ≡ record { ticket = u; seat = i } ∷ [] → length (with_column most i columns) < most → (j v : ℕ) → Contains (s.unended ++ more) (record { ticket = v; seat = j }) → IsDrawnFor (changed i (Opens t) (with_column most i columns)) j
  opened u more is room j v held =
      ⊎_elim (λ (old : IsOpen s j v). still most i (Opens t) columns room j (drawn j v old) (λ ends. absurd (let clash : Opens t ≡ Ends = ends in cc)))
      (λ (new : Contains more (record { ticket = v; seat = j })).
      let own : (record { ticket = u; seat = i }) ≡ record { ticket = v; seat = j } = first_is (record { ticket = u; seat = i }) (record { ticket = v; seat = j }) (subst (λ os. Contains os (record { ticket = v; seat = j })) is new) in
      subst (IsDrawnFor (changed i (Opens t) (with_column most i columns))) (ap (λ o. o.seat) own) (drawn-own most i (Opens t) columns room (λ l. refl)))
      (Contains-append_cases s.unended more (record { ticket = v; seat = j }) held)
    where
      first_is : (o p : Open) → Contains (o ∷ []) p → o ≡ p
      first_is o p there = ⊎_elim (λ (e : o ≡ p). e) (λ (n : Contains [] p). absurd (Contains-nil p n)) (Contains-cases o [] p there)

  -- one that ends it
  ended : IsOpen s i t → length (with_column most i columns) < most → AreDrawn (closed s t) (changed i Ends (with_column most i columns))
  ended held room j v other =
      let old = Contains-unfiltered (λ o. not (o.ticket == t)) s.unended (record { ticket = v; seat = j }) other in
      let apart : v ≢ t = not_eqb-true v t (filtered_passes (λ o. not (o.ticket == t)) s.unended (record { ticket = v; seat = j }) other) in
      still most i Ends columns room j (drawn j v old) (λ ends here. apart (only_one s i (m.seats.holds i) (alike.agrees.holds i) v t (subst (λ h. IsOpen s h v) here old) held))

  cut : (u target : ℕ) → length (with_column most i columns) < most → AreDrawn (after s i u (Interrupt target)) (changed i (Settles u) (with_column most i columns))
  cut zero target room = same (Settles 0) (λ e. cc) room
  cut (suc u) target room = same (Settles (suc u)) (λ e. cc) room

  stepped : (k : Kind) (d : Deed) → IsStep k s i t d → length (with_column most i columns) < most → AreDrawn (after s i t d) (changed i (change_of t d) (with_column most i columns))
  stepped k (GiveWaits mark) z room = opened t _ refl room
  stepped k (GiveMeets mark u) z room = same (Settles u) (λ e. cc) room
  stepped k (GiveFails mark) z room = same Nothing (λ e. cc) room
  stepped k (GiveKept mark) z room = same Nothing (λ e. cc) room
  stepped k TakeWaits z room = opened t _ refl room
  stepped k (TakeMeets mark u) z room = same (Settles u) (λ e. cc) room
  stepped k TakeFails z room = same Nothing (λ e. cc) room
  stepped k (EntryInterrupted side) z room = same Nothing (λ e. cc) room
  stepped k Done z room = ended z.0 room
  stepped k (Got mark u) z room = ended z.0 room
  stepped k (Withdrawn Cancelled) z room = ended z.0 room
  stepped k (Withdrawn Expired) z room = ended z.0 room
  stepped k (Withdrawn Interrupted) z room = ended z.0 room
  stepped k (Interrupt target) z room = cut t target room

came-drawn : (k : Kind) (most n : ℕ) (s : State) (m : Moment) → Alike s m → (records : List (Record Deed)) → IsLegalFrom k s records → (columns : List Column) → AreDrawn s columns → length (columns_behind most columns (came_from n records)) < most → AreDrawn (run s records) (columns_behind most columns (came_from n records))
came-drawn k most n s m a [] legal columns drawn room = subst (AreDrawn s) (sym (came-end most n columns)) drawn
came-drawn k most n s m a (r ∷ records) legal columns drawn room =
    let next = changed r.seat (change_of r.ticket r.deed) (with_column most r.seat columns) in
    let is = came-next most n r records columns in
    let all : length (columns_behind most next (came_from (n + 1) records)) < most = subst (λ cs. length cs < most) is room in
    let rest = rows-grown most (came_from (n + 1) records) next in
    let same_length = length-map {A = Column} {B = Column} (with_column most r.seat columns) (column_after r.seat (change_of r.ticket r.deed)) in
    let here : length (with_column most r.seat columns) < most = omega (arith, all, rest, same_length) in
    subst (AreDrawn (run s (r ∷ records))) (sym is)
    (came-drawn k most (n + 1) (after s r.seat r.ticket r.deed) (moment_after k m r) (alike_after k s m a r legal.0) records legal.1 next (stepped s m a most columns drawn r.seat r.ticket k r.deed legal.0 here) all)

-- ---- a base

-- a piece of an open ticket
abbrev Draws : Piece → Type 0
Draws piece = (l : Lane) → is_clear (lane_after (piece_change piece) true l) ≡ false

no-end : (piece : Piece) → piece_change piece ≡ Ends → ⊥
no-end (Stands e) is = by e.waits is
  where
    by : (waits : Bool) → (if waits then Opens e.ticket else Nothing) ≡ Ends → ⊥
    by true ends = cc
    by false ends = cc
no-end (Met p) is = cc
no-end (Cut x) is = cc
no-end (Flagged i) is = cc

-- a seat is drawn already, or by a piece that is still to come
abbrev WillBeDrawn : List Column → List Piece → (seat : ℕ) → Type 0
WillBeDrawn columns pieces i = IsDrawnFor columns i ⊎ ((piece : Piece) × Contains pieces piece × Draws piece × (piece_seat piece ≡ i))

stood-next : (most : ℕ) (piece : Piece) (pieces : List Piece) (columns : List Column) → columns_behind most columns (map Stood (piece ∷ pieces)) ≡ columns_behind most (changed (piece_seat piece) (piece_change piece) (with_column most (piece_seat piece) columns)) (map Stood pieces)
unfolding columns_behind columns_after
stood-next most piece pieces columns = refl

stood-drawn : (most : ℕ) (pieces : List Piece) (columns : List Column) → length (columns_behind most columns (map Stood pieces)) < most → (i : ℕ) → WillBeDrawn columns pieces i → IsDrawnFor (columns_behind most columns (map Stood pieces)) i
stood-drawn most [] columns room i (inl drawn) = subst (λ cs. IsDrawnFor cs i) (sym (behind-end most columns)) drawn
stood-drawn most [] columns room i (inr piece) = absurd (Contains-nil piece.0 piece.1)
stood-drawn most (piece ∷ pieces) columns room i will =
    let next = changed (piece_seat piece) (piece_change piece) (with_column most (piece_seat piece) columns) in
    let is = stood-next most piece pieces columns in
    let all : length (columns_behind most next (map Stood pieces)) < most = subst (λ cs. length cs < most) is room in
    let rest = rows-grown most (map Stood pieces) next in
    let same_length = length-map {A = Column} {B = Column} (with_column most (piece_seat piece) columns) (column_after (piece_seat piece) (piece_change piece)) in
    let here : length (with_column most (piece_seat piece) columns) < most = omega (arith, all, rest, same_length) in
    let later : WillBeDrawn next pieces i =
    ⊎_elim (λ (drawn : IsDrawnFor columns i). inl (still most (piece_seat piece) (piece_change piece) columns here i drawn (λ ends. absurd (no-end piece ends))))
    (λ (q : (p : Piece) × Contains (piece ∷ pieces) p × Draws p × (piece_seat p ≡ i)).
    ⊎_elim (λ (first : piece ≡ q.0).
    inl (subst (IsDrawnFor next) (ap piece_seat first ∙ q.3) (drawn-own most (piece_seat piece) (piece_change piece) columns here (subst Draws (sym first) q.2))))
    (λ (there : Contains pieces q.0). inr (q.0, there, q.2, q.3)) (Contains-cases piece pieces q.0 q.1)) will in
    subst (λ cs. IsDrawnFor cs i) (sym is) (stood-drawn most pieces next all i later)

rows-append : (most : ℕ) (xs ys : List Shown) (columns : List Column) → columns_behind most columns (xs ++ ys) ≡ columns_behind most (columns_behind most columns xs) ys
unfolding columns_behind
rows-append most [] ys columns = refl
rows-append most (x ∷ xs) ys columns = rows-append most xs ys (columns_after most x columns)

module _ (b : Based) where
  stands-draw : (e : Entry ℕ) → e.waits ≡ true → Draws (Stands e)
  stands-draw e is l = subst (λ waits. is_clear (lane_after (if waits then Opens e.ticket else Nothing) true l) ≡ false) (sym is) refl

  -- each open ticket of a base has its piece
  held-drawn : (h : Held) → Contains (held_in b) h → (piece : Piece) × Contains (pieces_of b) piece × Draws piece × (piece_seat piece ≡ h.seat)
  held-drawn h there =
      ⊎_elim (λ (n : Contains (map waiting_held (filter (λ e. e.waits) b.line)) h).
      let f = Contains-mapped waiting_held (filter (λ e. e.waits) b.line) h n in
      let e = f.0 in (
        Stands e,
        Contains-append_left (map Stands b.line) _ (Stands e) (Contains-map Stands b.line e (Contains-unfiltered (λ x. x.waits) b.line e f.1)),
        stands-draw e (filtered_passes (λ x. x.waits) b.line e f.1),
        ap (λ x. x.seat) f.2,
      ))
      (λ (n : Contains (map paired_held b.pairs ++ map cut_held b.cut) h).
      ⊎_elim (λ (p : Contains (map paired_held b.pairs) h).
      let f = Contains-mapped paired_held b.pairs h p in (
        Met f.0,
        Contains-append_right (map Stands b.line) _ (Met f.0) (Contains-append_left (map Met b.pairs) _ (Met f.0) (Contains-map Met b.pairs f.0 f.1)),
        (λ l. refl),
        ap (λ x. x.seat) f.2,
      ))
      (λ (x : Contains (map cut_held b.cut) h).
      let f = Contains-mapped cut_held b.cut h x in (
        Cut f.0,
        Contains-append_right (map Stands b.line) _ (Cut f.0) (Contains-append_right (map Met b.pairs) _ (Cut f.0) (Contains-append_left (map Cut b.cut) _ (Cut f.0) (Contains-map Cut b.cut f.0 f.1))),
        (λ l. refl),
        ap (λ y. y.seat) f.2,
      ))
      (Contains-append_cases (map paired_held b.pairs) (map cut_held b.cut) h n))
      (Contains-append_cases (map waiting_held (filter (λ e. e.waits) b.line)) (map paired_held b.pairs ++ map cut_held b.cut) h there)

pub open-tickets-are-drawn : OpenTicketsAreDrawn
open-tickets-are-drawn k b records most w legal room i t held =
    let base_rows = map Stood (pieces_of b) in
    let came = came_from (b.gone + 1) records in
    let stood = columns_behind most [] base_rows in
    let is = rows-append most base_rows came [] in
    let all : length (columns_behind most stood came) < most = subst (λ cs. length cs < most) is room in
    let rest = rows-grown most came stood in
    let here : length stood < most = omega (arith, all, rest) in
    let before : AreDrawn (state_of_base b) stood = λ j v there.
    (let f = Contains-mapped (λ (h : Held). let o : Open = record { ticket = h.ticket; seat = h.seat } in o) (held_in b) (record { ticket = v; seat = j }) there in
    let piece = held-drawn b f.0 f.1 in
    stood-drawn most (pieces_of b) [] here j (inr (piece.0, piece.1, piece.2, piece.3 ∙ ap (λ o. o.seat) f.2))) in
    subst (λ cs. IsDrawnFor cs i) (sym is) (came-drawn k most (b.gone + 1) (state_of_base b) (moment_of_base b) (alike_base k b w) records legal stood before all i t held)
